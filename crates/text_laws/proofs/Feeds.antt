-- The text of an object has no line feed.
use Rattle.std.proofs.Common.{◌≡◌, ℕ, zero, suc, ◌/◌, ◌%◌, ◌==◌, ◌<◌, Bool, true, false, List, [], ◌∷◌, ◌++◌, nat_lt, decimal, inl, inr, refl, arith}
use Rattle.std.specs.Char.{digit_char}
use Rattle.std.specs.Fmt.{digits, digits_onto, digit_glyph, signed_decimal}
use Rattle.std.proofs.lemmas.Bool.{cases_Bool}
use Rattle.std.proofs.lemmas.Bool.Decides.{nat_tests}
use Rattle.json.specs.Print.{quoted, escape, escape_byte, escape_letter}
use Rattle.serde_json.specs.Data.{Num, unsigned, negative, float, Data, null, boolean, number, string, array, object, Items, no_items, item, Members, no_members, member}
use Rattle.serde_json.specs.Written.{compact_text, items_text, members_text, number_text, comma_if}
use lib.IntN.{ℤ, pos, negsuc}

-- no byte is a line feed
abbrev pub NoFeed : List ℕ → Type 0
NoFeed [] = Unit {0}
NoFeed (b ∷ bytes) = ((b == 10) ≡ false) × NoFeed bytes

pub both_free : (xs ys : List ℕ) → NoFeed xs → NoFeed ys → NoFeed (xs ++ ys)
both_free [] ys h k = k
both_free (x ∷ xs) ys h k = (h.0, both_free xs ys h.1 k)

-- ---- numbers

glyph_free : (d : ℕ) → d < 16 → (digit_glyph false d == 10) ≡ false
glyph_free d small = grind (arith, nat_tests)

onto_free : (k n : ℕ) (acc : List ℕ) → NoFeed acc → NoFeed (digits_onto k 10 false n acc)
onto_free zero n acc free = free
onto_free (suc k) n acc free =
    let digit = glyph_free (n % 10) (omega arith) in
    elim (cases_Bool (n / 10 == 0)) [
      | inl last ↦ rw last (digit, free)
      | inr more ↦ rw more (onto_free k (n / 10) (digit_glyph false (n % 10) ∷ acc) (digit, free))
    ]

decimal_free : (n : ℕ) → NoFeed (decimal n)
unfolding digits
decimal_free n = onto_free 64 n [] tt

signed_free : (z : ℤ) → NoFeed (signed_decimal z)
signed_free (pos n) = decimal_free n
signed_free (negsuc n) = (refl, decimal_free (suc n))

number_free : (n : Num) → NoFeed (number_text n)
number_free (unsigned n) = decimal_free n
number_free (negative z) = signed_free z
number_free (float x) = tt

-- ---- texts

letter_free : (b : ℕ) → (escape_letter b == 10) ≡ false
letter_free b = grind (arith, nat_tests)

hex_free : (d : ℕ) → d < 16 → (digit_char d == 10) ≡ false
hex_free d small = grind (arith, nat_tests)

byte_free : (b : ℕ) → NoFeed (escape_byte b)
unfolding escape_byte
byte_free b =
    elim (cases_Bool (nat_lt 0 (escape_letter b))) [
      | inl short ↦ rw short (refl, (letter_free b, tt))
      | inr long ↦
          elim (cases_Bool (nat_lt b 32)) [
            | inl low ↦
                let high : b / 16 < 16 = grind (arith, nat_tests) in
                rw (long, low) (refl, (refl, (refl, (refl, (hex_free (b / 16) high, (hex_free (b % 16) (omega arith), tt))))))
            | inr high ↦ let other : (b == 10) ≡ false = grind (arith, nat_tests) in rw (long, high) (other, tt)
          ]
    ]

escape_free : (text : List ℕ) → NoFeed (escape text)
escape_free [] = tt
escape_free (b ∷ text) = both_free (escape_byte b) (escape text) (byte_free b) (escape_free text)

quoted_free : (text : List ℕ) → NoFeed (quoted text)
quoted_free text = (refl, both_free (escape text) (34 ∷ []) (escape_free text) (refl, tt))

comma_free : (later : Bool) → NoFeed (comma_if later)
comma_free true = (refl, tt)
comma_free false = tt

-- ---- objects

mutual
  pub text_free : (d : Data) → NoFeed (compact_text d)
  text_free null = (refl, (refl, (refl, (refl, tt))))
  text_free (boolean true) = (refl, (refl, (refl, (refl, tt))))
  text_free (boolean false) = (refl, (refl, (refl, (refl, (refl, tt)))))
  text_free (number n) = number_free n
  text_free (string s) = quoted_free s
  text_free (array ds) = (refl, items_free false ds)
  text_free (object ms) = (refl, members_free false ms)

  items_free : (later : Bool) (ds : Items) → NoFeed (items_text later ds)
  items_free later no_items = (refl, tt)
  items_free later (item d ds) =
      both_free (comma_if later) (compact_text d ++ items_text true ds) (comma_free later) (both_free (compact_text d) (items_text true ds) (text_free d) (items_free true ds))

  members_free : (later : Bool) (ms : Members) → NoFeed (members_text later ms)
  members_free later no_members = (refl, tt)
  members_free later (member k d ms) =
      both_free (comma_if later) (quoted k ++ 58 ∷ (compact_text d ++ members_text true ms)) (comma_free later)
      (both_free (quoted k) (58 ∷ (compact_text d ++ members_text true ms)) (quoted_free k)
      (refl, both_free (compact_text d) (members_text true ms) (text_free d) (members_free true ms)))
