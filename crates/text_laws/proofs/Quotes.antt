-- Where a quoted text ends.
use Rattle.std.proofs.Common.{◌≡◌, ℕ, ◌<◌, ◌/◌, ◌%◌, ◌==◌, Bool, true, false, if◌then◌else◌, List, [], ◌∷◌, ◌++◌, drop, nat_lt, inl, inr, refl, sym, ap, ◌∙◌, arith, append_assoc}
use Rattle.std.specs.Char.{digit_char}
use Rattle.std.proofs.lemmas.Bool.{cases_Bool}
use Rattle.std.proofs.lemmas.Bool.Decides.{nat_tests}
use Rattle.json.specs.Print.{quoted, escape, escape_byte, escape_letter}

-- what stands after the next double quote without a backslash before it; `escaped`: the byte before was a backslash
abbrev pub behind_quote : Bool → List ℕ → List ℕ
behind_quote escaped [] = []
behind_quote true (b ∷ bytes) = behind_quote false bytes
behind_quote false (b ∷ bytes) = if b == 34 then bytes else behind_quote (b == 92) bytes

-- a plain byte is skipped
plain : (b : ℕ) (rest : List ℕ) → (b == 34) ≡ false → (b == 92) ≡ false → behind_quote false (b ∷ rest) ≡ behind_quote false rest
plain b rest quote back = rw (quote, back) refl

hex_plain : (d : ℕ) → d < 16 → ((digit_char d == 34) ≡ false) × ((digit_char d == 92) ≡ false)
hex_plain d small = (grind (arith, nat_tests), grind (arith, nat_tests))

no_letter : (b : ℕ) → nat_lt 0 (escape_letter b) ≡ false → ((b == 34) ≡ false) × ((b == 92) ≡ false)
no_letter b none = (grind (arith, nat_tests), grind (arith, nat_tests))

past_byte : (b : ℕ) (rest : List ℕ) → behind_quote false (escape_byte b ++ rest) ≡ behind_quote false rest
unfolding escape_byte
past_byte b rest =
    elim (cases_Bool (nat_lt 0 (escape_letter b))) [
      | inl short ↦ rw short refl
      | inr long ↦
          elim (cases_Bool (nat_lt b 32)) [
            | inl low ↦
                let high : b / 16 < 16 = grind (arith, nat_tests) in
                let first = hex_plain (b / 16) high in
                let second = hex_plain (b % 16) (omega arith) in
                rw (long, low) (plain (digit_char (b / 16)) (digit_char (b % 16) ∷ rest) first.0 first.1 ∙ plain (digit_char (b % 16)) rest second.0 second.1)
            | inr high ↦ let other = no_letter b long in rw (long, high) (plain b rest other.0 other.1)
          ]
    ]

past_escape : (text rest : List ℕ) → behind_quote false (escape text ++ 34 ∷ rest) ≡ rest
past_escape [] rest = refl
past_escape (b ∷ text) rest =
    ap (behind_quote false) (append_assoc (escape_byte b) (escape text) (34 ∷ rest))
    ∙ past_byte b (escape text ++ 34 ∷ rest)
    ∙ past_escape text rest

-- a text that begins with a quoted text determines what stands after it
pub past_quoted : (text rest : List ℕ) → behind_quote false (drop 1 (quoted text ++ rest)) ≡ rest
past_quoted text rest = ap (behind_quote false) (append_assoc (escape text) (34 ∷ []) rest) ∙ past_escape text rest

pub quoted_same : (s t a b : List ℕ) → quoted s ++ a ≡ quoted t ++ b → a ≡ b
quoted_same s t a b e = sym (past_quoted s a) ∙ ap (λ (l : List ℕ). behind_quote false (drop 1 l)) e ∙ past_quoted t b
