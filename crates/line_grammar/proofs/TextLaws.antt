-- Texts that are cut, and texts that are UTF-8.
use Rattle.std.proofs.Common.{◌≡◌, ◌≢◌, ℕ, ◌<◌, ◌≤◌, ◌^◌, Bool, true, false, List, [], ◌∷◌, length, refl, ◌&&◌, ap, sym, ◌∙◌, Option, inl, inr, Result, Ok, Err, ◌||◌, get_or, arith, rules}
use Rattle.std.specs.List.{slice_split, position, position_or_len, before_first, after_first, list_all, list_any}
use Rattle.std.specs.Prelude.{◌==◌, MatchOption, nat_lt, nat_le, not}
use Rattle.std.specs.Result.{result_ok}
use Rattle.std.proofs.lemmas.Bool.{cases_Bool, cases_lt}
use Rattle.std.specs.Char.{is_ascii_digit}
use Rattle.std.specs.Str.{IsUtf8, is_utf8, all_ascii_digits}
use Rattle.std.proofs.lemmas.Str.{IsUtf8-from_is_utf8, is_utf8-from_IsUtf8, lead_after_ascii}
use Rattle.std.proofs.lemmas.List.Splits.{slice_split_first, slice_split_none}
use Rattle.std.proofs.lemmas.List.Sums.{fails_before_first, prefix_len-le-length}
use Rattle.std.specs.Str.Parse.{ParsesUnsigned, digits_value}
use Rattle.std.proofs.lemmas.Str.Parse.{IsNumeralModel, numerals_by_value, tells_all_ascii_digits, parse_digits}
use Rattle.std.proofs.lemmas.Bool.Decides.{nat_tests}
use Rattle.line_grammar.specs.declared.cause.Cause.TheVariants.{BadEscape}
use Rattle.line_grammar.specs.Texts.{escapes_are_whole, unescaped, is_number, is_small}
use Rattle.line_grammar.specs.Line.{without_mark}
use Rattle.percent_encoding.specs.Percent.{percent_decode}

-- a text that is cut at its first byte of a kind
pub cut_at_first : (p : ℕ → Bool) (text front back : List ℕ) → position_or_len p text < length text → front ≡ before_first p text → back ≡ after_first p text
    → slice_split p text ≡ front ∷ slice_split p back
cut_at_first p text front back has is_front is_back =
    slice_split_first p text 0 has ∙ cc

-- a text that has none is not cut
pub not_cut : (p : ℕ → Bool) (text : List ℕ) → position_or_len p text ≡ length text → slice_split p text ≡ text ∷ []
not_cut p text none = slice_split_none p text (λ k d below. fails_before_first p text k d (omega arith))

-- bytes that are no text fail the test
pub is_utf8-none : (bytes : List ℕ) → ¬ (IsUtf8 bytes) → is_utf8 bytes ≡ false
is_utf8-none bytes none = by_test (is_utf8 bytes) (λ holds. none (IsUtf8-from_is_utf8 bytes holds))
  where
    by_test : (b : Bool) → ¬ (b ≡ true) → b ≡ false
    by_test true not_true = absurd (not_true refl)
    by_test false not_true = refl

-- both ways to say that each byte is a digit
pub digits_all : (bytes : List ℕ) → list_all is_ascii_digit bytes ≡ all_ascii_digits bytes
digits_all [] = refl
digits_all (b ∷ bytes) = ap (λ more. is_ascii_digit b && more) (digits_all bytes)

numerals : IsNumeralModel (λ digits. all_ascii_digits digits ≡ true) (digits_value 10)
numerals = numerals_by_value _ tells_all_ascii_digits

-- a number is read where it has 64 bits
pub number_answer : {E : Type 0} (bytes : List ℕ) (r : Result ℕ E) → ParsesUnsigned 64 10 bytes r → is_number bytes ≡ true
    → MatchOption (result_ok r) (is_small bytes ≡ false) (λ n. (is_small bytes ≡ true) × (n ≡ digits_value 10 bytes))
unfolding is_number is_small
number_answer {E = E} bytes (Ok n) parsed number =
    let digits : all_ascii_digits bytes ≡ true = search rules in
    let read = parse_digits numerals {E = E} 64 bytes (Ok n) parsed digits in
    let small : digits_value 10 bytes < 2 ^ 64 = read.0.1 in
    (grind (arith, nat_tests), read.1)
number_answer {E = E} bytes (Err e) parsed number =
    let digits : all_ascii_digits bytes ≡ true = search rules in
    let some : 0 < length bytes = grind (arith, nat_tests) in
    let read = parse_digits numerals {E = E} 64 bytes (Err e) parsed digits in
    by_size (digits_value 10 bytes) (λ small. read (some, small))
  where
    by_size : (n : ℕ) → ¬ (n < 2 ^ 64) → nat_le n 18446744073709551615 ≡ false
    by_size n not_small = elim (cases_lt n (2 ^ 64)) [ inl small ↦ absurd (not_small small) | inr large ↦ grind (arith, nat_tests) ]

-- the first place, in the other terms
pub place_found : (p : ℕ → Bool) (xs : List ℕ) (r : Option ℕ) → r ≡ position p xs
    → MatchOption r (position_or_len p xs ≡ length xs) (λ place. (position_or_len p xs ≡ place) × (place < length xs))
place_found p xs r is =
    elim (cases_Bool (nat_lt (position_or_len p xs) (length xs))) [
      | inl less ↦ let below : position_or_len p xs < length xs = grind (arith, nat_tests) in rw (is, less) (refl, below)
      | inr passed ↦ let above : length xs ≤ position_or_len p xs = grind (arith, nat_tests) in rw (is, passed) (omega (arith, prefix_len-le-length (λ x. not (p x)) xs))
    ]

-- ---- escapes

both_false : (a b : Bool) → (a || b) ≡ false → (a ≡ false) × (b ≡ false)
both_false true b none = cc
both_false false b none = (refl, none)

escapes_plain : (text : List ℕ) → list_any (λ b. b == 37) text ≡ false → escapes_are_whole text ≡ true
unfolding escapes_are_whole
escapes_plain [] none = refl
escapes_plain (b ∷ text) none =
    let each = both_false (b == 37) (list_any (λ b. b == 37) text) none in
    rw (each.0, escapes_plain text each.1)

decode_plain : (text : List ℕ) → list_any (λ b. b == 37) text ≡ false → percent_decode text ≡ text
unfolding percent_decode
decode_plain [] none = refl
decode_plain (b ∷ []) none = refl
decode_plain (b ∷ c ∷ []) none = refl
decode_plain (b ∷ high ∷ low ∷ rest) none =
    let each = both_false (b == 37) (list_any (λ b. b == 37) (high ∷ low ∷ rest)) none in
    rw each.0 (ap (λ more. b ∷ more) (decode_plain (high ∷ low ∷ rest) each.1))

-- a text without escapes stands for itself
pub unescaped_plain : (text : List ℕ) → list_any (λ b. b == 37) text ≡ false → IsUtf8 text → unescaped text ≡ Ok text
unfolding unescaped
unescaped_plain text none utf8 = rw (escapes_plain text none, decode_plain text none, is_utf8-from_IsUtf8 text utf8)

-- a text with escapes, of which its unescaped bytes are UTF-8 or not
pub decoded_text : (text made : List ℕ) → escapes_are_whole text ≡ true → IsUtf8 (percent_decode text) → made ≡ percent_decode text → unescaped text ≡ Ok made
unfolding unescaped
decoded_text text made whole utf8 is = rw (whole, is_utf8-from_IsUtf8 (percent_decode text) utf8) (ap (λ name. Ok name) (sym is))

pub decoded_none : (text : List ℕ) → escapes_are_whole text ≡ true → ¬ (IsUtf8 (percent_decode text)) → unescaped text ≡ Err BadEscape
unfolding unescaped
decoded_none text whole none = rw (whole, is_utf8-none (percent_decode text) none)

-- ---- tags

-- after a double quote the text may be cut
pub lead_after_quote : (text : List ℕ) → IsUtf8 text → get_or text 0 0 ≡ 34 → 1 < length text → 128 ≤ get_or text 1 0 → 192 ≤ get_or text 1 0
lead_after_quote text utf8 quote = lead_after_ascii text 0 utf8 (omega (arith, quote))

-- ---- the mark of a query

pub marked : (text query : List ℕ) → text ≡ 63 ∷ query → query ≡ without_mark text
unfolding without_mark
marked text query is = rw is refl

pub unmarked : (text : List ℕ) → ((query : List ℕ) → text ≢ 63 ∷ query) → text ≡ without_mark text
unfolding without_mark
unmarked [] none = refl
unmarked (b ∷ text) none =
    elim (cases_Bool (b == 63)) [
      | inl mark ↦ let is : b ≡ 63 = grind (arith, nat_tests) in absurd (none text (ap (λ first. first ∷ text) is))
      | inr other ↦ rw other refl
    ]
