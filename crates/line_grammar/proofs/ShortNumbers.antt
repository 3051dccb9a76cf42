-- Numbers of so few digits that each has 64 bits.
use Rattle.std.proofs.Common.{◌≡◌, ℕ, ◌+◌, ◌<◌, ◌≤◌, ◌^◌, true, List, [], ◌∷◌, length, take, get_or, refl, arith}
use Rattle.std.specs.Char.{is_ascii_digit, digit_value}
use Rattle.std.specs.Str.{all_ascii_digits}
use Rattle.std.specs.Str.Parse.{AllDigits, digits_value}
use Rattle.std.proofs.lemmas.Str.{digit_value_digit}
use Rattle.std.proofs.lemmas.Int.Digits.{digits_value-lt, digits_more}
use Rattle.std.proofs.lemmas.Str.Parse.{digit_from_value}
use Rattle.std.proofs.lemmas.List.{length-take-le}
use Rattle.std.proofs.Math.Nat.{pow-le-pow_right}
use Rattle.std.proofs.lemmas.Bool.Decides.{nat_tests}
use Rattle.line_grammar.specs.Texts.{is_number, is_small}

-- so many digits write less than this power
pub below_power : (most : ℕ) (text : List ℕ) → AllDigits 10 text → length text ≤ most → digits_value 10 text < 10 ^ most
below_power most text digits short =
    let less = digits_value-lt 10 text digits in
    let more : 10 ^ length text ≤ 10 ^ most = pow-le-pow_right (omega arith) short in
    omega (arith, less, more)

-- before each digit of a short text the value is small
pub short_front : (text : List ℕ) (i : ℕ) → AllDigits 10 (take i text) → i < length text → length text ≤ 19 → digits_value 10 (take i text) < 1000000000000000000
short_front text i digits inside short = below_power 18 (take i text) digits (omega (arith, length-take-le i text (omega (arith, inside))))

-- a digit's value
pub value_of_digit : (b : ℕ) → is_ascii_digit b ≡ true → digit_value b + 48 ≡ b
value_of_digit b digit = digit_value_digit b (grind (arith, nat_tests))

pub digit_more : (text : List ℕ) (i : ℕ) → i < length text → is_ascii_digit (get_or text i 0) ≡ true → AllDigits 10 (take i text) → AllDigits 10 (take (i + 1) text)
digit_more text i inside digit digits =
    let value = value_of_digit (get_or text i 0) digit in
    let high : get_or text i 0 < 58 = grind (arith, nat_tests) in
    digits_more 10 text i inside digits (omega (arith, value, high))

-- both ways to say that each byte is a digit
all_digits : (text : List ℕ) → AllDigits 10 text → all_ascii_digits text ≡ true
all_digits [] digits = refl
all_digits (b ∷ text) digits =
    let each = digit_from_value b digits.0 in
    let first : is_ascii_digit b ≡ true = grind (arith, nat_tests) in
    rw (first, all_digits text digits.1) refl

-- one to 19 digits are a number of 64 bits
pub short_is_number : (text : List ℕ) → AllDigits 10 text → 0 < length text → is_number text ≡ true
unfolding is_number
short_is_number text digits some = let all = all_digits text digits in grind (arith, nat_tests)

pub short_is_small : (text : List ℕ) → AllDigits 10 text → length text ≤ 19 → is_small text ≡ true
unfolding is_small
short_is_small text digits short = let less = below_power 19 text digits short in grind (arith, nat_tests)
