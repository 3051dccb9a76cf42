-- Numbers in a text: the first byte that is not a digit shows where the digits end.
use Rattle.std.proofs.Common.{◌≡◌, ℕ, ◌^◌, ◌<◌, Bool, true, false, List, [], ◌∷◌, ◌++◌, length, drop, get_or, decimal, refl, sym, ap, ◌∙◌, arith}
use Rattle.std.specs.Char.{is_ascii_digit}
use Rattle.std.specs.Str.Parse.{AllDigits}
use Rattle.std.proofs.lemmas.Str.Parse.{digit_from_value}
use Rattle.std.proofs.lemmas.Fmt.{decimal_is_IsNumeral, decimal_injective}
use Rattle.std.proofs.lemmas.Bool.{false≢true}
use Rattle.std.proofs.lemmas.Bool.Decides.{nat_tests}

-- each byte passes the test
abbrev pub Each : (ℕ → Bool) → List ℕ → Type 0
Each test [] = Unit {0}
Each test (b ∷ bytes) = (test b ≡ true) × Each test bytes

-- what stands after the same front is the same
pub cancel : (front a b : List ℕ) → front ++ a ≡ front ++ b → a ≡ b
cancel [] a b e = e
cancel (x ∷ front) a b e = cancel front a b (ap (λ (l : List ℕ). drop 1 l) e)

head_same : (x y : ℕ) (xs ys : List ℕ) → x ∷ xs ≡ y ∷ ys → x ≡ y
head_same x y xs ys e = ap (λ (l : List ℕ). get_or l 0 x) e

tail_same : (x y : ℕ) (xs ys : List ℕ) → x ∷ xs ≡ y ∷ ys → xs ≡ ys
tail_same x y xs ys e = ap (λ (l : List ℕ). drop 1 l) e

both : {P : Type 0} (b : Bool) → b ≡ true → b ≡ false → P
both b passes fails = absurd (false≢true (sym fails ∙ passes))

-- two fronts of bytes that pass, each before a byte that does not
pub runs : (test : ℕ → Bool) (ds es : List ℕ) (c d : ℕ) (r s : List ℕ) → Each test ds → Each test es → test c ≡ false → test d ≡ false
    → ds ++ c ∷ r ≡ es ++ d ∷ s → (ds ≡ es) × (c ∷ r ≡ d ∷ s)
runs test [] [] c d r s each_d each_e not_c not_d e = (refl, e)
runs test [] (y ∷ es) c d r s each_d each_e not_c not_d e = both (test y) each_e.0 (ap test (sym (head_same c y r (es ++ d ∷ s) e)) ∙ not_c)
runs test (x ∷ ds) [] c d r s each_d each_e not_c not_d e = both (test x) each_d.0 (ap test (head_same x d (ds ++ c ∷ r) s e) ∙ not_d)
runs test (x ∷ ds) (y ∷ es) c d r s each_d each_e not_c not_d e =
    let rest = runs test ds es c d r s each_d.1 each_e.1 not_c not_d (tail_same x y (ds ++ c ∷ r) (es ++ d ∷ s) e) in
    (ap (λ (b : ℕ). b ∷ ds) (head_same x y (ds ++ c ∷ r) (es ++ d ∷ s) e) ∙ ap (λ (l : List ℕ). y ∷ l) rest.0, rest.1)

each_digit : (ds : List ℕ) → AllDigits 10 ds → Each is_ascii_digit ds
each_digit [] digits = tt
each_digit (b ∷ ds) digits =
    let value = digit_from_value b digits.0 in
    let first : is_ascii_digit b ≡ true = grind (arith, nat_tests) in
    (first, each_digit ds digits.1)

pub digits_of : (n : ℕ) → n < 2 ^ 64 → Each is_ascii_digit (decimal n)
digits_of n small = each_digit (decimal n) (decimal_is_IsNumeral n small).0.1

-- a number before a byte that is no digit
pub numbers : (m n c d : ℕ) (r s : List ℕ) → m < 2 ^ 64 → n < 2 ^ 64 → is_ascii_digit c ≡ false → is_ascii_digit d ≡ false
    → decimal m ++ c ∷ r ≡ decimal n ++ d ∷ s → (m ≡ n) × (c ∷ r ≡ d ∷ s)
numbers m n c d r s small_m small_n not_c not_d e =
    let found = runs is_ascii_digit (decimal m) (decimal n) c d r s (digits_of m small_m) (digits_of n small_n) not_c not_d e in
    (decimal_injective m n small_m small_n found.0, found.1)

-- a number does not begin with another byte
pub no_number : (n c d : ℕ) (r s : List ℕ) → n < 2 ^ 64 → is_ascii_digit c ≡ false → is_ascii_digit d ≡ false → decimal n ++ c ∷ r ≡ d ∷ s → ⊥
no_number n c d r s small not_c not_d e =
    let found = runs is_ascii_digit (decimal n) [] c d r s (digits_of n small) tt not_c not_d e in
    let some : 0 < length (decimal n) = (decimal_is_IsNumeral n small).0.0 in
    let none : length (decimal n) ≡ 0 = ap (length {A = ℕ}) found.0 in
    absurd (omega arith)
