-- How often a number occurs in a list.
use Rattle.std.proofs.Common.{◌≡◌, ℕ, ◌+◌, ◌<◌, cond, List, [], ◌∷◌, ◌++◌, Bool, true, false, eqb, arith, refl, ◌||◌}
use Rattle.key_map.specs.Lists.{count, has}

pub count-append : (x : ℕ) (xs ys : List ℕ) → count x (xs ++ ys) ≡ count x xs + count x ys
count-append x [] ys = omega arith
count-append x (y ∷ xs) ys = omega (arith, count-append x xs ys)

pub count-push : (x : ℕ) (xs : List ℕ) (y : ℕ) → count x (xs ++ y ∷ []) ≡ count x xs + cond (eqb y x) 1 0
count-push x xs y = omega (arith, count-append x xs (y ∷ []))

one_or_rest : (b c : Bool) (n : ℕ) → (b || c) ≡ true → (c ≡ true → 0 < n) → 0 < cond b 1 0 + n
one_or_rest true c n e h = omega arith
one_or_rest false c n e h = omega (arith, h e)

pub has-count : (x : ℕ) (xs : List ℕ) → has x xs ≡ true → 0 < count x xs
has-count x [] e = cc
has-count x (y ∷ ys) e = one_or_rest (eqb y x) (has x ys) (count x ys) e (has-count x ys)

here_or_rest : (b c : Bool) (n : ℕ) → 0 < cond b 1 0 + n → (0 < n → c ≡ true) → (b || c) ≡ true
here_or_rest true c n h k = refl
here_or_rest false c n h k = k (omega arith)

pub count-has : (x : ℕ) (xs : List ℕ) → 0 < count x xs → has x xs ≡ true
count-has x [] h = absurd (omega arith)
count-has x (y ∷ ys) h = here_or_rest (eqb y x) (has x ys) (count x ys) h (count-has x ys)
