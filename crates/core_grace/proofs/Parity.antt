-- The word after an even one is odd, and the word after leaving an odd one is even.
use Rattle.std.proofs.Common.{◌≡◌, ℕ, ◌+◌, ◌-◌, ◌%◌, ◌<◌, cond, Bool, true, false, eqb, arith}
use Rattle.std.proofs.lemmas.Bool.{eqb-true, eq-eqb}
use Rattle.std.proofs.lemmas.Bool.Decides.{nat_tests}
use Rattle.core_grace.specs.Sections.{is_even, left_word, last_word}

pub odd_next : (x : ℕ) → is_even x ≡ true → is_even (x + 1) ≡ false
odd_next x even = let zero' : x % 2 ≡ 0 = eqb-true (x % 2) 0 even in not_zero ((x + 1) % 2) (omega arith)
  where
    not_zero : (n : ℕ) → 0 < n → eqb n 0 ≡ false
    not_zero n some = grind (arith, nat_tests)

pub even_left : (x : ℕ) → is_even x ≡ false → is_even (left_word x) ≡ true
even_left x odd = by_last (eqb x last_word)
  where
    above : (n : ℕ) → eqb n 0 ≡ false → 0 < n
    above n e = grind (arith, nat_tests)

    one : x % 2 ≡ 1
    one = let some : 0 < x % 2 = above (x % 2) odd in omega arith

    by_last : (b : Bool) → is_even (cond b (x - 1) (x + 1)) ≡ true
    by_last true = eq-eqb ((x - 1) % 2) 0 (omega (arith, one))
    by_last false = eq-eqb ((x + 1) % 2) 0 (omega (arith, one))
