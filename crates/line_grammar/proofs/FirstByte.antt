-- The first place of a byte, as `memchr` gives it, in terms of lists.
use Rattle.std.proofs.Common.{◌≡◌, ℕ, zero, suc, ◌<◌, Bool, true, false, ◌||◌, ◌==◌, List, [], ◌∷◌, Option, Some, None, is_some, length, get_or, refl, sym, ap, ◌∙◌, arith}
use Rattle.std.proofs.lemmas.Bool.Decides.{nat_tests}
use Rattle.std.proofs.lemmas.List.Folds.{list_any_at}
use Rattle.std.proofs.lemmas.List.Sums.{position_or_len_is}
use Rattle.std.specs.List.{list_any, position, position_or_len}
use Rattle.memchr.specs.Find.{IsFirstByte}

fails : (b : Bool) → ¬ (b ≡ true) → b ≡ false
fails true h = absurd (h refl)
fails false h = refl

place_of_some : (p : ℕ → Bool) (xs : List ℕ) (k : ℕ) → IsFirstByte p xs (Some k) → position_or_len p xs ≡ k
place_of_some p xs k h = position_or_len_is p xs k 0 (omega (arith, h.0.high)) (λ j below. fails _ (h.0.before j (omega arith) below)) (λ inside. h.1)

place_of_none : (p : ℕ → Bool) (xs : List ℕ) → IsFirstByte p xs None → position_or_len p xs ≡ length xs
place_of_none p xs h = position_or_len_is p xs (length xs) 0 (omega arith) (λ j below. fails _ (h j (omega arith) below)) (λ inside. absurd (omega (arith, inside)))

pub first_position : (p : ℕ → Bool) (xs : List ℕ) (r : Option ℕ) → IsFirstByte p xs r → r ≡ position p xs
first_position p xs (Some k) h = grind (arith, nat_tests, place_of_some p xs k h, h.0.high)
first_position p xs None h = grind (arith, nat_tests, place_of_none p xs h)

any_fails : (p : ℕ → Bool) (xs : List ℕ) → ((k : ℕ) → k < length xs → p (get_or xs k 0) ≡ false) → list_any p xs ≡ false
any_fails p [] h = refl
any_fails p (x ∷ xs) h = ap (λ b. b || list_any p xs) (h zero (omega arith)) ∙ any_fails p xs (λ k inside. h (suc k) (omega (arith, inside)))

pub first_any : (p : ℕ → Bool) (xs : List ℕ) (r : Option ℕ) → IsFirstByte p xs r → is_some r ≡ list_any p xs
first_any p xs (Some k) h = sym (list_any_at p xs k 0 h.0.high h.1)
first_any p xs None h = sym (any_fails p xs (λ k inside. fails _ (h k (omega arith) inside)))

-- the byte that is found in a text is ASCII where the one looked for is
pub byte_at : (at : ℕ) (text : List ℕ) (place : ℕ) → at < 128 → IsFirstByte (λ b. b == at) text (Some place) → get_or text place 0 < 128
byte_at at text place ascii first = let is = first.1 in grind (arith, nat_tests)
