-- The views of a table, as the kit's table reads them and as the rule does.
use Rattle.std.proofs.Common.{◌≡◌, ◌≢◌, ℕ, zero, suc, ◌<◌, List, [], ◌∷◌, ◌++◌, length, set, get_or, refl, ap, ◌∙◌, sym, arith, Some}
use Rattle.std.specs.List.{slice_get}
use Rattle.std.proofs.lemmas.List.{length-set, get_or-set_same}
use Rattle.std.proofs.lemmas.Option.{slice_get-get_or}
use mathlib.Core.Option.{some, some-injective, some-ne-none}
use lib.ListN.{get_elem?}
use Rattle.key_map.specs.Lists.{IsItem}

pub some_same : {X : Type 0} (a b : X) → Some a ≡ Some b → a ≡ b
some_same a b is = cc

pub get_from_found : {X : Type 0} (xs : List X) (i : ℕ) (x : X) → get_elem? xs i ≡ some x → slice_get xs i ≡ Some x
get_from_found [] i x is = absurd (some-ne-none x (sym is))
get_from_found (y ∷ xs) zero x is = ap Some (some-injective y x is)
get_from_found (y ∷ xs) (suc i) x is = get_from_found xs i x is

pub get_within : {X : Type 0} (xs : List X) (i : ℕ) (x : X) → slice_get xs i ≡ Some x → i < length xs
get_within [] i x is = cc
get_within (y ∷ xs) zero x is = omega arith
get_within (y ∷ xs) (suc i) x is = omega (arith, get_within xs i x is)

pub get_set : {X : Type 0} (xs : List X) (i : ℕ) (x y : X) → slice_get xs i ≡ Some x → slice_get (set xs i y) i ≡ Some y
get_set xs i x y is =
    let within : i < length xs = get_within xs i x is in
    let still : i < length (set xs i y) = omega (arith, length-set xs i y) in
    slice_get-get_or (set xs i y) i y still ∙ ap Some (get_or-set_same xs i y y within)

-- an item, as the rule reads it
pub item_at : {X : Type 0} (xs : List X) (i : ℕ) (x : X) → slice_get xs i ≡ Some x → IsItem xs i x
item_at xs i x is =
    let within : i < length xs = get_within xs i x is in
    record { within = within; is = λ d. some_same (get_or xs i d) x (sym (slice_get-get_or xs i d within) ∙ is) }

pub get_left : {X : Type 0} (xs ys : List X) (i : ℕ) (x : X) → slice_get xs i ≡ Some x → slice_get (xs ++ ys) i ≡ Some x
get_left [] ys i x is = cc
get_left (z ∷ xs) ys zero x is = is
get_left (z ∷ xs) ys (suc i) x is = get_left xs ys i x is

pub get_last : {X : Type 0} (xs : List X) (y : X) (n : ℕ) → length xs ≡ n → slice_get (xs ++ y ∷ []) n ≡ Some y
get_last [] y zero is = refl
get_last (x ∷ xs) y (suc n) is = get_last xs y n (omega arith)
get_last _ y _ is = absurd (omega arith)

pub set_else_get : {X : Type 0} (xs : List X) (i j : ℕ) (x : X) → j ≢ i → slice_get (set xs i x) j ≡ slice_get xs j
set_else_get (y ∷ xs) zero zero x apart = absurd (apart refl)
set_else_get (y ∷ xs) (suc i) (suc j) x apart = set_else_get xs i j x (λ e. apart (ap suc e))
set_else_get _ _ _ x apart = refl
