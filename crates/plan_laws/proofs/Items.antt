-- Items of lists: where they stand when a list is mapped, filtered or goes on.
use Rattle.std.proofs.Common.{◌≡◌, ℕ, zero, suc, ◌+◌, ◌<◌, ◌≤◌, List, [], ◌∷◌, ◌++◌, length, take, drop, map, Bool, true, false, cond, eqb, refl, ap, sym, ◌∙◌, subst, inl, inr, arith, Some, None}
use Rattle.std.specs.Prelude.{filter, ◌==◌}
use Rattle.std.proofs.lemmas.Bool.{false≢true}
use Rattle.std.specs.List.{slice_get}
use Rattle.std.proofs.lemmas.Bool.Decides.{eqb_tells, nat_tests}
use Rattle.std.proofs.lemmas.List.{take_more, drop_more}
use Rattle.std.proofs.lemmas.Option.{slice_get_within, get_or_from_slice_get}
use Rattle.key_map.specs.Lists.{count, Every, IsItem}

pub first-item : {X : Type 0} (x : X) (xs : List X) → IsItem (x ∷ xs) 0 x
first-item x xs = record { within = omega arith; is = λ d. refl }

pub item-below : {X : Type 0} (y x : X) (xs : List X) (i : ℕ) → IsItem xs i x → IsItem (y ∷ xs) (suc i) x
item-below y x xs i at = record { within = omega (arith, at.within); is = λ d. at.is d }

pub item-above : {X : Type 0} (y x : X) (xs : List X) (i : ℕ) → IsItem (y ∷ xs) (suc i) x → IsItem xs i x
item-above y x xs i at = record { within = omega (arith, at.within); is = λ d. at.is d }

pub item-longer : {X : Type 0} (xs ys : List X) (i : ℕ) (x : X) → IsItem xs i x → IsItem (xs ++ ys) i x
item-longer [] ys i x at = absurd (omega (arith, at.within))
item-longer (y ∷ xs) ys zero x at = record { within = omega arith; is = λ d. at.is d }
item-longer (y ∷ xs) ys (suc i) x at = item-below y x (xs ++ ys) i (item-longer xs ys i x (item-above y x xs i at))

pub last-item : {X : Type 0} (xs : List X) (x : X) → IsItem (xs ++ x ∷ []) (length xs) x
last-item [] x = first-item x []
last-item (y ∷ xs) x = item-below y x (xs ++ x ∷ []) (length xs) (last-item xs x)

pub item-map : {X Y : Type 0} (f : X → Y) (xs : List X) (i : ℕ) (x : X) → IsItem xs i x → IsItem (map f xs) i (f x)
item-map f [] i x at = absurd (omega (arith, at.within))
item-map f (y ∷ xs) zero x at = subst (λ z. IsItem (map f (y ∷ xs)) 0 (f z)) (at.is y) (first-item (f y) (map f xs))
item-map f (y ∷ xs) (suc i) x at = item-below (f y) (f x) (map f xs) i (item-map f xs i x (item-above y x xs i at))

-- an item that is kept stands somewhere in what is left
pub item-filter : {X : Type 0} (p : X → Bool) (xs : List X) (i : ℕ) (x : X) → IsItem xs i x → p x ≡ true → (j : ℕ) × IsItem (filter p xs) j x
item-filter p [] i x at kept = absurd (omega (arith, at.within))
item-filter p (y ∷ xs) zero x at kept =
    let is : y ≡ x = at.is y in
    rw (ap p is ∙ kept) (0, subst (λ z. IsItem (y ∷ filter p xs) 0 z) is (first-item y (filter p xs)))
item-filter p (y ∷ xs) (suc i) x at kept = by (p y) (item-filter p xs i x (item-above y x xs i at) kept)
  where
    by : (b : Bool) → ((j : ℕ) × IsItem (filter p xs) j x) → (j : ℕ) × IsItem (cond b (y ∷ filter p xs) (filter p xs)) j x
    by true below = (suc below.0, item-below y x (filter p xs) below.0 below.1)
    by false below = below

pub map-append : {X Y : Type 0} (f : X → Y) (xs ys : List X) → map f (xs ++ ys) ≡ map f xs ++ map f ys
map-append f [] ys = refl
map-append f (x ∷ xs) ys = ap (λ zs. f x ∷ zs) (map-append f xs ys)

-- a map that keeps `g` of each item
pub map-keeps : {X : Type 0} (g : X → ℕ) (f : X → X) → ((x : X) → g (f x) ≡ g x) → (xs : List X) → map g (map f xs) ≡ map g xs
map-keeps g f keeps [] = refl
map-keeps g f keeps (x ∷ xs) = (λ k. keeps x k ∷ map-keeps g f keeps xs k)

-- the items of a list, by their places
pub every-got : {X : Type 0} (P : X → Type 0) (xs : List X) → ((i : ℕ) (x : X) → slice_get xs i ≡ Some x → P x) → Every P xs
every-got P [] all = tt
every-got P (x ∷ xs) all = (all 0 x refl, every-got P xs (λ i y is. all (suc i) y is))

pub got-every : {X : Type 0} (P : X → Type 0) (xs : List X) (i : ℕ) (x : X) → Every P xs → slice_get xs i ≡ Some x → P x
got-every P [] i x all is = cc
got-every P (y ∷ xs) zero x all is = let same : y ≡ x = cc in subst P same all.0
got-every P (y ∷ xs) (suc i) x all is = got-every P xs i x all.1 is

pub every-counted : (P : ℕ → Type 0) (xs : List ℕ) (x : ℕ) → Every P xs → 0 < count x xs → P x
every-counted P [] x all some = absurd (omega (arith, some))
every-counted P (y ∷ xs) x all some = by (eqb y x) refl (λ more. every-counted P xs x all.1 more) some
  where
    by : (b : Bool) → eqb y x ≡ b → (0 < count x xs → P x) → 0 < cond b 1 0 + count x xs → P x
    by true e rest here = let same : y ≡ x = grind (arith, nat_tests) in subst P same all.0
    by false e rest here = rest (omega (arith, here))

-- one item more
pub take-got : {X : Type 0} (xs : List X) (i : ℕ) (x : X) → slice_get xs i ≡ Some x → take (i + 1) xs ≡ take i xs ++ x ∷ []
take-got xs i x is = take_more xs i x (slice_get_within xs i x is) ∙ ap (λ y. take i xs ++ y ∷ []) (get_or_from_slice_get xs i x x is)

pub drop-got : {X : Type 0} (xs : List X) (i : ℕ) (x : X) → slice_get xs i ≡ Some x → drop i xs ≡ x ∷ drop (i + 1) xs
drop-got xs i x is = drop_more xs i x (slice_get_within xs i x is) ∙ ap (λ y. y ∷ drop (i + 1) xs) (get_or_from_slice_get xs i x x is)

pub take-past : {X : Type 0} (xs : List X) (i : ℕ) → slice_get xs i ≡ None → take i xs ≡ xs
take-past [] zero is = refl
take-past [] (suc i) is = refl
take-past (y ∷ xs) zero is = cc
take-past (y ∷ xs) (suc i) is = ap (λ zs. y ∷ zs) (take-past xs i is)

pub got-counts : (xs : List ℕ) (i x : ℕ) → slice_get xs i ≡ Some x → 0 < count x xs
got-counts [] j z e = cc
got-counts (w ∷ ys) zero z e = let same : w ≡ z = cc in grind (arith, nat_tests)
got-counts (w ∷ ys) (suc j) z e = omega (arith, got-counts ys j z e)

-- what stands once in a list, at this place, does not stand in front of it
pub not-yet : (xs : List ℕ) (i x : ℕ) → count x xs ≤ 1 → slice_get xs i ≡ Some x → count x (take i xs) ≡ 0
not-yet [] i x once is = cc
not-yet (y ∷ xs) zero x once is = refl
not-yet (y ∷ xs) (suc i) x once is =
    let some : 0 < count x xs = got-counts xs i x is in
    let first : ℕ = cond (eqb y x) 1 0 in
    let none : first ≡ 0 = omega (arith, once, some) in
    omega (arith, none, not-yet xs i x (omega (arith, once, none)) is)

pub got-none : {X : Type 0} (xs : List X) (i : ℕ) → slice_get xs i ≡ None → length xs ≤ i
got-none [] i is = omega arith
got-none (x ∷ xs) zero is = cc
got-none (x ∷ xs) (suc i) is = omega (arith, got-none xs i is)

-- what the test of two numbers says
pub told : (a b : ℕ) → ((a == b) ≡ true → a ≡ b) × ((a == b) ≡ false → ¬ (a ≡ b))
told a b = (
  λ e. elim (eqb_tells a b) as (λ _. a ≡ b) [ inl is ↦ is.1 | inr apart ↦ absurd (false≢true (sym apart.0 ∙ e)) ],
  λ e. elim (eqb_tells a b) as (λ _. ¬ (a ≡ b)) [ inl is ↦ absurd (false≢true (sym e ∙ is.0)) | inr apart ↦ apart.1 ],
)
