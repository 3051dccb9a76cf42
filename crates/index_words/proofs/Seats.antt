-- Lists of views in which one changes: sums over them, and what holds of each and of each pair.
use Rattle.std.proofs.Common.{◌≡◌, ℕ, ◌+◌, ◌<◌, ◌≤◌, List, [], ◌∷◌, ◌++◌, length, take, get_or, set, arith, ap, ◌∙◌, sym, subst, get_or-set_same, get_or-set_other, length-set, inl, inr}
use Rattle.std.specs.List.{All, sum_by}
use Rattle.std.proofs.lemmas.List.{get_or-take, length-take, get_or_default}
use Rattle.std.proofs.lemmas.List.Sums.{sum_by_push, sum_by-set, sum_by_more_le, get_or-le-sum_by}
use Rattle.std.proofs.lemmas.Bool.{cases_lt}
use Rattle.std.proofs.lemmas.Bool.Decides.{eqb_tells}
use Rattle.key_map.specs.Lists.{IsItem}

-- an item at another place
pub record Beside {X : Type 0} (xs : List X) (i : ℕ) (y : X) : Type 0 where
  pub place : ℕ
  pub at : IsItem xs place y
  pub other : place ≡ i → ⊥

two_terms_before : {X : Type 0} (f : X → ℕ) (xs : List X) (i j : ℕ) (d : X) → i < j → j < length xs
    → f (get_or xs i d) + f (get_or xs j d) ≤ sum_by f xs
two_terms_before f xs i j d low high =
    let long : i < length (take j xs) = omega (arith, length-take j xs) in
    let first : f (get_or (take j xs) i d) ≤ sum_by f (take j xs) = get_or-le-sum_by f (take j xs) i d long in
    let same : get_or (take j xs) i d ≡ get_or xs i d = get_or-take j xs i d low in
    let first' : f (get_or xs i d) ≤ sum_by f (take j xs) = rw (← same) first in
    omega (arith, sum_by_more_le f xs j d high, first')

pub two_terms : {X : Type 0} (f : X → ℕ) (xs : List X) (i : ℕ) (x y : X) → IsItem xs i x → Beside xs i y → f x + f y ≤ sum_by f xs
two_terms f xs i x y at beside =
    elim (cases_lt i beside.place) as (λ _. f x + f y ≤ sum_by f xs) [
      | inl low ↦ rw (← at.is x) (subst (λ z. f (get_or xs i x) + f z ≤ sum_by f xs) (beside.at.is x) (two_terms_before f xs i beside.place x low beside.at.within))
      | inr high ↦
          let lt : beside.place < i = omega (arith, beside.other) in
          let sum : f (get_or xs beside.place x) + f (get_or xs i x) ≤ sum_by f xs = two_terms_before f xs beside.place i x lt at.within in
          let one : f y + f (get_or xs i x) ≤ sum_by f xs = subst (λ z. f z + f (get_or xs i x) ≤ sum_by f xs) (beside.at.is x) sum in
          let two : f y + f x ≤ sum_by f xs = subst (λ z. f y + f z ≤ sum_by f xs) (at.is x) one in
          omega arith
    ]

pub sum_moved : {X : Type 0} (f : X → ℕ) (xs : List X) (i : ℕ) (x y : X) → IsItem xs i x → sum_by f (set xs i y) + f x ≡ sum_by f xs + f y
sum_moved f xs i x y at = subst (λ z. sum_by f (set xs i y) + f z ≡ sum_by f xs + f y) (at.is x) (sum_by-set f xs i y x at.within)

pub sum_kept : {X : Type 0} (f : X → ℕ) (xs : List X) (i : ℕ) (x y : X) → IsItem xs i x → f y ≡ f x → sum_by f (set xs i y) ≡ sum_by f xs
sum_kept f xs i x y at same = omega (arith, sum_moved f xs i x y at)

pub one_term : {X : Type 0} (f : X → ℕ) (xs : List X) (i : ℕ) (x : X) → IsItem xs i x → f x ≤ sum_by f xs
one_term f xs i x at = subst (λ z. f z ≤ sum_by f xs) (at.is x) (get_or-le-sum_by f xs i x at.within)

pub at_item : {X : Type 0} (P : X → Type 0) (xs : List X) (i : ℕ) (x : X) → IsItem xs i x → All P xs → P x
at_item P xs i x at all = subst P (at.is x) (all i x at.within)

pub item_set : {X : Type 0} (xs : List X) (i : ℕ) (x y : X) → IsItem xs i x → IsItem (set xs i y) i y
item_set xs i x y at = record {
  within = omega (arith, length-set xs i y, at.within);
  is = λ d. get_or-set_same xs i y d at.within;
}

-- if one item changes and the others are framed, each item of the new list has the new property
pub all_moved : {X : Type 0} (P Q : X → Type 0) (xs : List X) (i : ℕ) (x y : X) → IsItem xs i x → All P xs → Q y
    → ((w : X) → Beside xs i w → P w → Q w) → All Q (set xs i y)
all_moved P Q xs i x y at all new others k d within =
    let inside : k < length xs = omega (arith, length-set xs i y) in
    elim (eqb_tells k i) as (λ _. Q (get_or (set xs i y) k d)) [
      | inl e ↦ let same : k ≡ i = e.1 in subst Q (sym (ap (λ n. get_or (set xs i y) n d) same ∙ get_or-set_same xs i y d at.within)) new
      | inr e ↦
          let beside : Beside xs i (get_or xs k d) = record { place = k; at = record { within = inside; is = λ c. get_or_default xs k c d inside }; other = e.1 } in
          subst Q (sym (get_or-set_other xs i k y d e.1)) (others (get_or xs k d) beside (all k d inside))
    ]

-- the same if all items are kept
pub all_framed : {X : Type 0} (P Q : X → Type 0) (xs : List X) → All P xs → ((w : X) → P w → Q w) → All Q xs
all_framed P Q xs all others k d within = others (get_or xs k d) (all k d within)

pub pairs_moved : {X : Type 0} (R S : X → X → Type 0) (xs : List X) (i : ℕ) (x y : X) → IsItem xs i x → All (λ v. All (R v) xs) xs
    → S y y → ((w : X) → Beside xs i w → R x w → S y w) → ((w : X) → Beside xs i w → R w x → S w y)
    → ((v w : X) → Beside xs i v → Beside xs i w → R v w → S v w)
    → All (λ v. All (S v) (set xs i y)) (set xs i y)
pairs_moved R S xs i x y at all here row column rest =
    all_moved (λ v. All (R v) xs) (λ v. All (S v) (set xs i y)) xs i x y at all
    (all_moved (R x) (S y) xs i x y at (at_item (λ v. All (R v) xs) xs i x at all) here (λ w beside. row w beside))
    (λ v beside of. all_moved (R v) (S v) xs i x y at of (column v beside (at_item (R v) xs i x at of)) (λ w other. rest v w beside other))

-- if one item is split in two, the terms of the two together are its term
pub sum_split : {X : Type 0} (f : X → ℕ) (xs : List X) (i : ℕ) (x y z : X) → IsItem xs i x → f y + f z ≡ f x → sum_by f (set xs i y ++ z ∷ []) ≡ sum_by f xs
sum_split f xs i x y z at same = omega (arith, sum_moved f xs i x y at, sum_by_push f (set xs i y) z)

pub beside_item : {X : Type 0} (xs : List X) (i j : ℕ) (u y : X) → IsItem xs j u → (j ≡ i → ⊥) → IsItem (set xs i y) j u
beside_item xs i j u y at other = record {
  within = omega (arith, length-set xs i y, at.within);
  is = λ d. get_or-set_other xs i j y d other ∙ at.is d;
}

-- where two items become two others, with the same terms together
pub sum_joined : {X : Type 0} (f : X → ℕ) (xs : List X) (i j : ℕ) (x u y z : X) → IsItem xs i x → IsItem xs j u → (j ≡ i → ⊥) → f y + f z ≡ f x + f u
    → sum_by f (set (set xs i y) j z) ≡ sum_by f xs
sum_joined f xs i j x u y z at of other same =
    omega (arith, sum_moved f xs i x y at, sum_moved f (set xs i y) j u z (beside_item xs i j u y of other))
