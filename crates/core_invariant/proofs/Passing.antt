-- Items of lists that pass a test, a list of numbers without one of them, and the longest of several histories.
use Rattle.std.proofs.Common.{◌≡◌, ◌<◌, cond, List, [], ◌∷◌, length, Bool, true, false, not, ◌||◌, arith, refl, filter, ℕ, ◌≤◌, eqb, subst, inl, inr, ◌⊎◌, zero}
use Rattle.std.proofs.Common.{suc, ap, ◌∙◌}
use Rattle.std.specs.List.{list_all, list_any, All}
use Rattle.std.proofs.lemmas.Bool.{and_parts, eq-eqb, eqb-true, ne_eqb}
use Rattle.std.proofs.lemmas.Bool.Decides.{nat_tests, eqb_tells}
use Rattle.index_words.specs.declared.layout.Layout.{Layout}
use Rattle.index_words.specs.declared.view.View.{View}
use Rattle.index_words.specs.Words.{Memory}
use Rattle.key_map.specs.Lists.{Every, count, IsItem}
use Rattle.key_map.specs.declared.update.Update.{Update}
use Rattle.core_events.proofs.Tests.{never}
use Rattle.core_events.specs.UpdateMoves.{without}
use Rattle.core_events.specs.Moves.{longer}
use Rattle.core_events.specs.LoadMoves.{longest_from, longest}
use Rattle.core_invariant.proofs.Frames.{one_counted}
use Rattle.core_invariant.specs.Meanings.{Meaning}
use Rattle.core_invariant.specs.Histories.{KnowsAll}
use Rattle.core_invariant.specs.Rule.{Rule}
use Rattle.core_invariant.proofs.Joins.{Begins, longer_long, longer_begins, whole}

pub record Passing {X : Type 0} (f : X → Bool) (P : X → Type 0) : Type 0 where
  pub item : X
  pub right : P item
  pub passes : f item ≡ true

-- if some item passes, there is one, of which holds what holds of each
pub passing : {X : Type 0} (f : X → Bool) (P : X → Type 0) (xs : List X) → Every P xs → list_any f xs ≡ true → Passing f P
passing f P [] all some = absurd (never some)
passing f P (x ∷ xs) all some = by (f x) refl some (λ rest. passing f P xs all.1 rest)
  where
    by : (b : Bool) → f x ≡ b → (b || list_any f xs) ≡ true → (list_any f xs ≡ true → Passing f P) → Passing f P
    by true is some rest = record { item = x; right = all.0; passes = is }
    by false is some rest = rest some

-- some item passes if those that pass are counted
pub any_counted : {X : Type 0} (f : X → Bool) (xs : List X) → 0 < length (filter f xs) → list_any f xs ≡ true
any_counted f [] some = absurd (omega (arith, some))
any_counted f (x ∷ xs) some = by (f x) some (any_counted f xs)
  where
    by : (b : Bool) → 0 < length (cond b (x ∷ filter f xs) (filter f xs)) → (0 < length (filter f xs) → list_any f xs ≡ true) → (b || list_any f xs) ≡ true
    by true some rest = refl
    by false some rest = rest some

pub counted_any : {X : Type 0} (f : X → Bool) (xs : List X) → list_any f xs ≡ true → 0 < length (filter f xs)
counted_any f [] some = absurd (never some)
counted_any f (x ∷ xs) some = by (f x) some (counted_any f xs)
  where
    by : (b : Bool) → (b || list_any f xs) ≡ true → (list_any f xs ≡ true → 0 < length (filter f xs)) → 0 < length (cond b (x ∷ filter f xs) (filter f xs))
    by true some rest = omega arith
    by false some rest = rest some

-- if no item passes, each fails
pub none_passing : {X : Type 0} (f : X → Bool) (P : X → Type 0) (xs : List X) → ((x : X) → f x ≡ false → P x) → not (list_any f xs) ≡ true → Every P xs
none_passing f P [] step off = tt
none_passing f P (x ∷ xs) step off = by (f x) refl off (λ none. none_passing f P xs step none)
  where
    by : (b : Bool) → f x ≡ b → not (b || list_any f xs) ≡ true → (not (list_any f xs) ≡ true → Every P xs) → Every P (x ∷ xs)
    by true is none rest = cc
    by false is none rest = (step x is, rest none)

-- if all pass, each does
pub all_passing : {X : Type 0} (f : X → Bool) (xs : List X) → list_all f xs ≡ true → Every (λ x. f x ≡ true) xs
all_passing f [] all = tt
all_passing f (x ∷ xs) all = let parts = and_parts (f x) (list_all f xs) all in (parts.0, all_passing f xs parts.1)

-- two properties of each item
pub both_hold : {X : Type 0} (P Q : X → Type 0) (xs : List X) → Every P xs → Every Q xs → Every (λ x. P x × Q x) xs
both_hold P Q [] one two = tt
both_hold P Q (x ∷ xs) one two = ((one.0, two.0), both_hold P Q xs one.1 two.1)

-- a list that can have no item is empty
pub none_left : {X : Type 0} (xs : List X) → Every (λ x. ⊥) xs → xs ≡ []
none_left [] all = refl
none_left (x ∷ xs) all = absurd all.0

-- A list of numbers without one of them.
same_step : (e x : ℕ) (b : Bool) (rest : List ℕ) → eqb x e ≡ b → count e rest ≡ 0 → count e (cond (not b) (x ∷ rest) rest) ≡ 0
same_step e x true rest is none = none
same_step e x false rest is none = grind (arith, nat_tests)

pub count-without_same : (e : ℕ) (xs : List ℕ) → count e (without e xs) ≡ 0
count-without_same e [] = refl
count-without_same e (x ∷ xs) = same_step e x (eqb x e) (without e xs) refl (count-without_same e xs)

other_step : (d e x : ℕ) (b : Bool) (rest xs : List ℕ) → eqb x e ≡ b → (d ≡ e → ⊥) → count d rest ≡ count d xs
    → count d (cond (not b) (x ∷ rest) rest) ≡ count d (x ∷ xs)
other_step d e x true rest xs is apart same =
    let at : x ≡ e = eqb-true x e is in
    let other : eqb x d ≡ false = ne_eqb x d (λ eq. apart (subst (λ y. y ≡ e) eq at)) in
    grind (arith, nat_tests)
other_step d e x false rest xs is apart same = omega (arith, same)

pub count-without_other : (d e : ℕ) (xs : List ℕ) → (d ≡ e → ⊥) → count d (without e xs) ≡ count d xs
count-without_other d e [] apart = refl
count-without_other d e (x ∷ xs) apart = other_step d e x (eqb x e) (without e xs) xs refl apart (count-without_other d e xs apart)

pub count-without-le : (d e : ℕ) (xs : List ℕ) → count d (without e xs) ≤ count d xs
count-without-le d e xs =
    elim (eqb_tells d e) as (λ _. count d (without e xs) ≤ count d xs) [
      | inl same ↦ subst (λ x. count x (without e xs) ≤ count x xs) (sym' same.1) (omega (arith, count-without_same e xs))
      | inr other ↦ omega (arith, count-without_other d e xs other.1)
    ]
  where
    sym' : {a b : ℕ} → a ≡ b → b ≡ a
    sym' {a} {b} e = subst (λ x. x ≡ a) e refl

every_step : (P : ℕ → Type 0) (e x : ℕ) (b : Bool) (rest : List ℕ) → eqb x e ≡ b → ((x ≡ e → ⊥) → P x) → Every P rest → Every P (cond (not b) (x ∷ rest) rest)
every_step P e x true rest is here all = all
every_step P e x false rest is here all = (here (λ same. absurd (off (eqb x e) is (eq-eqb x e same))), all)
  where
    off : (c : Bool) → c ≡ false → c ≡ true → ⊥
    off true f t = cc
    off false f t = cc

-- what holds of each of the others
pub every_without : (P Q : ℕ → Type 0) (e : ℕ) (xs : List ℕ) → ((x : ℕ) → 0 < count x xs → (x ≡ e → ⊥) → P x → Q x) → Every P xs → Every Q (without e xs)
every_without P Q e [] step all = tt
every_without P Q e (x ∷ xs) step all =
    every_step Q e x (eqb x e) (without e xs) refl (λ apart. step x (one_counted x (count x xs)) apart all.0)
    (every_without P Q e xs (λ y within. step y (omega (arith, within))) all.1)

-- The longest history that a view knows is the whole one.
knows_tail : (updates : List Update) (v : View) (vs : List View) → KnowsAll updates (v ∷ vs) → (v.history.seen ≡ updates) ⊎ KnowsAll updates vs
knows_tail updates v vs knows = tail_by knows.place knows.view knows.at knows.all
  where
    tail_by : (place : ℕ) (view : View) → IsItem (v ∷ vs) place view → view.history.seen ≡ updates → (v.history.seen ≡ updates) ⊎ KnowsAll updates vs
    tail_by zero view at all = inl (ap (λ (x : View). x.history.seen) (at.is v) ∙ all)
    tail_by (suc place) view at all = inr (record { place = place; view = view; at = record { within = omega (arith, at.within); is = λ d. at.is d }; all = all })

longest_all : (updates best : List Update) (vs : List View) → Begins updates best → All (λ (v : View). Begins updates v.history.seen) vs
    → (best ≡ updates) ⊎ KnowsAll updates vs → longest_from best vs ≡ updates
longest_all updates best [] begins all (inl is) = is
longest_all updates best [] begins all (inr knows) = absurd (omega (arith, knows.at.within))
longest_all updates best (v ∷ vs) begins all known =
    let seen = v.history.seen in
    let here : Begins updates seen = all 0 v (omega arith) in
    let long = longer_long best seen in
    let better : Begins updates (longer best seen) = longer_begins updates best seen begins here in
    longest_all updates (longer best seen) vs better (λ k d within. all (suc k) d (omega (arith, within)))
    (elim known as (λ _. (longer best seen ≡ updates) ⊎ KnowsAll updates vs) [
      | inl is ↦ inl (whole updates (longer best seen) better (omega (arith, long.1, ap length is)))
      | inr knows ↦ elim (knows_tail updates v vs knows) as (λ _. (longer best seen ≡ updates) ⊎ KnowsAll updates vs) [
        | inl is ↦ inl (whole updates (longer best seen) better (omega (arith, long.0, ap length is)))
        | inr rest ↦ inr rest
      ]
    ])

module _ (z : Layout) (m : Memory) (vs : List View) (g : Meaning) (rule : Rule z m vs g) where
  -- the longest history that a view knows is the whole one
  pub longest_is : longest vs ≡ g.updates
  longest_is = longest_all g.updates [] vs refl (λ k d within. (rule.seats k d within).seen.seen) (inr rule.history.known)
