-- What holds of each item of a list, and of the seats, if only something else has changed.
use Rattle.std.proofs.Common.{◌≡◌, ℕ, suc, ◌+◌, ◌<◌, ◌≤◌, cond, List, [], ◌∷◌, Bool, true, false, eqb, set, get_or, arith, refl, ap, ◌∙◌, sym, subst, inl, inr, map, ◌++◌}
use Rattle.std.specs.List.{All, sum_by}
use Rattle.std.proofs.lemmas.Bool.{eq-eqb, ne_eqb, cases_lt}
use Rattle.std.proofs.lemmas.Bool.Decides.{eqb_tells}
use Rattle.std.proofs.lemmas.List.{get_or_default}
use Rattle.std.proofs.lemmas.List.Sums.{sum_by-cons}
use Rattle.index_words.specs.declared.layout.Layout.{Layout}
use Rattle.key_map.specs.declared.update.Update.{Update}
use Rattle.index_words.specs.declared.view.View.{View}
use Rattle.key_map.specs.Lists.{count, Every, IsItem}
use Rattle.index_words.proofs.Seats.{sum_moved, sum_kept, at_item, all_moved, item_set, beside_item}
use Rattle.core_grace.specs.Holds.{work_nodes}
use Rattle.core_grace.specs.Slots.{own_free, nodes_of}
use Rattle.core_invariant.specs.Histories.{KnowsAll}
use Rattle.core_invariant.specs.BundleRule.{IsLive, BundleRight, pending_count, IsPendingAt}
use Rattle.key_map.proofs.Counting.{count-append}

-- a property of each item, weakened at each
pub every_map : {X : Type 0} (P Q : X → Type 0) (xs : List X) → ((x : X) → P x → Q x) → Every P xs → Every Q xs
every_map P Q [] step all = tt
every_map P Q (x ∷ xs) step all = (step x all.0, every_map P Q xs step all.1)

counted_by : (b : Bool) (n : ℕ) → b ≡ true → 0 < cond b 1 0 + n
counted_by true n e = omega arith
counted_by false n e = cc

pub not_counted : (b : Bool) (n : ℕ) → b ≡ false → 0 < cond b 1 0 + n → 0 < n
not_counted true n e some = cc
not_counted false n e some = omega (arith, some)

pub one_counted : (x : ℕ) (n : ℕ) → 0 < cond (eqb x x) 1 0 + n
one_counted x n = counted_by (eqb x x) n (eq-eqb x x refl)

-- the same, at each number of the list
pub every_listed : (P Q : ℕ → Type 0) (xs : List ℕ) → ((x : ℕ) → 0 < count x xs → P x → Q x) → Every P xs → Every Q xs
every_listed P Q [] step all = tt
every_listed P Q (x ∷ xs) step all =
    (step x (one_counted x (count x xs)) all.0, every_listed P Q xs (λ y within. step y (omega (arith, within))) all.1)

-- the same, at each item of which a list has the name
pub every_named : {X : Type 0} (f : X → ℕ) (P Q : X → Type 0) (xs : List X) → ((x : X) → 0 < count (f x) (map f xs) → P x → Q x) → Every P xs → Every Q xs
every_named f P Q [] step all = tt
every_named f P Q (x ∷ xs) step all =
    (step x (one_counted (f x) (count (f x) (map f xs))) all.0, every_named f P Q xs (λ y within. step y (omega (arith, within))) all.1)

-- what holds of each holds of one that is listed
pub every_at : (P : ℕ → Type 0) (n : ℕ) (xs : List ℕ) → Every P xs → 0 < count n xs → P n
every_at P n [] all some = absurd (omega (arith, some))
every_at P n (x ∷ xs) all some =
    elim (eqb_tells x n) as (λ _. P n) [
      | inl same ↦ subst P same.1 all.0
      | inr other ↦ every_at P n xs all.1 (not_counted (eqb x n) (count n xs) (ne_eqb x n other.1) some)
    ]

-- the same at each item with its place
pub all_items : {X : Type 0} (P Q : X → Type 0) (xs : List X) → All P xs → ((n : ℕ) (x : X) → IsItem xs n x → P x → Q x) → All Q xs
all_items P Q xs all step k d within = step k (get_or xs k d) (record { within = within; is = λ c. get_or_default xs k c d within }) (all k d within)

-- two items at one place are the same
pub same_item : {X : Type 0} (xs : List X) (i j : ℕ) (x y : X) → IsItem xs i x → IsItem xs j y → j ≡ i → x ≡ y
same_item xs i j x y at of same = sym (at.is y) ∙ ap (λ n. get_or xs n y) (sym same) ∙ of.is y

-- an item if a sum is not 0
pub record Term {X : Type 0} (f : X → ℕ) (xs : List X) : Type 0 where
  pub place : ℕ
  pub item : X
  pub at : IsItem xs place item
  pub some : 0 < f item

pub term_of : {X : Type 0} (f : X → ℕ) (xs : List X) → 0 < sum_by f xs → Term f xs
term_of f [] some = absurd (omega (arith, some))
term_of f (x ∷ xs) some =
    elim (cases_lt 0 (f x)) as (λ _. Term f (x ∷ xs)) [
      | inl here ↦ record { place = 0; item = x; at = record { within = omega arith; is = λ d. refl }; some = here }
      | inr none ↦
          let rest : Term f xs = term_of f xs (omega (arith, some, none, sum_by-cons f x xs)) in
          record { place = suc rest.place; item = rest.item; at = record { within = omega (arith, rest.at.within); is = λ d. rest.at.is d }; some = rest.some }
    ]

-- a node that is live after a move that frees no less was live before
pub live_moved : (z : Layout) (vs : List View) (i k : ℕ) (v w : View) → IsItem vs i v → own_free nodes_of k v ≤ own_free nodes_of k w
    → IsLive z (set vs i w) k → IsLive z vs k
live_moved z vs i k v w at more live = (live.0, omega (arith, sum_moved (own_free nodes_of k) vs i v w at, more, live.1))

-- a bundle's pending entry stays so if one view moves and keeps it
pub pending_moved : (vs : List View) (i k e : ℕ) (v w : View) → IsItem vs i v → pending_count e w ≡ pending_count e v
    → (0 < count k (work_nodes v) → 0 < count k (work_nodes w)) → IsPendingAt vs k e → IsPendingAt (set vs i w) k e
pending_moved vs i k e v w at same works is =
    let P : View → Type 0 = λ u. 0 < pending_count e u → 0 < count k (work_nodes u) in
    (sum_kept (pending_count e) vs i v w at same ∙ is.0, all_moved P P vs i v w at is.1 (λ some. works (at_item P vs i v at is.1 (omega (arith, same, some)))) (λ u beside of. of))

-- a bundle stays right if its pending entries stay so
pub bundle_weaker : (s : ℕ) (next stamp number : ℕ → ℕ) (P Q : ℕ → Type 0) (head : ℕ) (es : List ℕ) → ((e : ℕ) → P e → Q e)
    → BundleRight s next stamp number P head es → BundleRight s next stamp number Q head es
bundle_weaker s next stamp number P Q head es step right = record {
  chain = right.chain;
  numbers = right.numbers;
  tail = right.tail;
  falls = right.falls;
  owned = every_map (λ e. stamp e ≡ 0 → P e) (λ e. stamp e ≡ 0 → Q e) es (λ e of none. step e (of none)) right.owned;
}

-- some view still knows the whole history if one view moves and forgets nothing
pub knows_moved : (updates : List Update) (vs : List View) (i : ℕ) (v w : View) → IsItem vs i v → (v.history.seen ≡ updates → w.history.seen ≡ updates)
    → KnowsAll updates vs → KnowsAll updates (set vs i w)
knows_moved updates vs i v w at keeps knows =
    elim (eqb_tells knows.place i) as (λ _. KnowsAll updates (set vs i w)) [
      | inl same ↦
          record { place = i; view = w; at = item_set vs i v w at; all = keeps (ap (λ (u : View). u.history.seen) (same_item vs i knows.place v knows.view at knows.at same.1) ∙ knows.all) }
      | inr other ↦ record { place = knows.place; view = knows.view; at = beside_item vs i knows.place knows.view w knows.at other.1; all = knows.all }
    ]

-- an item in the middle of a list is counted
pub count-middle : (x : ℕ) (front back : List ℕ) → 0 < count x (front ++ x ∷ back)
count-middle x front back = omega (arith, count-append x front (x ∷ back), one_counted x (count x back))

-- what holds of each before a step holds of each after it
pub every_mapped : {X : Type 0} (P Q : X → Type 0) (f : X → X) (xs : List X) → ((x : X) → P x → Q (f x)) → Every P xs → Every Q (map f xs)
every_mapped P Q f [] step all = tt
every_mapped P Q f (x ∷ xs) step all = (step x all.0, every_mapped P Q f xs step all.1)
