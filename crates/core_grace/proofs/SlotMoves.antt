-- Moves of one view that keep the rule on one kind of slots.
use Rattle.std.proofs.Common.{◌≡◌, ℕ, ◌+◌, ◌<◌, ◌≤◌, ◌⊎◌, cond, List, Bool, true, false, ltb, leb, ◌&&◌, set, arith, ap, ◌∙◌, inl, inr}
use Rattle.std.specs.List.{All, sum_by}
use Rattle.std.proofs.lemmas.List.Sums.{sum_by-le-sum_by}
use Rattle.index_words.specs.declared.view.View.{View}
use Rattle.index_words.specs.declared.view.slots.Slots.{Slots}
use Rattle.key_map.specs.Lists.{IsItem}
use Rattle.index_words.proofs.Seats.{sum_moved, sum_kept, at_item, all_moved}
use Rattle.core_grace.specs.Slots.{own, own_free, SlotsRight, is_slot}

cond-le : (b : Bool) → cond b 1 0 ≤ 1
cond-le true = omega arith
cond-le false = omega arith

pub is_slot-le : (size k : ℕ) → is_slot size k ≤ 1
is_slot-le size k = cond-le (ltb 0 k && leb k size)

zero_unless : (n : ℕ) → (0 < n → ⊥) → n ≡ 0
zero_unless n never = omega (arith, never)

module _ (pick : Slots → List ℕ) (size : ℕ) (l : ℕ → ℕ) (h : View → ℕ → Type 0) (vs : List View) where
  -- what the tree links is in no list of a view
  pub linked_alone : (k : ℕ) → SlotsRight pick size l h vs → 0 < l k → sum_by (own pick k) vs ≡ 0
  linked_alone k right some = omega (arith, right.one k, is_slot-le size k)

  pub free-le-own : (k : ℕ) → sum_by (own_free pick k) vs ≤ sum_by (own pick k) vs
  free-le-own k = sum_by-le-sum_by (own_free pick k) (own pick k) vs (λ v. omega arith)

  -- if the lists of the moved view keep their counts
  pub slots_moved : (i : ℕ) (v w : View) → IsItem vs i v → SlotsRight pick size l h vs
      → ((k : ℕ) → own pick k w ≡ own pick k v) → ((k : ℕ) → own_free pick k w ≡ own_free pick k v)
      → ((k : ℕ) → h w k → h v k ⊎ (0 < l k))
      → SlotsRight pick size l h (set vs i w)
  slots_moved i v w at right same free held =
      let sums : (k : ℕ) → sum_by (own_free pick k) (set vs i w) ≡ sum_by (own_free pick k) vs = λ k. sum_kept (own_free pick k) vs i v w at (free k) in
      let Unheld : View → Type 0 = λ u. (k : ℕ) → h u k → sum_by (own_free pick k) vs ≡ 0 in
      let Unheld' : View → Type 0 = λ u. (k : ℕ) → h u k → sum_by (own_free pick k) (set vs i w) ≡ 0 in
      let moved : Unheld' w = λ k holds. elim (held k holds) as (λ _. sum_by (own_free pick k) (set vs i w) ≡ 0) [
        | inl before ↦ sums k ∙ at_item Unheld vs i v at right.unheld k before
        | inr linked ↦ omega (arith, sums k, linked_alone k right linked, free-le-own k)
      ] in
      record {
        one = λ k. ap (λ n. n + l k) (sum_kept (own pick k) vs i v w at (same k)) ∙ right.one k;
        unheld = all_moved Unheld Unheld' vs i v w at right.unheld moved (λ u beside of k holds. sums k ∙ of k holds);
      }

  -- if the moved view sets free what nobody holds
  pub slots_freed : (i : ℕ) (v w : View) → IsItem vs i v → SlotsRight pick size l h vs
      → ((k : ℕ) → own pick k w ≡ own pick k v)
      → (freed : ℕ → ℕ) → ((k : ℕ) → own_free pick k w ≡ own_free pick k v + freed k)
      → All (λ u. (k : ℕ) → 0 < freed k → h u k → ⊥) vs
      → ((k : ℕ) → h w k → h v k)
      → SlotsRight pick size l h (set vs i w)
  slots_freed i v w at right same freed more none held =
      let Unheld : View → Type 0 = λ u. (k : ℕ) → h u k → sum_by (own_free pick k) vs ≡ 0 in
      let None' : View → Type 0 = λ u. (k : ℕ) → 0 < freed k → h u k → ⊥ in
      let Unheld' : View → Type 0 = λ u. (k : ℕ) → h u k → sum_by (own_free pick k) (set vs i w) ≡ 0 in
      let after : (u : View) (k : ℕ) → Unheld u → None' u → h u k → sum_by (own_free pick k) (set vs i w) ≡ 0 = λ u k of never holds.
      omega (arith, sum_moved (own_free pick k) vs i v w at, more k, of k holds, zero_unless (freed k) (λ some. never k some holds)) in
      record {
        one = λ k. ap (λ n. n + l k) (sum_kept (own pick k) vs i v w at (same k)) ∙ right.one k;
        unheld = all_moved Unheld Unheld' vs i v w at right.unheld
            (λ k holds. after v k (at_item Unheld vs i v at right.unheld) (at_item None' vs i v at none) (held k holds))
            (λ u beside of k holds. after u k of (at_item None' vs beside.place u beside.at none) holds);
      }
