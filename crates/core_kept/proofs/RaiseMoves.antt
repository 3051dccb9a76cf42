-- A move of one view that brings some of its free slots in: the rule on one kind of slots, and what the others know of
-- a batch.
use Rattle.std.proofs.Common.{◌≡◌, ℕ, ◌+◌, ◌<◌, ◌≤◌, ◌⊎◌, List, set, arith, ◌∙◌, sym, inl, inr, Some, ◌≢◌}
use Rattle.std.specs.List.{sum_by}
use Rattle.std.proofs.lemmas.List.Sums.{sum_by-le-sum_by}
use Rattle.index_words.specs.declared.view.View.{View}
use Rattle.index_words.specs.declared.view.slots.Slots.{Slots}
use Rattle.index_words.specs.declared.view.slots.SectionFound.{SectionFound}
use Rattle.key_map.specs.Lists.{count, IsItem}
use Rattle.index_words.proofs.Seats.{Beside, sum_moved, at_item, all_moved}
use Rattle.core_grace.specs.Slots.{own, own_free, is_slot, SlotsRight, HoldsNone, GraceRight}
use Rattle.core_grace.proofs.SlotMoves.{is_slot-le}
use Rattle.core_invariant.proofs.Frames.{every_map}
use Rattle.core_invariant.proofs.Owned.{own_waiting}

module _ (pick : Slots → List ℕ) (size : ℕ) (l l' : ℕ → ℕ) (h h' : View → ℕ → Type 0) (vs : List View) (i : ℕ) (v w : View) (new : List ℕ) (at : IsItem vs i v)
    (right : SlotsRight pick size l h vs) where
  -- the new slots are not free any more, and linked; what is linked no longer waits; the moved view holds at most them
  -- besides what it held
  pub record Brings : Type 0 where
    pub free : (k : ℕ) → count k (pick w.free) + count k new ≡ count k (pick v.free)
    pub balance : (k : ℕ) → own_waiting pick k w + l' k ≡ (own_waiting pick k v + l k) + count k new
    pub holds : (k : ℕ) → h' w k → h v k ⊎ (0 < count k new)
    pub others_hold : (u : View) → Beside vs i u → (k : ℕ) → h' u k → h u k

  module _ (brings : Brings) where
    one_now : (k : ℕ) → sum_by (own pick k) (set vs i w) + l' k ≡ is_slot size k
    one_now k = omega (arith, sum_moved (own pick k) vs i v w at, brings.free k, brings.balance k, right.one k)

    free_less : (k : ℕ) → sum_by (own_free pick k) (set vs i w) ≤ sum_by (own_free pick k) vs
    free_less k = omega (arith, sum_moved (own_free pick k) vs i v w at, brings.free k)

    new_gone : (k : ℕ) → 0 < count k new → sum_by (own_free pick k) (set vs i w) ≡ 0
    new_gone k some =
        omega (
          arith,
          some,
          sum_moved (own_free pick k) vs i v w at,
          brings.free k,
          right.one k,
          is_slot-le size k,
          sum_by-le-sum_by (own_free pick k) (own pick k) vs (λ u. omega arith),
        )

    own_unheld : (k : ℕ) → ((x : ℕ) → h v x → sum_by (own_free pick x) vs ≡ 0) → h' w k → sum_by (own_free pick k) (set vs i w) ≡ 0
    own_unheld k old holds =
        elim (brings.holds k holds) as (λ _. sum_by (own_free pick k) (set vs i w) ≡ 0) [
          | inl before ↦ omega (arith, old k before, free_less k)
          | inr some ↦ new_gone k some
        ]

    pub slots_brought : SlotsRight pick size l' h' (set vs i w)
    slots_brought =
        let P : View → Type 0 = λ u. (k : ℕ) → h u k → sum_by (own_free pick k) vs ≡ 0 in
        let Q : View → Type 0 = λ u. (k : ℕ) → h' u k → sum_by (own_free pick k) (set vs i w) ≡ 0 in
        record {
          one = one_now;
          unheld = all_moved P Q vs i v w at right.unheld (λ k holds. own_unheld k (at_item P vs i v at right.unheld) holds)
              (λ u beside of k holds. omega (arith, of k (brings.others_hold u beside k holds), free_less k));
        }

-- what a batch's owner knows of a view is known of it after a move, where that holds nothing of the batch if the view
-- held nothing
pub grace_from : (hn he he' : View → ℕ → Type 0) (t u u' : View) → u'.number ≡ u.number → u'.section_word ≡ u.section_word
    → (HoldsNone hn he t.batch u → HoldsNone hn he' t.batch u') → GraceRight hn he t u → GraceRight hn he' t u'
grace_from hn he he' t u u' number word step right = record {
  passed = every_map (λ n. u.number ≡ Some n → HoldsNone hn he t.batch u) (λ n. u'.number ≡ Some n → HoldsNone hn he' t.batch u') t.grace.passed
      (λ n known is. step (known (sym number ∙ is))) right.passed;
  found = every_map (λ (l : SectionFound). u.number ≡ Some l.pass → u.section_word ≢ l.word → HoldsNone hn he t.batch u)
      (λ (l : SectionFound). u'.number ≡ Some l.pass → u'.section_word ≢ l.word → HoldsNone hn he' t.batch u') t.grace.found
      (λ l known is differs. step (known (sym number ∙ is) (λ same. differs (word ∙ same)))) right.found;
}
