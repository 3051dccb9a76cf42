-- The nodes of the plain tree are in no free list and in no batch: each is one of the tree at the stamp, or was taken
-- out by an update that is not ended yet.
use Rattle.std.proofs.Common.{◌≡◌, ℕ, ◌<◌, ◌≤◌, List, true, get_or, arith, sym, subst, inl, inr, None}
use Rattle.std.specs.List.{sum_by}
use Rattle.std.proofs.lemmas.Bool.Decides.{eqb_tells}
use Rattle.std.proofs.lemmas.List.{get_or_default}
use Rattle.index_words.specs.declared.layout.Layout.{Layout}
use Rattle.index_words.specs.declared.side.Side.TheVariants.{Right}
use Rattle.index_words.specs.declared.view.View.{View}
use Rattle.index_words.specs.Words.{Memory}
use Rattle.key_map.specs.Lists.{count, has, IsItem}
use Rattle.key_map.proofs.Counting.{has-count}
use Rattle.index_words.proofs.Seats.{one_term, two_terms, at_item}
use Rattle.core_grace.specs.Holds.{HoldsNode}
use Rattle.core_grace.specs.Slots.{own, own_free, nodes_of}
use Rattle.core_grace.proofs.SlotMoves.{free-le-own}
use Rattle.core_trees.specs.NamedTree.{NamedTree}
use Rattle.core_trees.specs.Slots.{occurs}
use Rattle.core_trees.specs.SpelledTree.{Graph}
use Rattle.core_events.proofs.Tests.{never}
use Rattle.core_invariant.specs.Meanings.{Meaning, linked_by}
use Rattle.core_invariant.specs.PlainTree.{undone, SeatInTree, IsPlainTree}
use Rattle.core_invariant.specs.Rule.{Rule}
use Rattle.core_invariant.proofs.Frames.{Term, term_of, same_item}
use Rattle.core_invariant.proofs.OneView.{seat_at}
use Rattle.core_invariant.proofs.Owned.{once_node, slot_high}
use Rattle.core_invariant.proofs.TreeNow.{count_slots}
use Rattle.core_invariant.proofs.Undone.{Passing, any_item}
use Rattle.core_kept.proofs.ReachMoves.{IsClear}
use Rattle.plain_trees.proofs.Matched.{in-now}

module _ (z : Layout) (m : Memory) (vs : List View) (g : Meaning) (rule : Rule z m vs g) where
  -- a node that is at most once in the lists of all views is in no free list and no batch where one view has it retired
  pub retired_clear : (k j : ℕ) (u : View) → IsItem vs j u → 0 < count k u.retired.nodes → (u.update.raised ≡ None → ⊥) → IsClear z vs k
  retired_clear k j u of some raised = record {
    there = slot_high z.nodes k (omega (arith, rule.slots.nodes.one k, some, one_term (own nodes_of k) vs j u of));
    own = λ i d within. (own_at i (get_or vs i d) (record { within = within; is = λ c. get_or_default vs i c d within }));
    free = elim (eqb_tells (sum_by (own_free nodes_of k) vs) 0) as (λ _. sum_by (own_free nodes_of k) vs ≡ 0) [
      | inl none ↦ none.1
      | inr more ↦ absurd (never_free (term_of (own_free nodes_of k) vs (omega (arith, more.1))))
    ];
    batch = λ i d within. (alone i (get_or vs i d) (record { within = within; is = λ c. get_or_default vs i c d within })).1;
  }
    where
      once : sum_by (own nodes_of k) vs ≤ 1
      once = omega (arith, once_node z vs g rule.slots k)

      alone : (i : ℕ) (t : View) → IsItem vs i t → (count k t.free.nodes ≡ 0) × (count k t.batch.nodes ≡ 0)
      alone i t at = elim (eqb_tells i j) as (λ _. (count k t.free.nodes ≡ 0) × (count k t.batch.nodes ≡ 0)) [
        | inl same ↦
            let here : 0 < count k t.retired.nodes = subst (λ (x : View). 0 < count k x.retired.nodes) (same_item vs j i u t of at same.1) some in
            (omega (arith, once, here, one_term (own nodes_of k) vs i t at), omega (arith, once, here, one_term (own nodes_of k) vs i t at))
        | inr other ↦
            let both = two_terms (own nodes_of k) vs j u t of (record { place = i; at = at; other = other.1 }) in
            (omega (arith, once, some, both), omega (arith, once, some, both))
      ]

      own_at : (i : ℕ) (t : View) → IsItem vs i t → t.update.raised ≡ None → count k t.retired.nodes ≡ 0
      own_at i t at unraised = elim (eqb_tells i j) as (λ _. count k t.retired.nodes ≡ 0) [
        | inl same ↦ absurd (raised (subst (λ (x : View). x.update.raised ≡ None) (sym (same_item vs j i u t of at same.1)) unraised))
        | inr other ↦ omega (arith, once, some, two_terms (own nodes_of k) vs j u t of (record { place = i; at = at; other = other.1 }))
      ]

      never_free : Term (own_free nodes_of k) vs → ⊥
      never_free term = omega (arith, term.some, (alone term.place term.item term.at).0)

  -- nor where it is in the tree at the stamp
  pub tree_clear : (k : ℕ) → 0 < occurs k g.tree → IsClear z vs k
  tree_clear k some =
      let none : sum_by (own nodes_of k) vs ≡ 0 = omega (arith, once_node z vs g rule.slots k, some, count_slots k g.tree) in
      record {
        there = slot_high z.nodes k (omega (arith, rule.slots.nodes.one k, some, count_slots k g.tree));
        own = λ i d within unraised.
            omega (arith, none, one_term (own nodes_of k) vs i (get_or vs i d) (record { within = within; is = λ c. get_or_default vs i c d within }));
        free = omega (arith, none, free-le-own nodes_of z.nodes (linked_by g).nodes HoldsNode vs k);
        batch = λ i d within.
            omega (arith, none, one_term (own nodes_of k) vs i (get_or vs i d) (record { within = within; is = λ c. get_or_default vs i c d within }));
      }

  -- the same holds of each node of the plain tree
  pub plain_clear : (gr : Graph) (plain : NamedTree) → IsPlainTree gr vs g.tree plain → (k : ℕ) → 0 < occurs k plain → IsClear z vs k
  plain_clear gr plain trees k some =
      elim (in-now (undone gr vs) k 0 Right plain g.tree trees.matches some) as (λ _. IsClear z vs k) [
        | inl here ↦ tree_clear k here
        | inr out ↦ taken_clear (any_item (λ (v : View). has k v.update.taken) vs out)
      ]
    where
      taken_clear : Passing (λ (v : View). has k v.update.taken) vs → IsClear z vs k
      taken_clear taker =
          retired_clear k taker.place taker.item taker.at
          ((seat_at z m vs g taker.place taker.item taker.at rule).marks.taken k (has-count k taker.item.update.taken taker.passes))
          (λ unraised. never (subst (λ (ks : List ℕ). has k ks ≡ true)
          ((at_item (SeatInTree gr plain g.tree) vs taker.place taker.item taker.at trees.seats).first unraised) taker.passes))
