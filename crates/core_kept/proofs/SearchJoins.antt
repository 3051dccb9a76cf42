-- The plain tree, what searches claim and what they reach, after a seat is joined into another one: what comes along is
-- reached by nobody, or the joining seat searches for nothing.
use Rattle.std.proofs.Common.{◌≡◌, ℕ, ◌<◌, ◌≤◌, ◌⊎◌, List, ◌++◌, length, true, false, eqb, not, ◌&&◌, set, arith, refl, ap, sym, inl, inr, Option, Some, None}
use Rattle.std.specs.List.{slice_get}
use Rattle.std.proofs.lemmas.Bool.{and_parts}
use Rattle.index_words.specs.declared.layout.Layout.{Layout}
use Rattle.index_words.specs.declared.view.View.{View}
use Rattle.index_words.specs.declared.view.slots.Slots.{Slots}
use Rattle.index_words.specs.declared.word.Word.{Word}
use Rattle.index_words.specs.Views.{spent_view}
use Rattle.index_words.specs.Words.{memory, word_at}
use Rattle.key_map.specs.Lists.{count, IsItem}
use Rattle.key_map.proofs.Counting.{count-append}
use Rattle.index_words.proofs.Seats.{at_item, beside_item, one_term}
use Rattle.core_grace.specs.Batches.{is_empty}
use Rattle.core_grace.specs.Sections.{is_even}
use Rattle.core_grace.specs.Slots.{own_free, nodes_of}
use Rattle.core_trees.specs.NamedTree.{NamedTree}
use Rattle.core_trees.specs.SpelledTree.{Graph}
use Rattle.core_events.specs.declared.event.Kind.TheVariants.{JoinSeat}
use Rattle.core_events.specs.Moves.{joined_with}
use Rattle.core_events.specs.Needs.{has_none_waiting, is_stamp, may_join_found}
use Rattle.core_events.specs.Steps.{join_found}
use Rattle.core_events.proofs.Tests.{never, not_equal}
use Rattle.core_invariant.specs.Reached.{plain_graph, HoldsPlain, has_let, ReachesRight}
use Rattle.core_invariant.specs.Rule.{InRule}
use Rattle.core_invariant.specs.SectionRule.{IsIdle}
use Rattle.core_invariant.proofs.Needed.{length_empty}
use Rattle.core_invariant.proofs.OneView.{item_from_get}
use Rattle.core_kept.specs.SearchLaws.{SearchesAfter, KeepsSearchesAt}
use Rattle.core_kept.proofs.ReachLists.{lists_moved}
use Rattle.core_kept.proofs.RestingSeats.{rests_reaching, rests_search}
use Rattle.core_kept.proofs.SearchLists.{OnlyLists, lists_after, same_holds}
use Rattle.core_kept.proofs.SearchMoves.{same_undone, same_waits, searches_moved, tree_moved, work_of}
use Rattle.core_kept.proofs.StepSeats.{can_join}

module _ (z : Layout) (g : Graph) (now : NamedTree) where
  -- nothing is left of a seat that has nothing under way
  pub spent_after : (vs : List View) (j : ℕ) (u : View) → IsItem vs j u → IsIdle u → SearchesAfter z g vs now → SearchesAfter z g (set vs j spent_view) now
  spent_after vs j u of idle before =
      let plain = before.plain_tree in
      let same : work_of spent_view.update ≡ work_of u.update = sym (ap work_of idle.update) in
      let rests : (k : ℕ) → HoldsPlain g spent_view k → ⊥ = λ k holds. rests_reaching g spent_view k refl holds in
      record {
        plain_tree = plain;
        trees = tree_moved g vs j u spent_view of now plain (record { update = same; locked = λ k locked here. absurd (omega (arith, locked)) }) before.trees;
        searches =
            searches_moved g vs j u spent_view of now plain (same_undone g vs j u spent_view of now plain same).passes
            (λ t beside. same_waits g vs j u spent_view of now plain same t)
            (rests_search g (set vs j spent_view) now plain spent_view refl refl) before.searches;
        reach = lists_moved z g vs j u spent_view of
            (record {
              mine = λ k holds. absurd (rests k holds);
              free = λ t beside right k holds. omega arith;
              own = λ k holds. absurd (rests k holds);
              same = λ k holds. absurd (rests k holds);
              kept = λ raised k holds. absurd (rests k holds);
              lets = λ t beside right k holds some. absurd (omega (arith, some));
            }) before.reach;
      }

  -- a view takes in what another one owns, of which nothing waits, or is outside of a section
  module _ (vs : List View) (i j : ℕ) (v u : View) (at : IsItem vs i v) (of : IsItem vs j u) (before : SearchesAfter z g vs now) where
    abbrev w : View
    w = joined_with v u

    mine : ReachesRight z g vs v
    mine = at_item (ReachesRight z g vs) vs i v at before.reach

    only : OnlyLists v w
    only = record { update = refl; held = refl; reading = refl; number = refl; word = refl }

    back : (k : ℕ) → HoldsPlain g w k → HoldsPlain g v k
    back = same_holds z g vs now i v w at only

    no_more : (t : View) → ReachesRight z g vs t → (k : ℕ) → HoldsPlain g t k → own_free nodes_of k w ≤ own_free nodes_of k v
    no_more t right k holds = omega (arith, count-append k v.free.nodes u.free.nodes, one_term (own_free nodes_of k) vs j u of, right.unheld k holds)

    none_comes : (has_none_waiting u ≡ true) ⊎ (is_even v.section_word ≡ true) → v.update.raised ≡ None → (k : ℕ) → HoldsPlain g v k
        → count k w.retired.nodes ≡ 0
    none_comes (inr even) raised k holds = absurd (rests_reaching g v k even holds)
    none_comes (inl bare) raised k holds =
        let parts = and_parts (is_empty u.retired) (is_empty u.batch) bare in
        let nodes : (s : Slots) → is_empty s ≡ true → count k s.nodes ≡ 0
        = λ s empty. ap (count k) (length_empty s.nodes (and_parts (eqb (length s.nodes) 0) (eqb (length s.entries) 0) empty).0) in
        omega (
          arith,
          mine.own raised k holds,
          nodes u.retired parts.0,
          nodes u.batch parts.1,
          count-append k u.retired.nodes u.batch.nodes,
          count-append k v.retired.nodes (u.retired.nodes ++ u.batch.nodes),
        )

    pub joined_after : (has_none_waiting u ≡ true) ⊎ (is_even v.section_word ≡ true) → SearchesAfter z g (set vs i w) now
    joined_after waits = lists_after z g vs now i v w at only (record {
      mine = λ k holds. no_more v mine k (back k holds);
      free = λ t beside right k holds. no_more t right k holds;
      own = λ k holds. (back k holds, mine.apart k (back k holds));
      same = λ k holds. (refl, refl);
      kept = λ raised k holds. none_comes waits raised k (back k holds);
      lets = λ t beside right k holds some.
          at_item (λ (x : View). (y : ℕ) → HoldsPlain g t y → 0 < count y x.batch.nodes → has_let x.grace t.number t.section_word ≡ false) vs i
          v at right.grace k holds some;
    }) before

module _ (z : Layout) (words : List ℕ) (vs : List View) (right : InRule z words vs) (i : ℕ) (v : View) (at : IsItem vs i v) (live : v.joined ≡ false) (n : ℕ)
    (w : Word) (found : word_at z n ≡ Some w) (value : ℕ) where
  join_by : (o : Option View) → slice_get vs value ≡ o → (value ≡ i → ⊥) → may_join_found v o ≡ true
      → SearchesAfter z (plain_graph (memory z words)) (join_found vs i v value o) right.meaning.tree
  join_by None is other met = absurd (never met)
  join_by (Some u) is other met =
      let g : Graph = plain_graph (memory z words) in
      let of = item_from_get vs value u is in
      let can = can_join z words vs right i v at live n w found value u of met in
      let one : SearchesAfter z g (set vs i (joined_with v u)) right.meaning.tree
      = joined_after z g right.meaning.tree vs i value v u
      at of (record { plain_tree = right.plain_tree; trees = right.trees; searches = right.searches; reach = right.reach }) can.waits in
      spent_after z g right.meaning.tree (set vs i (joined_with v u)) value u (beside_item vs i value u (joined_with v u) of other) can.idle one

pub join_searches : KeepsSearchesAt JoinSeat
join_searches z words vs right i v at live n w found value o own met =
    let one = and_parts (is_stamp w && not (eqb value i)) (may_join_found v (slice_get vs value)) met in
    let two = and_parts (is_stamp w) (not (eqb value i)) one.0 in
    join_by z words vs right i v at live n w found value (slice_get vs value) refl (not_equal value i two.1) one.1
