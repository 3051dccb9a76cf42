-- The same after a raise: the search stands nowhere, and what is taken out was locked, so that it is in the plain tree.
use Rattle.std.proofs.Common.{◌≡◌, ℕ, ◌+◌, ◌<◌, List, true, set, slice_index, arith, refl, subst, inr, Option, Some, None}
use Rattle.std.proofs.lemmas.Bool.{and_parts}
use Rattle.index_words.specs.declared.layout.Layout.{Layout}
use Rattle.index_words.specs.declared.side.Side.{Side}
use Rattle.index_words.specs.declared.view.View.{View}
use Rattle.index_words.specs.declared.word.Field.TheVariants.{Mark, Tag}
use Rattle.index_words.specs.declared.word.Word.{Word}
use Rattle.index_words.specs.declared.word.Word.TheVariants.{Stamp, Node}
use Rattle.index_words.specs.Words.{Memory, memory, written, word_at}
use Rattle.index_words.proofs.Seats.{at_item}
use Rattle.index_words.proofs.Store.{word_there}
use Rattle.key_map.specs.declared.update.Update.{Update}
use Rattle.key_map.specs.Lists.{count, IsItem}
use Rattle.core_grace.specs.Batches.{is_number}
use Rattle.core_trees.specs.NamedTree.{NamedTree}
use Rattle.core_trees.specs.Slots.{occurs, one_at}
use Rattle.core_trees.specs.SpelledTree.{Graph}
use Rattle.core_events.specs.declared.event.Kind.TheVariants.{Raise}
use Rattle.core_events.specs.declared.tree_move.TreeMove.{TreeMove}
use Rattle.core_events.specs.LoadMoves.{longest}
use Rattle.core_events.specs.SpelledNow.{tree_now}
use Rattle.core_events.specs.Steps.{is_own_update, views_after}
use Rattle.core_events.specs.TreeMoves.{tree_after, new_slot, tree_move, is_tree_step}
use Rattle.core_events.specs.UpdateMoves.{raised_view}
use Rattle.core_events.specs.UpdateNeeds.{may_raise, may_raise_number}
use Rattle.core_events.proofs.Tests.{never}
use Rattle.core_invariant.specs.PlainTree.{SeatInTree}
use Rattle.core_invariant.specs.Reached.{plain_graph}
use Rattle.core_invariant.specs.Rule.{InRule}
use Rattle.core_invariant.proofs.Needed.{CanRaise, can_raise}
use Rattle.core_invariant.proofs.TreeSteps.{count_sum}
use Rattle.core_kept.specs.TurnLaws.{TurnsAfter, KeepsTurnsAt}
use Rattle.core_kept.proofs.TreeMoved.{MovesTree}
use Rattle.core_kept.proofs.TreeNeeds.{moves_tree}
use Rattle.core_kept.proofs.TurnFrames.{none_kept, turns_before, with_tree, stored_turns}

module _ (z : Layout) (words : List ℕ) (vs : List View) (right : InRule z words vs) (i : ℕ) (v : View) (at : IsItem vs i v) (n : ℕ) (value : ℕ) where
  abbrev m : Memory
  m = memory z words

  abbrev gr0 : Graph
  gr0 = plain_graph m

  abbrev marks : ℕ → ℕ
  marks k = m (Node Mark k)

  abbrev tags : Side → ℕ → ℕ
  tags side k = m (Node (Tag side) k)

  -- what is taken out is in the tree at the stamp, and locked
  taken_there : (u : Update) (move : TreeMove) (tree : NamedTree) → MovesTree m right.meaning v u move tree → (k : ℕ) → 0 < count k move.taken
      → 0 < occurs k right.plain_tree
  taken_there u move tree moves k taken =
      (at_item (SeatInTree gr0 right.plain_tree right.meaning.tree) vs i v at right.trees.seats).locked k (moves.locked k taken)
      (omega (arith, taken, count_sum k move.taken, (moves.slots (one_at k)).1))

  raised_turns : (u : Update) (move : TreeMove) (tree : NamedTree) → MovesTree m right.meaning v u move tree
      → TurnsAfter z (written m Stamp (m Stamp + 1)) (set vs i (raised_view (longest vs) v (m Stamp) u move))
  raised_turns u move tree moves =
      let x : View = raised_view (longest vs) v (m Stamp) u move in
      with_tree z words vs right marks tags (set vs i x)
      (none_kept z gr0 marks tags right.plain_tree vs i v x at (turns_before z words vs right)
      (record { left = refl; right = refl; place = refl; links = refl })
      (λ k taken. inr (taken_there u move tree moves k taken)))

  raise_stored : (u : Update) → word_at z n ≡ Some Stamp → is_number u.client v.number ≡ true → may_raise z m vs v Stamp value (Some u) ≡ true
      → TurnsAfter z (memory z (set words n (slice_index words n + 1))) (set vs i (raised_view (longest vs) v (m Stamp) u (tree_move z m vs v u)))
  raise_stored u is own met =
      let place : 0 ≡ n = (word_there z n Stamp is).1 in
      let one = and_parts (may_raise_number v Stamp value) (is_tree_step z m vs v u) met in
      let can : CanRaise v u = can_raise v Stamp value u one.0 own in
      let now = tree_now z m vs in
      subst (λ k. TurnsAfter z (memory z (set words n (slice_index words k + 1)))
      (set vs i (raised_view (longest vs) v (m Stamp) u (tree_move z m vs v u)))) place
      (stored_turns z words vs right n Stamp is (m Stamp + 1) (set vs i (raised_view (longest vs) v (m Stamp) u (tree_move z m vs v u)))
      (raised_turns u (tree_move z m vs v u) (tree_after u.change (new_slot m vs v u.key now) u.key now)
      (moves_tree z m vs right.meaning right.rule i v at u can.raised can.left one.1)))

  raise_at : (w : Word) (o : Option Update) → word_at z n ≡ Some w → is_own_update v o ≡ true → may_raise z m vs v w value o ≡ true
      → TurnsAfter z (memory z (set words n (slice_index words n + 1))) (views_after Raise z m vs i v w value o)
  raise_at Stamp (Some u) is own met = raise_stored u is own met
  raise_at Stamp None is own met = absurd (never own)
  raise_at _ o is own met = absurd (never met)

pub raise_turns : KeepsTurnsAt Raise
raise_turns z words vs right i v at live n w found value o own met = raise_at z words vs right i v at n value w o found own met
