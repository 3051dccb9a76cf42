-- An event of an update that is allowed keeps the rule.
use Rattle.std.proofs.Common.{◌≡◌, ℕ, ◌+◌, List, true, false, ◌&&◌, set, refl, subst, slice_index, Option, Some, None}
use Rattle.std.proofs.lemmas.Bool.{and_parts}
use Rattle.index_words.specs.declared.layout.Layout.{Layout}
use Rattle.key_map.specs.declared.update.Update.{Update}
use Rattle.index_words.specs.declared.view.View.{View}
use Rattle.index_words.specs.declared.word.Field.{Field}
use Rattle.index_words.specs.declared.word.Field.TheVariants.{Head}
use Rattle.index_words.specs.declared.word.Part.TheVariants.{Stamp as Number}
use Rattle.index_words.specs.declared.word.Word.{Word}
use Rattle.index_words.specs.declared.word.Word.TheVariants.{Stamp, Node, Entry}
use Rattle.index_words.specs.Words.{Memory, memory, written, word_at}
use Rattle.key_map.specs.Lists.{has, IsItem}
use Rattle.key_map.proofs.Counting.{has-count}
use Rattle.index_words.proofs.Store.{word_there}
use Rattle.core_grace.specs.Batches.{is_number}
use Rattle.core_events.specs.declared.event.Kind.TheVariants.{Prepare, Raise, Finalise}
use Rattle.core_events.specs.LoadNeeds.{is_part}
use Rattle.core_events.specs.UpdateNeeds.{may_prepare_head, may_prepare, may_raise_number, may_raise, may_finalise}
use Rattle.core_events.specs.LoadMoves.{longest}
use Rattle.core_events.specs.UpdateMoves.{prepared, raised_view, finalised}
use Rattle.core_events.specs.SpelledNow.{tree_now}
use Rattle.core_events.specs.TreeMoves.{tree_after, new_slot, tree_move, is_tree_step}
use Rattle.core_invariant.specs.Rule.{InRule}
use Rattle.core_events.specs.Steps.{is_own_update, views_after}
use Rattle.core_invariant.proofs.OneView.{seat_at}
use Rattle.core_invariant.proofs.Passing.{longest_is}
use Rattle.core_kept.proofs.PrepareSeats.{prepare_kept}
use Rattle.core_kept.proofs.TreeNeeds.{moves_tree}
use Rattle.core_kept.proofs.Raise.{raise_kept}
use Rattle.core_kept.proofs.Finalise.{finalise_kept}
use Rattle.core_events.proofs.Tests.{never, number_of_is}
use Rattle.core_invariant.proofs.Needed.{ready_is, can_raise}
use Rattle.core_invariant.specs.KeptRule.{After, KeepsRuleAt}
use Rattle.core_invariant.proofs.KeptViews.{kept_same, store_right}
use Rattle.core_kept.proofs.PlainKept.{quiet_work, plain_quiet}

module _ (z : Layout) (words : List ℕ) (vs : List View) (right : InRule z words vs) (i : ℕ) (v : View) (at : IsItem vs i v) (live : v.joined ≡ false) (n : ℕ)
    (w : Word) (found : word_at z n ≡ Some w) (value : ℕ) where
  abbrev m : Memory
  m = memory z words

  abbrev Gives : List ℕ → List View → Type 0
  Gives = After z words vs right

  prepare_at_found : (f : Field) (k : ℕ) → word_at z n ≡ Some (Node f k) → may_prepare_head m v f k value ≡ true
      → Gives (set words n value) (views_after Prepare z m vs i v (Node f k) value None)
  prepare_at_found (Head side) k is met =
      store_right z words vs n value (Node (Head side) k) right (set vs i (prepared v side k value)) is
      (prepare_kept z m vs right.meaning right.rule i k value side v at
      (ready_is z m right.meaning v side k value (seat_at z m vs right.meaning i v at right.rule) met))
  prepare_at_found _ k is met = absurd (never met)

  pub prepare_found : (u : Word) → word_at z n ≡ Some u → may_prepare m v u value ≡ true
      → Gives (set words n value) (views_after Prepare z m vs i v u value None)
  prepare_found (Node f k) is met = prepare_at_found f k is met
  prepare_found _ is met = absurd (never met)

  pub finalise_found : (u : Word) → word_at z n ≡ Some u → may_finalise v u value ≡ true
      → Gives (set words n value) (views_after Finalise z m vs i v u value None)
  finalise_found (Entry Number e) is met =
      let one = and_parts (is_part Number Number && has e v.update.pending) (is_number value v.update.raised) met in
      let two = and_parts (is_part Number Number) (has e v.update.pending) one.0 in
      store_right z words vs n value (Entry Number e) right (set vs i (finalised v e)) is
      (kept_same z m vs right.meaning (written m (Entry Number e) value) (set vs i (finalised v e))
      (finalise_kept z m vs right.meaning right.rule i e value v at (number_of_is value v.update.raised one.1) (has-count e v.update.pending two.1))
      (plain_quiet m right.meaning vs i v (finalised v e) at (quiet_work v (finalised v e) refl refl refl refl)))
  finalise_found _ is met = absurd (never met)

  raise_stored : (u : Update) → word_at z n ≡ Some Stamp → is_number u.client v.number ≡ true → may_raise z m vs v Stamp value (Some u) ≡ true
      → Gives (set words n (slice_index words n + 1)) (set vs i (raised_view (longest vs) v (m Stamp) u (tree_move z m vs v u)))
  raise_stored u is own met =
      let place : 0 ≡ n = (word_there z n Stamp is).1 in
      let one = and_parts (may_raise_number v Stamp value) (is_tree_step z m vs v u) met in
      let can = can_raise v Stamp value u one.0 own in
      let now = tree_now z m vs in
      subst (λ k. Gives (set words n (slice_index words k + 1)) (set vs i (raised_view (longest vs) v (m Stamp) u (tree_move z m vs v u)))) place
      (store_right z words vs n (m Stamp + 1) Stamp right (set vs i (raised_view (longest vs) v (m Stamp) u (tree_move z m vs v u))) is
      (raise_kept z m vs right.meaning right.rule i v u (longest vs) (tree_move z m vs v u) (tree_after u.change (new_slot m vs v u.key now) u.key now) at can
      (longest_is z m vs right.meaning right.rule) (moves_tree z m vs right.meaning right.rule i v at u can.raised can.left one.1)))

  pub raise_found : (u : Word) (o : Option Update) → word_at z n ≡ Some u → is_own_update v o ≡ true → may_raise z m vs v u value o ≡ true
      → Gives (set words n (slice_index words n + 1)) (views_after Raise z m vs i v u value o)
  raise_found Stamp (Some u) is own met = raise_stored u is own met
  raise_found Stamp None is own met = absurd (never own)
  raise_found _ o is own met = absurd (never met)

pub prepare_law : KeepsRuleAt Prepare
prepare_law z words vs right i v at live n w found value o own met = prepare_found z words vs right i v at live n w found value w found met

pub raise_law : KeepsRuleAt Raise
raise_law z words vs right i v at live n w found value o own met = raise_found z words vs right i v at live n w found value w o found own met

pub finalise_law : KeepsRuleAt Finalise
finalise_law z words vs right i v at live n w found value o own met = finalise_found z words vs right i v at live n w found value w found met
