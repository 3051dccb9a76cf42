-- The slots that a view never used hold 0, after every event: none but a fill stores to a word of a free slot, and a
-- fill to one of the seat's own, which is used from then on.
use Rattle.std.proofs.Common.{◌≡◌, ◌≢◌, ℕ, ◌<◌, cond, List, [], ◌∷◌, ◌++◌, Bool, true, false, not, set, arith, refl, ◌∙◌, sym, subst, Option, Some, None}
use Rattle.core_events.specs.Waits.{has_no_lock, looked_waiting}
use Rattle.std.specs.List.{All, slice_get}
use Rattle.std.proofs.lemmas.Bool.{and_parts}
use Rattle.std.proofs.lemmas.List.Elements.{All-set, All-push}
use Rattle.index_words.specs.declared.layout.Layout.{Layout}
use Rattle.key_map.specs.declared.update.Update.{Update}
use Rattle.index_words.specs.declared.view.View.{View}
use Rattle.index_words.specs.declared.word.Field.{Field}
use Rattle.index_words.specs.declared.word.Field.TheVariants.{Head}
use Rattle.index_words.specs.declared.word.Word.{Word}
use Rattle.index_words.specs.declared.word.Word.TheVariants.{Stamp, Section, Announced, Node, Entry}
use Rattle.index_words.specs.Words.{Memory, memory, written, word_at}
use Rattle.index_words.specs.Views.{spent_view}
use Rattle.key_map.specs.Lists.{count, has, IsItem}
use Rattle.key_map.proofs.Counting.{has-count}
use Rattle.index_words.proofs.Seats.{Beside, at_item, all_moved, two_terms}
use Rattle.index_words.proofs.Store.{stored_at}
use Rattle.core_grace.specs.Batches.{batch_taken, all_passed, is_empty, looked_at, looked}
use Rattle.core_grace.specs.Slots.{own, nodes_of, entries_in}
use Rattle.core_grace.specs.Sections.{is_even}
use Rattle.core_events.specs.declared.event.Kind.{Kind}
use Rattle.core_events.specs.declared.event.Kind.TheVariants.{MakeSeat, SplitSeat, JoinSeat, Enter, LookSec, Fill, Prepare, Raise}
use Rattle.core_events.specs.FillMoves.{filled_view, filled_with, with_filled, known_before, used_slots, used_view}
use Rattle.core_events.specs.TreeMoves.{tree_move}
use Rattle.core_events.specs.declared.tree_move.TreeMove.{TreeMove}
use Rattle.core_grace.specs.Holds.{listed}
use Rattle.core_events.specs.Moves.{in_section, entered, left, split_left, split_right, joined_with}
use Rattle.core_events.specs.Needs.{is_lock, may_fill}
use Rattle.core_events.specs.Steps.{needs, view_after, views_after, words_after, join_found, look_from, prepared_at, prepared_from, raised_from}
use Rattle.core_events.specs.UpdateMoves.{without, without_all}
use Rattle.core_events.proofs.Tests.{never}
use Rattle.core_invariant.specs.Meanings.{Meaning}
use Rattle.core_invariant.specs.Rule.{InRule}
use Rattle.core_invariant.specs.UnusedSlots.{IsFreeWord, IsUnusedWord, UnusedRight}
use Rattle.core_invariant.proofs.Filled.{node_other, entry_other}
use Rattle.core_invariant.proofs.OneView.{set_same}
use Rattle.core_invariant.proofs.Owned.{once_node, once_entry}
use Rattle.core_invariant.proofs.Passing.{count-without_same, count-without-le}
use Rattle.core_kept.proofs.TwoViews.{count-take-drop}
use Rattle.core_kept.proofs.FreeWords.{LessOf, apart_kept, both_less, none_less, fewer_less, less_right, taken_less, settled_less, Apart, written_apart, Leaves, leaves}
use Rattle.core_invariant.proofs.Footprints.{Parts, Spares, quiet_part}
use Rattle.core_invariant.proofs.Groups.Group.{Free, Unused}

module _ (z : Layout) (words : List ℕ) (vs : List View) (right : InRule z words vs) (i : ℕ) (v : View) (at : IsItem vs i v) (n : ℕ) (w : Word)
    (found : word_at z n ≡ Some w) (value : ℕ) where
  abbrev m : Memory
  m = memory z words

  abbrev g : Meaning
  g = right.meaning

  own_right : UnusedRight m v
  own_right = at_item (UnusedRight m) vs i v at right.unused

  all_left : (m' : Memory) → Leaves z words vs right i v at n w found value m' → All (UnusedRight m') vs
  all_left m' left =
      subst (All (UnusedRight m')) (set_same vs i v at)
      (all_moved (UnusedRight m) (UnusedRight m') vs i v v at right.unused (λ y is yet. left i v y at is ∙ own_right y is yet)
      (λ u beside old y is yet. left beside.place u y beside.at is ∙ old y is yet))

  left_after : (kind : Kind) (o : Option Update) → kind ≢ Fill → needs kind z m vs i v w value o ≡ true
      → All (UnusedRight (memory z (words_after kind words n value))) vs
  left_after kind o other met = all_left (memory z (words_after kind words n value)) (leaves z words vs right i v at n w found value kind o other met)

  -- the views after a kind that changes one view alone
  abbrev Less : View → Type 0
  Less u = LessOf v.free v.unused u.free u.unused

  same : Less v
  same y is yet = (is, yet)

  looked_less : (pass x : ℕ) → Less (looked z.passes v pass x)
  looked_less pass x =
      λ y is yet.
      let taken : View = batch_taken v in
      let u : View = record taken { grace = looked_at taken.grace pass x } in
      let old = settled_less (all_passed z.passes u.number u.grace.passed) u y is yet in
      taken_less (is_empty v.batch) v y old.0 old.1

  look_by : (pass x : ℕ) (b : Bool) → Less (cond b (looked z.passes v pass x) (looked_waiting v pass x))
  look_by pass x true = looked_less pass x
  look_by pass x false = same

  look_less : (u : Word) (x : ℕ) → Less (look_from z v u x)
  look_less (Section pass) x = look_by pass x (has_no_lock v)
  look_less _ x = same

  enter_less : Less (entered z.passes v value)
  enter_less y is yet =
      let u : View = in_section v value in
      let taken : View = batch_taken u in
      let old = settled_less (all_passed z.passes taken.number taken.grace.passed) taken y is yet in
      taken_less (is_empty u.batch) u y old.0 old.1

  prepare_at_less : (f : Field) (k e : ℕ) → Less (prepared_at v f k e)
  prepare_at_less (Head side) k e =
      fewer_less v.free v.unused (record v.free { entries = without e v.free.entries }) (λ j some. some)
      (λ d some. omega (arith, some, count-without-le d e v.free.entries))
  prepare_at_less _ k e = same

  prepare_less : (u : Word) (e : ℕ) → Less (prepared_from v u e)
  prepare_less (Node f k) e = prepare_at_less f k e
  prepare_less _ e = same

  raise_less : (x : ℕ) (o : Option Update) → Less (raised_from z m vs v x o)
  raise_less x None = same
  raise_less x (Some u) =
      let move : TreeMove = tree_move z m vs v u in
      fewer_less v.free v.unused (record { nodes = without_all (listed move.added) v.free.nodes; entries = without_all move.entries v.free.entries })
      (λ k some. (apart_kept k (listed move.added) v.free.nodes some).1) (λ e some. (apart_kept e move.entries v.free.entries some).1)

  -- a fill: the stored slot is used, and every other free word stays
  fill_apart : (u : Word) → may_fill v u ≡ true → (x : View) → Beside vs i x → Apart x u
  fill_apart (Node f k) met x beside =
      λ other free.
      let mine = has-count k v.free.nodes (and_parts (not (is_lock f)) (has k v.free.nodes) met).1 in
      omega (arith, once_node z vs g right.rule.slots k, two_terms (own nodes_of k) vs i v x at beside, mine, free)
  fill_apart (Entry p e) met x beside =
      λ free.
      let mine = has-count e v.free.entries met in
      omega (arith, once_entry z vs g right.rule.slots e, two_terms (own entries_in e) vs i v x at beside, mine, free)
  fill_apart _ met x beside = tt

  fill_own : (u : Word) → may_fill v u ≡ true → (y : Word) → IsFreeWord v.free y → IsUnusedWord (used_slots u v.unused) y → written m u value y ≡ 0
  fill_own (Node f k) met (Node h l) is yet =
      node_other m f h k l value (λ same. omega (arith, subst (λ j. 0 < count j (without k v.unused.nodes)) same yet, count-without_same k v.unused.nodes))
      ∙ own_right (Node h l) is (omega (arith, yet, count-without-le l k v.unused.nodes))
  fill_own (Node f k) met (Entry q d) is yet = own_right (Entry q d) is yet
  fill_own (Entry p e) met (Node h l) is yet = own_right (Node h l) is yet
  fill_own (Entry p e) met (Entry q d) is yet =
      entry_other m p q e d value (λ same. omega (arith, subst (λ j. 0 < count j (without e v.unused.entries)) same yet, count-without_same e v.unused.entries))
      ∙ own_right (Entry q d) is (omega (arith, yet, count-without-le d e v.unused.entries))
  fill_own Stamp met y is yet = absurd (never met)
  fill_own (Section k) met y is yet = absurd (never met)
  fill_own (Announced k) met y is yet = absurd (never met)
  fill_own _ met _ is yet = absurd is

  filled_unused : may_fill v w ≡ true → All (UnusedRight (memory z (set words n value))) (set vs i (filled_view v w value))
  filled_unused met =
      subst (λ (m' : Memory). All (UnusedRight m') (set vs i (filled_view v w value))) (sym (stored_at z words n w value right.size found))
      (all_moved (UnusedRight m) (UnusedRight (written m w value)) vs i v (filled_view v w value) at right.unused (by (is_even v.section_word))
      (λ u beside old y is yet. written_apart m u value w (fill_apart w met u beside) y is ∙ old y is yet))
    where
      by : (b : Bool) → UnusedRight (written m w value) (cond b (used_view v w) (with_filled (used_view v w) (filled_with (known_before v w) w value)))
      by true y is yet = fill_own w met y is yet
      by false y is yet = fill_own w met y is yet

  -- seats
  moved : (m' : Memory) → All (UnusedRight m') vs → (u : View) → Less u → All (UnusedRight m') (set vs i u)
  moved m' all u less = All-set (UnusedRight m') vs i u (less_right m' v u less (at_item (UnusedRight m') vs i v at all)) all

  -- a kind that touches neither the free slots nor those that were never used
  quiet : (kind : Kind) (o : Option Update) → kind ≢ Fill → Spares kind (Free ∷ Unused ∷ []) → needs kind z m vs i v w value o ≡ true
      → All (UnusedRight (memory z (words_after kind words n value))) (set vs i (view_after kind z m vs v w (m w) value o))
  quiet kind o other off met =
      let m' : Memory = memory z (words_after kind words n value) in
      let all : All (UnusedRight m') vs = left_after kind o other met in
      All-set (UnusedRight m') vs i (view_after kind z m vs v w (m w) value o)
      (quiet_part z m vs v (m w) value o kind w (Free ∷ Unused ∷ [])
      (λ (p : Parts (Free ∷ Unused ∷ [])). (y : Word) → IsFreeWord p.0 y → IsUnusedWord p.1.0 y → m' y ≡ 0) off (at_item (UnusedRight m') vs i v at all)) all

  joined_by : (o : Option View) → slice_get vs value ≡ o → All (UnusedRight m) (join_found vs i v value o)
  joined_by None is = right.unused
  joined_by (Some u) is =
      All-set (UnusedRight m) (set vs i (joined_with v u)) value spent_view (less_right m v spent_view (none_less v.free v.unused spent_view.free) own_right)
      (moved m right.unused (joined_with v u) (both_less v.free v.unused u.free))

  split_unused : All (UnusedRight m) (set vs i (split_left v value) ++ split_right v value ∷ [])
  split_unused =
      All-push (UnusedRight m) (set vs i (split_left v value)) (split_right v value)
      (moved m right.unused (split_left v value)
      (fewer_less v.free v.unused (split_left v value).free (λ k some. omega (arith, some, count-take-drop k value v.free.nodes)) (λ e some. some)))
      (less_right m v (split_right v value) (none_less v.free v.unused (split_right v value).free) own_right)

  -- what each view never used holds 0 after an event whose needs are met
  pub unused_after : (kind : Kind) (o : Option Update) → needs kind z m vs i v w value o ≡ true
      → All (UnusedRight (memory z (words_after kind words n value))) (views_after kind z m vs i v w value o)
  unused_after MakeSeat o met = right.unused
  unused_after SplitSeat o met = split_unused
  unused_after JoinSeat o met = joined_by (slice_get vs value) refl
  unused_after Fill o met = filled_unused met
  unused_after Enter o met = moved _ (left_after Enter o (λ is. cc) met) (entered z.passes v value) enter_less
  unused_after LookSec o met = moved m right.unused (look_from z v w (m w)) (look_less w (m w))
  unused_after Prepare o met = moved _ (left_after Prepare o (λ is. cc) met) _ (prepare_less w value)
  unused_after Raise o met = moved _ (left_after Raise o (λ is. cc) met) _ (raise_less (m w) o)
  unused_after kind o met = quiet kind o (λ is. cc) (refl, (refl, tt)) met
