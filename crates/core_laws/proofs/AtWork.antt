-- What a view at work has: it was not joined away, its words are in the table, and nothing of it is pending where it
-- may leave.
use Rattle.std.proofs.Common.{◌≡◌, ℕ, zero, suc, ◌<◌, ◌≤◌, ◌⊎◌, List, [], length, true, false, not, eqb, ◌&&◌, arith, refl, ap, ◌∙◌, sym, subst, inl, inr, Option, Some, None}
use Rattle.std.specs.Prelude.{IfSome}
use Rattle.std.specs.List.{slice_get, list_all}
use Rattle.std.proofs.lemmas.Bool.{eq-eqb}
use Rattle.index_words.specs.declared.layout.Layout.{Layout}
use Rattle.index_words.specs.declared.side.Side.TheVariants.{Right}
use Rattle.index_words.specs.declared.view.View.{View}
use Rattle.index_words.specs.declared.view.update.HeldNode.{HeldNode}
use Rattle.index_words.specs.declared.view.update.Updating.{Updating}
use Rattle.index_words.specs.declared.word.Field.{Field}
use Rattle.index_words.specs.declared.word.Field.TheVariants.{Mark, Link}
use Rattle.index_words.specs.declared.word.Word.{Word}
use Rattle.index_words.specs.declared.word.Word.TheVariants.{Section, Node}
use Rattle.index_words.specs.Views.{spent_view}
use Rattle.index_words.specs.Words.{Memory, memory, word_at, address, is_there}
use Rattle.index_words.proofs.Seats.{at_item}
use Rattle.key_map.specs.Lists.{count, Every, IsItem}
use Rattle.core_grace.specs.Slots.{own}
use Rattle.core_events.specs.declared.event.Kind.{Kind}
use Rattle.core_events.specs.Tables.{Table}
use Rattle.core_invariant.specs.Locks.{IsNodeAt, IsTakenOut}
use Rattle.core_invariant.specs.Readers.{IsLocked}
use Rattle.core_invariant.specs.Reached.{plain_graph, ReachesRight}
use Rattle.core_invariant.specs.Rule.{InRule}
use Rattle.core_invariant.specs.SeatRule.{SeatRight}
use Rattle.core_events.specs.Searches.{search_nodes}
use Rattle.core_events.specs.Needs.{is_marked_node, is_marked_out, is_successor, nothing_pending}
use Rattle.core_events.specs.Steps.{needs, allowed, allowed_at, carries}
use Rattle.core_laws.specs.ViewNeeds.{event_at, IsInside, IsKnownMarked, IsInReach, IsSearched}
use Rattle.core_invariant.proofs.OneView.{item_from_get, seat_at}
use Rattle.core_invariant.proofs.Frames.{every_map}
use Rattle.core_invariant.proofs.Idle.{number_low}
use Rattle.index_words.proofs.Store.{word_named}
use Rattle.core_laws.proofs.ViewTests.{some_searched, both, left_of, right_of, not_of, at_most, below, live_of, empty_length, all_tested, held_item, every_two}

module _ (z : Layout) (words : List ℕ) (vs : List View) (right : InRule z words vs) (i : ℕ) (v : View) (is : slice_get vs i ≡ Some v) where
  abbrev m : Memory
  m = memory z words

  abbrev t : Table
  t = record { layout = z; words = words; views = vs }

  at : IsItem vs i v
  at = item_from_get vs i v is

  seat : SeatRight z m right.meaning v
  seat = seat_at z m vs right.meaning i v at right.rule

  pub alive : (P : View → Type 0) → P v → (P spent_view → ⊥) → v.joined ≡ false
  alive P holds none = live_of z words vs i v P right at holds none

  pub inside_alive : IsInside v → v.joined ≡ false
  inside_alive inside = alive IsInside inside (λ none. cc)

  pub named_alive : (n : ℕ) → v.number ≡ Some n → v.joined ≡ false
  named_alive n own = alive (λ (x : View). x.number ≡ Some n) own (λ none. cc)

  pub locked_alive : (k : ℕ) → IsLocked v k → v.joined ≡ false
  locked_alive k locked = alive (λ x. IsLocked x k) locked (λ none. omega (arith, none))

  pub allowed_by : (kind : Kind) (w : Word) (value : ℕ) → v.joined ≡ false → is_there z w ≡ true → carries kind v None ≡ true → needs kind z m vs i v w value None ≡ true
      → allowed t (event_at z i kind w value) ≡ true
  allowed_by kind w value live there own met =
      ap (λ o. allowed_at t (event_at z i kind w value) o (word_at z (address z w))) is
      ∙ ap (allowed_at t (event_at z i kind w value) (Some v)) (word_named z w there)
      ∙ both (carries kind v None && not v.joined) (needs kind z m vs i v w value None) (both (carries kind v None) (not v.joined) own (not_of v.joined live)) met

  node_high : (k : ℕ) → IsInReach v k → k ≤ z.nodes
  node_high k (inl root) = omega (arith, root)
  node_high k (inr (inl tree)) = seat.version.there k tree
  node_high k (inr (inr locked)) = (seat.locks k locked).0

  pub reach_there : (f : Field) (k : ℕ) → IsInReach v k → is_there z (Node f k) ≡ true
  reach_there f k reach = at_most k z.nodes (node_high k reach)

  -- a node that was searched is one of the table
  search_high : (k : ℕ) → IsInside v → 0 < count k (search_nodes 0 v.reading) → k ≤ z.nodes
  search_high zero inside searched = omega arith
  search_high (suc k) inside searched =
      (at_item (ReachesRight z (plain_graph m) vs) vs i v at right.reach).there (suc k) (record {
        inside = inside;
        some = omega arith;
        from = suc k;
        searched = some_searched (suc k) (m (Node (Link Right) 0)) v.reading.place _ (omega arith) searched;
        reached = ([], refl);
      })

  pub searched_there : (f : Field) (k : ℕ) → IsInside v → IsSearched v k → is_there z (Node f k) ≡ true
  searched_there f k inside (inl root) = at_most k z.nodes (omega (arith, root))
  searched_there f k inside (inr searched) = at_most k z.nodes (search_high k inside searched)

  pub section_there : (n : ℕ) → n < v.layout.passes → v.joined ≡ false → is_there z (Section n) ≡ true
  section_there n low live = below n z.passes (subst (λ (y : Layout). n < y.passes) (seat.layout live) low)

  pub own_there : (n : ℕ) → v.number ≡ Some n → is_there z (Section n) ≡ true
  own_there n own = below n z.passes (number_low z vs i v n right.rule.numbers at own)

  -- nothing pending, where no lock is held
  pub nothing_by : v.held.nodes ≡ [] → nothing_pending m v ≡ true
  nothing_by none = ap (λ (u : Updating). eqb (length u.pending) 0 && list_all (is_marked_out m u) u.taken) (seat.section.done none)

  -- nor where what is pending is none, and each locked node that was taken out is marked
  taken_marked : Every (IsKnownMarked v.update) v.held.nodes → (k : ℕ) → 0 < count k v.update.taken → is_marked_out m v.update k ≡ true
  taken_marked marked k taken =
      elim (seat.marks.retired k (seat.marks.taken k taken)) as (λ _. is_marked_out m v.update k ≡ true) [
        | inl one ↦ left_of (is_marked_node m k) (is_successor k v.update.unlinking) (eq-eqb (m (Node Mark k)) 1 one)
        | inr out ↦ locked_marked out
      ]
    where
      Loaded : HeldNode → Type 0
      Loaded h = IfSome h.mark (λ x. m (Node Mark h.node) ≡ x)

      mark_is : (h : HeldNode) → Loaded h → h.mark ≡ Some 1 → m (Node Mark h.node) ≡ 1
      mark_is h loaded is = subst (λ (o : Option ℕ). IfSome o (λ x. m (Node Mark h.node) ≡ x)) is loaded

      one_marked : (h : HeldNode) → Loaded h → (h.mark ≡ Some 1) ⊎ (is_successor h.node v.update.unlinking ≡ true) → is_marked_out m v.update h.node ≡ true
      one_marked h loaded (inl known) =
          left_of (is_marked_node m h.node) (is_successor h.node v.update.unlinking) (eq-eqb (m (Node Mark h.node)) 1 (mark_is h loaded known))
      one_marked h loaded (inr successor) = right_of (is_marked_node m h.node) (is_successor h.node v.update.unlinking) successor

      locked_marked : IsTakenOut v k → is_marked_out m v.update k ≡ true
      locked_marked out =
          let held = held_item (λ (h : HeldNode). Loaded h × IsKnownMarked v.update h) k v.held.nodes
          (every_two Loaded (IsKnownMarked v.update) v.held.nodes loaded_marks marked) out.2 in
          subst (λ j. is_marked_out m v.update j ≡ true) held.same
          (one_marked held.item held.has_it.0 (held.has_it.1 (subst (λ j. 0 < count j v.update.taken) (sym held.same) taken)))
        where
          loaded_marks : Every Loaded v.held.nodes
          loaded_marks = every_map (IsNodeAt m) Loaded v.held.nodes (λ h known. known.mark) seat.loaded.nodes

  pub done_by : v.update.pending ≡ [] → Every (IsKnownMarked v.update) v.held.nodes → nothing_pending m v ≡ true
  done_by none marked =
      both (eqb (length v.update.pending) 0) (list_all (is_marked_out m v.update) v.update.taken) (empty_length v.update.pending none)
      (all_tested (is_marked_out m v.update) v.update.taken (taken_marked marked))
