-- Each step of an update apart from its raise: that it may be made, what it leaves in the view, and that what is kept
-- at run time still is what the view says.
use Rattle.std.proofs.Common.{◌≡◌, ℕ, ◌+◌, ◌<◌, ◌≤◌, List, [], ◌∷◌, length, cond, Bool, true, false, eqb, ltb, leb, ◌&&◌, arith, refl, ap, ◌∙◌, sym, subst, Option, Some}
use Rattle.std.specs.Prelude.{IfSome}
use Rattle.std.proofs.lemmas.Bool.Decides.{nat_tests}
use Rattle.index_words.specs.declared.layout.Layout.{Layout}
use Rattle.index_words.specs.declared.side.Side.{Side}
use Rattle.index_words.specs.declared.view.View.{View}
use Rattle.index_words.specs.declared.view.history.SeenHistory.{SeenHistory}
use Rattle.index_words.specs.declared.view.slots.Slots.{Slots}
use Rattle.index_words.specs.declared.view.update.HeldNode.{HeldNode}
use Rattle.index_words.specs.declared.view.update.Updating.{Updating}
use Rattle.index_words.specs.declared.word.Field.{Field}
use Rattle.index_words.specs.declared.word.Field.TheVariants.{Lock, Mark, Head}
use Rattle.index_words.specs.declared.word.Part.TheVariants.{Stamp as Number}
use Rattle.index_words.specs.declared.word.Word.TheVariants.{Node, Entry}
use Rattle.index_words.specs.Views.{no_update}
use Rattle.index_words.specs.Words.{is_there}
use Rattle.key_map.specs.Lists.{count}
use Rattle.core_grace.specs.Holds.{held_slots}
use Rattle.core_events.specs.declared.event.Event.{Event}
use Rattle.core_events.specs.declared.event.Kind.TheVariants.{Prepare, Finalise, Unlock, Mark as MarkNode}
use Rattle.core_events.specs.LockMoves.{unlocked_view, with_mark, other_nodes, update_until}
use Rattle.core_events.specs.UpdateMoves.{finalised, prepared, without}
use Rattle.core_events.specs.UpdateNeeds.{held_at}
use Rattle.core_invariant.specs.Readers.{IsLocked}
use Rattle.core_invariant.proofs.KeptViews.{SeatPart, part_of}
use Rattle.core_laws.specs.ViewNeeds.{event_at, May, MayPrepare, MayFinalise, MayUnlock, MayMark}
use Rattle.core_laws.proofs.ViewNeeds.{may_prepare_law, may_finalise_law, may_unlock_law, may_mark_law}
use Rattle.pass_slots.specs.Owned.{KeptSlots, KeepsSlots, HasRoomOf}
use Rattle.table_rule.specs.Homes.{Home, Sat, IsOf, Asks, IsLiveView}
use Rattle.table_rule.specs.Running.{Stored}
use Rattle.table_rule.proofs.Happens.{happened_view}
use Rattle.table_steps.specs.Kept.{Keeps}
use Rattle.table_steps.specs.Made.{KeepsOwn}
use Rattle.table_steps.specs.Updates.{raised_at}
use Rattle.table_steps.specs.declared.kept.Kept.{Kept}
use Rattle.table_steps.proofs.There.{locked_high, free_entry_once, pending_there}

-- a view with the same parts, and its own slots and its own update, is kept with these
pub keeps_worked : (v w : View) (k : Kept) (slots : KeptSlots) → Keeps v k → part_of w ≡ part_of v → KeepsSlots w slots → HasRoomOf k.slots slots
    → IfSome w.update.raised (λ at. at ≡ k.raised)
    → Keeps w (record { number = k.number; section_word = k.section_word; left = k.left; opened = k.opened; slots = slots; updates = k.updates; raised = k.raised })
keeps_worked v w k slots keeps same kept room raised = record {
  number = ap (λ (p : SeatPart). p.owner.number) same ∙ keeps.number;
  there = subst (λ (z : Layout). k.number < z.passes) (sym layout) keeps.there;
  few = subst (λ (z : Layout). z.passes ≤ 32) (sym layout) keeps.few;
  word = ap (λ (p : SeatPart). p.word) same ∙ keeps.word;
  left = ap (λ (p : SeatPart). p.history.left) same ∙ keeps.left;
  opened = ap (λ (p : SeatPart). p.opened) same ∙ keeps.opened;
  slots = kept;
  node_room = subst (λ (z : Layout). z.nodes ≤ slots.node_room) (sym layout) (subst (λ n. v.layout.nodes ≤ n) (sym room.nodes) keeps.node_room);
  entry_room = subst (λ (z : Layout). z.entries ≤ slots.entry_room) (sym layout) (subst (λ n. v.layout.entries ≤ n) (sym room.entries) keeps.entry_room);
  own = subst (λ (h : SeenHistory). KeepsOwn h k.updates) (sym (ap (λ (p : SeatPart). p.history) same)) keeps.own;
  raised = raised;
}
  where
    layout : w.layout ≡ v.layout
    layout = ap (λ (p : SeatPart). p.owner.layout) same

same_slots : (k : KeptSlots) → HasRoomOf k k
same_slots k = record { nodes = refl; entries = refl }

high_true : (a b : ℕ) → a ≤ b → leb a b ≡ true
high_true a b low = grind (arith, nat_tests)

pub within_true : (a b : ℕ) → 0 < a → a ≤ b → (ltb 0 a && leb a b) ≡ true
within_true a b some low = grind (arith, nat_tests)

found_step : (k : ℕ) (x h : HeldNode) (hs : List HeldNode) (b : Bool) → cond b (Some x) (held_at k hs) ≡ Some h → (held_at k hs ≡ Some h → 0 < count k (held_slots hs))
    → 0 < cond b 1 0 + count k (held_slots hs)
found_step k x h hs true found rest = omega arith
found_step k x h hs false found rest = omega (arith, rest found)

-- a node that was found among those that are locked
pub found_locked : (k : ℕ) (hs : List HeldNode) (h : HeldNode) → held_at k hs ≡ Some h → 0 < count k (held_slots hs)
found_locked k [] h found = cc
found_locked k (x ∷ hs) h found = found_step k x h hs (eqb x.node k) found (found_locked k hs h)

ended_raised : (place : ℕ) (hs : List HeldNode) (u : Updating) → IfSome u.raised (λ at. at ≡ place) → IfSome (update_until hs u).raised (λ at. at ≡ place)
ended_raised place hs u is = by_test (eqb (length hs) 0)
  where
    by_test : (b : Bool) → IfSome (cond b no_update u).raised (λ at. at ≡ place)
    by_test true = tt
    by_test false = is

module _ (home : Home) (s : Sat) (k : Kept) (keeps : Keeps s.view k) (of : IsOf home s) (live : IsLiveView s.view) where
  abbrev v : View
  v = s.view

  abbrev z : Layout
  z = home.layout

  node_there : (f : Field) (node : ℕ) → IsLocked v node → is_there z (Node f node) ≡ true
  node_there f node locked = high_true node z.nodes (subst (λ (y : Layout). node ≤ y.nodes) of.layout (locked_high v live node locked))

  -- prepare
  module _ (node : ℕ) (side : Side) (entry : ℕ) (may : MayPrepare v node side entry) where
    prepare_locked : IsLocked v node
    prepare_locked = found_locked node v.held.nodes may.node may.locked

    abbrev pub prepare_event : Event
    prepare_event = event_at z s.seat Prepare (Node (Head side) node) entry

    pub prepare_asks : Asks home s (Node (Head side) node) prepare_event
    prepare_asks = record { of = of; there = node_there (Head side) node prepare_locked; seat = refl; word = refl; may = may_prepare_law z v s.seat node side entry may }

    pub prepare_gives : (w : View) → Stored z prepare_event v w → w ≡ prepared v side node entry
    prepare_gives w h = happened_view z prepare_event v w h.0 (Node (Head side) node) (node_there (Head side) node prepare_locked) refl tt h.1

    pub prepare_once : count entry k.slots.free.entries ≡ 1
    prepare_once = subst (λ (f : Slots). count entry f.entries ≡ 1) keeps.slots.free (free_entry_once v live entry may.free)

    pub prepare_keeps : (w : View) (slots : KeptSlots) → Stored z prepare_event v w → slots ≡ record k.slots { free = record k.slots.free { entries = without entry k.slots.free.entries } }
        → Keeps w (record { number = k.number; section_word = k.section_word; left = k.left; opened = k.opened; slots = slots; updates = k.updates; raised = k.raised })
    prepare_keeps w slots h slots_are =
        let u : View = prepared v side node entry in
        let kept : KeepsSlots u (record k.slots { free = record k.slots.free { entries = without entry k.slots.free.entries } }) = record {
          free = ap (λ (f : Slots). record { nodes = f.nodes; entries = without entry f.entries }) keeps.slots.free;
          batch = keeps.slots.batch;
          retired = keeps.slots.retired;
          looks = keeps.slots.looks;
        } in
        subst (λ (x : View). Keeps x (record { number = k.number; section_word = k.section_word; left = k.left; opened = k.opened; slots = slots; updates = k.updates; raised = k.raised })) (sym (prepare_gives w h))
        (keeps_worked v u k slots keeps refl (subst (KeepsSlots u) (sym slots_are) kept) (subst (HasRoomOf k.slots) (sym slots_are) (record { nodes = refl; entries = refl })) keeps.raised)

  -- finalise
  module _ (entry : ℕ) (may : MayFinalise v entry (raised_at v)) where
    entry_there : is_there z (Entry Number entry) ≡ true
    entry_there =
        let there = pending_there v live entry may.pending in
        within_true entry z.entries there.0 (subst (λ (y : Layout). entry ≤ y.entries) of.layout there.1)

    place_is : raised_at v ≡ k.raised
    place_is = subst (λ (o : Option ℕ). IfSome o (λ at. at ≡ k.raised)) may.raised keeps.raised

    abbrev pub finalise_event : Event
    finalise_event = event_at z s.seat Finalise (Entry Number entry) k.raised

    pub finalise_asks : Asks home s (Entry Number entry) finalise_event
    finalise_asks = record {
      of = of;
      there = entry_there;
      seat = refl;
      word = refl;
      may = subst (λ n. May z v (event_at z s.seat Finalise (Entry Number entry) n)) place_is (may_finalise_law z v s.seat entry (raised_at v) may);
    }

    pub finalise_stored : (w : View) → Stored z finalise_event v w → Stored z (event_at z s.seat Finalise (Entry Number entry) (raised_at v)) v w
    finalise_stored w h = subst (λ n. Stored z (event_at z s.seat Finalise (Entry Number entry) n) v w) (sym place_is) h

    pub finalise_gives : (w : View) → Stored z finalise_event v w → w ≡ finalised v entry
    finalise_gives w h = happened_view z finalise_event v w h.0 (Entry Number entry) entry_there refl tt h.1

    pub finalise_keeps : (w : View) → Stored z finalise_event v w → Keeps w k
    finalise_keeps w h =
        let u : View = finalised v entry in
        subst (λ (x : View). Keeps x k) (sym (finalise_gives w h))
        (keeps_worked v u k k.slots keeps refl (record { free = keeps.slots.free; batch = keeps.slots.batch; retired = keeps.slots.retired; looks = keeps.slots.looks }) (same_slots k.slots) keeps.raised)

  -- mark
  module _ (node : ℕ) (may : MayMark v node) where
    abbrev pub mark_event : Event
    mark_event = event_at z s.seat MarkNode (Node Mark node) 1

    pub mark_asks : Asks home s (Node Mark node) mark_event
    mark_asks = record { of = of; there = node_there Mark node may.locked; seat = refl; word = refl; may = may_mark_law z v s.seat node may }

    pub mark_gives : (w : View) → Stored z mark_event v w → w ≡ with_mark v node 1
    mark_gives w h = happened_view z mark_event v w h.0 (Node Mark node) (node_there Mark node may.locked) refl tt h.1

    pub mark_keeps : (w : View) → Stored z mark_event v w → Keeps w k
    mark_keeps w h =
        let u : View = with_mark v node 1 in
        subst (λ (x : View). Keeps x k) (sym (mark_gives w h))
        (keeps_worked v u k k.slots keeps refl (record { free = keeps.slots.free; batch = keeps.slots.batch; retired = keeps.slots.retired; looks = keeps.slots.looks }) (same_slots k.slots) keeps.raised)

  -- unlock
  module _ (node : ℕ) (may : MayUnlock v node) where
    abbrev pub unlock_event : Event
    unlock_event = event_at z s.seat Unlock (Node Lock node) 0

    pub unlock_asks : Asks home s (Node Lock node) unlock_event
    unlock_asks = record { of = of; there = node_there Lock node may.locked; seat = refl; word = refl; may = may_unlock_law z v s.seat node may }

    pub unlock_gives : (w : View) → Stored z unlock_event v w → w ≡ unlocked_view v node
    unlock_gives w h = happened_view z unlock_event v w h.0 (Node Lock node) (node_there Lock node may.locked) refl tt h.1

    pub unlock_keeps : (w : View) → Stored z unlock_event v w → Keeps w k
    unlock_keeps w h =
        let u : View = unlocked_view v node in
        subst (λ (x : View). Keeps x k) (sym (unlock_gives w h))
        (keeps_worked v u k k.slots keeps refl (record { free = keeps.slots.free; batch = keeps.slots.batch; retired = keeps.slots.retired; looks = keeps.slots.looks }) (same_slots k.slots)
        (ended_raised k.raised (other_nodes node v.held.nodes) v.update keeps.raised))
