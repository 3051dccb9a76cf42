-- Each step of a section: that it may be made, what it leaves in the view, and that what is kept at run time still is
-- what the view says.
use Rattle.std.proofs.Common.{◌≡◌, ◌≢◌, ℕ, ◌+◌, ◌<◌, ◌≤◌, cond, List, length, eqb, Bool, true, false, ltb, ◌&&◌, arith, refl, ap, ◌∙◌, sym, subst, Option, Some, None}
use Rattle.std.proofs.lemmas.Bool.Decides.{nat_tests}
use Rattle.index_words.specs.declared.layout.Layout.{Layout}
use Rattle.index_words.specs.declared.view.View.{View}
use Rattle.index_words.specs.declared.view.history.SeenHistory.{SeenHistory}
use Rattle.index_words.specs.declared.word.Word.{Word}
use Rattle.index_words.specs.declared.word.Word.TheVariants.{Section}
use Rattle.index_words.specs.Words.{is_there}
use Rattle.core_grace.specs.Batches.{is_empty, looked}
use Rattle.core_grace.specs.Sections.{is_even, left_word}
use Rattle.core_events.specs.declared.event.Event.{Event}
use Rattle.core_events.specs.declared.event.Kind.TheVariants.{Enter, Leave, LookSec, Fill}
use Rattle.core_events.specs.FillMoves.{filled_view, filled_with, with_filled, known_before, used_view}
use Rattle.core_events.specs.Moves.{entered, left, in_section, nowhere}
use Rattle.core_events.specs.Waits.{has_no_lock, looked_by, looked_waiting}
use Rattle.core_laws.specs.ViewNeeds.{event_at, IsOutside, May, MayFill}
use Rattle.core_invariant.proofs.KeptViews.{SeatPart, part_of, entered_part}
use Rattle.core_laws.specs.Waits.{MayLeaveWaiting, MayLookWaiting}
use Rattle.core_laws.proofs.Waits.{may_leave_waiting_law, may_look_waiting_law}
use Rattle.core_laws.proofs.ViewNeeds.{may_enter_law, may_leave_law, may_look_law, may_fill_law}
use Rattle.pass_slots.specs.Owned.{KeptSlots, KeepsSlots, HasRoomOf}
use Rattle.table_rule.specs.Homes.{Home, Sat, IsOf, Asks}
use Rattle.table_rule.specs.Running.{Happened, Stored}
use Rattle.table_rule.proofs.Happens.{happened_view, happened_word}
use Rattle.std.specs.Prelude.{IfSome}
use Rattle.index_words.specs.declared.view.update.HeldNode.{HeldNode}
use Rattle.table_steps.specs.Kept.{Keeps}
use Rattle.table_steps.specs.Made.{KeepsOwn}
use Rattle.table_steps.specs.Passes.{Inside}
use Rattle.table_steps.specs.declared.kept.Kept.{Kept}
use Rattle.table_steps.proofs.Views.{Work, IsStill, work_still, entered_work, looked_work, looked_part, filled_part, filled_still}
use Rattle.core_grace.proofs.Parity.{odd_next, even_left}

pub still_raised : (v w : View) (k : Kept) → IsStill v w → Keeps v k → IfSome w.update.raised (λ at. at ≡ k.raised)
still_raised v w k still keeps = subst (λ (o : Option ℕ). IfSome o (λ at. at ≡ k.raised)) (sym still.raised) keeps.raised

-- a view with the same parts, and its own section word, open snapshot and slots, is kept with these
keeps_opened : (v w : View) (k : Kept) (word : ℕ) (opened : Option ℕ) (slots : KeptSlots) → Keeps v k → part_of w ≡ record (part_of v) { word = word; section = w.reading.section; opened = opened } → KeepsSlots w slots → HasRoomOf k.slots slots → IsStill v w
    → Keeps w (record { number = k.number; section_word = word; left = k.left; opened = opened; slots = slots; updates = k.updates; raised = k.raised })
keeps_opened v w k word opened slots keeps same kept room still = record {
  number = ap (λ (p : SeatPart). p.owner.number) same ∙ keeps.number;
  there = subst (λ (z : Layout). k.number < z.passes) (sym layout) keeps.there;
  few = subst (λ (z : Layout). z.passes ≤ 32) (sym layout) keeps.few;
  word = ap (λ (p : SeatPart). p.word) same;
  left = ap (λ (p : SeatPart). p.history.left) same ∙ keeps.left;
  opened = ap (λ (p : SeatPart). p.opened) same;
  slots = kept;
  node_room = subst (λ (z : Layout). z.nodes ≤ slots.node_room) (sym layout) (subst (λ n. v.layout.nodes ≤ n) (sym room.nodes) keeps.node_room);
  entry_room = subst (λ (z : Layout). z.entries ≤ slots.entry_room) (sym layout) (subst (λ n. v.layout.entries ≤ n) (sym room.entries) keeps.entry_room);
  own = subst (λ (h : SeenHistory). KeepsOwn h k.updates) (sym (ap (λ (p : SeatPart). p.history) same)) keeps.own;
  raised = still_raised v w k still keeps;
}
  where
    layout : w.layout ≡ v.layout
    layout = ap (λ (p : SeatPart). p.owner.layout) same

-- a view with the same parts and the same open snapshot, and its own section word and slots
pub keeps_moved : (v w : View) (k : Kept) (word : ℕ) (slots : KeptSlots) → Keeps v k → part_of w ≡ record (part_of v) { word = word; section = w.reading.section } → KeepsSlots w slots → HasRoomOf k.slots slots → IsStill v w
    → Keeps w (record { number = k.number; section_word = word; left = k.left; opened = k.opened; slots = slots; updates = k.updates; raised = k.raised })
keeps_moved v w k word slots keeps same kept room still =
    keeps_opened v w k word k.opened slots keeps (same ∙ ap (λ o. record (part_of v) { word = word; section = w.reading.section; opened = o }) keeps.opened) kept room still

-- a view whose own parts are unchanged
part_moved : (v w : View) (word : ℕ) → part_of w ≡ part_of v → v.section_word ≡ word → part_of w ≡ record (part_of v) { word = word; section = w.reading.section }
part_moved v w word same is =
    same ∙ ap (λ x. record (part_of v) { word = x }) is
    ∙ ap (λ x. record (part_of v) { word = word; section = x }) (sym (ap (λ (p : SeatPart). p.section) same))

filled_slots : (v : View) (w : Word) (value : ℕ) (k : KeptSlots) → KeepsSlots v k → KeepsSlots (filled_view v w value) k
filled_slots v w value k keeps = by_test (is_even v.section_word)
  where
    by_test : (b : Bool) → KeepsSlots (cond b (used_view v w) (with_filled (used_view v w) (filled_with (known_before v w) w value))) k
    by_test true = record { free = keeps.free; batch = keeps.batch; retired = keeps.retired; looks = keeps.looks }
    by_test false = record { free = keeps.free; batch = keeps.batch; retired = keeps.retired; looks = keeps.looks }

pub same_room : (k : KeptSlots) → HasRoomOf k k
same_room k = record { nodes = refl; entries = refl }

low_true : (a b : ℕ) → a < b → ltb a b ≡ true
low_true a b low = grind (arith, nat_tests)

module _ (home : Home) (s : Sat) (k : Kept) (keeps : Keeps s.view k) (of : IsOf home s) where
  abbrev v : View
  v = s.view

  abbrev z : Layout
  z = home.layout

  low : k.number < z.passes
  low = subst (λ (y : Layout). k.number < y.passes) of.layout keeps.there

  own_there : is_there z (Section k.number) ≡ true
  own_there = low_true k.number z.passes low

  -- enter
  abbrev pub enter_event : Event
  enter_event = event_at z s.seat Enter (Section k.number) (k.section_word + 1)

  pub enter_asks : IsOutside v → Asks home s (Section k.number) enter_event
  enter_asks outside = record {
    of = of;
    there = own_there;
    seat = refl;
    word = refl;
    may = subst (λ n. May z v (event_at z s.seat Enter (Section k.number) (n + 1))) keeps.word
        (may_enter_law z v s.seat k.number (record { own = keeps.number; outside = outside }));
  }

  pub enter_view : (w : View) → Stored z enter_event v w → w ≡ entered z.passes v (k.section_word + 1)
  enter_view w h = happened_view z enter_event v w h.0 (Section k.number) own_there refl tt h.1

  enter_part : (w : View) → Stored z enter_event v w → part_of w ≡ part_of (in_section v (k.section_word + 1))
  enter_part w h = ap part_of (enter_view w h) ∙ entered_part z.passes (k.section_word + 1) v

  pub enter_announced : (w : View) → Stored z enter_event v w → w.announced ≡ v.announced
  enter_announced w h = ap (λ (p : SeatPart). p.announced) (enter_part w h)

  pub enter_inside : IsOutside v → (w : View) → Stored z enter_event v w → Inside w
  enter_inside outside w h =
      let word : ℕ = k.section_word + 1 in
      let is = enter_view w h in
      record {
        odd = ap (λ (p : SeatPart). is_even p.word) (enter_part w h) ∙ odd_next k.section_word (subst (λ n. is_even n ≡ true) keeps.word outside.even);
        unlocked = ap (λ (u : View). u.held.nodes) is ∙ ap (λ (u : Work). u.held.nodes) (entered_work z.passes word v) ∙ outside.unlocked;
      }

  pub enter_keeps : (w : View) (slots : KeptSlots) → Stored z enter_event v w → ((u : View) → KeepsSlots u k.slots → u.number ≡ Some k.number → KeepsSlots (Rattle.core_grace.specs.Batches.settled z.passes (Rattle.core_grace.specs.Batches.batch_taken u)) slots) → HasRoomOf k.slots slots
      → Keeps w (record { number = k.number; section_word = k.section_word + 1; left = k.left; opened = k.opened; slots = slots; updates = k.updates; raised = k.raised })
  enter_keeps w slots h kept room =
      let word : ℕ = k.section_word + 1 in
      let inside : KeepsSlots (in_section v word) k.slots = record { free = keeps.slots.free; batch = keeps.slots.batch; retired = keeps.slots.retired; looks = keeps.slots.looks } in
      subst (λ (u : View). Keeps u (record { number = k.number; section_word = word; left = k.left; opened = k.opened; slots = slots; updates = k.updates; raised = k.raised })) (sym (enter_view w h))
      (keeps_moved v (entered z.passes v word) k word slots keeps
      (entered_part z.passes word v ∙ ap (λ (r : Work). record (part_of v) { word = word; section = r.reading.section }) (sym (entered_work z.passes word v)))
      (kept (in_section v word) inside keeps.number) room (work_still v (entered z.passes v word) (nowhere v.reading) (entered_work z.passes word v)))

  -- leave
  abbrev pub leave_event : Event
  leave_event = event_at z s.seat Leave (Section k.number) (left_word k.section_word)

  pub leave_asks : Inside v → Asks home s (Section k.number) leave_event
  leave_asks inside = record {
    of = of;
    there = own_there;
    seat = refl;
    word = refl;
    may = subst (λ n. May z v (event_at z s.seat Leave (Section k.number) (left_word n))) keeps.word
        (may_leave_law z v s.seat k.number (record { own = keeps.number; inside = inside.odd; unlocked = inside.unlocked }));
  }

  pub leave_view : (w : View) → Stored z leave_event v w → w ≡ left v (left_word k.section_word)
  leave_view w h = happened_view z leave_event v w h.0 (Section k.number) own_there refl tt h.1

  pub leave_outside : Inside v → (w : View) → Stored z leave_event v w → IsOutside w
  leave_outside inside w h =
      let is = leave_view w h in
      record {
        even = ap (λ (u : View). is_even u.section_word) is ∙ even_left k.section_word (subst (λ n. is_even n ≡ false) keeps.word inside.odd);
        unlocked = ap (λ (u : View). u.held.nodes) is ∙ inside.unlocked;
      }

  -- a view outside of its section
  left_kept : (word : ℕ) → Keeps (left v word) (record { number = k.number; section_word = word; left = k.left; opened = None; slots = k.slots; updates = k.updates; raised = k.raised })
  left_kept word =
      let kept : KeepsSlots (left v word) k.slots = record { free = keeps.slots.free; batch = keeps.slots.batch; retired = keeps.slots.retired; looks = keeps.slots.looks } in
      keeps_opened v (left v word) k word None k.slots keeps refl kept (same_room k.slots) (record { held = refl; raised = refl })

  pub leave_keeps : (w : View) → Stored z leave_event v w
      → Keeps w (record { number = k.number; section_word = left_word k.section_word; left = k.left; opened = None; slots = k.slots; updates = k.updates; raised = k.raised })
  leave_keeps w h =
      let word : ℕ = left_word k.section_word in
      subst (λ (u : View). Keeps u (record { number = k.number; section_word = word; left = k.left; opened = None; slots = k.slots; updates = k.updates; raised = k.raised })) (sym (leave_view w h)) (left_kept word)

  -- leave at the wait of a removal
  pub leave_waiting_asks : MayLeaveWaiting v k.number → Asks home s (Section k.number) leave_event
  leave_waiting_asks may = record {
    of = of;
    there = own_there;
    seat = refl;
    word = refl;
    may = subst (λ n. May z v (event_at z s.seat Leave (Section k.number) (left_word n))) keeps.word (may_leave_waiting_law z v s.seat k.number may);
  }

  pub leave_waiting_even : MayLeaveWaiting v k.number → (w : View) → Stored z leave_event v w → is_even w.section_word ≡ true
  leave_waiting_even may w h =
      ap (λ (u : View). is_even u.section_word) (leave_view w h) ∙ even_left k.section_word (subst (λ n. is_even n ≡ false) keeps.word may.inside)

  -- look
  module _ (other : ℕ) (there : other < v.layout.passes) where
    other_there : is_there z (Section other) ≡ true
    other_there = low_true other z.passes (subst (λ (y : Layout). other < y.passes) of.layout there)

    abbrev pub look_event : Event
    look_event = event_at z s.seat LookSec (Section other) 0

    pub look_asks : IsOutside v → other ≢ k.number → (is_empty v.batch && is_empty v.retired) ≡ false → Asks home s (Section other) look_event
    look_asks outside apart waiting = record {
      of = of;
      there = other_there;
      seat = refl;
      word = refl;
      may = may_look_law z v s.seat other (record {
        other = λ same. apart (sym (some_number k.number other (sym keeps.number ∙ same)));
        there = there;
        outside = outside;
        waiting = waiting;
      });
    }
      where
        some_number : (a b : ℕ) → Some a ≡ Some b → a ≡ b
        some_number a b is = cc

    looks : (w : View) (n : ℕ) → Happened z look_event v n w → w ≡ looked_by z.passes v other n
    looks w n h =
        happened_view z look_event v w n (Section other) other_there refl tt h
        ∙ ap (looked_by z.passes v other) (happened_word z look_event v w n (Section other) other_there refl tt h)

    by_locks : (n : ℕ) (b : Bool) → has_no_lock v ≡ b → looked_by z.passes v other n ≡ cond b (looked z.passes v other n) (looked_waiting v other n)
    by_locks n b is = ap (λ (c : Bool). cond c (looked z.passes v other n) (looked_waiting v other n)) is

    pub look_view : IsOutside v → (w : View) (n : ℕ) → Happened z look_event v n w → w ≡ looked z.passes v other n
    look_view outside w n h = looks w n h ∙ by_locks n true (ap (λ (hs : List HeldNode). eqb (length hs) 0) outside.unlocked)

    look_part : IsOutside v → (w : View) (n : ℕ) → Happened z look_event v n w → part_of w ≡ part_of v
    look_part outside w n h = ap part_of (look_view outside w n h) ∙ looked_part z other n v

    pub look_outside : IsOutside v → (w : View) (n : ℕ) → Happened z look_event v n w → IsOutside w
    look_outside outside w n h = record {
      even = ap (λ (p : SeatPart). is_even p.word) (look_part outside w n h) ∙ outside.even;
      unlocked = ap (λ (u : View). u.held.nodes) (look_view outside w n h) ∙ ap (λ (u : Work). u.held.nodes) (looked_work z.passes other n v) ∙ outside.unlocked;
    }

    pub look_announced : IsOutside v → (w : View) (n : ℕ) → Happened z look_event v n w → w.announced ≡ v.announced
    look_announced outside w n h = ap (λ (p : SeatPart). p.announced) (look_part outside w n h)

    pub look_keeps : IsOutside v → (w : View) (n : ℕ) (slots : KeptSlots) → Happened z look_event v n w → ((u : View) → KeepsSlots u k.slots → u.number ≡ Some k.number → KeepsSlots (looked z.passes u other n) slots) → HasRoomOf k.slots slots
        → Keeps w (record { number = k.number; section_word = k.section_word; left = k.left; opened = k.opened; slots = slots; updates = k.updates; raised = k.raised })
    look_keeps outside w n slots h kept room =
        let u : View = looked z.passes v other n in
        subst (λ (x : View). Keeps x (record { number = k.number; section_word = k.section_word; left = k.left; opened = k.opened; slots = slots; updates = k.updates; raised = k.raised })) (sym (look_view outside w n h))
        (keeps_moved v u k k.section_word slots keeps
        (looked_part z other n v ∙ ap (λ x. record (part_of v) { word = x }) keeps.word
        ∙ ap (λ (r : Work). record (part_of v) { word = k.section_word; section = r.reading.section }) (sym (looked_work z.passes other n v)))
        (kept v keeps.slots keeps.number) room (work_still v u v.reading (looked_work z.passes other n v)))

    -- look at the wait of a removal
    pub look_waiting_asks : MayLookWaiting v other → Asks home s (Section other) look_event
    look_waiting_asks may = record { of = of; there = other_there; seat = refl; word = refl; may = may_look_waiting_law z v s.seat other may }

    pub look_waiting_view : has_no_lock v ≡ false → (w : View) (n : ℕ) → Happened z look_event v n w → w ≡ looked_waiting v other n
    look_waiting_view locked w n h = looks w n h ∙ by_locks n false locked

    pub look_waiting_keeps : has_no_lock v ≡ false → (w : View) (n : ℕ) → Happened z look_event v n w → Keeps w k
    look_waiting_keeps locked w n h =
        let u : View = looked_waiting v other n in
        let slots : KeepsSlots u k.slots = record { free = keeps.slots.free; batch = keeps.slots.batch; retired = keeps.slots.retired; looks = keeps.slots.looks } in
        subst (λ (x : View). Keeps x k) (sym (look_waiting_view locked w n h))
        (keeps_moved v u k k.section_word k.slots keeps (part_moved v u k.section_word refl keeps.word) slots (same_room k.slots) (record { held = refl; raised = refl }))

  -- fill
  module _ (word : Word) (value : ℕ) (there : is_there v.layout word ≡ true) where
    fill_there : is_there z word ≡ true
    fill_there = subst (λ (y : Layout). is_there y word ≡ true) of.layout there

    abbrev pub fill_event : Event
    fill_event = event_at z s.seat Fill word value

    pub fill_asks : MayFill v word → Asks home s word fill_event
    fill_asks free = record { of = of; there = fill_there; seat = refl; word = refl; may = may_fill_law z v s.seat word value free }

    pub fill_gives : (w : View) → Stored z fill_event v w → w ≡ filled_view v word value
    fill_gives w h = happened_view z fill_event v w h.0 word fill_there refl tt h.1

    pub fill_keeps : (w : View) → Stored z fill_event v w → Keeps w k
    fill_keeps w h =
        let u : View = filled_view v word value in
        subst (λ (x : View). Keeps x k) (sym (fill_gives w h))
        (keeps_moved v u k k.section_word k.slots keeps (part_moved v u k.section_word (filled_part z v word value) keeps.word) (filled_slots v word value k.slots keeps.slots) (same_room k.slots) (filled_still v word value))
