-- A cut: that it may be made, what it leaves in the view, and that what is kept at run time still is what the view
-- says.
use Rattle.std.proofs.Common.{◌≡◌, ℕ, ◌+◌, ◌≤◌, List, [], ◌∷◌, ◌++◌, length, true, arith, refl, ap, sym, subst, append-nil, ◌∙◌, slice_index}
use Rattle.std.proofs.lemmas.List.{length-append}
use Rattle.index_words.specs.declared.layout.Layout.{Layout}
use Rattle.index_words.specs.declared.side.Side.{Side}
use Rattle.index_words.specs.declared.view.View.{View}
use Rattle.index_words.specs.declared.view.slots.Slots.{Slots}
use Rattle.index_words.specs.declared.word.Part.TheVariants.{Next}
use Rattle.index_words.specs.declared.word.Word.TheVariants.{Entry}
use Rattle.index_words.specs.Words.{is_there}
use Rattle.core_events.specs.declared.event.Event.{Event}
use Rattle.core_events.specs.declared.event.Kind.TheVariants.{Cut}
use Rattle.core_events.specs.CutMoves.{cut_view}
use Rattle.core_laws.specs.ViewNeeds.{event_at}
use Rattle.core_laws.proofs.CutNeeds.{may_cut_law}
use Rattle.pass_slots.specs.Owned.{KeptSlots, KeepsSlots, HasRoomOf, entry_count, node_count}
use Rattle.table_rule.specs.Homes.{Home, Sat, IsOf, Asks, IsLiveView}
use Rattle.table_rule.specs.Running.{Happened, Stored, Stands}
use Rattle.table_rule.proofs.Happens.{Left, happened_live, happened_view, moved_happened, moved_view}
use Rattle.table_steps.specs.Cuts.{CanCut}
use Rattle.table_steps.specs.Kept.{Keeps}
use Rattle.table_steps.specs.Raises.{HoldsChain}
use Rattle.table_steps.specs.Retires.{HasRoomFor, with_retired}
use Rattle.table_steps.specs.declared.kept.Kept.{Kept}
use Rattle.table_steps.proofs.CutFacts.{cut_there, cut_off_known, walked_next}
use Rattle.table_steps.proofs.There.{nodes_few, entries_few}
use Rattle.table_steps.proofs.UpdateSteps.{keeps_worked, within_true}

module _ (home : Home) (s : Sat) (k : Kept) (keeps : Keeps s.view k) (of : IsOf home s) (live : IsLiveView s.view) (entry node : ℕ) (side : Side) (can : CanCut s.view node side entry) where
  abbrev v : View
  v = s.view

  abbrev z : Layout
  z = home.layout

  low : entry ≤ v.layout.entries
  low =
      let stands : Stands v.layout v = live.stands in
      cut_there v.layout stands.words stands.views stands.rule stands.seat v stands.at node side entry can

  pub entry_there : is_there z (Entry Next entry) ≡ true
  entry_there = within_true entry z.entries can.may.some (subst (λ (y : Layout). entry ≤ y.entries) of.layout low)

  abbrev pub cut_event : Event
  cut_event = event_at z s.seat Cut (Entry Next entry) 0

  pub cut_asks : Asks home s (Entry Next entry) cut_event
  cut_asks = record { of = of; there = entry_there; seat = refl; word = refl; may = may_cut_law z v s.seat node side entry can.may }

  pub cut_gives : (w : View) → Stored z cut_event v w → w ≡ cut_view v entry can.back
  cut_gives w h =
      happened_view z cut_event v w h.0 (Entry Next entry) entry_there refl tt h.1
      ∙ ap (cut_view v entry) (cut_off_known z h.1.words h.1.views h.1.rule s.seat v h.1.seat node side entry can)

  -- the entry and those after it are what the pass has found
  pub cut_chain : HoldsChain v node entry (entry ∷ can.back)
  cut_chain = (refl, can.may.some, (can.may.next, walked_next v node entry can.may.number can.may.next can.may.here, can.behind))

  -- what is kept at run time, with the entries after it retired
  module _ (w : View) (h : Stored z cut_event v w) where
    pub cut_keeps : (slots : KeptSlots) → slots ≡ with_retired [] can.back k.slots
        → Keeps w (record { number = k.number; section_word = k.section_word; left = k.left; opened = k.opened; slots = slots; updates = k.updates; raised = k.raised })
    cut_keeps slots slots_are =
        let u : View = cut_view v entry can.back in
        let kept : KeepsSlots u (with_retired [] can.back k.slots) = record {
          free = keeps.slots.free;
          batch = keeps.slots.batch;
          retired =
              ap (λ (x : Slots). record { nodes = x.nodes; entries = x.entries ++ can.back }) keeps.slots.retired
              ∙ ap (λ (ns : List ℕ). record { nodes = ns; entries = k.slots.retired.entries ++ can.back }) (sym (append-nil k.slots.retired.nodes));
          looks = keeps.slots.looks;
        } in
        subst (λ (x : View). Keeps x (record { number = k.number; section_word = k.section_word; left = k.left; opened = k.opened; slots = slots; updates = k.updates; raised = k.raised })) (sym (cut_gives w h))
        (keeps_worked v u k slots keeps refl (subst (KeepsSlots u) (sym slots_are) kept) (subst (HasRoomOf k.slots) (sym slots_are) (record { nodes = refl; entries = refl })) keeps.raised)

  -- there is room for what is retired
  module _ (w : View) (h : Stored z cut_event v w) (after : IsLiveView w) where
    back_sum : entry_count k.slots + length can.back ≤ v.layout.entries
    back_sum =
        omega (
          arith,
          entries_few w after,
          ap (λ (y : View). length y.free.entries) (cut_gives w h),
          ap (λ (y : View). length y.batch.entries) (cut_gives w h),
          ap (λ (y : View). length y.retired.entries) (cut_gives w h),
          ap (λ (y : View). y.layout.entries) (cut_gives w h),
          length-append v.retired.entries can.back,
          ap (λ (x : Slots). length x.entries) keeps.slots.free,
          ap (λ (x : Slots). length x.entries) keeps.slots.batch,
          ap (λ (x : Slots). length x.entries) keeps.slots.retired,
        )

    node_sum : node_count k.slots ≤ v.layout.nodes
    node_sum =
        omega (
          arith,
          nodes_few v live,
          ap (λ (x : Slots). length x.nodes) keeps.slots.free,
          ap (λ (x : Slots). length x.nodes) keeps.slots.batch,
          ap (λ (x : Slots). length x.nodes) keeps.slots.retired,
        )

    pub cut_room : HasRoomFor [] can.back z.entries k.slots
    cut_room = record {
      nodes = omega (arith, node_sum, keeps.node_room);
      entries = omega (arith, back_sum, keeps.entry_room);
      looks = omega (arith, back_sum, ap (λ (y : Layout). y.entries) of.layout);
    }

-- what the cut would leave says, before it is made, that there is room
pub room_ahead : (home : Home) (s : Sat) (k : Kept) → Keeps s.view k → IsOf home s → IsLiveView s.view → (entry node : ℕ) (side : Side) (can : CanCut s.view node side entry) → HasRoomFor [] can.back home.layout.entries k.slots
room_ahead home s k keeps of live entry node side can =
    let z : Layout = home.layout in
    let v : View = s.view in
    let there = entry_there home s k keeps of live entry node side can in
    let stands : Stands z v = subst (λ (y : Layout). Stands y v) of.layout live.stands in
    let event : Event = event_at z stands.seat Cut (Entry Next entry) 0 in
    let met = may_cut_law z v stands.seat node side entry can.may stands.words stands.views stands.rule stands.at in
    let w : View = moved_view z event v (Entry Next entry) there refl tt stands.words stands.views stands.rule stands.at met in
    let cuts : Happened z event v (slice_index stands.words event.word) w = moved_happened z event v (Entry Next entry) there refl tt stands.words stands.views stands.rule stands.at met in
    let after : Left z w = happened_live z event v w (slice_index stands.words event.word) (Entry Next entry) of.layout there refl tt live.live cuts in
    cut_room home (record { id = s.id; seat = stands.seat; view = v }) k keeps (record { id = of.id; layout = of.layout }) live entry node side can w (slice_index stands.words event.word, cuts) after.live
