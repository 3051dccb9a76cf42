-- What is kept at run time is what the view says after a raise.
use Rattle.std.proofs.Common.{◌≡◌, ℕ, ◌+◌, ◌-◌, ◌<◌, ◌≤◌, ◌^◌, ◌⊎◌, List, [], ◌∷◌, ◌++◌, length, cond, Bool, true, false, eqb, arith, refl, ap, ◌∙◌, sym, subst, inl, inr, Option, Some, None, append_assoc, slice_index}
use Rattle.std.specs.Prelude.{IfSome}
use Rattle.std.specs.List.{slice_get}
use Rattle.std.proofs.lemmas.Bool.{ne_eqb}
use Rattle.std.proofs.lemmas.List.{length-append, map-append}
use Rattle.index_words.specs.declared.layout.Layout.{Layout}
use Rattle.index_words.specs.declared.view.View.{View}
use Rattle.index_words.specs.declared.view.slots.Slots.{Slots}
use Rattle.index_words.specs.declared.view.slots.Looks.{Looks}
use Rattle.index_words.specs.declared.view.update.Updating.{Updating}
use Rattle.key_map.specs.declared.update.Update.{Update}
use Rattle.key_map.specs.Lists.{count}
use Rattle.core_grace.specs.Holds.{listed}
use Rattle.core_grace.proofs.RuleMoves.{every_weaker, every_push}
use Rattle.core_events.specs.UpdateMoves.{without_all, listed_entry}
use Rattle.core_invariant.specs.Histories.{update_at}
use Rattle.pass_slots.specs.Owned.{KeptSlots, KeepsSlots, KeepsLooks, taken_from, node_count, entry_count}
use Rattle.core_events.specs.declared.event.Event.{Event}
use Rattle.core_updates.specs.Held.{raise_of}
use Rattle.table_rule.specs.Homes.{IsLiveView}
use Rattle.table_rule.specs.Running.{Happened, Stands}
use Rattle.table_rule.proofs.Happens.{Left as LeftBy, happened_live, moved_happened, moved_view}
use Rattle.table_rule.proofs.Lists.{get_last}
use Rattle.table_steps.specs.Kept.{Keeps}
use Rattle.table_steps.specs.Made.{Made, KeepsOwn}
use Rattle.table_steps.specs.Passes.{Extends}
use Rattle.table_steps.specs.Raises.{new_slot, new_left, new_right, slot_given, new_entries_of, nodes_out, HasNew, IsGiven, HoldsEntries, HasRaised, MayRaiseBy}
use Rattle.table_steps.specs.Retires.{HasRoomFor, with_retired}
use Rattle.table_steps.specs.declared.kept.Kept.{Kept}
use Rattle.table_steps.specs.declared.own_updates.OwnUpdate.{OwnUpdate}
use Rattle.index_words.specs.declared.word.Word.TheVariants.{Stamp}
use Rattle.index_words.specs.Words.{memory}
use Rattle.core_invariant.proofs.TreeNow.{stamp_low}
use Rattle.table_steps.proofs.RaiseGives.{raise_gives}
use Rattle.table_steps.proofs.Own.{at_longer}
use Rattle.table_steps.proofs.Views.{RightSeat, live_seat}
use Rattle.table_steps.proofs.There.{free_entry_once, free_node_once, nodes_few, entries_few}

given_list : (k : ℕ) → listed (slot_given k) ≡ listed_entry k
given_list k = by_test (eqb k 0)
  where
    by_test : (b : Bool) → listed (cond b None (Some k)) ≡ cond b [] (k ∷ [])
    by_test true = refl
    by_test false = refl

last_at : (us : List Update) (u : Update) → update_at (us ++ u ∷ []) (length us + 1) ≡ Some u
last_at us u =
    let some : length us + 1 ≡ 0 → ⊥ = λ none. omega (arith, none) in
    let same : length us + 1 - 1 ≡ length us = omega arith in
    ap (λ b. cond b None (slice_get (us ++ u ∷ []) (length us + 1 - 1))) (ne_eqb (length us + 1) 0 some) ∙ ap (slice_get (us ++ u ∷ [])) same ∙ get_last us u (length us) refl

module _ (v w : View) (u : Update) (new out : List ℕ) (at : ℕ) (gives : HasRaised v u new out at w) (k : Kept) (keeps : Keeps v k) (left : 0 < v.history.left) where
  abbrev own : OwnUpdate
  own = record { at = at; update = u }

  abbrev pub made : Made
  made = record { updates = k.updates.updates ++ own ∷ []; room = k.updates.room }

  abbrev pub slots_taken : KeptSlots
  slots_taken = record k.slots { free = taken_from (listed_entry (new_slot new)) (new_entries_of new) k.slots.free }

  abbrev pub slots_moved : KeptSlots
  slots_moved = with_retired (nodes_out out) gives.entries slots_taken

  seen_is : w.history.seen ≡ gives.others ++ u ∷ []
  seen_is = ap (λ (y : View). y.history.seen) gives.view

  longer : Extends v.history.seen w.history.seen
  longer = (gives.extends.0 ++ u ∷ [], seen_is ∙ ap (λ us. us ++ u ∷ []) gives.extends.1 ∙ append_assoc v.history.seen gives.extends.0 (u ∷ []))

  own_place : update_at w.history.seen at ≡ Some u
  own_place = ap (update_at w.history.seen) gives.place ∙ ap (λ us. update_at us (length gives.others + 1)) seen_is ∙ last_at gives.others u

  own_kept : KeepsOwn w.history made
  own_kept = record {
    places = ap (λ (y : View). y.history.mine) gives.view
        ∙ ap (λ (at : ℕ). v.history.mine ++ at ∷ []) (sym gives.place) ∙ ap (λ (xs : List ℕ). xs ++ at ∷ []) keeps.own.places
        ∙ sym (map-append (λ (o : OwnUpdate). o.at) k.updates.updates (own ∷ []));
    each = every_push (λ (o : OwnUpdate). update_at w.history.seen o.at ≡ Some o.update) k.updates.updates own
        (every_weaker (λ (o : OwnUpdate). update_at v.history.seen o.at ≡ Some o.update) (λ (o : OwnUpdate). update_at w.history.seen o.at ≡ Some o.update) k.updates.updates
        (λ o is. at_longer v.history.seen w.history.seen o.at o.update longer is) keeps.own.each) own_place;
    room = omega (arith, keeps.own.room, left, length-append k.updates.updates (own ∷ []), ap (λ (y : View). y.history.left) gives.view);
  }

  free_is : w.free ≡ slots_taken.free
  free_is =
      ap (λ (y : View). y.free) gives.view
      ∙ ap (λ (f : Slots). record { nodes = without_all (listed (slot_given (new_slot new))) f.nodes; entries = without_all (new_entries_of new) f.entries }) keeps.slots.free
      ∙ ap (λ (xs : List ℕ). record { nodes = without_all xs k.slots.free.nodes; entries = without_all (new_entries_of new) k.slots.free.entries }) (given_list (new_slot new))

  retired_is : w.retired ≡ slots_moved.retired
  retired_is =
      ap (λ (y : View). y.retired) gives.view
      ∙ ap (λ (r : Slots). record { nodes = r.nodes ++ nodes_out out; entries = r.entries ++ gives.entries }) keeps.slots.retired

  batch_is : w.batch ≡ k.slots.batch
  batch_is = ap (λ (y : View). y.batch) gives.view ∙ keeps.slots.batch

  slots_kept : KeepsSlots w slots_moved
  slots_kept = record {
    free = free_is;
    batch = batch_is;
    retired = retired_is;
    looks = subst (λ (g : Looks). KeepsLooks g k.slots.shown) (sym (ap (λ (y : View). y.grace) gives.view)) keeps.slots.looks;
  }

  layout : w.layout ≡ v.layout
  layout = ap (λ (y : View). y.layout) gives.view

  pub raise_keeps : Keeps w (record { number = k.number; section_word = k.section_word; left = k.left - 1; opened = k.opened; slots = slots_moved; updates = made; raised = at })
  raise_keeps = record {
    number = ap (λ (y : View). y.number) gives.view ∙ keeps.number;
    there = subst (λ (z : Layout). k.number < z.passes) (sym layout) keeps.there;
    few = subst (λ (z : Layout). z.passes ≤ 32) (sym layout) keeps.few;
    word = ap (λ (y : View). y.section_word) gives.view ∙ keeps.word;
    left = ap (λ (y : View). y.history.left) gives.view ∙ ap (λ n. n - 1) keeps.left;
    opened = ap (λ (y : View). y.reading.opened) gives.view ∙ keeps.opened;
    slots = slots_kept;
    node_room = subst (λ (z : Layout). z.nodes ≤ k.slots.node_room) (sym layout) keeps.node_room;
    entry_room = subst (λ (z : Layout). z.entries ≤ k.slots.entry_room) (sym layout) keeps.entry_room;
    own = own_kept;
    raised = subst (λ (y : Updating). IfSome y.raised (λ n. n ≡ at)) (sym (ap (λ (y : View). y.update) gives.view)) (sym gives.place);
  }

  -- there is room for what is retired
  module _ (live : IsLiveView w) where
    node_sum : node_count slots_taken + length (nodes_out out) ≤ v.layout.nodes
    node_sum =
        omega (
          arith,
          nodes_few w live,
          ap (λ (s : Slots). length s.nodes) free_is,
          ap (λ (s : Slots). length s.nodes) batch_is,
          ap (λ (s : Slots). length s.nodes) retired_is,
          length-append k.slots.retired.nodes (nodes_out out),
          ap (λ (z : Layout). z.nodes) layout,
        )

    entry_sum : entry_count slots_taken + length gives.entries ≤ v.layout.entries
    entry_sum =
        omega (
          arith,
          entries_few w live,
          ap (λ (s : Slots). length s.entries) free_is,
          ap (λ (s : Slots). length s.entries) batch_is,
          ap (λ (s : Slots). length s.entries) retired_is,
          length-append k.slots.retired.entries gives.entries,
          ap (λ (z : Layout). z.entries) layout,
        )

    pub raise_room : HasRoomFor (nodes_out out) gives.entries v.layout.entries slots_taken
    raise_room = record {
      nodes = omega (arith, node_sum, keeps.node_room);
      entries = omega (arith, entry_sum, keeps.entry_room);
      looks = omega (arith, entry_sum);
    }

-- What the raise would leave says, before it is made, that there is room.
pub record HasRoomAhead (v : View) (new out : List ℕ) (k : Kept) : Type 0 where
  pub entries : List ℕ
  pub holds : HoldsEntries v (nodes_out out) entries
  pub room : HasRoomFor (nodes_out out) entries v.layout.entries (record k.slots { free = taken_from (listed_entry (new_slot new)) (new_entries_of new) k.slots.free })

pub raise_ahead : (v : View) (live : IsLiveView v) (u : Update) (new out es : List ℕ) (k : Kept) → Keeps v k → 0 < v.history.left → MayRaiseBy v.layout v u new out → HasNew v new
    → HoldsEntries v (nodes_out out) es → HasRoomAhead v new out k
raise_ahead v live u new out es k keeps left may ready holds =
    let z : Layout = v.layout in
    let stands : Stands z v = live.stands in
    let event : Event = raise_of z stands.seat u in
    let met = may.2.may stands.words stands.views stands.seat stands.rule stands.at in
    let w : View = moved_view z event v Stamp refl refl tt stands.words stands.views stands.rule stands.at met in
    let found : ℕ = slice_index stands.words event.word in
    let happens : Happened z event v found w = moved_happened z event v Stamp refl refl tt stands.words stands.views stands.rule stands.at met in
    let after : LeftBy z w = happened_live z event v w found Stamp refl refl refl tt live.live happens in
    let gives : HasRaised v u new out (found + 1) w = raise_gives z stands.seat u v w refl found happens new out es may ready holds in
    record { entries = gives.entries; holds = gives.holds; room = raise_room v w u new out (found + 1) gives k keeps left after.live }

-- what the new node takes is free
module _ (v : View) (live : IsLiveView v) (k : Kept) (keeps : Keeps v k) (new : List ℕ) (ready : HasNew v new) where
  given_once : (e : ℕ) → IsGiven v e → (e ≡ 0) ⊎ (count e k.slots.free.entries ≡ 1)
  given_once e (inl none) = inl none
  given_once e (inr some) = inr (subst (λ (f : Slots). count e f.entries ≡ 1) keeps.slots.free (free_entry_once v live e some))

  node_by : HasNew v new → (new_slot new ≡ 0) ⊎ (count (new_slot new) k.slots.free.nodes ≡ 1)
  node_by (inl none) = inl none.0
  node_by (inr some) = inr (subst (λ (f : Slots). count (new_slot new) f.nodes ≡ 1) keeps.slots.free (free_node_once v live (new_slot new) some.1.free))

  left_by : HasNew v new → (new_left new ≡ 0) ⊎ (count (new_left new) k.slots.free.entries ≡ 1)
  left_by (inl none) = inl none.1.0
  left_by (inr some) = given_once (new_left new) some.1.left_free

  right_by : HasNew v new → (new_right new ≡ 0) ⊎ (count (new_right new) k.slots.free.entries ≡ 1)
  right_by (inl none) = inl none.1.1
  right_by (inr some) = given_once (new_right new) some.1.right_free

  apart_by : HasNew v new → new_left new ≡ new_right new → new_left new ≡ 0
  apart_by (inl none) same = none.1.0
  apart_by (inr some) same = some.1.apart same

  pub node_ready : (new_slot new ≡ 0) ⊎ (count (new_slot new) k.slots.free.nodes ≡ 1)
  node_ready = node_by ready

  pub left_ready : (new_left new ≡ 0) ⊎ (count (new_left new) k.slots.free.entries ≡ 1)
  left_ready = left_by ready

  pub right_ready : (new_right new ≡ 0) ⊎ (count (new_right new) k.slots.free.entries ≡ 1)
  right_ready = right_by ready

  pub apart_ready : new_left new ≡ new_right new → new_left new ≡ 0
  apart_ready = apart_by ready

-- the place is a number of 64 bits
pub raise_small : (v w : View) (u : Update) (new out : List ℕ) (at : ℕ) → HasRaised v u new out at w → IsLiveView w → at < 2 ^ 64
raise_small v w u new out at gives live =
    let right : RightSeat w = live_seat w live in
    let raised : w.update.raised ≡ Some at = ap (λ (y : View). y.update.raised) gives.view ∙ ap Some (sym gives.place) in
    let past : (0 < at) × (at ≤ memory w.layout right.words Stamp)
    = subst (λ (o : Option ℕ). IfSome o (λ r. (0 < r) × (r ≤ memory w.layout right.words Stamp))) raised right.seat.update.raised in
    omega (arith, past.1, stamp_low w.layout (memory w.layout right.words) right.views right.rule.meaning right.rule.rule)

pub made_same : (m n : Made) → m.updates ≡ n.updates → m.room ≡ n.room → m ≡ n
made_same m n one two = ap (λ (us : List OwnUpdate). record { updates = us; room = m.room }) one ∙ ap (λ (r : ℕ). record { updates = n.updates; room = r }) two
