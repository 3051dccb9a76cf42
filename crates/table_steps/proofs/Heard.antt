-- What a seat has seen after it took another seat in.
use Rattle.std.proofs.Common.{◌≡◌, ℕ, ◌<◌, ◌≤◌, List, [], ◌++◌, length, take, drop, cond, Bool, true, false, ltb, arith, refl, ap, ◌∙◌, sym, subst, append-nil, inl}
use Rattle.std.proofs.lemmas.Bool.Decides.{nat_tests}
use Rattle.std.proofs.lemmas.List.{take-append-drop, take-take}
use Rattle.index_words.specs.declared.layout.Layout.{Layout}
use Rattle.index_words.specs.declared.view.View.{View}
use Rattle.index_words.specs.declared.view.slots.Slots.{Slots}
use Rattle.index_words.specs.declared.view.slots.Looks.{Looks}
use Rattle.index_words.specs.Views.{no_slots}
use Rattle.key_map.specs.declared.update.Update.{Update}
use Rattle.core_grace.specs.Batches.{both}
use Rattle.core_invariant.specs.Histories.{SeenRight}
use Rattle.core_events.specs.Moves.{joined_with, split_right, longer}
use Rattle.core_laws.specs.ViewNeeds.{MayJoin}
use Rattle.pass_slots.specs.Owned.{KeepsLooks}
use Rattle.table_rule.specs.Homes.{IsLiveView}
use Rattle.std.specs.Prelude.{IfSome}
use Rattle.index_words.specs.declared.view.update.Updating.{Updating}
use Rattle.table_steps.specs.Kept.{Keeps}
use Rattle.table_steps.specs.Notes.{note_view}
use Rattle.table_steps.specs.Passes.{Extends}
use Rattle.table_steps.specs.declared.kept.Kept.{Kept}
use Rattle.table_steps.proofs.Own.{own_longer}
use Rattle.table_steps.proofs.Views.{RightSeat, live_seat}

longer_by : (b : Bool) (xs ys : List Update) → ltb (length xs) (length ys) ≡ b → length xs ≤ length (cond b ys xs)
longer_by true xs ys is = let low : length xs < length ys = grind (arith, nat_tests) in omega (arith, low)
longer_by false xs ys is = omega arith

longer_low : (xs ys : List Update) → length xs ≤ length (longer xs ys)
longer_low xs ys = longer_by (ltb (length xs) (length ys)) xs ys refl

not_less : (a b : ℕ) → b ≤ a → ltb a b ≡ false
not_less a b le = grind (arith, nat_tests)

pub longer_same : (xs ys : List Update) → length ys ≤ length xs → longer xs ys ≡ xs
longer_same xs ys le = ap (λ b. cond b ys xs) (not_less (length xs) (length ys) le)

-- what was reported is a beginning of what is seen
pub told_begins : (v : View) → IsLiveView v → Extends v.history.told v.history.seen
told_begins v live =
    let right : RightSeat v = live_seat v live in
    let h : SeenRight right.rule.meaning.updates v.history = right.seat.seen in
    let t : ℕ = length v.history.told in
    let first : take t v.history.seen ≡ v.history.told =
    ap (take t) h.seen ∙ take-take t (length v.history.seen) right.rule.meaning.updates h.known ∙ sym h.told in
    (drop t v.history.seen, sym (take-append-drop t v.history.seen) ∙ ap (λ us. us ++ drop t v.history.seen) first)

module _ (v u x w : View) (one : x ≡ joined_with v u) (two : w ≡ joined_with x (split_right v 0)) (first : IsLiveView x) (second : IsLiveView w) where
  pub old_begins : Extends v.history.seen w.history.seen
  old_begins =
      let told : w.history.told ≡ v.history.seen = ap (λ (y : View). y.history.told) two in
      subst (λ us. Extends us w.history.seen) told (told_begins w second)

  seen_is : w.history.seen ≡ x.history.seen
  seen_is =
      let long : length v.history.seen ≤ length x.history.seen = subst (λ us. length v.history.seen ≤ length us) (sym (ap (λ (y : View). y.history.seen) one)) (longer_low v.history.seen u.history.seen) in
      ap (λ (y : View). y.history.seen) two ∙ longer_same x.history.seen v.history.seen long

  pub other_begins : Extends u.history.seen w.history.seen
  other_begins =
      let told : x.history.told ≡ u.history.seen = ap (λ (y : View). y.history.told) one in
      subst (λ us. Extends u.history.seen us) (sym seen_is) (subst (λ us. Extends us x.history.seen) told (told_begins x first))

both_none : (s : Slots) → both s no_slots ≡ s
both_none s = ap (λ ns. record { nodes = ns; entries = s.entries ++ [] }) (append-nil s.nodes) ∙ ap (λ es. record { nodes = s.nodes; entries = es }) (append-nil s.entries)

-- a pass that heard a note owns what it owned before
module _ (v u w : View) (seen : List Update) (z : Layout) (note : u ≡ note_view z seen) (is : w ≡ joined_with (joined_with v u) (split_right v 0)) where
  joined_is : w ≡ joined_with (joined_with v (note_view z seen)) (split_right v 0)
  joined_is = is ∙ ap (λ (y : View). joined_with (joined_with v y) (split_right v 0)) note

  free_is : w.free ≡ v.free
  free_is = ap (λ (y : View). y.free) joined_is ∙ both_none (both v.free no_slots) ∙ both_none v.free

  retired_is : w.retired ≡ v.retired
  retired_is = ap (λ (y : View). y.retired) joined_is ∙ both_none (both v.retired no_slots) ∙ both_none v.retired

  pub heard_keeps : (k : Kept) → Keeps v k → Extends v.history.seen w.history.seen → Keeps w k
  heard_keeps k keeps more =
      let layout : w.layout ≡ v.layout = ap (λ (y : View). y.layout) is in
      record {
        number = ap (λ (y : View). y.number) is ∙ keeps.number;
        there = subst (λ (y : Layout). k.number < y.passes) (sym layout) keeps.there;
        few = subst (λ (y : Layout). y.passes ≤ 32) (sym layout) keeps.few;
        word = ap (λ (y : View). y.section_word) is ∙ keeps.word;
        left = ap (λ (y : View). y.history.left) is ∙ keeps.left;
        opened = ap (λ (y : View). y.reading.opened) is ∙ keeps.opened;
        slots = record {
          free = free_is ∙ keeps.slots.free;
          batch = ap (λ (y : View). y.batch) is ∙ keeps.slots.batch;
          retired = retired_is ∙ keeps.slots.retired;
          looks = subst (λ (g : Looks). KeepsLooks g k.slots.shown) (sym (ap (λ (y : View). y.grace) is)) keeps.slots.looks;
        };
        node_room = subst (λ (y : Layout). y.nodes ≤ k.slots.node_room) (sym layout) keeps.node_room;
        entry_room = subst (λ (y : Layout). y.entries ≤ k.slots.entry_room) (sym layout) keeps.entry_room;
        own = own_longer v.history w.history k.updates (ap (λ (y : View). y.history.mine) is) (ap (λ (y : View). y.history.left) is) more keeps.own;
        raised = subst (λ (u : Updating). IfSome u.raised (λ at. at ≡ k.raised)) (sym (ap (λ (y : View). y.update) is)) keeps.raised;
      }

pub note_may : (v u : View) (seen : List Update) (z : Layout) → u ≡ note_view z seen → IsLiveView v → IsLiveView u → MayJoin v u
note_may v u seen z note live other = record { live = live.live; other_live = other.live; apart = inl (ap (λ (y : View). y.number) note, (ap (λ (y : View). y.retired) note, ap (λ (y : View). y.batch) note)) }
