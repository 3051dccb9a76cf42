-- The raise of a plan, and what follows it: the numbers of its entries are written, one after another, and then, after
-- the pruning, the nodes that went out are marked. Until both are done, and the plain links are set, no lock is given
-- back.
use Rattle.std.specs.Prelude.{◌≡◌, ℕ, ◌+◌, ◌<◌, [], take, drop, true, false, Some, None, is_some}
use Rattle.std.specs.List.{slice_get}
use Rattle.index_words.specs.declared.layout.Layout.{Layout}
use Rattle.index_words.specs.declared.view.View.{View}
use Rattle.index_words.specs.declared.view.update.HeldNode.{HeldNode}
use Rattle.index_words.specs.declared.word.Field.TheVariants.{Mark}
use Rattle.index_words.specs.declared.word.Part.TheVariants.{Stamp as Number}
use Rattle.index_words.specs.declared.word.Word.TheVariants.{Stamp, Node, Entry}
use Rattle.key_map.specs.declared.update.Update.{Update}
use Rattle.key_map.specs.Lists.{count, Every}
use Rattle.core_grace.specs.Holds.{held_slots}
use Rattle.core_events.specs.declared.event.Kind.TheVariants.{Finalise, Mark as MarkNode}
use Rattle.core_events.specs.LoadMoves.{longest}
use Rattle.core_events.specs.LockMoves.{with_mark}
use Rattle.core_events.specs.Steps.{allowed}
use Rattle.core_events.specs.Tables.{Table, held_by}
use Rattle.core_events.specs.TreeMoves.{tree_move}
use Rattle.core_events.specs.UpdateMoves.{raised_view, finalised}
use Rattle.core_invariant.specs.Rule.{IsRight}
use Rattle.core_laws.specs.ViewNeeds.{May, IsInside, event_at}
use Rattle.core_updates.specs.declared.plan.Plan.{Plan}
use Rattle.core_updates.specs.declared.plan.PlanSlots.{PlanSlots}
use Rattle.core_updates.specs.Held.{CanRaise, raise_of}
use Rattle.core_updates.specs.Plans.{key_of, change_of, locks_of, out_of, entries_in, sets_of}
use Rattle.core_updates.specs.Ready.{update_of}
use Rattle.plan_laws.specs.Frames.{KeepsOwned}
use Rattle.plan_laws.specs.Places.{LocksOnce}
use Rattle.plan_laws.specs.PlainLinks.{HasNotSearched, IsSetting, LeavesLinks}
use Rattle.plan_laws.specs.Fills.{AreApart}
use Rattle.plan_laws.specs.Fronts.{IsReadyToRaise}
use Rattle.plan_laws.specs.Prunes.{AreUnmarked, HasNumbered}

-- the update was raised at this place, and the first of its entries have their number written
pub record HasFinalised (v : View) (n : ℕ) (plan : Plan) (slots : PlanSlots) (place done : ℕ) : Type 0 where
  pub live : v.joined ≡ false
  pub own : v.number ≡ Some n
  pub inside : IsInside v
  pub once : LocksOnce plan
  pub locked : held_slots v.held.nodes ≡ locks_of plan
  pub raised : v.update.raised ≡ Some place
  pub taken : v.update.taken ≡ out_of plan
  pub pending : v.update.pending ≡ drop done (entries_in plan slots)
  pub reads : is_some v.reading.section ≡ true
  pub unmarked : AreUnmarked v plan slots
  pub links : LeavesLinks v.update.unset v.update.owed v.update.unlinking plan (sets_of plan slots) (sets_of plan slots)
  pub unsearched : HasNotSearched v

-- the update of a plan
abbrev pub update_by : ℕ → ℕ → Plan → Update
update_by n line plan = update_of n line (key_of plan) (change_of plan)

-- the seat's view after the raise
abbrev pub raised_at : Table → View → Update → View
raised_at t v u = raised_view (longest t.views) v (held_by t Stamp) u (tree_move t.layout (held_by t) t.views v u)

-- the raise may be made, at the place after the stamp; none of its entries has its number written then
pub record RaisesNow (t : Table) (seat n line : ℕ) (v : View) (plan : Plan) (slots : PlanSlots) : Type 0 where
  pub may : allowed t (raise_of t.layout seat (update_by n line plan)) ≡ true
  pub raised : HasFinalised (raised_at t v (update_by n line plan)) n plan slots (held_by t Stamp + 1) 0

abbrev pub RaiseStepLaw : Type 0
RaiseStepLaw =
    (t : Table) (seat n line : ℕ) (v : View) (plan : Plan) (slots : PlanSlots) → IsRight t → slice_get t.views seat ≡ Some v
    → IsReadyToRaise v n plan slots → AreApart slots → CanRaise v n → RaisesNow t seat n line v plan slots

-- the number of the next entry may be written, and then one more is
pub record FinalisesNext (z : Layout) (v : View) (seat n : ℕ) (plan : Plan) (slots : PlanSlots) (place done entry : ℕ) : Type 0 where
  pub may : May z v (event_at z seat Finalise (Entry Number entry) place)
  pub after : HasFinalised (finalised v entry) n plan slots place (done + 1)
  pub keeps : KeepsOwned v (finalised v entry)

abbrev pub FinaliseStepLaw : Type 0
FinaliseStepLaw =
    (z : Layout) (v : View) (seat n : ℕ) (plan : Plan) (slots : PlanSlots) (place done entry : ℕ) → HasFinalised v n plan slots place done → AreApart slots
    → slice_get (entries_in plan slots) done ≡ Some entry → FinalisesNext z v seat n plan slots place done entry

-- each entry has its number, and the first of the nodes that went out are marked
pub record HasMarked (v : View) (n : ℕ) (plan : Plan) (slots : PlanSlots) (done : ℕ) : Type 0 where
  pub live : v.joined ≡ false
  pub own : v.number ≡ Some n
  pub inside : IsInside v
  pub once : LocksOnce plan
  pub locked : held_slots v.held.nodes ≡ locks_of plan
  pub taken : v.update.taken ≡ out_of plan
  pub idle : v.update.pending ≡ []
  pub marked : Every (λ (h : HeldNode). 0 < count h.node (take done (out_of plan)) → h.mark ≡ Some 1) v.held.nodes
  pub links : LeavesLinks v.update.unset v.update.owed v.update.unlinking plan (sets_of plan slots) (sets_of plan slots)
  pub unsearched : HasNotSearched v

abbrev pub FinaliseEndLaw : Type 0
FinaliseEndLaw =
    (v : View) (n : ℕ) (plan : Plan) (slots : PlanSlots) (place done : ℕ) → HasFinalised v n plan slots place done
    → slice_get (entries_in plan slots) done ≡ None → HasNumbered v n plan slots

-- after the pruning the nodes may be marked
abbrev pub MarkStartLaw : Type 0
MarkStartLaw = (v : View) (n : ℕ) (plan : Plan) (slots : PlanSlots) → HasNumbered v n plan slots → HasMarked v n plan slots 0

-- the next node may be marked, and then one more is
pub record MarksNext (z : Layout) (v : View) (seat n : ℕ) (plan : Plan) (slots : PlanSlots) (done node : ℕ) : Type 0 where
  pub may : May z v (event_at z seat MarkNode (Node Mark node) 1)
  pub marked : HasMarked (with_mark v node 1) n plan slots (done + 1)
  pub keeps : KeepsOwned v (with_mark v node 1)

abbrev pub MarkStepLaw : Type 0
MarkStepLaw =
    (z : Layout) (v : View) (seat n : ℕ) (plan : Plan) (slots : PlanSlots) (done node : ℕ) → HasMarked v n plan slots done
    → slice_get (out_of plan) done ≡ Some node → MarksNext z v seat n plan slots done node

-- after the last one the plain links may be set
abbrev pub MarkEndLaw : Type 0
MarkEndLaw =
    (v : View) (n : ℕ) (plan : Plan) (slots : PlanSlots) (done : ℕ) → HasMarked v n plan slots done → slice_get (out_of plan) done ≡ None
    → IsSetting v n plan (sets_of plan slots) (sets_of plan slots)
