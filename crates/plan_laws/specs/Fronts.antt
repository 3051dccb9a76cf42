-- With all its slots filled a try puts its entries in front of bundles, one after another. After the last one it may
-- raise.
use Rattle.std.specs.Prelude.{◌≡◌, ℕ, zero, suc, ◌+◌, ◌<◌, ◌≤◌, ◌^◌, [], take, Some, None}
use Rattle.std.specs.List.{slice_get}
use Rattle.index_words.specs.declared.layout.Layout.{Layout}
use Rattle.index_words.specs.declared.view.View.{View}
use Rattle.index_words.specs.declared.word.Field.TheVariants.{Head}
use Rattle.index_words.specs.declared.word.Word.TheVariants.{Node}
use Rattle.key_map.specs.Lists.{count, Every}
use Rattle.core_grace.specs.Holds.{held_slots}
use Rattle.core_events.specs.declared.event.Kind.TheVariants.{Prepare}
use Rattle.core_events.specs.UpdateMoves.{prepared}
use Rattle.core_laws.specs.ViewNeeds.{May, event_at}
use Rattle.core_updates.specs.declared.plan.Plan.{Plan}
use Rattle.core_updates.specs.declared.plan.PlanSlots.{PlanSlots}
use Rattle.core_updates.specs.declared.plan.Front.{Front}
use Rattle.core_updates.specs.declared.plan.Heads.{Heads}
use Rattle.core_updates.specs.PlanReady.{HoldsLook, HoldsFill, HoldsFront, IsReadyFor}
use Rattle.core_updates.specs.Plans.{IsFormed, key_of, locks_of, looks_of, fronts_of, entries_of}
use Rattle.core_updates.specs.PlanEvents.{HoldsNumbered, IsWorking}
use Rattle.plan_laws.specs.Places.{LocksOnce}
use Rattle.plan_laws.specs.Fills.{AreApart, fills_of, HasFilledAll}

-- a pass inside a section, with a section number, that has not raised, and has locked the nodes of its plan
pub record IsMaking (v : View) (n : ℕ) (plan : Plan) : Type 0 where
  pub working : IsWorking v n
  pub number : ℕ
  pub section : v.reading.section ≡ Some number
  pub least : v.reading.least ≡ Some number
  pub unraised : v.update.raised ≡ None
  pub untaken : v.update.taken ≡ []
  pub once : LocksOnce plan
  pub locked : held_slots v.held.nodes ≡ locks_of plan

-- the newest entry that was found in the bundle of the front at this place
abbrev pub behind_of : Heads → ℕ → ℕ
behind_of heads zero = heads.at
behind_of heads (suc place) = heads.next

-- the entry is still to be put in front: its link's bundle has this entry as its head, which has a number or is none
pub record IsStillDue (v : View) (f : Front) (entry : ℕ) : Type 0 where
  pub look : HoldsNumbered v f.at entry
  pub free : 0 < count f.entry v.free.entries

-- the first entries are in front of their bundles, and the others are due; each look holds
pub record HasPrepared (v : View) (n : ℕ) (plan : Plan) (slots : PlanSlots) (heads : Heads) (done : ℕ) : Type 0 where
  pub making : IsMaking v n plan
  pub formed : IsFormed plan
  pub small : key_of plan < 2 ^ 64
  pub looks : Every (HoldsLook v) (looks_of plan)
  pub due : (place : ℕ) (f : Front) → done ≤ place → slice_get (fronts_of plan slots) place ≡ Some f → IsStillDue v f (behind_of heads place)
  pub fronts : (place : ℕ) (f : Front) → place < done → slice_get (fronts_of plan slots) place ≡ Some f → HoldsFront v f
  pub filled : Every (HoldsFill v) (fills_of plan slots heads)
  pub pending : v.update.pending ≡ entries_of (take done (fronts_of plan slots))
  pub node : 0 < count slots.node v.free.nodes
  pub left : 0 < count slots.left v.free.entries
  pub right : 0 < count slots.right v.free.entries

abbrev pub PrepareStartLaw : Type 0
PrepareStartLaw =
    (v : View) (n : ℕ) (plan : Plan) (slots : PlanSlots) (heads : Heads) → HasFilledAll v n plan slots heads → HasPrepared v n plan slots heads 0

-- the next entry may be put in front, and then one more is
pub record PreparesNext (z : Layout) (v : View) (seat n : ℕ) (plan : Plan) (slots : PlanSlots) (heads : Heads) (done : ℕ) (f : Front) : Type 0 where
  pub may : May z v (event_at z seat Prepare (Node (Head f.at.side) f.at.node) f.entry)
  pub prepared : HasPrepared (prepared v f.at.side f.at.node f.entry) n plan slots heads (done + 1)

abbrev pub PrepareStepLaw : Type 0
PrepareStepLaw =
    (z : Layout) (v : View) (seat n : ℕ) (plan : Plan) (slots : PlanSlots) (heads : Heads) (done : ℕ) (f : Front)
    → HasPrepared v n plan slots heads done → AreApart slots → slice_get (fronts_of plan slots) done ≡ Some f
    → PreparesNext z v seat n plan slots heads done f

-- the seat is ready for its plan, with the plan's nodes locked and no others
pub record IsReadyToRaise (v : View) (n : ℕ) (plan : Plan) (slots : PlanSlots) : Type 0 where
  pub making : IsMaking v n plan
  pub ready : IsReadyFor v plan slots

-- this is so after the last one
abbrev pub PrepareEndLaw : Type 0
PrepareEndLaw =
    (v : View) (n : ℕ) (plan : Plan) (slots : PlanSlots) (heads : Heads) (done : ℕ) → HasPrepared v n plan slots heads done → AreApart slots
    → slice_get (fronts_of plan slots) done ≡ None → IsReadyToRaise v n plan slots
