-- Between the numbers of an update's entries and its marks the bundles that the update changed may be cut. What the
-- seat's view shows of the update stays, whatever it loads on its way along them, at whomever it looks, and whatever it
-- cuts. A pass may also cut without an update: it locks what a search has found, as a try of an update does, cuts the
-- bundles there, and gives its locks back.
use Rattle.std.specs.Prelude.{◌≡◌, ℕ, ◌<◌, ◌≤◌, List, [], length, true, false, Some, is_some}
use Rattle.std.specs.List.{slice_get}
use Rattle.index_words.specs.declared.side.Side.{Side}
use Rattle.index_words.specs.declared.view.View.{View}
use Rattle.index_words.specs.Views.{no_update}
use Rattle.key_map.specs.Lists.{count}
use Rattle.core_grace.specs.Holds.{held_slots}
use Rattle.core_events.specs.Announcing.{ann_loaded}
use Rattle.core_events.specs.CutMoves.{cut_view}
use Rattle.core_events.specs.LoadMoves.{head_loaded, ts_loaded, next_loaded}
use Rattle.core_laws.specs.ViewNeeds.{IsInside}
use Rattle.core_updates.specs.declared.plan.Front.{Front}
use Rattle.core_updates.specs.declared.plan.Plan.{Plan}
use Rattle.core_updates.specs.declared.plan.PlanSlots.{PlanSlots}
use Rattle.core_updates.specs.Plans.{locks_of, out_of, fronts_of, sets_of}
use Rattle.plan_laws.specs.Frames.{CountsGrow, KeepsOwned}
use Rattle.plan_laws.specs.Looks.{IsUnmarked}
use Rattle.plan_laws.specs.Places.{LocksOnce}
use Rattle.plan_laws.specs.PlainLinks.{HasNotSearched, LeavesLinks}
use Rattle.plan_laws.specs.Releases.{IsReleasing}
use Rattle.plan_laws.specs.Tries.{IsTrying}

-- of each node at which the plan puts an entry in front, the mark was found 0 under its lock
abbrev pub AreUnmarked : View → Plan → PlanSlots → Type 0
AreUnmarked v plan slots = (place : ℕ) (f : Front) → slice_get (fronts_of plan slots) place ≡ Some f → IsUnmarked v f.at.node

-- each entry of the update has its number, and no node is marked yet: all nodes of the plan are locked, and the seat
-- still has a section number; no plain link is set yet
pub record HasNumbered (v : View) (n : ℕ) (plan : Plan) (slots : PlanSlots) : Type 0 where
  pub live : v.joined ≡ false
  pub own : v.number ≡ Some n
  pub inside : IsInside v
  pub once : LocksOnce plan
  pub locked : held_slots v.held.nodes ≡ locks_of plan
  pub raised : is_some v.update.raised ≡ true
  pub taken : v.update.taken ≡ out_of plan
  pub idle : v.update.pending ≡ []
  pub reads : is_some v.reading.section ≡ true
  pub unmarked : AreUnmarked v plan slots
  pub links : LeavesLinks v.update.unset v.update.owed v.update.unlinking plan (sets_of plan slots) (sets_of plan slots)
  pub unsearched : HasNotSearched v

-- what pruning leaves as it was: what the pass knows of the history, and its slots, but for entries that it retires. No
-- count falls, and that of entries without a number is as it was
pub record KeepsPruned (v w : View) : Type 0 where
  pub layout : w.layout ≡ v.layout
  pub joined : w.joined ≡ v.joined
  pub number : w.number ≡ v.number
  pub history : w.history ≡ v.history
  pub free : w.free ≡ v.free
  pub batch : w.batch ≡ v.batch
  pub nodes : w.retired.nodes ≡ v.retired.nodes
  pub entries : length v.retired.entries ≤ length w.retired.entries
  pub grown : CountsGrow v w
  pub waits : w.counts.waits ≡ v.counts.waits

-- the update stands as it did
pub record StaysNumbered (v w : View) (n : ℕ) (plan : Plan) (slots : PlanSlots) : Type 0 where
  pub numbered : HasNumbered w n plan slots
  pub keeps : KeepsPruned v w

pub record PrunesOn (v : View) (n : ℕ) (plan : Plan) (slots : PlanSlots) : Type 0 where
  pub head : (node entry number : ℕ) (side : Side) → StaysNumbered v (head_loaded v node side entry number) n plan slots
  pub number : (entry x : ℕ) → 0 < x → StaysNumbered v (ts_loaded v entry x) n plan slots
  pub next : (entry next : ℕ) → StaysNumbered v (next_loaded v entry next) n plan slots
  pub looked : (pass word : ℕ) → StaysNumbered v (ann_loaded v pass word) n plan slots
  pub cut : (entry : ℕ) (back : List ℕ) → StaysNumbered v (cut_view v entry back) n plan slots

abbrev pub PruneStepLaw : Type 0
PruneStepLaw = (v : View) (n : ℕ) (plan : Plan) (slots : PlanSlots) → HasNumbered v n plan slots → PrunesOn v n plan slots

-- a pass that cuts without an update: inside a section, with a section number, it has locked these nodes, in this
-- order, and has done nothing else of an update
pub record IsCutting (v : View) (n : ℕ) (nodes : List ℕ) : Type 0 where
  pub live : v.joined ≡ false
  pub own : v.number ≡ Some n
  pub inside : IsInside v
  pub reads : is_some v.reading.section ≡ true
  pub idle : v.update ≡ no_update
  pub once : (k : ℕ) → count k nodes ≤ 1
  pub locked : held_slots v.held.nodes ≡ nodes

-- it still is one, and each node that was found unmarked under its lock still is
pub record StaysCutting (v w : View) (n : ℕ) (nodes : List ℕ) : Type 0 where
  pub cutting : IsCutting w n nodes
  pub unmarked : (k : ℕ) → IsUnmarked v k → IsUnmarked w k
  pub keeps : KeepsPruned v w

-- after each load along a bundle, each look at an announcement, and each cut
pub record CutsOn (v : View) (n : ℕ) (nodes : List ℕ) : Type 0 where
  pub head : (node entry number : ℕ) (side : Side) → StaysCutting v (head_loaded v node side entry number) n nodes
  pub number : (entry x : ℕ) → 0 < x → StaysCutting v (ts_loaded v entry x) n nodes
  pub next : (entry next : ℕ) → StaysCutting v (next_loaded v entry next) n nodes
  pub looked : (pass word : ℕ) → StaysCutting v (ann_loaded v pass word) n nodes
  pub cut : (entry : ℕ) (back : List ℕ) → StaysCutting v (cut_view v entry back) n nodes

abbrev pub CutStepLaw : Type 0
CutStepLaw = (v : View) (n : ℕ) (nodes : List ℕ) → IsCutting v n nodes → CutsOn v n nodes

-- a try may begin to cut at each of its steps before it fills its slots
abbrev pub StartCuttingLaw : Type 0
StartCuttingLaw = (v : View) (n : ℕ) (nodes : List ℕ) → IsTrying v n nodes → IsCutting v n nodes

-- a pass that cuts without an update may give its locks back at each step
abbrev pub EndCuttingLaw : Type 0
EndCuttingLaw = (v : View) (n : ℕ) (nodes : List ℕ) → IsCutting v n nodes → IsReleasing v n nodes

abbrev pub KeepsPrunedLaw : Type 0
KeepsPrunedLaw = (u v w : View) → KeepsPruned u v → KeepsPruned v w → KeepsPruned u w

-- the other steps after the raise keep no less
abbrev pub OwnedIsPrunedLaw : Type 0
OwnedIsPrunedLaw = (v w : View) → KeepsOwned v w → KeepsPruned v w
