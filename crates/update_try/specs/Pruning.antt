-- How an update walks along a bundle that it changed, to cut it after the entries that are still read.
use Rattle.std.specs.Prelude.{◌≡◌, ℕ, ◌<◌, ◌≤◌, ◌⊎◌, List, [], ◌∷◌, ◌++◌, length, nat_lt, true, false, Some, is_some, IfSome, if◌then◌else◌}
use Rattle.index_words.specs.declared.side.Side.TheVariants.{Left, Right}
use Rattle.index_words.specs.declared.view.View.{View}
use Rattle.key_map.specs.Lists.{count, has}
use Rattle.core_grace.specs.Batches.{all_passed, is_number}
use Rattle.core_laws.specs.Cuts.{HasWalkedAt, HasWalkedTo}
use Rattle.core_laws.specs.ViewNeeds.{IsInside}
use Rattle.core_trees.specs.declared.link.Link.{Link}
use Rattle.core_updates.specs.declared.plan.Plan.{Plan}
use Rattle.core_updates.specs.declared.plan.Plan.TheVariants.{Replace}
use Rattle.core_updates.specs.declared.plan.PlanSlots.{PlanSlots}
use Rattle.core_updates.specs.Held.{HoldsHead}
use Rattle.core_updates.specs.PlanEvents.{HoldsEntry}
use Rattle.core_updates.specs.Plans.{link_at, link_of, next_link_of}
use Rattle.plan_laws.specs.Looks.{IsUnmarked}
use Rattle.plan_laws.specs.Prunes.{HasNumbered, IsCutting, StaysCutting, StaysNumbered}
use Rattle.table_steps.specs.Passes.{HasSurplus}
use Rattle.update_try.specs.Walked.{StandsOn, HoldsPart, KeepsHeads, KeepsNexts}
use Rattle.update_try.specs.declared.pruning.Least.{Least}
use Rattle.update_try.specs.declared.pruning.Stop.{Stop}

-- an update whose entries have their numbers stands as before, and so does a pass that cuts without an update
pub record KeepsUpdate (v w : View) : Type 0 where
  pub numbered : (n : ℕ) (plan : Plan) (slots : PlanSlots) → HasNumbered v n plan slots → StaysNumbered v w n plan slots
  pub cutting : (n : ℕ) (nodes : List ℕ) → IsCutting v n nodes → StaysCutting v w n nodes

-- the section number, the least number, the passes at which the pass has looked for it, and what its update took out
-- are unchanged
pub record KeepsLeast (v w : View) : Type 0 where
  pub section : w.reading.section ≡ v.reading.section
  pub least : w.reading.least ≡ v.reading.least
  pub looked : w.reading.looked ≡ v.reading.looked
  pub number : w.number ≡ v.number
  pub layout : w.layout ≡ v.layout
  pub taken : w.update.taken ≡ v.update.taken

-- where the pass stands, and what it has found under its locks, is unchanged
pub record KeepsPlace (v w : View) : Type 0 where
  pub held : w.held ≡ v.held
  pub place : w.reading.place ≡ v.reading.place
  pub layout : w.layout ≡ v.layout
  pub taken : w.update.taken ≡ v.update.taken
  pub pending : w.update.pending ≡ v.update.pending

-- this is the least number of a pass that has a section number; if `looked` is set, the pass has looked at every other
-- pass for it
pub record IsLeast (v : View) (l : Least) : Type 0 where
  pub reads : is_some v.reading.section ≡ true
  pub least : v.reading.least ≡ Some l.number
  pub looked : l.looked ≡ true → all_passed v.layout.passes v.number v.reading.looked ≡ true

-- the pass has looked at one more pass, if that is another one, and this is its least number then
pub record HasLookedAt (v : View) (other number low : ℕ) (w : View) : Type 0 where
  pub section : w.reading.section ≡ v.reading.section
  pub least : w.reading.least ≡ Some low
  pub lower : low ≤ number
  pub own : w.number ≡ v.number
  pub looked : is_number other w.number ≡ false → has other w.reading.looked ≡ true
  pub before : (n : ℕ) → has n v.reading.looked ≡ true → has n w.reading.looked ≡ true
  pub place : KeepsPlace v w

-- inside a section, with nothing pending, the node of the link stays in the tree, and was found unmarked under its lock
pub record IsChanged (v : View) (at : Link) : Type 0 where
  pub inside : IsInside v
  pub unmarked : IsUnmarked v at.node
  pub stays : count at.node v.update.taken ≡ 0
  pub idle : v.update.pending ≡ []

-- from the head on the pass went past these entries, whose numbers are above the least one, and stands after them, with
-- nothing pending
pub record HasGonePast (v : View) (at : Link) (least head : ℕ) (front : List ℕ) (entry : ℕ) : Type 0 where
  pub holds : HoldsEntry v at head
  pub walked : HasWalkedTo v at.node least head front entry
  pub part : HoldsPart v at.node head front entry
  pub stands : StandsOn v at head entry
  pub idle : v.update.pending ≡ []

abbrev pub GoesPast : View → Link → ℕ → ℕ → Type 0
GoesPast v at least entry = (head : ℕ) × (front : List ℕ) × HasGonePast v at least head front entry

-- then it has found the number and the next of an entry, and stands at the next one
pub record HasStopped (v : View) (at : Link) (least head : ℕ) (front : List ℕ) (stop : Stop) : Type 0 where
  pub holds : HoldsEntry v at head
  pub walked : HasWalkedTo v at.node least head front stop.entry
  pub here : HasWalkedAt v at.node stop.entry stop.number stop.next
  pub some : 0 < stop.entry
  pub part : HoldsPart v at.node head (front ++ stop.entry ∷ []) stop.next
  pub stands : StandsOn v at head stop.next
  pub idle : v.update.pending ≡ []

abbrev pub StopsAt : View → Link → ℕ → Stop → Type 0
StopsAt v at least stop = (head : ℕ) × (front : List ℕ) × HasStopped v at least head front stop

-- what was found under locks of the heads and the entries of bundles stays
pub record KeepsWalks (v w : View) : Type 0 where
  pub nexts : KeepsNexts v w
  pub heads : KeepsHeads v w

-- the entry is none, or the last one of its bundle: its next was found 0, or it was cut there
abbrev pub IsLastOf : View → ℕ → ℕ → Type 0
IsLastOf v node entry = (entry ≡ 0) ⊎ ((number : ℕ) × HasWalkedAt v node entry number 0)

-- Nothing hangs after the first entry of the bundle whose number is at most this one. The pass has found the head since it locked
-- the node, and has gone past these entries, whose numbers are above; the one after them is the last one, or there is none.
pub record EndsAtLeast (v : View) (at : Link) (least : ℕ) : Type 0 where
  pub head : ℕ
  pub held : HoldsHead v at.node at.side head
  pub front : List ℕ
  pub last : ℕ
  pub walked : HasWalkedTo v at.node least head front last
  pub ends : IsLastOf v at.node last

-- the pass went past so many entries of the bundle, whose numbers are above
pub record HasGoneFar (v : View) (at : Link) (least limit : ℕ) : Type 0 where
  pub head : ℕ
  pub held : HoldsHead v at.node at.side head
  pub front : List ℕ
  pub next : ℕ
  pub walked : HasWalkedTo v at.node least head front next
  pub far : limit ≤ length front

-- the bundle was cut after what is read at this number or above, unless the walk along it went past this limit
abbrev pub IsPruned : View → Link → ℕ → ℕ → Type 0
IsPruned v at least limit = EndsAtLeast v at least ⊎ HasGoneFar v at least limit

-- so many entries a walk goes past at most: where few are free, more than a table has
abbrev pub walk_limit : View → ℕ
walk_limit v = if nat_lt (length v.free.entries) 16 then 4294967295 else 64

-- a bundle of another link that was cut stays so
abbrev pub KeepsOthers : View → Link → View → Type 0
KeepsOthers v at w = (l : Link) (least limit : ℕ) → ¬ (l ≡ at) → IsPruned v l least limit → IsPruned w l least limit

-- so do those of links of other nodes
abbrev pub KeepsApart : View → ℕ → View → Type 0
KeepsApart v node w = (l : Link) (least limit : ℕ) → ¬ (l.node ≡ node) → IsPruned v l least limit → IsPruned w l least limit

-- the bundles in front of which a plan puts its entries were cut, by the least number that the pass has
pub record ArePruned (v : View) (plan : Plan) (limit : ℕ) : Type 0 where
  pub least : ℕ
  pub is : v.reading.least ≡ Some least
  pub first : IsPruned v (link_at plan) least limit
  pub next : IfSome (next_link_of plan) (λ at. IsPruned v at least limit)

-- the bundles in front of which a plan puts its entries were cut, or left to others by a pass that owns more than an even share
abbrev pub ArePrunedOrLeft : View → Plan → ℕ → Type 0
ArePrunedOrLeft v plan limit = HasSurplus v ⊎ ArePruned v plan limit

-- so were both bundles of a node
abbrev pub IsPrunedNode : View → ℕ → ℕ → ℕ → Type 0
IsPrunedNode v node least limit = IsPruned v (link_of node Left) least limit × IsPruned v (link_of node Right) least limit

-- of a put's plan: the bundle of its link, and both of the node that it replaces
abbrev pub PrunesFound : View → Plan → ℕ → ℕ → Type 0
PrunesFound v (Replace p) least limit = IsPrunedNode v p.node least limit
PrunesFound v _ least limit = Unit {0}

pub record IsPrunedAround (v : View) (plan : Plan) (limit : ℕ) : Type 0 where
  pub least : ℕ
  pub is : v.reading.least ≡ Some least
  pub at : IsPruned v (link_at plan) least limit
  pub found : PrunesFound v plan least limit
