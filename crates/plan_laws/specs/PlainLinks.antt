-- The plain link of an update, after its marks. The link at which the tree has another child since the raise is set.
-- Then its tag is raised, where a removal has made it null. Until both are done no lock is given back. A removal with a
-- far successor ends otherwise, in two halves around a wait.
use Rattle.std.specs.Prelude.{◌≡◌, ℕ, ◌+◌, ◌<◌, ◌≤◌, List, [], Bool, true, false, map, ◌==◌, ◌&&◌, Option, Some, None}
use Rattle.index_words.specs.declared.view.View.{View}
use Rattle.index_words.specs.declared.view.reading.Link.{Link as ViewLink}
use Rattle.index_words.specs.declared.view.update.HeldNode.{HeldNode}
use Rattle.index_words.specs.declared.view.update.OwedTag.{OwedTag}
use Rattle.index_words.specs.declared.view.update.Unlinking.{Unlinking}
use Rattle.index_words.specs.declared.view.update.UnsetLink.{UnsetLink}
use Rattle.key_map.specs.Lists.{count, Every}
use Rattle.key_map.specs.declared.update.Change.{Change}
use Rattle.key_map.specs.declared.update.Change.TheVariants.{Put, Remove}
use Rattle.core_grace.specs.Holds.{held_slots}
use Rattle.core_events.specs.Searches.{is_plain}
use Rattle.core_events.specs.PlainMoves.{tag_loaded, link_set, tag_set}
use Rattle.core_invariant.specs.Readers.{IsLocked}
use Rattle.core_laws.specs.PlainNeeds.{MayReadTag, MaySetLink, MaySetTag}
use Rattle.core_laws.specs.ViewNeeds.{IsInside}
use Rattle.core_updates.specs.declared.plan.Plan.{Plan}
use Rattle.core_updates.specs.declared.plan.PlanSlots.{PlanSlots}
use Rattle.core_updates.specs.declared.plan.Front.{Front}
use Rattle.core_updates.specs.Plans.{change_of, locks_of, front_of, sets_of, unlinks_of}
use Rattle.core_updates.specs.SetLinks.{SetLink, set_of, owed_of}
use Rattle.plan_laws.specs.Frames.{KeepsOwned}
use Rattle.plan_laws.specs.Places.{LocksOnce}
use Rattle.plan_laws.specs.Releases.{IsReleasing}

-- what the update of a plan has still to do at plain links: these links are to be set, and of these the tags are to be
-- raised
pub record LeavesLinks (unset : List UnsetLink) (owed : List OwedTag) (unlinking : Option Unlinking) (plan : Plan) (sets tags : List SetLink) : Type 0 where
  pub unset_are : map set_of unset ≡ sets
  pub owed_are : owed ≡ owed_of (change_of plan) tags
  pub last : unlinking ≡ unlinks_of plan

-- all links are set in one section, since no successor is unlinked after a wait
abbrev pub SetsAtOnce : Plan → Type 0
SetsAtOnce plan = unlinks_of plan ≡ None

-- since its raise a pass remembers no plain link, so that no tag differs from what it remembers
abbrev pub HasNotSearched : View → Type 0
HasNotSearched v = Every (λ (l : ViewLink). is_plain l.source ≡ false) v.reading.links

-- a pass whose update has raised and is done with its entries and its marks: all nodes of the plan are locked
pub record IsSetting (v : View) (n : ℕ) (plan : Plan) (sets tags : List SetLink) : Type 0 where
  pub live : v.joined ≡ false
  pub own : v.number ≡ Some n
  pub inside : IsInside v
  pub once : LocksOnce plan
  pub locked : held_slots v.held.nodes ≡ locks_of plan
  pub idle : v.update.pending ≡ []
  pub marked : Every (λ (h : HeldNode). 0 < count h.node v.update.taken → h.mark ≡ Some 1) v.held.nodes
  pub links : LeavesLinks v.update.unset v.update.owed v.update.unlinking plan sets tags
  pub unsearched : HasNotSearched v

-- the link at which the tree has changed may be set, and then none is left
pub record SetsLink (v : View) (n : ℕ) (plan : Plan) (slots : PlanSlots) (tags : List SetLink) (f : Front) : Type 0 where
  pub may : MaySetLink v f.at.node f.at.side f.child
  pub set : IsSetting (link_set v f.at.node f.at.side f.child) n plan [] tags
  pub keeps : KeepsOwned v (link_set v f.at.node f.at.side f.child)

abbrev pub SetLaw : Type 0
SetLaw =
    (v : View) (n : ℕ) (plan : Plan) (slots : PlanSlots) (tags : List SetLink) → SetsAtOnce plan
    → IsSetting v n plan (sets_of plan slots) tags → SetsLink v n plan slots tags (front_of plan slots)

abbrev pub is_removal : Change → Bool
is_removal (Put val) = false
is_removal Remove = true

-- the tag of the link is to be raised: a removal has made it null
abbrev pub owes_tag : Plan → Front → Bool
owes_tag plan f = is_removal (change_of plan) && f.child == 0

-- the tag may be loaded, as the node is a locked one, and raised by one, and then the locks may be given back
pub record RaisesTag (n : ℕ) (plan : Plan) (tag : ℕ) (f : Front) (w : View) : Type 0 where
  pub may : MaySetTag w f.at.node f.at.side tag
  pub released : IsReleasing (tag_set w f.at.node f.at.side (tag + 1)) n (locks_of plan)
  pub keeps : KeepsOwned w (tag_set w f.at.node f.at.side (tag + 1))

pub record LoadsTag (v : View) (n : ℕ) (plan : Plan) (f : Front) : Type 0 where
  pub locked : IsLocked v f.at.node
  pub may : f.at.node ≤ v.layout.nodes → MayReadTag v f.at.node
  pub keeps : (tag : ℕ) → KeepsOwned v (tag_loaded v f.at.node f.at.side tag)
  pub raises : (tag : ℕ) → RaisesTag n plan tag f (tag_loaded v f.at.node f.at.side tag)

abbrev pub TagLaw : Type 0
TagLaw =
    (v : View) (n : ℕ) (plan : Plan) (slots : PlanSlots) → SetsAtOnce plan → IsSetting v n plan [] (sets_of plan slots)
    → owes_tag plan (front_of plan slots) ≡ true → LoadsTag v n plan (front_of plan slots)

-- where the tag stays they may be given back at once
abbrev pub NoTagLaw : Type 0
NoTagLaw =
    (v : View) (n : ℕ) (plan : Plan) (slots : PlanSlots) → SetsAtOnce plan → IsSetting v n plan [] (sets_of plan slots)
    → owes_tag plan (front_of plan slots) ≡ false → IsReleasing v n (locks_of plan)
