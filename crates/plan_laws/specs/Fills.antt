-- After its last look a try finds the newest entries of the bundles that it changes, and fills its own free slots: the
-- new node, the entries of its links, and the entries that are put in front of bundles, each of these with the entry
-- after it that was found. No other seat reads these words yet.
use Rattle.std.specs.Prelude.{◌≡◌, ℕ, ◌<◌, ◌^◌, List, [], ◌∷◌, ◌++◌, Option, Some, None, IfSome}
use Rattle.index_words.specs.declared.view.View.{View}
use Rattle.index_words.specs.declared.view.reading.Filled.{Filled}
use Rattle.key_map.specs.Lists.{Every}
use Rattle.core_events.specs.FillMoves.{filled_view}
use Rattle.core_laws.specs.ViewNeeds.{MayFill}
use Rattle.core_updates.specs.declared.plan.Plan.{Plan}
use Rattle.core_updates.specs.declared.plan.PlanSlots.{PlanSlots}
use Rattle.core_updates.specs.declared.plan.Front.{Front}
use Rattle.core_updates.specs.declared.plan.Fresh.{Fresh}
use Rattle.core_updates.specs.declared.plan.Heads.{Heads}
use Rattle.core_updates.specs.declared.plan.NewNode.{NewNode}
use Rattle.core_updates.specs.PlanEvents.{HasSlots, HoldsNumbered}
use Rattle.core_updates.specs.PlanReady.{HoldsFill}
use Rattle.core_updates.specs.Plans.{front_of, link_at, next_front_of, next_link_of, new_node_of, node_fills, entry_fills}
use Rattle.plan_laws.specs.Looks.{HasLookedAll}

-- the entries of the slots are different ones, and none is 0; those that are put in front have numbers of 32 bits
pub record AreApart (slots : PlanSlots) : Type 0 where
  pub at_left : ¬ (slots.at ≡ slots.left)
  pub at_right : ¬ (slots.at ≡ slots.right)
  pub at_next : ¬ (slots.at ≡ slots.next)
  pub left_right : ¬ (slots.left ≡ slots.right)
  pub left_next : ¬ (slots.left ≡ slots.next)
  pub right_next : ¬ (slots.right ≡ slots.next)
  pub at_some : 0 < slots.at
  pub left_some : 0 < slots.left
  pub right_some : 0 < slots.right
  pub next_some : 0 < slots.next
  pub at_small : slots.at < 2 ^ 32
  pub next_small : slots.next < 2 ^ 32

-- all looks hold, and these are the newest entries of the bundles in front of which the plan puts its own, with their
-- numbers
pub record HasHeads (v : View) (n : ℕ) (plan : Plan) (heads : Heads) : Type 0 where
  pub looked : HasLookedAll v n plan
  pub at : HoldsNumbered v (link_at plan) heads.at
  pub next : IfSome (next_link_of plan) (λ at. HoldsNumbered v at heads.next)

-- what is filled of the entry of a new node's link
abbrev pub fresh_fills : Option Fresh → List Filled
fresh_fills None = []
fresh_fills (Some fresh) = entry_fills fresh.entry fresh.child 0

-- of a new node, and of the entries of its links
abbrev pub new_fills : NewNode → List Filled
new_fills n = node_fills n ++ (fresh_fills n.left ++ fresh_fills n.right)

abbrev pub new_fills_of : Option NewNode → List Filled
new_fills_of None = []
new_fills_of (Some n) = new_fills n

-- of an entry that is put in front, with the entry after it
abbrev pub front_fills : ℕ → Front → List Filled
front_fills behind f = entry_fills f.entry f.child behind

abbrev pub next_fills : ℕ → Option Front → List Filled
next_fills behind None = []
next_fills behind (Some f) = front_fills behind f

-- all that a try fills, in its order
abbrev pub fills_of : Plan → PlanSlots → Heads → List Filled
fills_of plan slots heads =
    new_fills_of (new_node_of plan slots) ++ (front_fills heads.at (front_of plan slots) ++ next_fills heads.next (next_front_of plan slots))

-- the view after these fills
abbrev pub filled_all : View → List Filled → View
filled_all v [] = v
filled_all v (f ∷ fs) = filled_all (filled_view v f.word f.value) fs

-- all words are filled
pub record HasFilledAll (v : View) (n : ℕ) (plan : Plan) (slots : PlanSlots) (heads : Heads) : Type 0 where
  pub found : HasHeads v n plan heads
  pub free : HasSlots v slots
  pub filled : Every (HoldsFill v) (fills_of plan slots heads)

-- a fill takes no free slot away
abbrev pub MayFillOnLaw : Type 0
MayFillOnLaw = (v : View) (f g : Filled) → MayFill v g.word → MayFill (filled_view v f.word f.value) g.word

-- each word may be filled, and after the last one all are
pub record FillsAll (v : View) (n : ℕ) (plan : Plan) (slots : PlanSlots) (heads : Heads) : Type 0 where
  pub may : Every (λ (f : Filled). MayFill v f.word) (fills_of plan slots heads)
  pub filled : HasFilledAll (filled_all v (fills_of plan slots heads)) n plan slots heads

abbrev pub FillLaw : Type 0
FillLaw =
    (v : View) (n : ℕ) (plan : Plan) (slots : PlanSlots) (heads : Heads) → HasHeads v n plan heads → HasSlots v slots → AreApart slots
    → FillsAll v n plan slots heads
