-- Bundles of a locked node, entry by entry.
use Rattle.std.specs.Prelude.{◌≡◌, ℕ, ◌<◌, ◌≤◌, List, [], ◌∷◌, Option}
use Rattle.index_words.specs.declared.view.View.{View}
use Rattle.index_words.specs.declared.view.reading.Place.TheVariants.{Entry as AtEntry}
use Rattle.index_words.specs.declared.view.update.HeldNext.{HeldNext}
use Rattle.index_words.specs.declared.side.Side.{Side}
use Rattle.index_words.specs.declared.side.Side.TheVariants.{Left, Right}
use Rattle.key_map.specs.Lists.{Every, IsItem}
use Rattle.core_invariant.specs.Readers.{IsLocked}
use Rattle.core_trees.specs.declared.link.Link.{Link}
use Rattle.core_updates.specs.declared.plan.Plan.{Plan}
use Rattle.core_updates.specs.Held.{HoldsHead}
use Rattle.core_updates.specs.PlanEvents.{HoldsNumbered}
use Rattle.core_updates.specs.Plans.{out_of}
use Rattle.table_steps.specs.Raises.{HoldsNext, HoldsChain}

-- the pass has locked the node and found the head of the link's bundle, and stands at this entry of it, or after the
-- last one
pub record StandsOn (v : View) (at : Link) (head entry : ℕ) : Type 0 where
  pub locked : IsLocked v at.node
  pub head_is : HoldsHead v at.node at.side head
  pub found : Option ℕ
  pub place : v.reading.place ≡ AtEntry at.node at.side entry found
  pub there : entry ≤ v.layout.entries

-- these are the entries from the head on, each found as the next of the one before, and the next of the last one is
-- `entry`
abbrev pub HoldsPart : View → ℕ → ℕ → List ℕ → ℕ → Type 0
HoldsPart v node head [] entry = head ≡ entry
HoldsPart v node head (e ∷ es) entry = (head ≡ e) × (0 < e) × ((next : ℕ) × HoldsNext v node e next × HoldsPart v node next es entry)

-- each next that was found is kept
abbrev pub KeepsNexts : View → View → Type 0
KeepsNexts v w = (place : ℕ) (item : HeldNext) → IsItem v.held.nexts place item → IsItem w.held.nexts place item

-- what was found of the newest entries of bundles under locks stays
pub record KeepsHeads (v w : View) : Type 0 where
  pub head : (node head : ℕ) (side : Side) → HoldsHead v node side head → HoldsHead w node side head
  pub numbered : (at : Link) (head : ℕ) → HoldsNumbered v at head → HoldsNumbered w at head

-- of each node that goes out both bundles were found, entry by entry
abbrev pub HoldsBundle : View → ℕ → Side → Type 0
HoldsBundle v node side = (head : ℕ) × (es : List ℕ) × HoldsHead v node side head × HoldsChain v node head es

abbrev pub HasWalkedAll : View → Plan → Type 0
HasWalkedAll v plan = Every (λ k. HoldsBundle v k Left × HoldsBundle v k Right) (out_of plan)
