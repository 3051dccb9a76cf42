-- What a try learns under its locks, look by look.
use Rattle.std.specs.Prelude.{◌≡◌, ℕ, ◌⊎◌, List, Some}
use Rattle.index_words.specs.declared.side.Side.{Side}
use Rattle.index_words.specs.declared.view.View.{View}
use Rattle.index_words.specs.declared.view.reading.Place.TheVariants.{Node as AtNode}
use Rattle.index_words.specs.declared.side.Side.TheVariants.{Right}
use Rattle.core_events.specs.Searches.{place_after}
use Rattle.core_trees.specs.declared.link.Link.{Link}
use Rattle.core_invariant.specs.Readers.{IsLocked}
use Rattle.core_laws.specs.Searching.{last_turn}
use Rattle.core_updates.specs.PlanEvents.{KnowsLink, KnowsTag}
use Rattle.core_updates.specs.Plans.{link_of}
use Rattle.plan_laws.specs.Tries.{IsTrying}

-- a try has locked the node
pub record IsLockedBy (v : View) (k : ℕ) : Type 0 where
  pub number : ℕ
  pub nodes : List ℕ
  pub trying : IsTrying v number nodes
  pub locked : IsLocked v k

-- no plain link of a locked node, and no tag, is known that was not known before
pub record LearnsNothing (v w : View) : Type 0 where
  pub link : (k : ℕ) (side : Side) → KnowsLink w k side → KnowsLink v k side
  pub tag : (k : ℕ) (side : Side) → KnowsTag w k side → KnowsTag v k side

-- none but this link
pub record LearnsAt (at : Link) (v w : View) : Type 0 where
  pub link : (k : ℕ) (side : Side) → ¬ (link_of k side ≡ at) → KnowsLink w k side → KnowsLink v k side
  pub tag : (k : ℕ) (side : Side) → KnowsTag w k side → KnowsTag v k side

-- the key of the node is known, by where the search stands or by its last turns
abbrev pub KnowsKey : View → ℕ → ℕ → Type 0
KnowsKey v node key =
    (v.reading.place ≡ AtNode node (Some key)) ⊎ ((side : Side) × (last_turn side v.reading ≡ Some (record { node = node; key = key })))

-- none of the node's links, and none of their tags, is known
pub record KnowsNothingAt (v : View) (k : ℕ) : Type 0 where
  pub link : (side : Side) → ¬ KnowsLink v k side
  pub tag : (side : Side) → ¬ KnowsTag v k side

-- the search has stepped to the right of a node with this key, to this child, 0 for none
pub record IsRightOf (v : View) (node key right : ℕ) : Type 0 where
  pub place : v.reading.place ≡ place_after node Right right
  pub turn : v.reading.right_turn ≡ Some (record { node = node; key = key })
