-- The walk to the successor of a node that is to be removed.
use Rattle.std.specs.Prelude.{◌≡◌, ℕ, ◌<◌, ◌⊎◌, List, Some}
use Rattle.index_words.specs.declared.side.Side.{Side}
use Rattle.index_words.specs.declared.side.Side.TheVariants.{Left}
use Rattle.index_words.specs.declared.view.View.{View}
use Rattle.index_words.specs.declared.view.reading.Place.TheVariants.{Gap as AtGap}
use Rattle.index_words.specs.declared.view.reading.Turn.{Turn}
use Rattle.core_invariant.specs.Readers.{IsLocked}
use Rattle.core_updates.specs.Held.{HoldsLink}
use Rattle.core_updates.specs.Plans.{link_of}
use Rattle.plan_laws.specs.Looks.{RemembersLink, RemembersNull}
use Rattle.plan_laws.specs.Tries.{IsTrying}
use Rattle.update_search.specs.declared.successor.NextFound.{NextFound}
use Rattle.update_search.specs.declared.successor.Walk.{Walk}
use Rattle.update_search.specs.Searching.{HasCome}

-- the node is the removed one, or its plain link was found, under its lock, to lead to the removed one
abbrev pub LeadsTo : View → ℕ → ℕ → Type 0
LeadsTo v removed k = (k ≡ removed) ⊎ ((side : Side) × HoldsLink v k side removed)

-- A walk has reached a node to the right of the removed one, which is locked and was found unmarked. No other node is
-- locked but the one above it.
pub record IsOnWalk (v : View) (walk : Walk) : Type 0 where
  pub number : ℕ
  pub nodes : List ℕ
  pub trying : IsTrying v number nodes
  pub come : HasCome v walk.at walk.node walk.turns
  pub removed : Turn
  pub above : walk.turns.right ≡ Some removed
  pub from : walk.at.node ≡ removed.node
  pub side : Side
  pub child : ℕ
  pub held : HoldsLink v removed.node side child
  pub locked : (k : ℕ) → IsLocked v k → LeadsTo v removed.node k

-- It has ended at a node with this key and without a left child, which hangs at this link: the key is above that of the
-- removed node, and its left link was found null between the two. The node is not locked. It is the one where the walk
-- began, or the node above it is not locked either.
pub record IsNext (v : View) (walk : Walk) (found : NextFound) : Type 0 where
  pub removed : Turn
  pub from : walk.turns.right ≡ Some removed
  pub key : ℕ
  pub above : removed.key < key
  pub place : v.reading.place ≡ AtGap found.node Left
  pub left : v.reading.left_turn ≡ Some (record { node = found.node; key = key })
  pub right : v.reading.right_turn ≡ Some removed
  pub at : RemembersLink v found.at found.node
  pub gap_at : found.gap.at ≡ link_of found.node Left
  pub gap : RemembersNull v found.gap.at found.gap.tag (Some key) (Some removed.key)
  pub apart : ¬ (found.at.node ≡ found.node)
  pub unlocked : ¬ IsLocked v found.node
  pub parent : ((found.at ≡ walk.at) × (found.node ≡ walk.node)) ⊎ (¬ IsLocked v found.at.node)
