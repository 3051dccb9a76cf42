-- What a try learns under its locks, on the way from its aim to a plan.
use Rattle.std.specs.Prelude.{◌≡◌, ℕ, ◌<◌, ◌⊎◌, List, [], ◌∷◌, ◌==◌, Some, if◌then◌else◌}
use Rattle.index_words.specs.declared.side.Side.TheVariants.{Left, Right}
use Rattle.index_words.specs.declared.view.View.{View}
use Rattle.index_words.specs.declared.view.reading.Place.TheVariants.{Gap as AtGap, Node as AtNode}
use Rattle.index_words.specs.declared.view.update.HeldNode.{HeldNode}
use Rattle.core_updates.specs.declared.plan.NextNode.{NextNode}
use Rattle.core_updates.specs.declared.plan.Plan.{Plan}
use Rattle.core_updates.specs.Held.{HasLoaded, HoldsLink}
use Rattle.core_updates.specs.PlanReady.{HoldsLook}
use Rattle.core_updates.specs.Plans.{BetweenLook, HasNode, change_of, key_of, link_of}
use Rattle.plan_laws.specs.Answers.{was_there}
use Rattle.core_events.specs.Searches.{place_after}
use Rattle.core_laws.specs.ViewNeeds.{IsSearched}
use Rattle.plan_laws.specs.Looks.{RemembersLink, RemembersNull}
use Rattle.update_search.specs.declared.successor.NextFound.{NextFound}
use Rattle.update_search.specs.declared.descent.KeyNode.{KeyNode}
use Rattle.update_search.specs.declared.search.Aim.{Aim}
use Rattle.update_search.specs.Aims.{has_found, key_of as key_aimed, change_of as change_aimed}

-- the plan is one for the aim
pub record IsPlanOf (aim : Aim) (plan : Plan) : Type 0 where
  pub key_is : key_of plan ≡ key_aimed aim
  pub change_is : change_of plan ≡ change_aimed aim
  pub was : was_there plan ≡ has_found aim

-- A search has found the key's node at this link. It stands there, or has stepped to the right of it.
pub record FindsNode (v : View) (key : ℕ) (found : KeyNode) : Type 0 where
  pub at : RemembersLink v found.at found.node
  pub parent : IsSearched v found.at.node
  pub node : IsSearched v found.node
  pub apart : ¬ (found.at.node ≡ found.node)
  pub known : (v.reading.place ≡ AtNode found.node (Some key))
      ⊎ ((right : ℕ) × (v.reading.place ≡ place_after found.node Right right) × (v.reading.right_turn ≡ Some (record { node = found.node; key = key })))

-- the key's node and its parent are locked; it hangs there, both are unmarked, it has this key and this left child
pub record HoldsNode (v : View) (key : ℕ) (found : KeyNode) (left : ℕ) : Type 0 where
  pub at : HoldsLink v found.at.node found.at.side found.node
  pub key_is : HasLoaded v found.node (λ (h : HeldNode). h.key) key
  pub left_link : HoldsLink v found.node Left left
  pub formed : HasNode found.at found.node

-- the locks after those of the node and its parent
abbrev pub next_locks : ℕ → NextNode → List ℕ
next_locks removed next = if next.at.node == removed then next.node ∷ [] else next.at.node ∷ next.node ∷ []

-- A walk from a node with this key has ended at its successor: the search has found the successor's key, its link and
-- its null left link.
pub record FindsNext (v : View) (key : ℕ) (found : NextFound) : Type 0 where
  pub high : ℕ
  pub above : key < high
  pub place : v.reading.place ≡ AtGap found.node Left
  pub left : v.reading.left_turn ≡ Some (record { node = found.node; key = high })
  pub at : RemembersLink v found.at found.node
  pub gap_at : found.gap.at ≡ link_of found.node Left
  pub gap : RemembersNull v found.gap.at found.gap.tag (Some high) (Some key)
  pub apart : ¬ (found.at.node ≡ found.node)

-- The successor and its parent are locked; it hangs there, has a greater key and no left child, and each key between is
-- in the gap of its left link.
pub record HoldsNext (v : View) (key : ℕ) (next : NextNode) : Type 0 where
  pub at : HoldsLink v next.at.node next.at.side next.node
  pub key_is : HasLoaded v next.node (λ (h : HeldNode). h.key) next.pair.key
  pub val_is : HasLoaded v next.node (λ (h : HeldNode). h.val) next.pair.val
  pub above : key < next.pair.key
  pub left_link : HoldsLink v next.node Left 0
  pub right_link : HoldsLink v next.node Right next.right
  pub gap : HoldsLook v (BetweenLook (link_of next.node Left) key next.pair.key)

-- it is the one at which the walk has ended
pub record IsNextAt (found : NextFound) (next : NextNode) : Type 0 where
  pub at : next.at ≡ found.at
  pub node : next.node ≡ found.node
