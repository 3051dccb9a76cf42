-- The law on null links: what a search has found at a null link holds of the tree at the stamp.
use Rattle.std.specs.Prelude.{◌≡◌, ℕ, ◌<◌, ◌⊎◌, Bool, Option, Some}
use Rattle.index_words.specs.declared.side.Side.{Side}
use Rattle.index_words.specs.declared.side.Side.TheVariants.{Left, Right}
use Rattle.core_trees.specs.NamedTree.{NamedTree, IsLawful}
use Rattle.core_trees.specs.Gaps.{IsGapLink}
use Rattle.core_trees.specs.Slots.{occurs}
use Rattle.core_trees.specs.SpelledTree.{Graph, IsSpelled}
use Rattle.plain_trees.specs.Points.{point_of, IsInTurns}
use Rattle.plain_trees.specs.Matching.{Undone, IsUnset, IsOut, IsBypassed, IsOrderly, Matches}
use Rattle.plain_trees.specs.Claims.{IsWaiting, ClaimsInTurns}

-- the key of the node at which a search last turned to this side
abbrev pub turn_of : Side → Option ℕ → Option ℕ → Option ℕ
turn_of Left low high = high
turn_of Right low high = low

-- A null link at which a search has ended: its node is the turn of that side, except for the root. The node was not
-- taken out, and no update still has to set the link; an unmarked node that no other seat has locked is such a node.
pub record EndedAt (g : Graph) (u : Undone) (waits : ℕ → ℕ → Bool) (plain : NamedTree) (node : ℕ) (side : Side) (low high : Option ℕ) : Type 0 where
  pub there : ¬ IsOut u node
  pub reached : (node ≡ 0) ⊎ (0 < occurs node plain)
  pub settled : (was child : ℕ) → ¬ IsUnset u node side was child
  pub null : g.child side node ≡ 0
  pub root : node ≡ 0 → side ≡ Right
  pub turned : ¬ (node ≡ 0) → turn_of side low high ≡ Some (g.key node)
  pub claims : ClaimsInTurns g (IsBypassed u) (IsWaiting waits) plain low high node

-- each key between the turns' keys is in the gap of the link, in the tree at the stamp
abbrev pub NullLinkLaw : Type 0
NullLinkLaw =
    (g : Graph) (u : Undone) (waits : ℕ → ℕ → Bool) (plain now : NamedTree) (node key : ℕ) (side : Side) (low high : Option ℕ)
    → IsOrderly u → ((removed successor : ℕ) → IsWaiting waits removed successor → IsOut u successor)
    → IsSpelled g (g.child Right 0) plain → Matches u 0 Right plain now → IsLawful now
    → EndedAt g u waits plain node side low high → IsInTurns low high (point_of key)
    → IsGapLink key node side 0 Right now
