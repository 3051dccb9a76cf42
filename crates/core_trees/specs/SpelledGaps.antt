-- Null links and gaps of a spelled tree.
use Rattle.std.specs.Prelude.{◌≡◌, ℕ, ◌<◌}
use Rattle.index_words.specs.declared.side.Side.{Side}
use Rattle.core_trees.specs.NamedTree.{NamedTree, IsLawful}
use Rattle.core_trees.specs.TreeStep.{tree_put}
use Rattle.core_trees.specs.Gaps.{HasNullLink, IsInGap}
use Rattle.core_trees.specs.Slots.{occurs}
use Rattle.core_trees.specs.SpelledTree.{Graph, IsSpelled}

-- a link of a node of the tree at which no child is read is a null link of the tree
abbrev pub NullLinkLaw : Type 0
NullLinkLaw =
    (g : Graph) (c node : ℕ) (side : Side) (tree : NamedTree) → IsSpelled g c tree → 0 < occurs node tree
    → g.child side node ≡ 0 → HasNullLink node (g.key node) side tree

-- a null link that is still null after a put has as wide a gap, or a wider one
abbrev pub StillNullLaw : Type 0
StillNullLaw =
    (g : Graph) (root slot put val node k z : ℕ) (top side : Side) (tree : NamedTree) → IsLawful tree
    → HasNullLink node k side tree → IsInGap side k z tree
    → IsSpelled g (g.child top root) (tree_put slot put val tree) → g.child side node ≡ 0
    → IsInGap side k z (tree_put slot put val tree)
