-- At rest the plain tree is the tree at the stamp.
use Rattle.std.specs.Prelude.{◌≡◌, ℕ}
use Rattle.index_words.specs.declared.side.Side.{Side}
use Rattle.index_words.specs.declared.side.Side.TheVariants.{Right}
use Rattle.core_trees.specs.NamedTree.{NamedTree}
use Rattle.core_trees.specs.SpelledTree.{Graph, IsSpelled}
use Rattle.plain_trees.specs.Matching.{Undone, IsUnset, Matches}

-- if no update still has to set a link, the two trees are the same, including the values
abbrev pub RestLaw : Type 0
RestLaw =
    (g now_links : Graph) (u : Undone) (plain now : NamedTree)
    → ((m : ℕ) → g.val m ≡ now_links.val m)
    → IsSpelled g (g.child Right 0) plain → IsSpelled now_links (now_links.child Right 0) now
    → ((parent : ℕ) (side : Side) (was child : ℕ) → ¬ IsUnset u parent side was child)
    → Matches u 0 Right plain now → plain ≡ now
