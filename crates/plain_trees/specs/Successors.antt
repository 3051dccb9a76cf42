-- The way of a search to a successor that waits to be unlinked. A removal of a node with two children puts a copy of
-- its successor in its place, and the successor stays in the plain tree for a while. Its left link is null.
use Rattle.std.specs.Prelude.{◌≡◌, ℕ, ◌<◌, ◌≤◌, ◌⊎◌}
use Rattle.core_trees.specs.NamedTree.{NamedTree, Null, Branch}
use Rattle.core_trees.specs.Gaps.{IsNull}
use Rattle.plain_trees.specs.Points.{point_of}

-- The search for the point reaches the successor: to the left at each node, or past a node that is about to be bypassed
-- to its right (`bypassed`) and has no left child. The point is not above the successor's key.
abbrev pub LeadsTo : (ℕ → Type 0) → ℕ → ℕ → NamedTree → Type 0
LeadsTo bypassed x successor Null = ⊥
LeadsTo bypassed x successor (Branch slot key val left right) =
    ((successor ≡ slot) × IsNull left × (x ≤ point_of key))
    ⊎ (((x < point_of key) × LeadsTo bypassed x successor left) ⊎ (bypassed slot × IsNull left × LeadsTo bypassed x successor right))

-- the node is in the tree, and from it on the search reaches the successor
abbrev pub LeadsFrom : (ℕ → Type 0) → ℕ → ℕ → ℕ → NamedTree → Type 0
LeadsFrom bypassed x successor node Null = ⊥
LeadsFrom bypassed x successor node (Branch slot key val left right) =
    ((node ≡ slot) × LeadsTo bypassed x successor (Branch slot key val left right))
    ⊎ (LeadsFrom bypassed x successor node left ⊎ LeadsFrom bypassed x successor node right)
