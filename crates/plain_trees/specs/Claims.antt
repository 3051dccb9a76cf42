-- What a search on plain links claims of the place where it stands. The nodes on its way may be out of the plain tree
-- by then; what holds is said of the nodes at which the way reaches the plain tree.
use Rattle.std.specs.Prelude.{◌≡◌, ℕ, ◌<◌, ◌⊎◌, List, [], ◌∷◌, Option, Bool, true}
use Rattle.index_words.specs.declared.side.Side.TheVariants.{Left, Right}
use Rattle.core_trees.specs.NamedTree.{NamedTree}
use Rattle.core_trees.specs.Slots.{occurs}
use Rattle.core_trees.specs.SpelledTree.{Graph}
use Rattle.plain_trees.specs.Points.{point_of, Meets, IsInTurns}
use Rattle.plain_trees.specs.Successors.{LeadsFrom}

-- the search for the point goes by child links from `from` through these nodes to `to`; none of them is in the tree
abbrev pub IsWay : Graph → NamedTree → ℕ → List ℕ → ℕ → ℕ → Type 0
IsWay g plain x [] from to = from ≡ to
IsWay g plain x (node ∷ nodes) from to =
    (from ≡ node) × (0 < node) × (occurs node plain ≡ 0)
    × (((x < point_of (g.key node)) × IsWay g plain x nodes (g.child Left node) to)
    ⊎ ((point_of (g.key node) < x) × IsWay g plain x nodes (g.child Right node) to))

-- a removal that has not passed this seat yet took out the first node, and still has to unlink the second, its
-- successor
abbrev pub IsWaiting : (ℕ → ℕ → Bool) → ℕ → ℕ → Type 0
IsWaiting waits removed successor = waits removed successor ≡ true

-- From the node on the search reaches the successor of a removal that waits, and the point is above the removed key.
pub record IsExcepted (g : Graph) (bypassed : ℕ → Type 0) (waits : ℕ → ℕ → Type 0) (plain : NamedTree) (x node : ℕ) : Type 0 where
  pub removed : ℕ
  pub successor : ℕ
  pub waiting : waits removed successor
  pub above : point_of (g.key removed) < x
  pub leads : LeadsFrom bypassed x successor node plain

-- if the search for the point from `from` on reaches the plain tree, the search from the root on reaches it at the same
-- node, or the point is excepted there
abbrev pub Claims : Graph → (ℕ → Type 0) → (ℕ → ℕ → Type 0) → NamedTree → ℕ → ℕ → Type 0
Claims g bypassed waits plain x from =
    (nodes : List ℕ) (node : ℕ) → IsWay g plain x nodes from node → 0 < occurs node plain
    → Meets x node plain ⊎ IsExcepted g bypassed waits plain x node

-- a search with these turns claims it of each point between them
abbrev pub ClaimsInTurns : Graph → (ℕ → Type 0) → (ℕ → ℕ → Type 0) → NamedTree → Option ℕ → Option ℕ → ℕ → Type 0
ClaimsInTurns g bypassed waits plain low high from = (x : ℕ) → IsInTurns low high x → Claims g bypassed waits plain x from
