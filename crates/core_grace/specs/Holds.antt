-- What a seat holds: the nodes and entries at which it may be looking, so that they must not be used
-- again.
use Rattle.std.specs.Prelude.{◌≡◌, ℕ, ◌+◌, ◌<◌, ◌⊎◌, List, [], ◌∷◌, ◌++◌, nat_le, cond, Option, Some, None, map}
use Rattle.index_words.specs.declared.view.View.{View}
use Rattle.index_words.specs.declared.view.reading.TreeNode.{TreeNode}
use Rattle.index_words.specs.declared.view.update.HeldNode.{HeldNode}
use Rattle.index_words.specs.declared.side.Side.{Side}
use Rattle.index_words.specs.declared.side.Side.TheVariants.{Left, Right}
use Rattle.key_map.specs.Lists.{count}

-- the bundle of each link, newest entry first, and the number of each entry
pub record Bundles : Type 0 where
  pub bundle : Side → ℕ → List ℕ
  pub number : ℕ → ℕ

-- the entries of a node's bundles
abbrev pub entries_of : Bundles → ℕ → List ℕ
entries_of b k = b.bundle Left k ++ b.bundle Right k

-- how often an entry occurs in the bundles of these nodes
abbrev pub linked_in : Bundles → ℕ → List ℕ → ℕ
linked_in b e [] = 0
linked_in b e (k ∷ ks) = count e (entries_of b k) + linked_in b e ks

-- what a reader at `t` may be looking at: the entries down to the first one whose number is at most `t`, or all if
-- there is none
abbrev pub read_at : (ℕ → ℕ) → ℕ → List ℕ → List ℕ
read_at number t [] = []
read_at number t (e ∷ es) = e ∷ cond (nat_le (number e) t) [] (read_at number t es)

abbrev pub tree_slots : List TreeNode → List ℕ
tree_slots ns = map (λ (n : TreeNode). n.slot) ns

abbrev pub held_slots : List HeldNode → List ℕ
held_slots hs = map (λ (h : HeldNode). h.node) hs

abbrev pub listed : Option ℕ → List ℕ
listed None = []
listed (Some k) = k ∷ []

-- the nodes that it works on: those that it has locked, and the one that its update has brought in
abbrev pub work_nodes : View → List ℕ
work_nodes v = held_slots v.held.nodes ++ listed v.update.added

-- the nodes of the tree at its section number, and those that it works on. It also holds the root, which is no slot
abbrev pub held_nodes : View → List ℕ
held_nodes v = tree_slots v.reading.tree ++ work_nodes v

-- a reader at `t` may be looking at the entry, in a bundle of the root or of one of these nodes
pub record Reads (b : Bundles) (t : ℕ) (nodes : List ℕ) (e : ℕ) : Type 0 where
  pub node : ℕ
  pub side : Side
  pub of : (node ≡ 0) ⊎ (0 < count node nodes)
  pub read : 0 < count e (read_at b.number t (b.bundle side node))

abbrev pub ReadsAt : Bundles → Option ℕ → List ℕ → ℕ → Type 0
ReadsAt b None nodes e = ⊥
ReadsAt b (Some t) nodes e = Reads b t nodes e

-- the entry stands in a bundle of one of these nodes
pub record StandsIn (b : Bundles) (nodes : List ℕ) (e : ℕ) : Type 0 where
  pub node : ℕ
  pub side : Side
  pub of : 0 < count node nodes
  pub here : 0 < count e (b.bundle side node)

abbrev pub ReadsNode : View → ℕ → Type 0
ReadsNode v k = 0 < count k (held_nodes v)

-- what it holds is what it reads or works on
abbrev pub HoldsNode : View → ℕ → Type 0
HoldsNode v k = ReadsNode v k

-- the entries that it may be reading, and all those of the nodes that it works on
abbrev pub HoldsEntry : Bundles → View → ℕ → Type 0
HoldsEntry b v e = ReadsAt b v.reading.section (tree_slots v.reading.tree) e ⊎ StandsIn b (work_nodes v) e
