-- The slots of a tree, by counts: a sum over the nodes, which nodes a tree step takes out, and which it
-- brings in.
use Rattle.std.specs.Prelude.{◌≡◌, ℕ, ◌+◌, ◌≤◌, List, [], ◌∷◌, ◌==◌, if◌then◌else◌, sum_by}
use Rattle.core_trees.specs.NamedTree.{NamedTree, Null, Branch}
use Rattle.core_trees.specs.TreeStep.{subtree_at, update}

-- the sum of `h` over the slots of the tree
abbrev pub tally : (ℕ → ℕ) → NamedTree → ℕ
tally h Null = 0
tally h (Branch slot key val left right) = h slot + (tally h left + tally h right)

-- 1 at the slot, and 0 at every other
abbrev pub one_at : ℕ → ℕ → ℕ
one_at slot s = if slot == s then 1 else 0

-- how often the slot stands in the tree
abbrev pub occurs : ℕ → NamedTree → ℕ
occurs slot tree = tally (one_at slot) tree

-- the slot of the top
abbrev pub top_slots : NamedTree → List ℕ
top_slots Null = []
top_slots (Branch slot key val left right) = slot ∷ []

-- the slot of the first node
abbrev pub first_slots : NamedTree → List ℕ
first_slots Null = []
first_slots (Branch slot key val Null right) = slot ∷ []
first_slots (Branch slot key val (Branch s k v left right') right) = first_slots (Branch s k v left right')

-- the successor's slot, if a node with these children is removed: with two children the successor is taken out too
abbrev pub successor_slots : NamedTree → NamedTree → List ℕ
successor_slots Null right = []
successor_slots (Branch slot key val left right') right = first_slots right

-- the slot of the new node, if a node with these children is removed: with two children there is one
abbrev pub joint_slots : ℕ → NamedTree → NamedTree → List ℕ
joint_slots slot (Branch s key val left right') (Branch t k v left' right'') = slot ∷ []
joint_slots slot _ _ = []

-- what the removal of the top takes out, and what it brings in
abbrev pub removed_slots : NamedTree → List ℕ
removed_slots Null = []
removed_slots (Branch slot key val left right) = slot ∷ successor_slots left right

abbrev pub added_slots : ℕ → NamedTree → List ℕ
added_slots slot Null = []
added_slots slot (Branch s key val left right) = joint_slots slot left right

-- the slots of the nodes that a put of the key takes out: the replaced one
abbrev pub put_takes : ℕ → NamedTree → List ℕ
put_takes key tree = top_slots (subtree_at key tree)

-- the slots of the nodes that a removal of the key takes out: the replaced one, and with two children the
-- successor
abbrev pub remove_takes : ℕ → NamedTree → List ℕ
remove_takes key tree = removed_slots (subtree_at key tree)

-- the slots of the nodes that a removal of the key brings in: with two children the new one
abbrev pub remove_brings : ℕ → ℕ → NamedTree → List ℕ
remove_brings slot key tree = added_slots slot (subtree_at key tree)

-- the nodes of the old tree without those that are taken out, with those that are brought in, are the nodes
-- of the new one: so it is for each sum over slots, and what is taken out is in the old tree
abbrev pub MovesSlots : List ℕ → List ℕ → NamedTree → NamedTree → Type 0
MovesSlots out brought old new =
    (h : ℕ → ℕ) → (tally h new + sum_by h out ≡ tally h old + sum_by h brought) × (sum_by h out ≤ tally h old)

-- an update changes a sum over slots by as much as it changes the sum over the subtree at which the search ends
abbrev pub UpdateTallyLaw : Type 0
UpdateTallyLaw =
    (h : ℕ → ℕ) (key : ℕ) (f : NamedTree → NamedTree) (tree : NamedTree)
    → tally h (update key f tree) + tally h (subtree_at key tree) ≡ tally h tree + tally h (f (subtree_at key tree))

-- no slot occurs in the tree twice, and the root of the tree does not occur in it
abbrev pub NamesOnce : ℕ → NamedTree → Type 0
NamesOnce root tree = (x : ℕ) → one_at x root + occurs x tree ≤ 1
