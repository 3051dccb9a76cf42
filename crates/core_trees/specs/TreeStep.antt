-- The tree step: what a put or a removal makes of a named tree. Each is a change of the subtree at which the search for
-- the key ends: the null tree at a null link, or the node with the key and what is below it.
use Rattle.std.specs.Prelude.{ℕ, nat_lt, if◌then◌else◌}
use Rattle.key_map.specs.declared.pair.Pair.{Pair}
use Rattle.key_map.specs.Map.{pair}
use Rattle.core_trees.specs.NamedTree.{NamedTree, Null, Branch}

-- the subtree at which the search for the key ends
abbrev pub subtree_at : ℕ → NamedTree → NamedTree
subtree_at key Null = Null
subtree_at key (Branch slot k val left right) =
    if nat_lt key k then subtree_at key left
    else (if nat_lt k key then subtree_at key right else Branch slot k val left right)

-- the tree with `f` done to the subtree at which the search for the key ends
abbrev pub update : ℕ → (NamedTree → NamedTree) → NamedTree → NamedTree
update key f Null = f Null
update key f (Branch slot k val left right) =
    if nat_lt key k then Branch slot k val (update key f left) right
    else (if nat_lt k key then Branch slot k val left (update key f right) else f (Branch slot k val left right))

-- a put at the end of its search: a node without children at a null link, or a node in the place of the key's, with the
-- same children
abbrev pub put_here : ℕ → ℕ → ℕ → NamedTree → NamedTree
put_here slot key val Null = Branch slot key val Null Null
put_here slot key val (Branch s k v left right) = Branch slot key val left right

-- the first pair of a tree whose top has this key, this value and this left tree
abbrev pub first_pair : ℕ → ℕ → NamedTree → Pair
first_pair key val Null = pair key val
first_pair key val (Branch slot k v left right) = first_pair k v left

-- the tree without its first node, which is replaced by its right tree
abbrev pub without_first : NamedTree → NamedTree
without_first Null = Null
without_first (Branch slot key val Null right) = right
without_first (Branch slot key val (Branch s k v left right') right) =
    Branch slot key val (without_first (Branch s k v left right')) right

-- what takes the place of a removed node with these children: the one child, or a node in the new slot with the
-- successor's pair, above the left child and the right child without the successor
abbrev pub joined : ℕ → NamedTree → NamedTree → NamedTree
joined slot Null right = right
joined slot (Branch s key val left right) Null = Branch s key val left right
joined slot (Branch s key val left right) (Branch t k v left' right') =
    Branch slot (first_pair k v left').key (first_pair k v left').val (Branch s key val left right)
    (without_first (Branch t k v left' right'))

-- a removal at the end of its search
abbrev pub remove_here : ℕ → NamedTree → NamedTree
remove_here slot Null = Null
remove_here slot (Branch s key val left right) = joined slot left right

-- the tree step of a put, with the slot of the new node
abbrev pub tree_put : ℕ → ℕ → ℕ → NamedTree → NamedTree
tree_put slot key val tree = update key (put_here slot key val) tree

-- the tree step of a removal, with the slot of the new node if the removed one has two children
abbrev pub tree_remove : ℕ → ℕ → NamedTree → NamedTree
tree_remove slot key tree = update key (remove_here slot) tree
