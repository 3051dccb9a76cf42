-- What remains to be done at plain links after a raise. The link at which the search for the key ends leads to another
-- child from then on; and so does the link to the successor of a removed node with two children, if the successor is
-- not a child of the removed node.
use Rattle.std.specs.Prelude.{ℕ, List, [], ◌∷◌, ◌==◌, Option, Some, None, map, filter}
use Rattle.index_words.specs.declared.side.Side.{Side}
use Rattle.index_words.specs.declared.side.Side.TheVariants.{Left, Right}
use Rattle.key_map.specs.declared.update.Change.{Change}
use Rattle.key_map.specs.declared.update.Change.TheVariants.{Put, Remove}
use Rattle.index_words.specs.declared.view.update.OwedTag.{OwedTag}
use Rattle.index_words.specs.declared.view.update.Unlinking.{Unlinking}
use Rattle.index_words.specs.declared.view.update.UnsetLink.{UnsetLink}
use Rattle.index_words.specs.declared.word.Field.TheVariants.{Link}
use Rattle.index_words.specs.declared.word.Word.TheVariants.{Node}
use Rattle.index_words.specs.Words.{Memory}
use Rattle.core_trees.specs.NamedTree.{NamedTree, Null, Branch}
use Rattle.core_trees.specs.Search.{end_node, end_side}
use Rattle.core_trees.specs.TreeStep.{subtree_at}
use Rattle.core_events.specs.declared.tree_move.PlainMove.{PlainMove}
use Rattle.core_events.specs.Versions.{top_slot}

-- the first node of a tree with this top and this left tree
abbrev pub first_node : ℕ → NamedTree → ℕ
first_node slot Null = slot
first_node slot (Branch s key val left right) = first_node s left

-- the node to whose left the first node of a tree hangs, where its top is `slot`, and hangs to the left of `parent`
abbrev pub first_parent : ℕ → ℕ → NamedTree → ℕ
first_parent parent slot Null = parent
first_parent parent slot (Branch s key val left right) = first_parent slot s left

-- the child to the right of the first node of a tree with these two children
abbrev pub first_rest : NamedTree → NamedTree → ℕ
first_rest Null right = top_slot right
first_rest (Branch s key val left right') right = first_rest left right'

-- a link that is to be set to this child
abbrev pub unset_at : Memory → ℕ → Side → ℕ → UnsetLink
unset_at m k side child = record { node = k; side = side; was = m (Node (Link side) k); child = child }

-- the link to the successor, if a node with these two children is removed: none if the successor is near
abbrev pub far_links : Memory → NamedTree → NamedTree → List UnsetLink
far_links m (Branch s key val left right') (Branch t k v (Branch first k' v' l r) right) =
    unset_at m (first_parent t first l) Left (first_rest l r) ∷ []
far_links m left right = []

-- the successor that is to be unlinked
abbrev pub far_successor : ℕ → NamedTree → NamedTree → Option Unlinking
far_successor node (Branch s key val left right') (Branch t k v (Branch first k' v' l r) right) =
    Some (record { successor = first_node first l; parent = first_parent t first l; side = Left; replaced = node })
far_successor node left right = None

abbrev pub removed_links : Memory → NamedTree → List UnsetLink
removed_links m Null = []
removed_links m (Branch slot key val left right) = far_links m left right

abbrev pub removed_successor : NamedTree → Option Unlinking
removed_successor Null = None
removed_successor (Branch slot key val left right) = far_successor slot left right

-- the links of a removal that become null
abbrev pub made_null : List UnsetLink → List OwedTag
made_null us = map (λ (u : UnsetLink). record { node = u.node; side = u.side }) (filter (λ (u : UnsetLink). u.child == 0) us)

-- what the update leaves to be done; `slot` is the child after it of the link at which the search for its key ends
abbrev pub plain_move : Memory → Change → ℕ → ℕ → NamedTree → PlainMove
plain_move m (Put val) key slot tree = record {
  unset = unset_at m (end_node key 0 tree) (end_side key Right tree) slot ∷ [];
  owed = [];
  unlinking = None;
}
plain_move m Remove key slot tree =
    let unset = unset_at m (end_node key 0 tree) (end_side key Right tree) slot ∷ removed_links m (subtree_at key tree) in
    record { unset = unset; owed = made_null unset; unlinking = removed_successor (subtree_at key tree) }

-- nothing to be done
abbrev pub no_plain_move : PlainMove
no_plain_move = record { unset = []; owed = []; unlinking = None }
