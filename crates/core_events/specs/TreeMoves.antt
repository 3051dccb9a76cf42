-- The tree step of a raise: which node the update brings in, what it takes out, and whether the pending entries
-- spell the tree after it.
use Rattle.std.specs.Prelude.{ℕ, List, [], ◌∷◌, ◌++◌, nat_lt, Bool, true, false, not, ◌==◌, ◌&&◌, ◌||◌, Option, Some, None}
use Rattle.std.specs.List.{list_all, list_any}
use Rattle.index_words.specs.declared.layout.Layout.{Layout}
use Rattle.index_words.specs.declared.side.Side.{Side}
use Rattle.index_words.specs.declared.side.Side.TheVariants.{Left, Right}
use Rattle.key_map.specs.declared.update.Update.{Update}
use Rattle.key_map.specs.declared.update.Change.{Change}
use Rattle.key_map.specs.declared.update.Change.TheVariants.{Put, Remove}
use Rattle.index_words.specs.declared.view.View.{View}
use Rattle.index_words.specs.declared.view.update.UnsetLink.{UnsetLink}
use Rattle.index_words.specs.declared.word.Field.TheVariants.{Mark, Head, Link, Tag}
use Rattle.index_words.specs.declared.word.Part.TheVariants.{Child, Stamp as Number, Next}
use Rattle.index_words.specs.declared.word.Word.TheVariants.{Node, Entry}
use Rattle.index_words.specs.Words.{Memory}
use Rattle.key_map.specs.Lists.{has}
use Rattle.core_links.specs.Bundle.{child_of_entry}
use Rattle.core_trees.specs.NamedTree.{NamedTree, Null, Branch}
use Rattle.core_trees.specs.Search.{end_node, end_side}
use Rattle.core_trees.specs.Slots.{put_takes, remove_takes, remove_brings}
use Rattle.core_trees.specs.TreeStep.{subtree_at, tree_put, tree_remove}
use Rattle.core_events.specs.declared.tree_move.TreeMove.{TreeMove}
use Rattle.core_events.specs.LoadMoves.{locks}
use Rattle.core_events.specs.Searches.{is_gap_link}
use Rattle.core_events.specs.PlainWork.{plain_move}
use Rattle.core_events.specs.UpdateMoves.{listed_entry}
use Rattle.core_trees.specs.SpelledTree.{spells}
use Rattle.core_events.specs.SpelledNow.{child_now, graph_now, tree_now, bundle_now}

-- the tree after the update, with the slot of a new node
abbrev pub tree_after : Change → ℕ → ℕ → NamedTree → NamedTree
tree_after (Put val) slot key tree = tree_put slot key val tree
tree_after Remove slot key tree = tree_remove slot key tree

-- the nodes that the update takes out
abbrev pub takes : Change → ℕ → NamedTree → List ℕ
takes (Put val) key tree = put_takes key tree
takes Remove key tree = remove_takes key tree

-- the nodes that it brings in: the new one, or none
abbrev pub brings : Change → ℕ → ℕ → NamedTree → List ℕ
brings (Put val) slot key tree = slot ∷ []
brings Remove slot key tree = remove_brings slot key tree

abbrev pub is_branch : NamedTree → Bool
is_branch Null = false
is_branch (Branch slot key val left right) = true

-- a removal is one of a key that is in the tree. No law uses that; only a test checks it
abbrev pub has_key : Change → ℕ → NamedTree → Bool
has_key (Put val) key tree = true
has_key Remove key tree = is_branch (subtree_at key tree)

-- a key has 64 bits
abbrev pub is_key : ℕ → Bool
is_key key = nat_lt key 18446744073709551616

abbrev pub first_slot : List ℕ → Option ℕ
first_slot [] = None
first_slot (k ∷ ks) = Some k

-- the heads of a new node's bundles: each has one entry, or none
abbrev pub new_entries : Memory → Option ℕ → List ℕ
new_entries m None = []
new_entries m (Some k) = listed_entry (m (Node (Head Left) k)) ++ listed_entry (m (Node (Head Right) k))

-- the entries of the bundles of these nodes
abbrev pub node_entries : Layout → Memory → List ℕ → List ℕ
node_entries z m [] = []
node_entries z m (k ∷ ks) = (bundle_now z m Left k ++ bundle_now z m Right k) ++ node_entries z m ks

-- the child, after the raise, of the link at which the search for the key ends: if there is a new node, its slot
abbrev pub new_slot : Memory → List View → View → ℕ → NamedTree → ℕ
new_slot m vs v key tree = child_now m vs v.update.pending (end_side key Right tree) (end_node key 0 tree)

abbrev pub move_at : Layout → Memory → Update → ℕ → NamedTree → TreeMove
move_at z m u slot tree = record {
  added = first_slot (brings u.change slot u.key tree);
  entries = new_entries m (first_slot (brings u.change slot u.key tree));
  taken = takes u.change u.key tree;
  taken_entries = node_entries z m (takes u.change u.key tree);
  plain = plain_move m u.change u.key slot tree;
}

-- what the raise of this update moves
abbrev pub tree_move : Layout → Memory → List View → View → Update → TreeMove
tree_move z m vs v u = move_at z m u (new_slot m vs v u.key (tree_now z m vs)) (tree_now z m vs)

-- a free entry of the seat without a number and without a next
abbrev pub is_fresh : Memory → View → ℕ → Bool
is_fresh m v e = has e v.free.entries && m (Entry Number e) == 0 && m (Entry Next e) == 0

-- the plain link of a new node leads to the child of the link's only entry, and its tag is 0
abbrev pub is_plain_at : Memory → ℕ → Side → Bool
is_plain_at m k side = m (Node (Link side) k) == child_of_entry (λ e. m (Entry Child e)) (m (Node (Head side) k)) && m (Node (Tag side) k) == 0

-- a new node has its children in its plain links
abbrev pub is_plain_new : Memory → Option ℕ → Bool
is_plain_new m None = true
is_plain_new m (Some k) = is_plain_at m k Left && is_plain_at m k Right

-- a new node is a free slot of the seat, unmarked, whose bundles have different fresh entries
abbrev pub is_new : Memory → View → Option ℕ → Bool
is_new m v None = true
is_new m v (Some k) =
    has k v.free.nodes && m (Node Mark k) == 0 && list_all (is_fresh m v) (new_entries m (Some k))
    && (m (Node (Head Left) k) == 0 || not (m (Node (Head Left) k) == m (Node (Head Right) k)))

abbrev pub spells_after : Memory → List View → View → Update → ℕ → TreeMove → NamedTree → Bool
spells_after m vs v u slot move tree =
    spells (graph_now m vs (v.update.pending ++ move.entries)) (child_now m vs (v.update.pending ++ move.entries) Right 0) (tree_after u.change slot u.key tree)

-- the node of a link that is to be set is locked
abbrev pub sets_locked : View → UnsetLink → Bool
sets_locked v u = locks u.node v.held.nodes

-- a put of a key that is not in the tree
abbrev pub inserts : Change → ℕ → NamedTree → Bool
inserts (Put val) key tree = not (is_branch (subtree_at key tree))
inserts Remove key tree = false

-- the plain link is null, and a search of the seat found it null, with the tag that it has, and with the key between
-- the turns' keys
abbrev pub has_gap : Memory → View → ℕ → ℕ → Side → Bool
has_gap m v key k side = m (Node (Link side) k) == 0 && list_any (is_gap_link k side key (m (Node (Tag side) k))) v.reading.links

-- a key that is not in the tree is put at such a link
abbrev pub finds_gap : Memory → View → Update → NamedTree → Bool
finds_gap m v u tree = not (inserts u.change u.key tree) || has_gap m v u.key (end_node u.key 0 tree) (end_side u.key Right tree)

abbrev pub is_plain_step : Memory → View → Update → TreeMove → NamedTree → Bool
is_plain_step m v u move tree = list_all (sets_locked v) move.plain.unset && is_plain_new m move.added && finds_gap m v u tree

abbrev pub is_step : Memory → List View → View → Update → ℕ → TreeMove → NamedTree → Bool
is_step m vs v u slot move tree =
    is_key u.key && has_key u.change u.key tree && list_all (λ k. locks k v.held.nodes) move.taken && is_new m v move.added && spells_after m vs v u slot move tree
    && is_plain_step m v u move tree

-- the pending entries and those of the new node, with the next number, spell the tree after the update; each node
-- that is taken out is locked
abbrev pub is_tree_step : Layout → Memory → List View → View → Update → Bool
is_tree_step z m vs v u =
    is_step m vs v u (new_slot m vs v u.key (tree_now z m vs)) (tree_move z m vs v u) (tree_now z m vs)
