-- What a load finds: what the words are of the links and of the nodes of the tree that a seat reads.
use Rattle.std.specs.Prelude.{◌≡◌, ℕ, ◌<◌, ◌≤◌, List, length, take, true, Option, Some}
use Rattle.key_map.specs.History.{after}
use Rattle.key_map.specs.Lists.{count, IsItem}
use Rattle.index_words.specs.declared.side.Side.{Side}
use Rattle.index_words.specs.declared.side.Side.TheVariants.{Left, Right}
use Rattle.index_words.specs.declared.view.View.{View}
use Rattle.index_words.specs.declared.view.reading.Link.{Link}
use Rattle.index_words.specs.declared.view.reading.LinkSource.TheVariants.{Bundle}
use Rattle.index_words.specs.declared.view.reading.Place.TheVariants.{Entry as AtEntry}
use Rattle.index_words.specs.declared.view.reading.TreeNode.{TreeNode}
use Rattle.index_words.specs.declared.word.Field.TheVariants.{Key, Val, Head}
use Rattle.index_words.specs.declared.word.Part.TheVariants.{Child, Next}
use Rattle.index_words.specs.declared.word.Word.TheVariants.{Stamp, Node, Entry}
use Rattle.core_trees.specs.NamedTree.{NamedTree, IsLawful, contents}
use Rattle.core_invariant.specs.BundleRule.{IsLive}
use Rattle.core_invariant.specs.LinkLaw.{IsBundleOf}
use Rattle.core_events.specs.LoadMoves.{is_above, longest}
use Rattle.core_invariant.specs.Readers.{IsLocked}
use Rattle.core_laws.specs.Remembered.{IsSelectedAt}
use Rattle.core_invariant.specs.Rule.{IsRight}
use Rattle.core_events.specs.SpelledNow.{tree_now}
use Rattle.core_events.specs.Tables.{Table, held_by}
use Rattle.core_events.specs.Versions.{top_slot, tree_nodes, slots_of}
use Rattle.core_laws.specs.ViewNeeds.{IsInReach}

abbrev pub child_on : Side → TreeNode → ℕ
child_on Left n = n.left
child_on Right n = n.right

-- the tree has this child at the link, 0 for none: the root's right link leads to the top, and a link of a node to the
-- node's child on that side
pub record LeadsTo (tree : NamedTree) (node : ℕ) (side : Side) (child : ℕ) : Type 0 where
  pub top : node ≡ 0 → side ≡ Right → child ≡ top_slot tree
  pub below : (j : ℕ) (n : TreeNode) → IsItem (tree_nodes tree) j n → n.slot ≡ node → child ≡ child_on side n

-- loads of a key and of a value, at a node of the tree: the node's. Its slot is one of the table, and so are its
-- children, where they are not 0
pub record FindsPair (t : Table) (n : TreeNode) : Type 0 where
  pub key : held_by t (Node Key n.slot) ≡ n.key
  pub val : held_by t (Node Val n.slot) ≡ n.val
  pub some : 0 < n.slot
  pub there : n.slot ≤ t.layout.nodes
  pub left : n.left ≤ t.layout.nodes
  pub right : n.right ≤ t.layout.nodes

-- a load of a head, of a node in reach: an entry of the table, or 0, and then the link is null in the tree
pub record FindsHead (t : Table) (tree : NamedTree) (node : ℕ) (side : Side) : Type 0 where
  pub there : held_by t (Node (Head side) node) ≤ t.layout.entries
  pub null : held_by t (Node (Head side) node) ≡ 0 → LeadsTo tree node side 0

-- a load of a child, at an entry whose stamp was found to be a number of at most the section number, where the seat has
-- not locked the node: the entry is the selected one, and the child is the tree's
pub record FindsChild (t : Table) (n : ℕ) (tree : NamedTree) (node : ℕ) (side : Side) (entry : ℕ) : Type 0 where
  pub selected : IsSelectedAt (held_by t) t.views n side node entry
  pub child : LeadsTo tree node side (held_by t (Entry Child entry))

-- a load of a next, at an entry that is known to be above the section number: an entry of the table, or 0, and then the
-- link is null in the tree
pub record FindsNext (t : Table) (tree : NamedTree) (node : ℕ) (side : Side) (entry : ℕ) : Type 0 where
  pub there : held_by t (Entry Next entry) ≤ t.layout.entries
  pub null : held_by t (Entry Next entry) ≡ 0 → LeadsTo tree node side 0

-- what a seat with this section number reads: a search tree, of which its view has the nodes, and whose contents are
-- the map after so many updates
pub record ReadsTree (t : Table) (v : View) (n : ℕ) : Type 0 where
  pub tree : NamedTree
  pub nodes : v.reading.tree ≡ tree_nodes tree
  pub lawful : IsLawful tree
  pub top : top_slot tree ≤ t.layout.nodes
  pub contents_are : n ≤ length v.history.seen → contents tree ≡ after v.history.seen n
  pub pairs : (j : ℕ) (x : TreeNode) → IsItem v.reading.tree j x → FindsPair t x
  pub heads : (node : ℕ) (side : Side) → IsInReach v node → FindsHead t tree node side
  pub children : (node : ℕ) (side : Side) (entry found : ℕ) → v.reading.place ≡ AtEntry node side entry (Some found) → 0 < entry
      → 0 < found → found ≤ n → ¬ IsLocked v node → FindsChild t n tree node side entry
  pub nexts : (node : ℕ) (side : Side) (entry : ℕ) (found : Option ℕ) → v.reading.place ≡ AtEntry node side entry found → 0 < entry
      → is_above v entry found ≡ true → FindsNext t tree node side entry
  pub links : (j : ℕ) (l : Link) (entry : ℕ) → IsItem v.reading.links j l → l.source ≡ Bundle entry → LeadsTo tree l.node l.side l.child

abbrev pub ReadLaw : Type 0
ReadLaw = (t : Table) (i : ℕ) (v : View) (n : ℕ) → IsRight t → IsItem t.views i v → v.reading.section ≡ Some n → ReadsTree t v n

-- a load of the stamp: what the seat had seen is a beginning of the whole history, which has so many updates, and the
-- tree that it reads is a search tree whose contents are the map after all of them
pub record FindsStamp (t : Table) (v : View) : Type 0 where
  pub extends : v.history.seen ≡ take (length v.history.seen) (longest t.views)
  pub whole : length (longest t.views) ≡ held_by t Stamp
  pub lawful : IsLawful (tree_now t.layout (held_by t) t.views)
  pub contents_are : contents (tree_now t.layout (held_by t) t.views) ≡ after (longest t.views) (held_by t Stamp)

abbrev pub StampLaw : Type 0
StampLaw = (t : Table) (i : ℕ) (v : View) → IsRight t → IsItem t.views i v → FindsStamp t v

-- a tree whose slots are above 0, and no two the same, is determined by the list of its nodes
abbrev pub OneTreeLaw : Type 0
OneTreeLaw =
    (tree other : NamedTree) → ((k : ℕ) → count k (slots_of tree) ≤ 1) → count 0 (slots_of tree) ≡ 0
    → tree_nodes tree ≡ tree_nodes other → tree ≡ other

-- a bundle of the root or of a node that is not free has at most as many entries as the table
abbrev pub BundleLengthLaw : Type 0
BundleLengthLaw =
    (t : Table) (k : ℕ) (side : Side) (es : List ℕ) → IsRight t → IsLive t.layout t.views k → IsBundleOf (held_by t) side k es
    → length es ≤ t.layout.entries
