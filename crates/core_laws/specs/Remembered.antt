-- The law on remembered links: where a seat finds a link's node unmarked and not locked by another, and the head
-- of the link's bundle as it was, the link is as the seat remembers it in the tree at the stamp.
use Rattle.std.specs.Prelude.{◌≡◌, ℕ, ◌<◌, ◌⊎◌, List, [], Option, Some, None}
use Rattle.index_words.specs.declared.layout.Layout.{Layout}
use Rattle.index_words.specs.declared.side.Side.{Side}
use Rattle.index_words.specs.declared.side.Side.TheVariants.{Right}
use Rattle.index_words.specs.declared.view.View.{View}
use Rattle.index_words.specs.declared.view.reading.TreeNode.{TreeNode}
use Rattle.index_words.specs.declared.view.reading.Link.{Link}
use Rattle.index_words.specs.declared.view.reading.LinkSource.TheVariants.{Bundle}
use Rattle.index_words.specs.declared.word.Field.TheVariants.{Mark, Head}
use Rattle.index_words.specs.declared.word.Part.TheVariants.{Child, Next}
use Rattle.index_words.specs.declared.word.Word.TheVariants.{Stamp, Node, Entry}
use Rattle.index_words.specs.Words.{Memory}
use Rattle.key_map.specs.Lists.{count, IsItem}
use Rattle.core_links.specs.Bundle.{select, child_of_entry}
use Rattle.core_trees.specs.NamedTree.{NamedTree}
use Rattle.core_trees.specs.Gaps.{IsGapLink}
use Rattle.core_trees.specs.Slots.{occurs}
use Rattle.core_events.specs.Tables.{Table, held_by}
use Rattle.core_invariant.specs.Meanings.{Meaning}
use Rattle.core_events.specs.Versions.{tree_nodes}
use Rattle.core_invariant.specs.Locks.{lock_count}
use Rattle.core_invariant.specs.Rule.{Rule}
use Rattle.core_events.specs.SpelledNow.{tree_now, child_now}
use Rattle.core_events.specs.Numbered.{entry_number}
use Rattle.core_invariant.specs.LinkLaw.{IsBundleOf}

-- the seat has not raised, and remembers the link, which it found through the link's bundle, with this entry
pub record Remembers (v : View) (l : Link) (entry : ℕ) : Type 0 where
  pub unraised : v.update.raised ≡ None
  pub place : ℕ
  pub link : IsItem v.reading.links place l
  pub source : l.source ≡ Bundle entry

-- the link has a bundle, and in it the number selects the entry, or none where the entry is 0
pub record IsSelectedAt (m : Memory) (vs : List View) (n : ℕ) (side : Side) (node entry : ℕ) : Type 0 where
  pub entries : List ℕ
  pub bundle : IsBundleOf m side node entries
  pub selected : select (entry_number m vs) n entries ≡ entry

-- the section number selects the entry; without a section number it is 0
abbrev pub IsSelectedIn : Memory → List View → Option ℕ → Side → ℕ → ℕ → Type 0
IsSelectedIn m vs None side node entry = entry ≡ 0
IsSelectedIn m vs (Some n) side node entry = IsSelectedAt m vs n side node entry

-- a link is remembered with the entry that the section number selects, or with 0 where the seat has no section
-- number, and with the child of that entry
abbrev pub RemembersSelected : Table → Type 0
RemembersSelected t =
    (i : ℕ) (v : View) (l : Link) (entry : ℕ) → IsItem t.views i v → Remembers v l entry
    → IsSelectedIn (held_by t) t.views v.reading.section l.side l.node entry × (child_of_entry (λ e. held_by t (Entry Child e)) entry ≡ l.child)

-- no other seat than the one at `i` has the node locked
abbrev pub IsUnlocked : List View → ℕ → ℕ → Type 0
IsUnlocked vs i node = (j : ℕ) (u : View) → IsItem vs j u → ¬ (j ≡ i) → lock_count node u ≡ 0

-- the head is the entry, or a pending entry of the seat in front of it
abbrev pub IsHeadStill : (ℕ → ℕ) → List ℕ → ℕ → ℕ → Type 0
IsHeadStill next pending entry head = (head ≡ entry) ⊎ ((0 < count head pending) × (next head ≡ entry))

-- what the seat at `i` finds of the link that it remembers with the entry
pub record Validates (m : Memory) (vs : List View) (i : ℕ) (v : View) (l : Link) (entry : ℕ) : Type 0 where
  pub unmarked : m (Node Mark l.node) ≡ 0
  pub unlocked : IsUnlocked vs i l.node
  pub head : IsHeadStill (λ d. m (Entry Next d)) v.update.pending entry (m (Node (Head l.side) l.node))

-- these are the nodes of a tree
abbrev pub HasTree : List TreeNode → Type 0
HasTree nodes = (tree : NamedTree) × (nodes ≡ tree_nodes tree)

-- the link is as it is remembered, in a tree that reads the child `found` there: its node is the root or in the
-- tree, and the child is the same. Where it is null, each key in its gap in the tree of the seat, which has these
-- nodes, is in its gap in this tree too. In a tree only the links of its nodes have gaps, and in the empty tree the
-- one of the root
pub record IsAsRemembered (l : Link) (nodes : List TreeNode) (found : ℕ) (now : NamedTree) : Type 0 where
  pub linked : (l.node ≡ 0) ⊎ (0 < occurs l.node now)
  pub child : found ≡ l.child
  pub read : HasTree nodes
  pub gap : l.child ≡ 0 → (tree : NamedTree) → nodes ≡ tree_nodes tree → (z : ℕ) → IsGapLink z l.node l.side 0 Right tree → IsGapLink z l.node l.side 0 Right now

-- over what the words mean: the stamp selects the remembered entry, and in the tree at the stamp the link is as
-- it is remembered
abbrev pub RememberedLaw : Type 0
RememberedLaw =
    (z : Layout) (m : Memory) (vs : List View) (g : Meaning) (i : ℕ) (v : View) (l : Link) (entry : ℕ) → Rule z m vs g → IsItem vs i v
    → Remembers v l entry → Validates m vs i v l entry
    → (select g.bundles.number (m Stamp) (g.bundles.bundle l.side l.node) ≡ entry)
    × IsAsRemembered l v.reading.tree (child_of_entry (λ e. m (Entry Child e)) (select g.bundles.number (m Stamp) (g.bundles.bundle l.side l.node))) g.tree

-- the same of a table, over its words and its views alone
abbrev pub KeepsRemembered : Table → Type 0
KeepsRemembered t =
    (i : ℕ) (v : View) (l : Link) (entry : ℕ) → IsItem t.views i v → Remembers v l entry → Validates (held_by t) t.views i v l entry
    → IsSelectedAt (held_by t) t.views (held_by t Stamp) l.side l.node entry
    × IsAsRemembered l v.reading.tree (child_now (held_by t) t.views [] l.side l.node) (tree_now t.layout (held_by t) t.views)
