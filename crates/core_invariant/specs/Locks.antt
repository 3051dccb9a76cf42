-- The rule on locks and marks, and on what was loaded under a lock.
use Rattle.std.specs.Prelude.{◌≡◌, ℕ, ◌+◌, ◌<◌, ◌≤◌, ◌⊎◌, true, List, Option, Some, None, IfSome, is_some}
use Rattle.index_words.specs.declared.layout.Layout.{Layout}
use Rattle.index_words.specs.declared.side.Side.{Side}
use Rattle.index_words.specs.declared.side.Side.TheVariants.{Left, Right}
use Rattle.index_words.specs.declared.view.View.{View}
use Rattle.index_words.specs.declared.view.update.Held.{Held}
use Rattle.index_words.specs.declared.view.update.HeldNode.{HeldNode}
use Rattle.index_words.specs.declared.view.update.HeldNext.{HeldNext}
use Rattle.index_words.specs.declared.view.update.HeldSide.{HeldSide}
use Rattle.index_words.specs.declared.view.update.LoadedHead.{LoadedHead}
use Rattle.index_words.specs.declared.word.Field.TheVariants.{Key, Val, Mark, Head, Link, Tag}
use Rattle.index_words.specs.declared.word.Part.TheVariants.{Stamp as Number, Next}
use Rattle.index_words.specs.declared.word.Word.TheVariants.{Node, Entry}
use Rattle.index_words.specs.Words.{Memory}
use Rattle.key_map.specs.Lists.{count, Every}
use Rattle.core_grace.specs.Holds.{Bundles, held_slots, entries_of}

-- how often a view has locked a node
abbrev pub lock_count : ℕ → View → ℕ
lock_count k v = count k (held_slots v.held.nodes)

-- the lock word names the pass
abbrev pub NamesHolder : ℕ → Option ℕ → Type 0
NamesHolder word None = ⊥
NamesHolder word (Some n) = word ≡ n + 1

-- each node that a view has locked is one of the table, whose lock word names the view's pass
abbrev pub LocksRight : Layout → (ℕ → ℕ) → View → Type 0
LocksRight z lock v = (k : ℕ) → 0 < lock_count k v → (k ≤ z.nodes) × NamesHolder (lock k) v.number

-- a head as it was loaded is what the word holds, and a written number that was loaded with it is still the entry's
abbrev pub HeadRight : ℕ → (ℕ → ℕ) → LoadedHead → Type 0
HeadRight head stamp loaded = (head ≡ loaded.entry) × IfSome loaded.stamp (λ x. 0 < x → stamp loaded.entry ≡ x)

pub record SideRight (word : ℕ) (stamp : ℕ → ℕ) (side : HeldSide) : Type 0 where
  pub head : IfSome side.head (HeadRight word stamp)

-- a plain link and its tag as they were loaded are what the words hold
abbrev pub PlainSide : ℕ → ℕ → Option ℕ → Option ℕ → Type 0
PlainSide link tag known_link known_tag = IfSome known_link (λ x. link ≡ x) × IfSome known_tag (λ x. tag ≡ x)

-- what was loaded of a locked node is what its words hold: over the keys, the values, the marks, the heads, the plain
-- links and their tags of nodes, and the stamps of entries
pub record NodeRight (key_of val_of mark_of : ℕ → ℕ) (head_of link_of tag_of : Side → ℕ → ℕ) (stamp : ℕ → ℕ) (h : HeldNode) : Type 0 where
  pub key : IfSome h.key (λ x. key_of h.node ≡ x)
  pub val : IfSome h.val (λ x. val_of h.node ≡ x)
  pub mark : IfSome h.mark (λ x. mark_of h.node ≡ x)
  pub left : SideRight (head_of Left h.node) stamp h.left
  pub right : SideRight (head_of Right h.node) stamp h.right
  pub plain : PlainSide (link_of Left h.node) (tag_of Left h.node) h.left.link h.left.tag
      × PlainSide (link_of Right h.node) (tag_of Right h.node) h.right.link h.right.tag

abbrev pub IsNodeAt : Memory → HeldNode → Type 0
IsNodeAt m =
    NodeRight (λ k. m (Node Key k)) (λ k. m (Node Val k)) (λ k. m (Node Mark k)) (λ s k. m (Node (Head s) k)) (λ s k. m (Node (Link s) k))
    (λ s k. m (Node (Tag s) k)) (λ e. m (Entry Number e))

-- a next word as it was loaded is what the word holds, and a written number that was loaded with it is still the
-- entry's; its entry stands in a bundle of the locked node
pub record NextRight (stamp next : ℕ → ℕ) (b : Bundles) (nodes : List HeldNode) (h : HeldNext) : Type 0 where
  pub is : next h.entry ≡ h.next
  pub locked : 0 < count h.node (held_slots nodes)
  pub here : 0 < count h.entry (entries_of b h.node)
  pub found : IfSome h.stamp (λ x. 0 < x → stamp h.entry ≡ x)

abbrev pub IsNextAt : Memory → Bundles → List HeldNode → HeldNext → Type 0
IsNextAt m b nodes = NextRight (λ e. m (Entry Number e)) (λ e. m (Entry Next e)) b nodes

pub record LoadedRightOf (IsNode : HeldNode → Type 0) (IsNext : HeldNext → Type 0) (held : Held) : Type 0 where
  pub nodes : Every IsNode held.nodes
  pub nexts : Every IsNext held.nexts

abbrev pub LoadedRight : Memory → Bundles → View → Type 0
LoadedRight m b v = LoadedRightOf (IsNodeAt m) (IsNextAt m b v.held.nodes) v.held

-- the update of the view has raised and taken the node out, and the view still holds the node's lock
abbrev pub IsTakenOutOf : Option ℕ → List ℕ → List ℕ → ℕ → Type 0
IsTakenOutOf raised out locked k = (is_some raised ≡ true) × (0 < count k out) × (0 < count k locked)

abbrev pub IsTakenOut : View → ℕ → Type 0
IsTakenOut v k = IsTakenOutOf v.update.raised v.update.taken (held_slots v.held.nodes) k

-- a retired node is marked, except one whose update still has to mark it; a node of a batch is marked; and what the
-- update took out is retired
pub record MarksRightOf (mark : ℕ → ℕ) (retired_nodes batch_nodes : List ℕ) (raised : Option ℕ) (out locked : List ℕ) : Type 0 where
  pub retired : (k : ℕ) → 0 < count k retired_nodes → (mark k ≡ 1) ⊎ IsTakenOutOf raised out locked k
  pub batch : (k : ℕ) → 0 < count k batch_nodes → mark k ≡ 1
  pub taken : (k : ℕ) → 0 < count k out → 0 < count k retired_nodes

abbrev pub MarksRight : (ℕ → ℕ) → View → Type 0
MarksRight mark v = MarksRightOf mark v.retired.nodes v.batch.nodes v.update.raised v.update.taken (held_slots v.held.nodes)

-- the root and the nodes of the tree are not marked
pub record TreeUnmarked (mark : ℕ → ℕ) (tree : List ℕ) : Type 0 where
  pub root : mark 0 ≡ 0
  pub nodes : (k : ℕ) → 0 < count k tree → mark k ≡ 0
