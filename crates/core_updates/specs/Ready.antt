-- What an update has made ready before its raise, over the words: the links of the tree at the stamp on which it
-- rests, the new node with its bundles, and the entries that it has put in front of bundles.
use Rattle.std.specs.Prelude.{◌≡◌, ℕ, ◌<◌, ◌^◌, ◌⊎◌, List, [], ◌∷◌, ◌==◌, cond, true, Option, Some, None}
use Rattle.index_words.specs.declared.layout.Layout.{Layout}
use Rattle.index_words.specs.declared.side.Side.{Side}
use Rattle.index_words.specs.declared.side.Side.TheVariants.{Left, Right}
use Rattle.key_map.specs.declared.update.Update.{Update}
use Rattle.key_map.specs.declared.update.Change.{Change}
use Rattle.key_map.specs.declared.update.Change.TheVariants.{Put, Remove}
use Rattle.index_words.specs.declared.view.View.{View}
use Rattle.index_words.specs.declared.view.update.Unlinking.{Unlinking}
use Rattle.index_words.specs.declared.word.Field.TheVariants.{Key, Val, Mark, Head, Link, Tag}
use Rattle.index_words.specs.declared.word.Part.TheVariants.{Child, Stamp as Number, Next}
use Rattle.index_words.specs.declared.word.Word.TheVariants.{Node, Entry}
use Rattle.index_words.specs.Words.{Memory}
use Rattle.key_map.specs.Lists.{count, IsItem}
use Rattle.core_trees.specs.Gaps.{IsGapLink}
use Rattle.core_events.specs.LoadMoves.{locks}
use Rattle.core_invariant.specs.Meanings.{Meaning}
use Rattle.core_invariant.specs.Rule.{Rule}
use Rattle.core_events.specs.SpelledNow.{tree_now, child_now}
use Rattle.core_events.specs.TreeMoves.{has_gap, new_entries, node_entries, is_tree_step, tree_move}
use Rattle.core_trees.specs.LinkSteps.{IsLinkIn}
use Rattle.core_updates.specs.SetLinks.{SetLink, LeavesPlain, set_to}

-- the link is one of the tree at the stamp, and leads there to the child, where 0 is none
pub record LeadsNow (z : Layout) (m : Memory) (vs : List View) (node : ℕ) (side : Side) (child : ℕ) : Type 0 where
  pub link : IsLinkIn 0 Right (tree_now z m vs) node side
  pub child_is : child_now m vs [] side node ≡ child

-- each key between the two is in the gap of the link, in the tree at the stamp
abbrev pub GapNow : Layout → Memory → List View → ℕ → Side → ℕ → ℕ → Type 0
GapNow z m vs node side low high = (x : ℕ) → low < x → x < high → IsGapLink x node side 0 Right (tree_now z m vs)

-- the entry is the head of the link's bundle, and leads to the child
pub record IsPrepared (m : Memory) (node : ℕ) (side : Side) (entry child : ℕ) : Type 0 where
  pub some : 0 < entry
  pub head : m (Node (Head side) node) ≡ entry
  pub leads : m (Entry Child entry) ≡ child

-- the entry is a free one of the seat, without a number and without a next, and leads to the child
pub record IsFreshTo (m : Memory) (v : View) (entry child : ℕ) : Type 0 where
  pub free : 0 < count entry v.free.entries
  pub unnumbered : m (Entry Number entry) ≡ 0
  pub last : m (Entry Next entry) ≡ 0
  pub leads : m (Entry Child entry) ≡ child

-- a link of a new node leads to the child: by one fresh entry, or by none where there is no child
abbrev pub IsNewLink : Memory → View → ℕ → Side → ℕ → Type 0
IsNewLink m v slot side child =
    ((m (Node (Head side) slot) ≡ 0) × (child ≡ 0)) ⊎ IsFreshTo m v (m (Node (Head side) slot)) child

-- the slot is a free one of the seat, and has this pair and these children, by different entries and in its plain links
pub record IsNewNode (m : Memory) (v : View) (slot key val left right : ℕ) : Type 0 where
  pub free : 0 < count slot v.free.nodes
  pub unmarked : m (Node Mark slot) ≡ 0
  pub key_is : m (Node Key slot) ≡ key
  pub val_is : m (Node Val slot) ≡ val
  pub left_link : IsNewLink m v slot Left left
  pub right_link : IsNewLink m v slot Right right
  pub left_child : m (Node (Link Left) slot) ≡ left
  pub right_child : m (Node (Link Right) slot) ≡ right
  pub left_tag : m (Node (Tag Left) slot) ≡ 0
  pub right_tag : m (Node (Tag Right) slot) ≡ 0
  pub apart : m (Node (Head Left) slot) ≡ m (Node (Head Right) slot) → m (Node (Head Left) slot) ≡ 0

-- the key's node hangs at this link, both nodes are locked, and its children are known
pub record FindsKey (z : Layout) (m : Memory) (vs : List View) (v : View) (key : ℕ) : Type 0 where
  pub parent : ℕ
  pub side : Side
  pub node : ℕ
  pub some : 0 < node
  pub at : LeadsNow z m vs parent side node
  pub held : locks parent v.held.nodes ≡ true
  pub key_is : m (Node Key node) ≡ key
  pub locked : locks node v.held.nodes ≡ true
  pub left : ℕ
  pub left_is : child_now m vs [] Left node ≡ left
  pub right : ℕ
  pub right_is : child_now m vs [] Right node ≡ right

-- a put of an absent key: the one pending entry leads its gap's link, whose node is locked, to a new node without
-- children; a search of the seat has found the plain link null, with the tag that it has
pub record IsReadyToGrow (z : Layout) (m : Memory) (vs : List View) (v : View) (key val : ℕ) : Type 0 where
  pub node : ℕ
  pub side : Side
  pub link : IsLinkIn 0 Right (tree_now z m vs) node side
  pub held : locks node v.held.nodes ≡ true
  pub gap : IsGapLink key node side 0 Right (tree_now z m vs)
  pub searched : has_gap m v key node side ≡ true
  pub small : key < 2 ^ 64
  pub slot : ℕ
  pub new : IsNewNode m v slot key val 0 0
  pub entry : ℕ
  pub pending : v.update.pending ≡ entry ∷ []
  pub prepared : IsPrepared m node side entry slot

-- a put of a present key: the one pending entry leads to a new node with the children of the old one
pub record IsReadyToReplace (z : Layout) (m : Memory) (vs : List View) (v : View) (key val : ℕ) : Type 0 where
  pub found : FindsKey z m vs v key
  pub small : key < 2 ^ 64
  pub slot : ℕ
  pub new : IsNewNode m v slot key val found.left found.right
  pub entry : ℕ
  pub pending : v.update.pending ≡ entry ∷ []
  pub prepared : IsPrepared m found.parent found.side entry slot

-- a removal of a node with at most one child: the one pending entry leads to the other child, or to none
pub record IsReadyToLift (z : Layout) (m : Memory) (vs : List View) (v : View) (key : ℕ) : Type 0 where
  pub found : FindsKey z m vs v key
  pub small : key < 2 ^ 64
  pub child : ℕ
  pub one : ((found.left ≡ 0) × (child ≡ found.right)) ⊎ ((found.right ≡ 0) × (child ≡ found.left))
  pub entry : ℕ
  pub pending : v.update.pending ≡ entry ∷ []
  pub prepared : IsPrepared m found.parent found.side entry child

-- the next node hangs at this link, and both nodes are locked; its key is greater, and each key between is in the gap
-- of its left link; its right child is known
pub record FindsSuccessor (z : Layout) (m : Memory) (vs : List View) (v : View) (key : ℕ) : Type 0 where
  pub parent : ℕ
  pub side : Side
  pub node : ℕ
  pub some : 0 < node
  pub at : LeadsNow z m vs parent side node
  pub held : locks parent v.held.nodes ≡ true
  pub above : key < m (Node Key node)
  pub locked : locks node v.held.nodes ≡ true
  pub gap : GapNow z m vs node Left key (m (Node Key node))
  pub right : ℕ
  pub right_is : child_now m vs [] Right node ≡ right

-- where the next node is the removed one's right child: one entry is pending, and the new node has the next node's
-- right child
pub record IsNear (v : View) (node parent : ℕ) (side : Side) (next_right entry new_right : ℕ) : Type 0 where
  pub parent_is : parent ≡ node
  pub side_is : side ≡ Right
  pub pending : v.update.pending ≡ entry ∷ []
  pub child : new_right ≡ next_right

-- where it is deeper: a second entry leads the link to it to its right child, and the new node has the removed one's
-- right child
pub record IsDeep (m : Memory) (v : View) (node right parent : ℕ) (side : Side) (next_right entry new_right : ℕ) : Type 0 where
  pub apart : ¬ (parent ≡ node)
  pub second : ℕ
  pub pending : v.update.pending ≡ entry ∷ second ∷ []
  pub prepared : IsPrepared m parent side second next_right
  pub child : new_right ≡ right

-- a removal of a node with two children: an entry leads the link to it to a new node with the next node's pair
pub record IsReadyToJoin (z : Layout) (m : Memory) (vs : List View) (v : View) (key : ℕ) : Type 0 where
  pub found : FindsKey z m vs v key
  pub small : key < 2 ^ 64
  pub left : 0 < found.left
  pub right : 0 < found.right
  pub next : FindsSuccessor z m vs v key
  pub slot : ℕ
  pub new_right : ℕ
  pub new : IsNewNode m v slot (m (Node Key next.node)) (m (Node Val next.node)) found.left new_right
  pub entry : ℕ
  pub prepared : IsPrepared m found.parent found.side entry slot
  pub by : IsNear v found.node next.parent next.side next.right entry new_right
      ⊎ IsDeep m v found.node found.right next.parent next.side next.right entry new_right

-- the plain links that such a removal leaves to be set, the copy's first
abbrev pub join_sets : (z : Layout) (m : Memory) (vs : List View) (v : View) (key : ℕ) → IsReadyToJoin z m vs v key → List SetLink
join_sets z m vs v key h =
    set_to h.found.parent h.found.side h.slot
    ∷ cond (h.next.parent == h.found.node) [] (set_to h.next.parent h.next.side h.next.right ∷ [])

-- the successor that it leaves to be unlinked
abbrev pub join_last : (z : Layout) (m : Memory) (vs : List View) (v : View) (key : ℕ) → IsReadyToJoin z m vs v key → Option Unlinking
join_last z m vs v key h =
    cond (h.next.parent == h.found.node) None
    (Some (record { successor = h.next.node; parent = h.next.parent; side = h.next.side; replaced = h.found.node }))

-- an update of a pass
abbrev pub update_of : ℕ → ℕ → ℕ → Change → Update
update_of client line key change = record { client = client; line = line; key = key; change = change }

-- the pending entries spell the tree after the update: the raise's need on trees is met. It brings in this node, or
-- none, and takes out these, and leaves these plain links to be set, and this successor to be unlinked, or none
pub record MayStep (z : Layout) (m : Memory) (vs : List View) (v : View) (u : Update) (added : Option ℕ) (out : List ℕ) (sets : List SetLink)
    (unlinking : Option Unlinking) : Type 0 where
  pub step : is_tree_step z m vs v u ≡ true
  pub added_is : (tree_move z m vs v u).added ≡ added
  pub entries_are : (tree_move z m vs v u).entries ≡ new_entries m added
  pub taken_is : (tree_move z m vs v u).taken ≡ out
  pub taken_entries_are : (tree_move z m vs v u).taken_entries ≡ node_entries z m out
  pub leaves : LeavesPlain u.change sets unlinking (tree_move z m vs v u).plain

-- the laws: in every table that meets the rule, a seat that is ready may raise
abbrev pub MayGrowLaw : Type 0
MayGrowLaw =
    (z : Layout) (m : Memory) (vs : List View) (g : Meaning) (i : ℕ) (v : View) (client line key val : ℕ) → Rule z m vs g → IsItem vs i v
    → (h : IsReadyToGrow z m vs v key val) → MayStep z m vs v (update_of client line key (Put val)) (Some h.slot) [] (set_to h.node h.side h.slot ∷ []) None

abbrev pub MayReplaceLaw : Type 0
MayReplaceLaw =
    (z : Layout) (m : Memory) (vs : List View) (g : Meaning) (i : ℕ) (v : View) (client line key val : ℕ) → Rule z m vs g → IsItem vs i v
    → (h : IsReadyToReplace z m vs v key val) → MayStep z m vs v (update_of client line key (Put val)) (Some h.slot) (h.found.node ∷ [])
    (set_to h.found.parent h.found.side h.slot ∷ []) None

abbrev pub MayLiftLaw : Type 0
MayLiftLaw =
    (z : Layout) (m : Memory) (vs : List View) (g : Meaning) (i : ℕ) (v : View) (client line key : ℕ) → Rule z m vs g → IsItem vs i v
    → (h : IsReadyToLift z m vs v key) → MayStep z m vs v (update_of client line key Remove) None (h.found.node ∷ [])
    (set_to h.found.parent h.found.side h.child ∷ []) None

abbrev pub MayJoinLaw : Type 0
MayJoinLaw =
    (z : Layout) (m : Memory) (vs : List View) (g : Meaning) (i : ℕ) (v : View) (client line key : ℕ) → Rule z m vs g → IsItem vs i v
    → (h : IsReadyToJoin z m vs v key) → MayStep z m vs v (update_of client line key Remove) (Some h.slot) (h.found.node ∷ h.next.node ∷ [])
    (join_sets z m vs v key h) (join_last z m vs v key h)
