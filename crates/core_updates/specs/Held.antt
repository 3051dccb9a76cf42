-- What a view shows of an update that is ready: what it has found under its locks, the null links at which its search
-- has ended, what the seat has put into its own slots, and the entries that it has prepared. Nothing is said of the
-- words and of the other views.
use Rattle.std.specs.Prelude.{◌≡◌, ℕ, ◌<◌, ◌^◌, ◌⊎◌, List, [], ◌∷◌, ◌==◌, cond, true, false, Option, Some, None}
use Rattle.std.specs.List.{slice_get}
use Rattle.index_words.specs.declared.layout.Layout.{Layout}
use Rattle.index_words.specs.declared.side.Side.{Side}
use Rattle.index_words.specs.declared.side.Side.TheVariants.{Left, Right}
use Rattle.key_map.specs.declared.update.Update.{Update}
use Rattle.key_map.specs.declared.update.Change.TheVariants.{Put, Remove}
use Rattle.index_words.specs.declared.view.View.{View}
use Rattle.index_words.specs.declared.view.reading.Link.{Link}
use Rattle.index_words.specs.declared.view.reading.LinkSource.TheVariants.{Plain}
use Rattle.index_words.specs.declared.view.update.HeldNode.{HeldNode}
use Rattle.index_words.specs.declared.view.update.LoadedHead.{LoadedHead}
use Rattle.index_words.specs.declared.view.update.Unlinking.{Unlinking}
use Rattle.index_words.specs.declared.word.Field.TheVariants.{Key, Val, Mark, Head, Link as LinkField, Tag}
use Rattle.index_words.specs.declared.word.Part.TheVariants.{Child, Stamp as Number, Next}
use Rattle.index_words.specs.declared.word.Word.TheVariants.{Stamp, Node, Entry}
use Rattle.index_words.specs.Words.{address, memory}
use Rattle.key_map.specs.Lists.{count, IsItem}
use Rattle.core_events.specs.declared.event.Event.{Event}
use Rattle.core_events.specs.declared.event.Kind.TheVariants.{Raise}
use Rattle.core_laws.specs.Searching.{IsOver, IsUnder}
use Rattle.core_laws.specs.ViewNeeds.{HasFilled}
use Rattle.core_invariant.specs.Rule.{InRule}
use Rattle.core_events.specs.Steps.{allowed}
use Rattle.core_events.specs.UpdateNeeds.{held_at, side_of}
use Rattle.core_updates.specs.Ready.{update_of, MayStep}
use Rattle.core_updates.specs.SetLinks.{SetLink, set_to}

-- the seat has locked the node, and the head of the link was loaded, or stored, as this entry since
pub record HoldsHead (v : View) (node : ℕ) (side : Side) (entry : ℕ) : Type 0 where
  pub place : ℕ
  pub held : HeldNode
  pub at : IsItem v.held.nodes place held
  pub node_is : held.node ≡ node
  pub loaded : LoadedHead
  pub head : (side_of side held).head ≡ Some loaded
  pub entry_is : loaded.entry ≡ entry

-- Under the lock of the node its mark was found 0, and the plain link was found to lead to this child, 0 for none. The
-- root has its right link alone.
pub record HoldsLink (v : View) (node : ℕ) (side : Side) (child : ℕ) : Type 0 where
  pub root : node ≡ 0 → side ≡ Right
  pub held : HeldNode
  pub locked : held_at node v.held.nodes ≡ Some held
  pub unmarked : held.mark ≡ Some 0
  pub leads : (side_of side held).link ≡ Some child

-- A search has found the link null, with this tag; the key is between those of the two turns that were the last ones
-- then.
pub record RemembersGap (v : View) (node : ℕ) (side : Side) (tag key : ℕ) : Type 0 where
  pub place : ℕ
  pub link : Link
  pub is : IsItem v.reading.links place link
  pub node_is : link.node ≡ node
  pub side_is : link.side ≡ side
  pub child_is : link.child ≡ 0
  pub above : Option ℕ
  pub below : Option ℕ
  pub source : link.source ≡ Plain (Some tag) above below
  pub over : IsOver below key
  pub under : IsUnder above key

-- Under the lock the link was found null, with that tag.
pub record HoldsGap (v : View) (node : ℕ) (side : Side) (key : ℕ) : Type 0 where
  pub null : HoldsLink v node side 0
  pub tag : ℕ
  pub held_tag : (side_of side null.held).tag ≡ Some tag
  pub found : RemembersGap v node side tag key

-- the seat has prepared the entry at the link, and it leads to the child
pub record HoldsPrepared (v : View) (node : ℕ) (side : Side) (entry child : ℕ) : Type 0 where
  pub some : 0 < entry
  pub head : HoldsHead v node side entry
  pub pending : 0 < count entry v.update.pending
  pub leads : HasFilled v (Entry Child entry) child

-- a free entry that was filled as the only one of a bundle, and leads to the child
pub record HoldsFresh (v : View) (entry child : ℕ) : Type 0 where
  pub free : 0 < count entry v.free.entries
  pub unnumbered : HasFilled v (Entry Number entry) 0
  pub last : HasFilled v (Entry Next entry) 0
  pub leads : HasFilled v (Entry Child entry) child

-- a link of a new node, with its head
abbrev pub HoldsNewLink : View → ℕ → Side → ℕ → ℕ → Type 0
HoldsNewLink v slot side head child =
    HasFilled v (Node (Head side) slot) head × (((head ≡ 0) × (child ≡ 0)) ⊎ HoldsFresh v head child)

-- a free node that was filled with this pair and these children
pub record HoldsNew (v : View) (slot key val left right : ℕ) : Type 0 where
  pub free : 0 < count slot v.free.nodes
  pub unmarked : HasFilled v (Node Mark slot) 0
  pub key_is : HasFilled v (Node Key slot) key
  pub val_is : HasFilled v (Node Val slot) val
  pub left_head : ℕ
  pub left_link : HoldsNewLink v slot Left left_head left
  pub right_head : ℕ
  pub right_link : HoldsNewLink v slot Right right_head right
  pub left_child : HasFilled v (Node (LinkField Left) slot) left
  pub right_child : HasFilled v (Node (LinkField Right) slot) right
  pub left_tag : HasFilled v (Node (Tag Left) slot) 0
  pub right_tag : HasFilled v (Node (Tag Right) slot) 0
  pub apart : left_head ≡ right_head → left_head ≡ 0

-- under the lock of the node this part of it was loaded as `x`
pub record HasLoaded (v : View) (node : ℕ) (part : HeldNode → Option ℕ) (x : ℕ) : Type 0 where
  pub place : ℕ
  pub held : HeldNode
  pub at : IsItem v.held.nodes place held
  pub node_is : held.node ≡ node
  pub is : part held ≡ Some x

-- the key's node, with its link and its children
pub record HoldsKey (v : View) (key : ℕ) : Type 0 where
  pub parent : ℕ
  pub side : Side
  pub node : ℕ
  pub some : 0 < node
  pub at : HoldsLink v parent side node
  pub key_is : HasLoaded v node (λ (h : HeldNode). h.key) key
  pub left : ℕ
  pub left_link : HoldsLink v node Left left
  pub right : ℕ
  pub right_link : HoldsLink v node Right right

-- the successor, with its link, its null left link and its right child; each key between is between the turns with
-- which the search has found that left link
pub record HoldsSuccessor (v : View) (key : ℕ) : Type 0 where
  pub parent : ℕ
  pub side : Side
  pub node : ℕ
  pub some : 0 < node
  pub at : HoldsLink v parent side node
  pub key_of : ℕ
  pub val_of : ℕ
  pub key_is : HasLoaded v node (λ (h : HeldNode). h.key) key_of
  pub val_is : HasLoaded v node (λ (h : HeldNode). h.val) val_of
  pub above : key < key_of
  pub left_link : HoldsLink v node Left 0
  pub right : ℕ
  pub right_link : HoldsLink v node Right right
  pub gap : (x : ℕ) → key < x → x < key_of → HoldsGap v node Left x

-- a put of an absent key
pub record HoldsGrow (v : View) (key val : ℕ) : Type 0 where
  pub node : ℕ
  pub side : Side
  pub at : HoldsGap v node side key
  pub small : key < 2 ^ 64
  pub slot : ℕ
  pub new : HoldsNew v slot key val 0 0
  pub entry : ℕ
  pub pending : v.update.pending ≡ entry ∷ []
  pub prepared : HoldsPrepared v node side entry slot

-- a put of a present key
pub record HoldsReplace (v : View) (key val : ℕ) : Type 0 where
  pub found : HoldsKey v key
  pub small : key < 2 ^ 64
  pub slot : ℕ
  pub new : HoldsNew v slot key val found.left found.right
  pub entry : ℕ
  pub pending : v.update.pending ≡ entry ∷ []
  pub prepared : HoldsPrepared v found.parent found.side entry slot

-- a removal of a node with at most one child
pub record HoldsLift (v : View) (key : ℕ) : Type 0 where
  pub found : HoldsKey v key
  pub small : key < 2 ^ 64
  pub child : ℕ
  pub one : ((found.left ≡ 0) × (child ≡ found.right)) ⊎ ((found.right ≡ 0) × (child ≡ found.left))
  pub entry : ℕ
  pub pending : v.update.pending ≡ entry ∷ []
  pub prepared : HoldsPrepared v found.parent found.side entry child

-- where the successor is the right child
pub record HoldsNear (v : View) (node parent : ℕ) (side : Side) (next_right entry new_right : ℕ) : Type 0 where
  pub parent_is : parent ≡ node
  pub side_is : side ≡ Right
  pub pending : v.update.pending ≡ entry ∷ []
  pub child : new_right ≡ next_right

-- where it is deeper
pub record HoldsDeep (v : View) (node right parent : ℕ) (side : Side) (next_right entry new_right : ℕ) : Type 0 where
  pub apart : ¬ (parent ≡ node)
  pub second : ℕ
  pub pending : v.update.pending ≡ entry ∷ second ∷ []
  pub prepared : HoldsPrepared v parent side second next_right
  pub child : new_right ≡ right

-- a removal of a node with two children
pub record HoldsJoin (v : View) (key : ℕ) : Type 0 where
  pub found : HoldsKey v key
  pub small : key < 2 ^ 64
  pub left : 0 < found.left
  pub right : 0 < found.right
  pub next : HoldsSuccessor v key
  pub slot : ℕ
  pub new_right : ℕ
  pub new : HoldsNew v slot next.key_of next.val_of found.left new_right
  pub entry : ℕ
  pub prepared : HoldsPrepared v found.parent found.side entry slot
  pub by : HoldsNear v found.node next.parent next.side next.right entry new_right
      ⊎ HoldsDeep v found.node found.right next.parent next.side next.right entry new_right

-- the plain links that such a removal leaves to be set, the copy's first
abbrev pub sets_joined : (v : View) (key : ℕ) → HoldsJoin v key → List SetLink
sets_joined v key h =
    set_to h.found.parent h.found.side h.slot
    ∷ cond (h.next.parent == h.found.node) [] (set_to h.next.parent h.next.side h.next.right ∷ [])

-- the successor that it leaves to be unlinked
abbrev pub unlinks_joined : (v : View) (key : ℕ) → HoldsJoin v key → Option Unlinking
unlinks_joined v key h =
    cond (h.next.parent == h.found.node) None
    (Some (record { successor = h.next.node; parent = h.next.parent; side = h.next.side; replaced = h.found.node }))

-- the seat may raise by its own parts: it is a pass that has not raised, with calls left
pub record CanRaise (v : View) (client : ℕ) : Type 0 where
  pub live : v.joined ≡ false
  pub own : v.number ≡ Some client
  pub unraised : v.update.raised ≡ None
  pub left : 0 < v.history.left

-- the raise of an update by a seat
abbrev pub raise_of : Layout → ℕ → Update → Event
raise_of z seat u = record { seat = seat; kind = Raise; word = address z Stamp; value = 0; update = Some u }

-- in every table of this layout that meets the rule, a seat with this view may raise the update, which then brings in
-- and takes out these nodes, and leaves these plain links to be set, and this successor to be unlinked, or none
pub record MayRaise (z : Layout) (v : View) (u : Update) (added : Option ℕ) (out : List ℕ) (sets : List SetLink) (unlinking : Option Unlinking) : Type 0 where
  pub may : (words : List ℕ) (vs : List View) (seat : ℕ) → InRule z words vs → slice_get vs seat ≡ Some v
      → allowed (record { layout = z; words = words; views = vs }) (raise_of z seat u) ≡ true
  pub moves : (words : List ℕ) (vs : List View) (seat : ℕ) → InRule z words vs → slice_get vs seat ≡ Some v
      → MayStep z (memory z words) vs v u added out sets unlinking

abbrev pub GrowFromViewLaw : Type 0
GrowFromViewLaw =
    (z : Layout) (v : View) (client line key val : ℕ) → CanRaise v client → (h : HoldsGrow v key val)
    → MayRaise z v (update_of client line key (Put val)) (Some h.slot) [] (set_to h.node h.side h.slot ∷ []) None

abbrev pub ReplaceFromViewLaw : Type 0
ReplaceFromViewLaw =
    (z : Layout) (v : View) (client line key val : ℕ) → CanRaise v client → (h : HoldsReplace v key val)
    → MayRaise z v (update_of client line key (Put val)) (Some h.slot) (h.found.node ∷ []) (set_to h.found.parent h.found.side h.slot ∷ []) None

abbrev pub LiftFromViewLaw : Type 0
LiftFromViewLaw =
    (z : Layout) (v : View) (client line key : ℕ) → CanRaise v client → (h : HoldsLift v key)
    → MayRaise z v (update_of client line key Remove) None (h.found.node ∷ []) (set_to h.found.parent h.found.side h.child ∷ []) None

abbrev pub JoinFromViewLaw : Type 0
JoinFromViewLaw =
    (z : Layout) (v : View) (client line key : ℕ) → CanRaise v client → (h : HoldsJoin v key)
    → MayRaise z v (update_of client line key Remove) (Some h.slot) (h.found.node ∷ h.next.node ∷ []) (sets_joined v key h) (unlinks_joined v key h)
