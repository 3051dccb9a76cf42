-- The raise of an update: what a seat has ready for it, and what it leaves in the pass's view.
use Rattle.std.specs.Prelude.{◌≡◌, ℕ, ◌+◌, ◌<◌, ◌⊎◌, List, [], ◌∷◌, ◌++◌, length, cond, ◌==◌, Option, Some, None, slice_index}
use Rattle.index_words.specs.declared.side.Side.{Side}
use Rattle.index_words.specs.declared.side.Side.TheVariants.{Left, Right}
use Rattle.index_words.specs.declared.view.View.{View}
use Rattle.index_words.specs.declared.layout.Layout.{Layout}
use Rattle.index_words.specs.declared.view.update.HeldNext.{HeldNext}
use Rattle.index_words.specs.declared.view.update.Unlinking.{Unlinking}
use Rattle.index_words.specs.declared.word.Field.TheVariants.{Head}
use Rattle.index_words.specs.declared.word.Word.TheVariants.{Node}
use Rattle.key_map.specs.declared.update.Update.{Update}
use Rattle.key_map.specs.History.{after}
use Rattle.key_map.specs.Lists.{IsItem}
use Rattle.core_trees.specs.NamedTree.{NamedTree, contents, IsLawful}
use Rattle.core_events.specs.declared.event.Event.{Event}
use Rattle.core_events.specs.declared.tree_move.PlainMove.{PlainMove}
use Rattle.core_events.specs.TreeMoves.{takes}
use Rattle.core_events.specs.UpdateMoves.{raised_view, listed_entry}
use Rattle.core_laws.specs.Owners.{HasFreeNode, HasFreeEntry}
use Rattle.core_updates.specs.Held.{HoldsHead, MayRaise, raise_of}
use Rattle.core_updates.specs.SetLinks.{SetLink, LeavesPlain}
use Rattle.core_laws.specs.ViewNeeds.{HasFilled}
use Rattle.table_rule.specs.Running.{Happened}
use Rattle.table_steps.specs.Passes.{Pass, Extends}

-- the slot of the new node and the heads of its left and its right bundle; 0 where there is none
abbrev pub new_slot : List ℕ → ℕ
new_slot new = slice_index new 0

abbrev pub new_left : List ℕ → ℕ
new_left new = slice_index new 1

abbrev pub new_right : List ℕ → ℕ
new_right new = slice_index new 2

abbrev pub slot_given : ℕ → Option ℕ
slot_given k = cond (k == 0) None (Some k)

abbrev pub new_entries_of : List ℕ → List ℕ
new_entries_of new = listed_entry (new_left new) ++ listed_entry (new_right new)

-- the nodes that are taken out; 0 where there is none
abbrev pub nodes_out : List ℕ → List ℕ
nodes_out out = listed_entry (slice_index out 0) ++ listed_entry (slice_index out 1)

-- an entry is 0, or a free one of the view
abbrev pub IsGiven : View → ℕ → Type 0
IsGiven v e = (e ≡ 0) ⊎ HasFreeEntry v e

-- the new node is a free one of the view, into which it has put these heads: each 0, or a free entry of the view, and
-- no two the same
pub record HasNewNode (v : View) (slot left right : ℕ) : Type 0 where
  pub free : HasFreeNode v slot
  pub left_head : HasFilled v (Node (Head Left) slot) left
  pub right_head : HasFilled v (Node (Head Right) slot) right
  pub left_free : IsGiven v left
  pub right_free : IsGiven v right
  pub apart : left ≡ right → left ≡ 0

abbrev pub HasNone : List ℕ → Type 0
HasNone new = (new_left new ≡ 0) × (new_right new ≡ 0)

-- the new node is ready, if there is one
abbrev pub HasNew : View → List ℕ → Type 0
HasNew v new = ((new_slot new ≡ 0) × HasNone new) ⊎ ((0 < new_slot new) × HasNewNode v (new_slot new) (new_left new) (new_right new))

-- the next of the entry was found since the node was locked
pub record HoldsNext (v : View) (node entry next : ℕ) : Type 0 where
  pub place : ℕ
  pub item : HeldNext
  pub at : IsItem v.held.nexts place item
  pub node_is : item.node ≡ node
  pub entry_is : item.entry ≡ entry
  pub next_is : item.next ≡ next

-- these are the entries from the head on, each found as the next of the one before
abbrev pub HoldsChain : View → ℕ → ℕ → List ℕ → Type 0
HoldsChain v node head [] = head ≡ 0
HoldsChain v node head (e ∷ es) = (head ≡ e) × (0 < e) × ((next : ℕ) × HoldsNext v node e next × HoldsChain v node next es)

-- the head of the bundle and the next of each of its entries were found since the node was locked
pub record HoldsBundle (v : View) (node : ℕ) (side : Side) (es : List ℕ) : Type 0 where
  pub head : ℕ
  pub held : HoldsHead v node side head
  pub chain : HoldsChain v node head es

-- both bundles of a node
pub record HoldsBundles (v : View) (node : ℕ) (es : List ℕ) : Type 0 where
  pub lefts : List ℕ
  pub rights : List ℕ
  pub left : HoldsBundle v node Left lefts
  pub right : HoldsBundle v node Right rights
  pub are : es ≡ lefts ++ rights

-- the entries of the bundles of these nodes, in the order in which a raise retires them
abbrev pub HoldsEntries : View → List ℕ → List ℕ → Type 0
HoldsEntries v [] es = es ≡ []
HoldsEntries v (k ∷ ks) es = (here : List ℕ) × (rest : List ℕ) × HoldsBundles v k here × HoldsEntries v ks rest × (es ≡ here ++ rest)

-- the seat may raise the update, whatever it then leaves to be done at plain links
abbrev pub MayRaiseBy : Layout → View → Update → List ℕ → List ℕ → Type 0
MayRaiseBy z v u new out = (sets : List SetLink) × (unlinking : Option Unlinking) × MayRaise z v u (slot_given (new_slot new)) (nodes_out out) sets unlinking

abbrev pub raising : Pass → Update → Event
raising p u = raise_of p.view.layout p.seat u

-- what an update that was raised at a place has found, and what it leaves: the updates before it are all that there
-- were, and begin with those that the seat had seen; the tree then had the map after them; the update takes these nodes
-- out of it, with the entries of their bundles, and brings in the new node with its entries. What it leaves to be done
-- at plain links is what the seat's view says that it leaves
pub record HasRaised (v : View) (u : Update) (new out : List ℕ) (at : ℕ) (w : View) : Type 0 where
  pub others : List Update
  pub extends : Extends v.history.seen others
  pub place : at ≡ length others + 1
  pub tree : NamedTree
  pub lawful : IsLawful tree
  pub contents_are : contents tree ≡ after others (length others)
  pub takes_are : takes u.change u.key tree ≡ nodes_out out
  pub entries : List ℕ
  pub holds : HoldsEntries v (nodes_out out) entries
  pub plain : PlainMove
  pub leaves : (sets : List SetLink) (unlinking : Option Unlinking) → MayRaise v.layout v u (slot_given (new_slot new)) (nodes_out out) sets unlinking
      → LeavesPlain u.change sets unlinking plain
  pub view : w ≡ raised_view others v (length others) u (record { added = slot_given (new_slot new); entries = new_entries_of new; taken = nodes_out out; taken_entries = entries; plain = plain })

-- the update was raised at this place by a step that the pass has made since it was `p`: it made no update before that
-- step, and has made none since
pub record IsRaisedSince (p : Pass) (u : Update) (at : ℕ) (w : View) : Type 0 where
  pub before : View
  pub found : ℕ
  pub behind : View
  pub event : Happened p.view.layout (raising p u) before found behind
  pub place : at ≡ found + 1
  pub since : before.history.mine ≡ p.view.history.mine
  pub last : w.history.mine ≡ behind.history.mine
