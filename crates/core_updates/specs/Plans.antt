-- What a plan says, as lists in the order in which the update does it: which nodes are locked, what is looked at under
-- the locks, which words are filled, which entries are put in front of bundles, and which nodes go out.
use Rattle.std.specs.Prelude.{◌≡◌, ℕ, ◌<◌, List, [], ◌∷◌, ◌++◌, ◌==◌, map, Option, Some, None, if◌then◌else◌}
use Rattle.index_words.specs.declared.side.Side.{Side}
use Rattle.index_words.specs.declared.side.Side.TheVariants.{Left, Right}
use Rattle.key_map.specs.declared.update.Change.{Change}
use Rattle.key_map.specs.declared.update.Change.TheVariants.{Put, Remove}
use Rattle.index_words.specs.declared.view.reading.Filled.{Filled}
use Rattle.index_words.specs.declared.view.update.Unlinking.{Unlinking}
use Rattle.index_words.specs.declared.word.Word.{Word}
use Rattle.index_words.specs.declared.word.Word.TheVariants.{Node, Entry}
use Rattle.index_words.specs.declared.word.Field.TheVariants.{Key as KeyField, Val as ValField, Mark, Head, Link as LinkField, Tag}
use Rattle.index_words.specs.declared.word.Part.TheVariants.{Child, Stamp as Number, Next}
use Rattle.core_trees.specs.declared.link.Link.{Link}
use Rattle.core_updates.specs.declared.plan.Plan.{Plan}
use Rattle.core_updates.specs.declared.plan.Plan.TheVariants.{Grow, Replace, Lift, Join}
use Rattle.core_updates.specs.declared.plan.JoinPlan.{JoinPlan}
use Rattle.core_updates.specs.declared.plan.PlanSlots.{PlanSlots}
use Rattle.core_updates.specs.declared.plan.Front.{Front}
use Rattle.core_updates.specs.declared.plan.Fresh.{Fresh}
use Rattle.core_updates.specs.declared.plan.NewNode.{NewNode}
use Rattle.core_updates.specs.SetLinks.{SetLink}

abbrev pub link_of : ℕ → Side → Link
link_of node side = record { node = node; side = side }

abbrev pub other_side : Side → Side
other_side Left = Right
other_side Right = Left

-- the key and the change of the update
abbrev pub key_of : Plan → ℕ
key_of (Grow p) = p.pair.key
key_of (Replace p) = p.pair.key
key_of (Lift p) = p.key
key_of (Join p) = p.key

abbrev pub change_of : Plan → Change
change_of (Grow p) = Put p.pair.val
change_of (Replace p) = Put p.pair.val
change_of (Lift p) = Remove
change_of (Join p) = Remove

-- the successor's parent, where it is not the removed node itself
abbrev pub between : JoinPlan → List ℕ
between p = if p.next.at.node == p.node then [] else p.next.at.node ∷ []

-- the nodes that are locked
abbrev pub locks_of : Plan → List ℕ
locks_of (Grow p) = p.at.node ∷ []
locks_of (Replace p) = p.at.node ∷ p.node ∷ []
locks_of (Lift p) = p.at.node ∷ p.node ∷ []
locks_of (Join p) = p.at.node ∷ p.node ∷ between p ++ p.next.node ∷ []

-- What an update finds under its locks, and needs for its raise: that a link leads to a child, 0 for none; the key, or
-- the value, of a node; and that a search has ended at a null link, with the key between its turns, or with each key
-- between these two.
pub data Look : Type 0 where
  LinkLook : Link → ℕ → Look
  KeyLook : ℕ → ℕ → Look
  ValLook : ℕ → ℕ → Look
  GapLook : Link → ℕ → Look
  BetweenLook : Link → ℕ → ℕ → Look

-- the look at the link to the successor, where that is not a link of the removed node
abbrev pub next_look : JoinPlan → List Look
next_look p = if p.next.at.node == p.node then [] else LinkLook p.next.at p.next.node ∷ []

-- the looks of a plan
abbrev pub looks_of : Plan → List Look
looks_of (Grow p) = GapLook p.at p.pair.key ∷ []
looks_of (Replace p) =
    LinkLook p.at p.node ∷ LinkLook (link_of p.node Left) p.left ∷ LinkLook (link_of p.node Right) p.right
    ∷ KeyLook p.node p.pair.key ∷ []
looks_of (Lift p) =
    LinkLook p.at p.node ∷ LinkLook (link_of p.node p.bare) 0 ∷ LinkLook (link_of p.node (other_side p.bare)) p.child
    ∷ KeyLook p.node p.key ∷ []
looks_of (Join p) =
    LinkLook p.at p.node ∷ LinkLook (link_of p.node Left) p.left ∷ LinkLook (link_of p.node Right) p.right
    ∷ KeyLook p.node p.key
    ∷ LinkLook (link_of p.next.node Left) 0 ∷ LinkLook (link_of p.next.node Right) p.next.right
    ∷ KeyLook p.next.node p.next.pair.key ∷ ValLook p.next.node p.next.pair.val
    ∷ BetweenLook (link_of p.next.node Left) p.key p.next.pair.key ∷ next_look p

-- A plan makes sense: the node that it replaces or removes is one, and hangs at a link. A removal with two children has
-- a successor with a greater key, which is the right child where it hangs at the removed node itself.
pub record HasNode (at : Link) (node : ℕ) : Type 0 where
  pub some : 0 < node
  pub root : at.node ≡ 0 → at.side ≡ Right

pub record HasNext (p : JoinPlan) : Type 0 where
  pub node : HasNode p.at p.node
  pub left : 0 < p.left
  pub right : 0 < p.right
  pub next : HasNode p.next.at p.next.node
  pub above : p.key < p.next.pair.key
  pub side : p.next.at.node ≡ p.node → p.next.at.side ≡ Right
  pub child : p.next.at.node ≡ p.node → p.right ≡ p.next.node

abbrev pub IsFormed : Plan → Type 0
IsFormed (Grow p) = p.at.node ≡ 0 → p.at.side ≡ Right
IsFormed (Replace p) = HasNode p.at p.node
IsFormed (Lift p) = HasNode p.at p.node
IsFormed (Join p) = HasNext p

-- the entry of a new node's link to the child, 0 for none
abbrev pub fresh_to : ℕ → ℕ → Option Fresh
fresh_to entry child = if child == 0 then None else Some (record { entry = entry; child = child })

-- the node that is brought in
abbrev pub new_node_of : Plan → PlanSlots → Option NewNode
new_node_of (Grow p) s = Some (record { slot = s.node; pair = p.pair; left = None; right = None })
new_node_of (Replace p) s =
    Some (record { slot = s.node; pair = p.pair; left = fresh_to s.left p.left; right = fresh_to s.right p.right })
new_node_of (Lift p) s = None
new_node_of (Join p) s =
    Some (record {
      slot = s.node;
      pair = p.next.pair;
      left = fresh_to s.left p.left;
      right = fresh_to s.right (if p.next.at.node == p.node then p.next.right else p.right);
    })

-- the link at which the tree changes
abbrev pub link_at : Plan → Link
link_at (Grow p) = p.at
link_at (Replace p) = p.at
link_at (Lift p) = p.at
link_at (Join p) = p.at

-- the link to the successor, where that is not a link of the removed node
abbrev pub next_link : JoinPlan → Option Link
next_link p = if p.next.at.node == p.node then None else Some p.next.at

abbrev pub next_link_of : Plan → Option Link
next_link_of (Join p) = next_link p
next_link_of _ = None

-- the entry in front of the link at which the tree changes, and the one in front of the link to the successor
abbrev pub front_of : Plan → PlanSlots → Front
front_of (Grow p) s = record { at = p.at; entry = s.at; child = s.node }
front_of (Replace p) s = record { at = p.at; entry = s.at; child = s.node }
front_of (Lift p) s = record { at = p.at; entry = s.at; child = p.child }
front_of (Join p) s = record { at = p.at; entry = s.at; child = s.node }

abbrev pub next_front : JoinPlan → PlanSlots → Option Front
next_front p s =
    if p.next.at.node == p.node then None else Some (record { at = p.next.at; entry = s.next; child = p.next.right })

abbrev pub next_front_of : Plan → PlanSlots → Option Front
next_front_of (Join p) s = next_front p s
next_front_of _ s = None

-- the entries that are put in front of bundles
abbrev pub or_none : Option Front → List Front
or_none None = []
or_none (Some f) = f ∷ []

abbrev pub fronts_of : Plan → PlanSlots → List Front
fronts_of plan s = front_of plan s ∷ or_none (next_front_of plan s)

-- the plain links that are set after the raise: those in front of whose bundles entries are put, in the same order, to
-- the same children
abbrev pub set_by : Front → SetLink
set_by f = record { at = f.at; child = f.child }

abbrev pub sets_of : Plan → PlanSlots → List SetLink
sets_of plan slots = map set_by (fronts_of plan slots)

-- the successor that is unlinked after the raise, where its link is not one of the removed node
abbrev pub far_next : JoinPlan → Option Unlinking
far_next p =
    if p.next.at.node == p.node then None
    else Some (record { successor = p.next.node; parent = p.next.at.node; side = p.next.at.side; replaced = p.node })

abbrev pub unlinks_of : Plan → Option Unlinking
unlinks_of (Join p) = far_next p
unlinks_of _ = None

-- the nodes that go out with the raise, and are marked after it
abbrev pub out_of : Plan → List ℕ
out_of (Grow p) = []
out_of (Replace p) = p.node ∷ []
out_of (Lift p) = p.node ∷ []
out_of (Join p) = p.node ∷ p.next.node ∷ []

abbrev pub head_of : Option Fresh → ℕ
head_of None = 0
head_of (Some fresh) = fresh.entry

abbrev pub child_of : Option Fresh → ℕ
child_of None = 0
child_of (Some fresh) = fresh.child

abbrev pub fill : Word → ℕ → Filled
fill w x = record { word = w; value = x }

-- the words that are filled: of a new node, and of an entry that leads to a child with another one after it
abbrev pub node_fills : NewNode → List Filled
node_fills n =
    fill (Node Mark n.slot) 0 ∷ fill (Node KeyField n.slot) n.pair.key ∷ fill (Node ValField n.slot) n.pair.val
    ∷ fill (Node (Head Left) n.slot) (head_of n.left) ∷ fill (Node (Head Right) n.slot) (head_of n.right)
    ∷ fill (Node (LinkField Left) n.slot) (child_of n.left) ∷ fill (Node (LinkField Right) n.slot) (child_of n.right)
    ∷ fill (Node (Tag Left) n.slot) 0 ∷ fill (Node (Tag Right) n.slot) 0 ∷ []

abbrev pub entry_fills : ℕ → ℕ → ℕ → List Filled
entry_fills entry child behind =
    fill (Entry Child entry) child ∷ fill (Entry Number entry) 0 ∷ fill (Entry Next entry) behind ∷ []

abbrev pub slot_of : Option NewNode → Option ℕ
slot_of None = None
slot_of (Some n) = Some n.slot

abbrev pub entries_of : List Front → List ℕ
entries_of [] = []
entries_of (f ∷ fs) = f.entry ∷ entries_of fs

-- the entry of a new node's link, and those of both
abbrev pub fresh_listed : Option Fresh → List ℕ
fresh_listed None = []
fresh_listed (Some fresh) = fresh.entry ∷ []

abbrev pub fresh_entries : Option NewNode → List ℕ
fresh_entries None = []
fresh_entries (Some n) = fresh_listed n.left ++ fresh_listed n.right

-- all entries that the update uses: those in front of bundles first
abbrev pub entries_in : Plan → PlanSlots → List ℕ
entries_in plan s = entries_of (fronts_of plan s) ++ fresh_entries (new_node_of plan s)
