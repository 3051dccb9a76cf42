-- Searches on plain links: where a search stands, how it turns, and the null links at which it ended. A search begins
-- at the root if the seat stands nowhere, and follows plain links only: a load of a head ends it.
use Rattle.std.specs.Prelude.{ℕ, List, [], ◌∷◌, ◌++◌, cond, Bool, true, false, not, nat_lt, ◌==◌, ◌&&◌, Option, Some, None, flat_map}
use Rattle.std.specs.List.{list_any}
use Rattle.index_words.specs.declared.side.Side.{Side}
use Rattle.index_words.specs.declared.side.Side.TheVariants.{Left, Right}
use Rattle.index_words.specs.declared.view.reading.Reading.{Reading}
use Rattle.index_words.specs.declared.view.reading.Place.{Place}
use Rattle.index_words.specs.declared.view.reading.Place.TheVariants.{Nowhere, Entry as AtEntry, Node as AtNode, Gap}
use Rattle.index_words.specs.declared.view.reading.Turn.{Turn}
use Rattle.index_words.specs.declared.view.reading.Link.{Link}
use Rattle.index_words.specs.declared.view.reading.LinkSource.{LinkSource}
use Rattle.index_words.specs.declared.view.reading.LinkSource.TheVariants.{Bundle, Plain}
use Rattle.index_words.specs.declared.view.update.HeldNode.{HeldNode}
use Rattle.index_words.specs.declared.view.update.HeldSide.{HeldSide}
use Rattle.index_words.specs.Words.{same_side}
use Rattle.core_grace.specs.Batches.{is_number}
use Rattle.core_events.specs.LoadMoves.{remembered_if}

-- the key of a turn
abbrev pub turn_key : Option Turn → Option ℕ
turn_key None = None
turn_key (Some t) = Some t.key

abbrev pub is_above_turn : Option ℕ → ℕ → Bool
is_above_turn None key = true
is_above_turn (Some low) key = nat_lt low key

abbrev pub is_under_turn : Option ℕ → ℕ → Bool
is_under_turn None key = true
is_under_turn (Some high) key = nat_lt key high

-- the key is above that of the last turn to the right, and below that of the last turn to the left; a turn that was not
-- made yet is no bound
abbrev pub is_between : Option ℕ → Option ℕ → ℕ → Bool
is_between low high key = is_above_turn low key && is_under_turn high key

-- the key of the node is known, and between those of the two turns
abbrev pub goes_on_at : Reading → Option ℕ → Bool
goes_on_at r None = false
goes_on_at r (Some key) = is_between (turn_key r.right_turn) (turn_key r.left_turn) key

-- The search stands where this link begins: at the root, which uses its right link alone, or at a node at which it goes
-- on.
abbrev pub searches_at : Reading → Place → ℕ → Side → Bool
searches_at r Nowhere k side = k == 0 && same_side side Right
searches_at r (AtNode node key) k side = node == k && goes_on_at r key
searches_at r _ k side = false

-- the node at which the search stands becomes the turn; the root is none
abbrev pub turned : Place → Option Turn → Option Turn
turned (AtNode node (Some key)) t = Some (record { node = node; key = key })
turned _ t = t

-- the last turns to the left and to the right, after one to this side
abbrev pub left_turn_after : Side → Reading → Option Turn
left_turn_after Left r = turned r.place r.left_turn
left_turn_after Right r = r.left_turn

abbrev pub right_turn_after : Side → Reading → Option Turn
right_turn_after Left r = r.right_turn
right_turn_after Right r = turned r.place r.right_turn

-- the search stands at the child, or has ended at the null link
abbrev pub place_after : ℕ → Side → ℕ → Place
place_after k side x = cond (x == 0) (Gap k side) (AtNode x None)

-- a plain link, with the keys of the last turns to the left and to the right
abbrev pub plain_link : ℕ → Side → ℕ → Option ℕ → Option ℕ → Link
plain_link k side x above below = record { node = k; side = side; child = x; source = Plain None above below }

-- If the search stands there it goes on by the link, which leads to `x`: the node becomes the turn of that side, and
-- the link is remembered with the turns as they are then.
abbrev pub walked : Bool → Reading → ℕ → Side → ℕ → Reading
walked stands r k side x = record r {
  place = cond stands (place_after k side x) r.place;
  above = cond stands None r.above;
  links = remembered_if stands r.links (plain_link k side x (turn_key (left_turn_after side r)) (turn_key (right_turn_after side r)));
  left_turn = cond stands (left_turn_after side r) r.left_turn;
  right_turn = cond stands (right_turn_after side r) r.right_turn;
}

-- the nodes at which the search stands, last turned, or found a link that it remembers. `top` is the child of the root,
-- at which a search begins
abbrev pub place_nodes : ℕ → Place → List ℕ
place_nodes top Nowhere = top ∷ []
place_nodes top (AtNode node key) = node ∷ []
place_nodes top (Gap node side) = node ∷ []
place_nodes top (AtEntry node side entry found) = []

abbrev pub turn_nodes : Option Turn → List ℕ
turn_nodes None = []
turn_nodes (Some t) = t.node ∷ []

abbrev pub source_nodes : ℕ → LinkSource → List ℕ
source_nodes node (Bundle entry) = []
source_nodes node (Plain tag above below) = node ∷ []

abbrev pub link_nodes : Link → List ℕ
link_nodes l = source_nodes l.node l.source

abbrev pub search_nodes : ℕ → Reading → List ℕ
search_nodes top r = place_nodes top r.place ++ (turn_nodes r.left_turn ++ (turn_nodes r.right_turn ++ flat_map link_nodes r.links))

-- the tag is kept with a plain link that does not have one yet
abbrev pub tag_found : ℕ → LinkSource → LinkSource
tag_found x (Bundle entry) = Bundle entry
tag_found x (Plain None above below) = Plain (Some x) above below
tag_found x (Plain (Some tag) above below) = Plain (Some tag) above below

abbrev pub with_tag : ℕ → Side → ℕ → Link → Link
with_tag k side x l = cond (l.node == k && same_side l.side side) (record l { source = tag_found x l.source }) l

-- the key of the node at which the search stands
abbrev pub key_found : ℕ → ℕ → Place → Place
key_found k x (AtNode node key) = cond (node == k) (AtNode node (Some x)) (AtNode node key)
key_found k x Nowhere = Nowhere
key_found k x (AtEntry node side entry found) = AtEntry node side entry found
key_found k x (Gap node side) = Gap node side

abbrev pub is_plain : LinkSource → Bool
is_plain (Bundle entry) = false
is_plain (Plain tag above below) = true

-- a plain link is remembered with another child, or with another tag
abbrev pub has_other_child : List Link → ℕ → Side → ℕ → Bool
has_other_child links k side x = list_any (λ (l : Link). l.node == k && same_side l.side side && is_plain l.source && not (l.child == x)) links

abbrev pub is_other_tag : ℕ → LinkSource → Bool
is_other_tag x (Plain (Some tag) above below) = not (tag == x)
is_other_tag x _ = false

abbrev pub has_other_tag : List Link → ℕ → Side → ℕ → Bool
has_other_tag links k side x = list_any (λ (l : Link). l.node == k && same_side l.side side && is_other_tag x l.source) links

abbrev pub held_side : Side → HeldNode → HeldSide
held_side Left h = h.left
held_side Right h = h.right

-- the seat has loaded or stored the word under its lock, and knows it
abbrev pub knows_link : List HeldNode → ℕ → Side → ℕ → Bool
knows_link hs k side x = list_any (λ (h : HeldNode). h.node == k && is_number x (held_side side h).link) hs

abbrev pub knows_tag : List HeldNode → ℕ → Side → ℕ → Bool
knows_tag hs k side x = list_any (λ (h : HeldNode). h.node == k && is_number x (held_side side h).tag) hs

-- a null link that a search has found, with this tag, where the key is between those of the turns
abbrev pub is_gap_found : ℕ → ℕ → LinkSource → Bool
is_gap_found key tag (Plain (Some found) above below) = found == tag && is_between below above key
is_gap_found key tag _ = false

abbrev pub is_gap_link : ℕ → Side → ℕ → ℕ → Link → Bool
is_gap_link k side key tag l = l.node == k && same_side l.side side && l.child == 0 && is_gap_found key tag l.source
