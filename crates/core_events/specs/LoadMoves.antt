-- The view of a seat after each kind of load.
use Rattle.std.specs.Prelude.{ℕ, ◌+◌, List, [], ◌∷◌, ◌++◌, cond, Bool, false, not, nat_lt, nat_le, ◌==◌, ◌&&◌, ◌||◌, Option, Some, None, is_none, is_some, map}
use Rattle.std.specs.List.{list_any}
use Rattle.index_words.specs.declared.side.Side.{Side}
use Rattle.index_words.specs.declared.side.Side.TheVariants.{Left, Right}
use Rattle.key_map.specs.declared.update.Update.{Update}
use Rattle.index_words.specs.declared.view.View.{View}
use Rattle.index_words.specs.declared.view.history.SeenHistory.{SeenHistory}
use Rattle.index_words.specs.declared.view.reading.Reading.{Reading}
use Rattle.index_words.specs.declared.view.reading.TreeNode.{TreeNode}
use Rattle.index_words.specs.declared.view.reading.Place.{Place}
use Rattle.index_words.specs.declared.view.reading.Place.TheVariants.{Nowhere, Entry, Node, Gap}
use Rattle.index_words.specs.declared.view.reading.Link.{Link}
use Rattle.index_words.specs.declared.view.reading.LinkSource.{LinkSource}
use Rattle.index_words.specs.declared.view.reading.LinkSource.TheVariants.{Bundle, Plain}
use Rattle.index_words.specs.declared.view.update.HeldNode.{HeldNode}
use Rattle.index_words.specs.declared.view.update.HeldSide.{HeldSide}
use Rattle.index_words.specs.declared.view.update.LoadedHead.{LoadedHead}
use Rattle.index_words.specs.declared.view.update.HeldNext.{HeldNext}
use Rattle.index_words.specs.Words.{same_side}
use Rattle.key_map.specs.Lists.{has}
use Rattle.core_events.specs.Moves.{nowhere, longer}
use Rattle.core_events.specs.Announcing.{has_announced}

-- a count rises, but stays at its last value
abbrev pub risen : ℕ → ℕ
risen n = cond (n == 18446744073709551615) n (n + 1)

abbrev pub raised_if : Bool → ℕ → ℕ
raised_if b n = cond b (risen n) n

-- the longest history that a view knows
abbrev pub longest_from : List Update → List View → List Update
longest_from best [] = best
longest_from best (v ∷ vs) = longest_from (longer best v.history.seen) vs

abbrev pub longest : List View → List Update
longest vs = longest_from [] vs

-- whether a seat has locked a node
abbrev pub locks : ℕ → List HeldNode → Bool
locks node hs = list_any (λ (h : HeldNode). h.node == node) hs

-- load of the stamp: the seat knows the whole history; if the load fixes a place, the number is kept as the one found,
-- and the look is counted
abbrev pub stamp_history : List Update → SeenHistory → ℕ → Bool → SeenHistory
stamp_history known h s fixes = record h { seen = known; found = cond fixes s h.found; looks = raised_if fixes h.looks }

-- if it has announced, it reads from then on: at this number, of which it has the nodes of the tree, and below which no
-- entry may be cut for it before it has looked at the others; if the load fixes a place, a snapshot is open at it.
-- Without an announcement it reads nothing
abbrev pub stamp_reading : Reading → Bool → ℕ → Bool → List TreeNode → Reading
stamp_reading r announced s fixes nodes =
    cond announced
    (record (nowhere r) { section = Some s; opened = cond fixes (Some s) None; tree = nodes; least = Some s; looked = [] })
    (nowhere r)

abbrev pub stamp_loaded : List Update → View → ℕ → Bool → List TreeNode → View
stamp_loaded known v s fixes nodes = record v { history = stamp_history known v.history s fixes; reading = stamp_reading v.reading (has_announced v) s fixes nodes }

abbrev pub bundle_link : ℕ → Side → ℕ → ℕ → Link
bundle_link node side child entry = record { node = node; side = side; child = child; source = Bundle entry }

abbrev pub remembered_if : Bool → List Link → Link → List Link
remembered_if b links l = cond b (links ++ l ∷ []) links

-- a link is remembered with another entry
abbrev pub has_other_source : LinkSource → ℕ → Bool
has_other_source (Bundle entry) head = not (entry == head)
has_other_source (Plain tag above below) head = false

abbrev pub has_moved : List Link → ℕ → Side → ℕ → Bool
has_moved links node side head = list_any (λ (l : Link). l.node == node && same_side l.side side && has_other_source l.source head) links

abbrev pub with_held : View → List HeldNode → List HeldNext → View
with_held v nodes nexts = record v { held = record { nodes = nodes; nexts = nexts } }

-- where the seat stands, the number of the entry that it left for this place, and the links that it remembers
abbrev pub with_place : View → Place → Option ℕ → List Link → View
with_place v place above links = record v { reading = record v.reading { place = place; above = above; links = links } }

-- this seat stored the head: its entry is pending in the view, or has the number of one of its own updates
abbrev pub stored_by : View → ℕ → ℕ → Bool
stored_by v head number = has head v.update.pending || has number v.history.mine

-- the head of a side after a load that found an entry: a head of the same entry stays as it is known, with its stamp
abbrev pub found_again : ℕ → Option LoadedHead → Option LoadedHead
found_again e None = Some (record { entry = e; stamp = None })
found_again e (Some l) = Some (cond (l.entry == e) l (record { entry = e; stamp = None }))

abbrev pub side_found : ℕ → HeldSide → HeldSide
side_found e s = record s { head = found_again e s.head }

abbrev pub head_found : Side → ℕ → HeldNode → HeldNode
head_found Left e h = record h { left = side_found e h.left }
head_found Right e h = record h { right = side_found e h.right }

abbrev pub found_at : ℕ → Side → ℕ → HeldNode → HeldNode
found_at k side e h = cond (h.node == k) (head_found side e h) h

-- load of a head whose entry has this written number: the seat stands at the entry found; a link without an entry is
-- remembered as null, and an entry other than the remembered one is counted if this seat did not store it
abbrev pub head_loaded : View → ℕ → Side → ℕ → ℕ → View
head_loaded v node side head number =
    record (with_place (with_held v (map (found_at node side head) v.held.nodes) v.held.nexts)
    (Entry node side head None) None (remembered_if (head == 0) v.reading.links (bundle_link node side 0 0))) {
      counts = record v.counts { moves = raised_if (has_moved v.reading.links node side head && not (stored_by v head number)) v.counts.moves };
    }

-- the stamp of an entry if the entry is the head
abbrev pub stamp_known : ℕ → ℕ → Option LoadedHead → Option LoadedHead
stamp_known e x None = None
stamp_known e x (Some l) = Some (cond (l.entry == e) (record { entry = l.entry; stamp = Some x }) l)

abbrev pub side_known : ℕ → ℕ → HeldSide → HeldSide
side_known e x s = record s { head = stamp_known e x s.head }

abbrev pub node_known : ℕ → ℕ → HeldNode → HeldNode
node_known e x h = record h { left = side_known e x h.left; right = side_known e x h.right }

abbrev pub place_known : ℕ → Place → Place
place_known x (Entry node side entry found) = Entry node side entry (Some x)
place_known x Nowhere = Nowhere
place_known x (Node node key) = Node node key
place_known x (Gap node side) = Gap node side

-- the seat watches the bundle in which it stands: it reads at a number, or has locked the node. Otherwise the entry at
-- which it stands may be in no bundle any more
abbrev pub is_watching : View → Place → Bool
is_watching v (Entry node side entry found) = is_some v.reading.section || locks node v.held.nodes
is_watching v _ = false

-- no number was found, at an entry of a bundle that the seat watches, and the seat does not have the entry pending
-- itself
abbrev pub meets_pending : View → ℕ → ℕ → Bool
meets_pending v e x = x == 0 && not (has e v.update.pending) && is_watching v v.reading.place

-- load of a stamp: what was found is kept with the place, and with the heads of locked nodes; an entry that another
-- seat has pending is counted
abbrev pub ts_loaded : View → ℕ → ℕ → View
ts_loaded v e x =
    record (with_place (with_held v (map (node_known e x) v.held.nodes) v.held.nexts) (place_known x v.reading.place) v.reading.above v.reading.links) {
      counts = record v.counts { waits = raised_if (meets_pending v e x) v.counts.waits };
    }

-- the entry is known to be the one that the section number selects: its number was loaded and is at most the seat's,
-- and the seat has not locked the node, so it has passed each entry before it because of a greater number
abbrev pub is_selected : Option ℕ → Option ℕ → Bool → Bool
is_selected (Some t) (Some x) locked = nat_lt 0 x && nat_le x t && not locked
is_selected _ _ locked = false

abbrev pub child_links : View → Place → ℕ → List Link
child_links v (Entry node side entry found) child =
    remembered_if (is_selected v.reading.section found (locks node v.held.nodes)) v.reading.links (bundle_link node side child entry)
child_links v _ child = v.reading.links

-- load of a child: the link is remembered at the selected entry
abbrev pub ptr_loaded : View → ℕ → View
ptr_loaded v child = with_place v v.reading.place v.reading.above (child_links v v.reading.place child)

-- the entry's number is known to be above the section number, or the entry is pending and has none yet
abbrev pub is_above_at : Option ℕ → Option ℕ → Bool → Bool
is_above_at (Some t) (Some x) unnumbered = nat_lt t x || unnumbered
is_above_at (Some t) None unnumbered = unnumbered
is_above_at None found unnumbered = false

abbrev pub is_above : View → ℕ → Option ℕ → Bool
is_above v e found = is_above_at v.reading.section found (has e v.update.pending && is_none v.update.raised)

abbrev pub kept_if : Bool → List HeldNext → HeldNext → List HeldNext
kept_if b nexts next = cond b (nexts ++ next ∷ []) nexts

abbrev pub next_nexts : View → ℕ → ℕ → Option ℕ → ℕ → List HeldNext
next_nexts v node e found next = kept_if (locks node v.held.nodes) v.held.nexts (record { node = node; entry = e; stamp = found; next = next })

-- load of a next: the seat stands at the next entry, and the number found of the entry left is kept; after the last one
-- the link is remembered as null
abbrev pub next_at : View → Place → ℕ → ℕ → View
next_at v (Entry node side entry found) e next =
    with_place (with_held v v.held.nodes (next_nexts v node e found next)) (Entry node side next None) found
    (remembered_if (next == 0 && is_above v e found) v.reading.links (bundle_link node side 0 0))
next_at v _ e next = v

abbrev pub next_loaded : View → ℕ → ℕ → View
next_loaded v e next = next_at v v.reading.place e next
