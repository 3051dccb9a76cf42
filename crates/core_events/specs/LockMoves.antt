-- The view of a seat after each kind of event that locks, unlocks or marks.
use Rattle.std.specs.Prelude.{ℕ, List, [], ◌∷◌, ◌++◌, length, cond, Bool, not, ◌==◌, ◌&&◌, ◌||◌, Option, Some, None, map, filter}
use Rattle.index_words.specs.declared.view.View.{View}
use Rattle.index_words.specs.declared.view.reading.Place.{Place}
use Rattle.index_words.specs.declared.view.reading.Place.TheVariants.{Entry}
use Rattle.index_words.specs.declared.view.update.HeldNode.{HeldNode}
use Rattle.index_words.specs.declared.view.update.HeldNext.{HeldNext}
use Rattle.index_words.specs.declared.view.update.HeldSide.{HeldSide}
use Rattle.index_words.specs.declared.view.update.Updating.{Updating}
use Rattle.index_words.specs.declared.word.Field.{Field}
use Rattle.index_words.specs.declared.word.Field.TheVariants.{Key, Val}
use Rattle.key_map.specs.Lists.{has}
use Rattle.index_words.specs.Views.{no_update}
use Rattle.core_events.specs.Moves.{nowhere}
use Rattle.core_events.specs.LoadMoves.{raised_if}
use Rattle.core_events.specs.LoadNeeds.{is_reachable}
use Rattle.core_events.specs.Searches.{search_nodes, key_found}

abbrev pub nothing_loaded : HeldSide
nothing_loaded = record { head = None; link = None; tag = None }

-- a node that has just been locked: nothing of it has been loaded
abbrev pub just_locked : ℕ → HeldNode
just_locked k = record { node = k; key = None; val = None; mark = None; left = nothing_loaded; right = nothing_loaded }

-- without a section number, what was found of the node's bundles before the lock may be gone: a seat that stands in one
-- of them stands at no entry from then on
abbrev pub place_locked : Option ℕ → ℕ → Place → Place
place_locked None k (Entry node side entry found) = cond (node == k) (Entry node side 0 None) (Entry node side entry found)
place_locked _ k p = p

-- try lock, if the word was found free
abbrev pub locked_view : View → ℕ → View
locked_view v k = record v {
  reading = record v.reading { place = place_locked v.reading.section k v.reading.place };
  held = record v.held { nodes = v.held.nodes ++ just_locked k ∷ [] };
}

-- a lock word names a pass, and not the one whose word is `own`
abbrev pub names_other : ℕ → ℕ → Bool
names_other own found = not (found == 0) && not (found == own)

-- try lock, if the word was found held: a lock of another pass is counted
abbrev pub met_lock : View → ℕ → ℕ → View
met_lock v own found = record v { counts = record v.counts { busy = raised_if (names_other own found) v.counts.busy } }

-- try lock of a node whose word was found to hold `found`
abbrev pub tried : View → ℕ → ℕ → ℕ → View
tried v k own found = cond (found == 0) (locked_view v k) (met_lock v own found)

abbrev pub other_nodes : ℕ → List HeldNode → List HeldNode
other_nodes k hs = filter (λ (h : HeldNode). not (h.node == k)) hs

abbrev pub other_nexts : ℕ → List HeldNext → List HeldNext
other_nexts k ns = filter (λ (n : HeldNext). not (n.node == k)) ns

-- the update ends with the last lock
abbrev pub update_until : List HeldNode → Updating → Updating
update_until hs u = cond (length hs == 0) no_update u

-- unlock: what was loaded of the node is gone, and the seat stands nowhere
abbrev pub unlocked_view : View → ℕ → View
unlocked_view v k = record v {
  reading = nowhere v.reading;
  held = record { nodes = other_nodes k v.held.nodes; nexts = other_nexts k v.held.nexts };
  update = update_until (other_nodes k v.held.nodes) v.update;
}

abbrev pub mark_known : ℕ → ℕ → HeldNode → HeldNode
mark_known k x h = cond (h.node == k) (record h { mark = Some x }) h

abbrev pub pair_known : Field → ℕ → ℕ → HeldNode → HeldNode
pair_known Key k x h = cond (h.node == k) (record h { key = Some x }) h
pair_known Val k x h = cond (h.node == k) (record h { val = Some x }) h
pair_known _ k x h = h

-- a key is kept with the node at which a search on plain links stands
abbrev pub place_paired : Field → ℕ → ℕ → Place → Place
place_paired Key k x p = key_found k x p
place_paired _ k x p = p

-- load of a key or a value: it is kept with a locked node, and a key with the place of a search
abbrev pub pair_loaded : View → Field → ℕ → ℕ → View
pair_loaded v f k x = record v {
  reading = record v.reading { place = place_paired f k x v.reading.place };
  held = record v.held { nodes = map (pair_known f k x) v.held.nodes };
}

-- mark: the mark of a locked node is known
abbrev pub with_mark : View → ℕ → ℕ → View
with_mark v k x = record v { held = record v.held { nodes = map (mark_known k x) v.held.nodes } }

-- a mark that is found on the node counts: the node is reachable, or one of a search on plain links
abbrev pub may_count : View → ℕ → Bool
may_count v k = is_reachable v k || has k (search_nodes 0 v.reading)

-- a mark, on a node at which the seat may be looking and which its update did not take out: after the last unlock
-- the update's nodes are forgotten, but what it took out is among the seat's retired nodes
abbrev pub finds_mark : View → ℕ → ℕ → Bool
finds_mark v k x = not (x == 0) && may_count v k && not (has k v.update.taken) && not (has k v.retired.nodes)

-- load of a mark: it is kept with a locked node, and a mark that another seat has set is counted
abbrev pub mark_loaded : View → ℕ → ℕ → View
mark_loaded v k x = record (with_mark v k x) { counts = record v.counts { moves = raised_if (finds_mark v k x) v.counts.moves } }
