-- Which events are allowed, and the table after an event.
use Rattle.std.specs.Prelude.{◌≡◌, ℕ, List, [], ◌∷◌, ◌++◌, Bool, false, not, ◌==◌, ◌&&◌, Option, Some, None, is_none, slice_set}
use Rattle.std.specs.List.{slice_get}
use Rattle.index_words.specs.declared.layout.Layout.{Layout}
use Rattle.key_map.specs.declared.update.Update.{Update}
use Rattle.index_words.specs.declared.view.View.{View}
use Rattle.index_words.specs.declared.word.Field.{Field}
use Rattle.index_words.specs.declared.word.Field.TheVariants.{Head, Link, Tag}
use Rattle.index_words.specs.declared.word.Part.TheVariants.{Child, Stamp as Number}
use Rattle.index_words.specs.declared.word.Word.{Word}
use Rattle.index_words.specs.declared.word.Word.TheVariants.{Section, Announced, Node, Entry}
use Rattle.index_words.specs.Words.{Memory, memory, word_at}
use Rattle.index_words.specs.Views.{spent_view}
use Rattle.core_grace.specs.Batches.{is_number}
use Rattle.core_events.specs.declared.event.Event.{Event}
use Rattle.core_events.specs.declared.event.Kind.{Kind}
use Rattle.core_events.specs.declared.event.Kind.TheVariants.{MakeSeat, SplitSeat, JoinSeat, Enter, Leave, LookSec, Fill, LoadStamp, LoadHead, LoadTs, LoadPtr, LoadNext, Prepare, Raise, Finalise, TryLock, Unlock, LoadMark, Mark, LoadKeyOrVal, Announce, LookAnn, Cut, LoadLink, SetLink, LoadTag, SetTag}
use Rattle.core_events.specs.Tables.{Table, held_by}
use Rattle.core_events.specs.Needs.{may_enter, may_fill, may_split, may_join}
use Rattle.core_events.specs.Waits.{may_leave, may_look, looked_by}
use Rattle.core_events.specs.LoadNeeds.{may_load_stamp, may_load_head, may_load_part, may_load_next}
use Rattle.core_events.specs.UpdateNeeds.{may_prepare, may_raise, may_finalise}
use Rattle.core_events.specs.LockNeeds.{may_try_lock, may_unlock, may_load_mark, may_mark, may_load_pair}
use Rattle.core_events.specs.Moves.{entered, left, split_left, split_right, joined_with}
use Rattle.core_events.specs.LoadMoves.{longest, stamp_loaded, head_loaded, ts_loaded, ptr_loaded, next_loaded}
use Rattle.core_events.specs.UpdateMoves.{prepared, raised_view, finalised}
use Rattle.core_events.specs.Versions.{tree_nodes}
use Rattle.core_events.specs.SpelledNow.{tree_now}
use Rattle.core_events.specs.TreeMoves.{tree_move}
use Rattle.core_events.specs.LockMoves.{tried, unlocked_view, with_mark, mark_loaded, pair_loaded}
use Rattle.core_events.specs.FillMoves.{filled_view}
use Rattle.core_events.specs.Announcing.{may_announce, announced_view, may_look_ann, ann_loaded}
use Rattle.core_events.specs.PlainNeeds.{may_load_link, may_load_tag, may_set_link, may_set_tag}
use Rattle.core_events.specs.PlainMoves.{link_loaded, tag_loaded, link_set, tag_set}
use Rattle.core_events.specs.CutNeeds.{may_cut}
use Rattle.core_events.specs.CutMoves.{cut_off, cut_view}
use Rattle.core_events.specs.WordMoves.{move_of, words_moved}

-- the needs of a kind, for a seat with this view, a word by name, and an update
abbrev pub needs : Kind → Layout → Memory → List View → ℕ → View → Word → ℕ → Option Update → Bool
needs MakeSeat z m views seat v w value update = false
needs SplitSeat z m views seat v w value update = may_split v w value
needs JoinSeat z m views seat v w value update = may_join views seat v w value
needs Enter z m views seat v w value update = may_enter v w value
needs Leave z m views seat v w value update = may_leave m v w value
needs LookSec z m views seat v w value update = may_look v w value
needs Fill z m views seat v w value update = may_fill v w
needs LoadStamp z m views seat v w value update = may_load_stamp v w value
needs LoadHead z m views seat v w value update = may_load_head v w value
needs LoadTs z m views seat v w value update = may_load_part Number v w value
needs LoadPtr z m views seat v w value update = may_load_part Child v w value
needs LoadNext z m views seat v w value update = may_load_next v w value
needs Prepare z m views seat v w value update = may_prepare m v w value
needs Raise z m views seat v w value update = may_raise z m views v w value update
needs Finalise z m views seat v w value update = may_finalise v w value
needs TryLock z m views seat v w value update = may_try_lock v w value
needs Unlock z m views seat v w value update = may_unlock m v w value
needs LoadMark z m views seat v w value update = may_load_mark v w value
needs Mark z m views seat v w value update = may_mark v w value
needs LoadKeyOrVal z m views seat v w value update = may_load_pair v w value
needs Announce z m views seat v w value update = may_announce v w value
needs LookAnn z m views seat v w value update = may_look_ann v w value
needs Cut z m views seat v w value update = may_cut z m views v w value
needs LoadLink z m views seat v w value update = may_load_link v w value
needs SetLink z m views seat v w value update = may_set_link z m v w value
needs LoadTag z m views seat v w value update = may_load_tag v w value
needs SetTag z m views seat v w value update = may_set_tag m v w value

-- a raise has an update of the view's own pass, and no other kind has one
abbrev pub is_own_update : View → Option Update → Bool
is_own_update v None = false
is_own_update v (Some u) = is_number u.client v.number

abbrev pub carries : Kind → View → Option Update → Bool
carries Raise v update = is_own_update v update
carries _ v update = is_none update

abbrev pub allowed_at : Table → Event → Option View → Option Word → Bool
allowed_at t e (Some v) (Some w) = carries e.kind v e.update && not v.joined && needs e.kind t.layout (held_by t) t.views e.seat v w e.value e.update
allowed_at t e _ _ = false

-- the event's needs are met
abbrev pub allowed : Table → Event → Bool
allowed t e = allowed_at t e (slice_get t.views e.seat) (word_at t.layout e.word)

abbrev pub join_found : List View → ℕ → View → ℕ → Option View → List View
join_found views seat v other None = views
join_found views seat v other (Some w) = slice_set (slice_set views seat (joined_with v w)) other spent_view

-- the view of the seat after an event at a word that was found to hold `x`
abbrev pub look_from : Layout → View → Word → ℕ → View
look_from z v (Section pass) x = looked_by z.passes v pass x
look_from z v _ x = v

-- `number` is the written number of the entry found
abbrev pub head_at : View → Field → ℕ → ℕ → ℕ → View
head_at v (Head side) k x number = head_loaded v k side x number
head_at v _ k x number = v

abbrev pub head_from : View → Word → ℕ → ℕ → View
head_from v (Node field k) x number = head_at v field k x number
head_from v _ x number = v

abbrev pub ts_from : View → Word → ℕ → View
ts_from v (Entry p e) x = ts_loaded v e x
ts_from v _ x = v

abbrev pub ptr_from : View → Word → ℕ → View
ptr_from v (Entry p e) x = ptr_loaded v x
ptr_from v _ x = v

abbrev pub next_from : View → Word → ℕ → View
next_from v (Entry p e) x = next_loaded v e x
next_from v _ x = v

abbrev pub prepared_at : View → Field → ℕ → ℕ → View
prepared_at v (Head side) k e = prepared v side k e
prepared_at v _ k e = v

abbrev pub prepared_from : View → Word → ℕ → View
prepared_from v (Node field k) e = prepared_at v field k e
prepared_from v _ e = v

abbrev pub raised_from : Layout → Memory → List View → View → ℕ → Option Update → View
raised_from z m views v x None = v
raised_from z m views v x (Some u) = raised_view (longest views) v x u (tree_move z m views v u)

abbrev pub finalised_from : View → Word → View
finalised_from v (Entry p e) = finalised v e
finalised_from v _ = v

abbrev pub tried_from : View → Word → ℕ → ℕ → View
tried_from v (Node field k) own x = tried v k own x
tried_from v _ own x = v

abbrev pub unlocked_from : View → Word → View
unlocked_from v (Node field k) = unlocked_view v k
unlocked_from v _ = v

abbrev pub mark_from : View → Word → ℕ → View
mark_from v (Node field k) x = mark_loaded v k x
mark_from v _ x = v

abbrev pub marked_from : View → Word → View
marked_from v (Node field k) = with_mark v k 1
marked_from v _ = v

abbrev pub pair_from : View → Word → ℕ → View
pair_from v (Node field k) x = pair_loaded v field k x
pair_from v _ x = v

abbrev pub ann_from : View → Word → ℕ → View
ann_from v (Announced pass) x = ann_loaded v pass x
ann_from v _ x = v

abbrev pub cut_from : Layout → Memory → View → Word → View
cut_from z m v (Entry p e) = cut_view v e (cut_off z m e)
cut_from z m v _ = v

abbrev pub link_at : View → Field → ℕ → ℕ → View
link_at v (Link side) k x = link_loaded v k side x
link_at v _ k x = v

abbrev pub link_from : View → Word → ℕ → View
link_from v (Node field k) x = link_at v field k x
link_from v _ x = v

abbrev pub tag_at : View → Field → ℕ → ℕ → View
tag_at v (Tag side) k x = tag_loaded v k side x
tag_at v _ k x = v

abbrev pub tag_from : View → Word → ℕ → View
tag_from v (Node field k) x = tag_at v field k x
tag_from v _ x = v

abbrev pub set_at : View → Field → ℕ → ℕ → View
set_at v (Link side) k child = link_set v k side child
set_at v _ k child = v

abbrev pub set_from : View → Word → ℕ → View
set_from v (Node field k) child = set_at v field k child
set_from v _ child = v

abbrev pub raised_tag_at : View → Field → ℕ → ℕ → View
raised_tag_at v (Tag side) k x = tag_set v k side x
raised_tag_at v _ k x = v

abbrev pub raised_tag_from : View → Word → ℕ → View
raised_tag_from v (Node field k) x = raised_tag_at v field k x
raised_tag_from v _ x = v

-- the view of the seat after an event of a kind that changes it alone, at a word that was found to hold `x`
abbrev pub view_after : Kind → Layout → Memory → List View → View → Word → ℕ → ℕ → Option Update → View
view_after Enter z m views v w x value update = entered z.passes v value
view_after Leave z m views v w x value update = left v value
view_after LookSec z m views v w x value update = look_from z v w x
view_after Fill z m views v w x value update = filled_view v w value
view_after LoadStamp z m views v w x value update = stamp_loaded (longest views) v x (value == 1) (tree_nodes (tree_now z m views))
view_after LoadHead z m views v w x value update = head_from v w x (m (Entry Number x))
view_after LoadTs z m views v w x value update = ts_from v w x
view_after LoadPtr z m views v w x value update = ptr_from v w x
view_after LoadNext z m views v w x value update = next_from v w x
view_after Prepare z m views v w x value update = prepared_from v w value
view_after Raise z m views v w x value update = raised_from z m views v x update
view_after Finalise z m views v w x value update = finalised_from v w
view_after TryLock z m views v w x value update = tried_from v w value x
view_after Unlock z m views v w x value update = unlocked_from v w
view_after LoadMark z m views v w x value update = mark_from v w x
view_after Mark z m views v w x value update = marked_from v w
view_after LoadKeyOrVal z m views v w x value update = pair_from v w x
view_after Announce z m views v w x value update = announced_view v value
view_after LookAnn z m views v w x value update = ann_from v w x
view_after Cut z m views v w x value update = cut_from z m v w
view_after LoadLink z m views v w x value update = link_from v w x
view_after SetLink z m views v w x value update = set_from v w value
view_after LoadTag z m views v w x value update = tag_from v w x
view_after SetTag z m views v w x value update = raised_tag_from v w value
view_after _ z m views v w x value update = v

-- the views after an event of a kind
abbrev pub views_after : Kind → Layout → Memory → List View → ℕ → View → Word → ℕ → Option Update → List View
views_after MakeSeat z m views seat v w value update = views
views_after SplitSeat z m views seat v w value update = slice_set views seat (split_left v value) ++ split_right v value ∷ []
views_after JoinSeat z m views seat v w value update = join_found views seat v value (slice_get views value)
views_after kind z m views seat v w value update = slice_set views seat (view_after kind z m views v w (m w) value update)

-- the words after an event of a kind
abbrev pub words_after : Kind → List ℕ → ℕ → ℕ → List ℕ
words_after kind words at value = words_moved (move_of kind) words at value

abbrev pub after_at : Table → Event → Option View → Option Word → Table
after_at t e (Some v) (Some w) = record {
  layout = t.layout;
  words = words_after e.kind t.words e.word e.value;
  views = views_after e.kind t.layout (held_by t) t.views e.seat v w e.value e.update;
}
after_at t e _ _ = t

-- the table after an event
abbrev pub after : Table → Event → Table
after t e = after_at t e (slice_get t.views e.seat) (word_at t.layout e.word)

-- the views after an allowed event whose word has this name
abbrev pub IsChange : Layout → List ℕ → List View → Event → Word → List View → Type 0
IsChange z words views e w changed =
    (v : View) → slice_get views e.seat ≡ Some v → changed ≡ views_after e.kind z (memory z words) views e.seat v w e.value e.update
