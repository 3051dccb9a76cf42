-- The view of a seat after a load or a store of its own, which changes this view alone and reads no other.
use Rattle.std.specs.Prelude.{ℕ}
use Rattle.index_words.specs.declared.view.View.{View}
use Rattle.index_words.specs.declared.word.Field.TheVariants.{Key, Val, Mark, Head, Link, Tag}
use Rattle.index_words.specs.declared.word.Part.TheVariants.{Child, Stamp as Number, Next}
use Rattle.index_words.specs.declared.word.Word.TheVariants.{Section, Announced, Node, Entry}
use Rattle.index_words.specs.Words.{Memory}
use Rattle.core_events.specs.Announcing.{announced_view, ann_loaded}
use Rattle.core_events.specs.FillMoves.{filled_view}
use Rattle.core_events.specs.LoadMoves.{head_loaded, ts_loaded, ptr_loaded, next_loaded}
use Rattle.core_events.specs.LockMoves.{unlocked_view, with_mark, mark_loaded, pair_loaded}
use Rattle.core_events.specs.Moves.{entered, left}
use Rattle.core_events.specs.PlainMoves.{link_loaded, tag_loaded, link_set, tag_set}
use Rattle.core_events.specs.UpdateMoves.{prepared, finalised}
use Rattle.core_events.specs.Waits.{looked_by}
use Rattle.machine_needs.specs.declared.step.Load.{Load}
use Rattle.machine_needs.specs.declared.step.Load.TheVariants as load
use Rattle.machine_needs.specs.declared.step.Store.{Store}
use Rattle.machine_needs.specs.declared.step.Store.TheVariants as store

-- the view after a load, in a table of so many passes whose words are `m`
abbrev pub loaded : Load → ℕ → Memory → View → View
loaded (load.Section pass) passes m v = looked_by passes v pass (m (Section pass))
loaded (load.Announced pass) passes m v = ann_loaded v pass (m (Announced pass))
loaded (load.Head node side) passes m v = head_loaded v node side (m (Node (Head side) node)) (m (Entry Number (m (Node (Head side) node))))
loaded (load.Number entry) passes m v = ts_loaded v entry (m (Entry Number entry))
loaded (load.Child entry) passes m v = ptr_loaded v (m (Entry Child entry))
loaded (load.Next entry) passes m v = next_loaded v entry (m (Entry Next entry))
loaded (load.Mark node) passes m v = mark_loaded v node (m (Node Mark node))
loaded (load.Key node) passes m v = pair_loaded v Key node (m (Node Key node))
loaded (load.Val node) passes m v = pair_loaded v Val node (m (Node Val node))
loaded (load.Link node side) passes m v = link_loaded v node side (m (Node (Link side) node))
loaded (load.Tag node side) passes m v = tag_loaded v node side (m (Node (Tag side) node))

abbrev pub stored : Store → ℕ → View → View
stored (store.Enter pass value) passes v = entered passes v value
stored (store.Leave pass value) passes v = left v value
stored (store.Announce pass value) passes v = announced_view v value
stored (store.Fill word value) passes v = filled_view v word value
stored (store.Prepare node side entry) passes v = prepared v side node entry
stored (store.Finalise entry number) passes v = finalised v entry
stored (store.Unlock node) passes v = unlocked_view v node
stored (store.Mark node) passes v = with_mark v node 1
stored (store.Link node side child) passes v = link_set v node side child
stored (store.Tag node side tag) passes v = tag_set v node side tag
