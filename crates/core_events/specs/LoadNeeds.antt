-- The needs of each kind of load, as computed truth values.
use Rattle.std.specs.Prelude.{ℕ, List, Bool, true, false, not, ◌==◌, ◌&&◌, ◌||◌, is_none}
use Rattle.std.specs.List.{list_any}
use Rattle.index_words.specs.declared.view.View.{View}
use Rattle.index_words.specs.declared.view.reading.TreeNode.{TreeNode}
use Rattle.index_words.specs.declared.view.reading.Place.{Place}
use Rattle.index_words.specs.declared.view.reading.Place.TheVariants.{Entry as AtEntry}
use Rattle.index_words.specs.declared.word.Field.{Field}
use Rattle.index_words.specs.declared.word.Field.TheVariants.{Head}
use Rattle.index_words.specs.declared.word.Part.{Part}
use Rattle.index_words.specs.declared.word.Part.TheVariants.{Child, Stamp as Number, Next}
use Rattle.index_words.specs.declared.word.Word.{Word}
use Rattle.index_words.specs.declared.word.Word.TheVariants.{Node, Entry}
use Rattle.core_grace.specs.Sections.{is_even}
use Rattle.core_events.specs.Needs.{is_stamp}
use Rattle.core_events.specs.Announcing.{has_announced}
use Rattle.core_events.specs.LoadMoves.{is_above, locks}

-- load of the stamp: inside a section, and no snapshot is open. The value says whether it fixes a place, which needs an
-- announcement. No law uses which values there are; only a test checks it
abbrev pub may_load_stamp : View → Word → ℕ → Bool
may_load_stamp v w value = is_stamp w && not (is_even v.section_word) && is_none v.reading.opened && (value == 0 || (value == 1 && has_announced v))

abbrev pub reads_tree : ℕ → List TreeNode → Bool
reads_tree node ns = list_any (λ (n : TreeNode). n.slot == node) ns

-- the root, a node of the tree that the seat reads, or one that it has locked
abbrev pub is_reachable : View → ℕ → Bool
is_reachable v k = k == 0 || reads_tree k v.reading.tree || locks k v.held.nodes

-- the heads of the node's bundles may be loaded
abbrev pub may_read : View → ℕ → Bool
may_read v k = is_reachable v k

-- load of a head: inside a section, of a node whose bundles may be read
abbrev pub may_load_field : View → Field → ℕ → ℕ → Bool
may_load_field v (Head side) k value = not (is_even v.section_word) && may_read v k && value == 0
may_load_field v _ k value = false

abbrev pub may_load_head : View → Word → ℕ → Bool
may_load_head v (Node field k) value = may_load_field v field k value
may_load_head v _ value = false

-- the seat stands at the entry
abbrev pub stands_at : Place → ℕ → Bool
stands_at (AtEntry node side entry found) e = entry == e
stands_at _ e = false

abbrev pub is_part : Part → Part → Bool
is_part Child Child = true
is_part Number Number = true
is_part Next Next = true
is_part _ _ = false

-- loads of the parts of an entry: the seat stands at it
abbrev pub may_load_part : Part → View → Word → ℕ → Bool
may_load_part part v (Entry p e) value = is_part part p && stands_at v.reading.place e && value == 0
may_load_part part v _ value = false

-- the entry's number is above the seat's, or the seat has locked the node
abbrev pub may_go_on : View → Place → ℕ → Bool
may_go_on v (AtEntry node side entry found) e = locks node v.held.nodes || is_above v e found
may_go_on v _ e = false

abbrev pub may_load_next : View → Word → ℕ → Bool
may_load_next v (Entry p e) value = may_load_part Next v (Entry p e) value && may_go_on v v.reading.place e
may_load_next v _ value = false
