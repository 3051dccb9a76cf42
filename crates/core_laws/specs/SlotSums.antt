-- No slot is lost: those that the views own and those that the tree links are together as many as the layout has.
use Rattle.std.specs.Prelude.{◌≡◌, ℕ, ◌+◌, List, [], ◌∷◌, ◌++◌, length, sum_by}
use Rattle.index_words.specs.declared.view.View.{View}
use Rattle.index_words.specs.declared.view.slots.Slots.{Slots}
use Rattle.core_grace.specs.Holds.{entries_of}
use Rattle.core_grace.specs.Slots.{nodes_of, entries_in}
use Rattle.core_events.specs.SpelledNow.{tree_now}
use Rattle.core_events.specs.Tables.{Table, held_by}
use Rattle.core_events.specs.Versions.{slots_of}
use Rattle.core_invariant.specs.Rule.{IsRight}
use Rattle.core_laws.specs.TreeLaw.{bundles_now}

-- how many slots of a kind a view owns: free, retired and in its batch
abbrev pub owned_count : (Slots → List ℕ) → View → ℕ
owned_count pick v = length (pick v.free) + (length (pick v.retired) + length (pick v.batch))

-- the nodes of the tree at the stamp
abbrev pub linked_nodes : Table → List ℕ
linked_nodes t = slots_of (tree_now t.layout (held_by t) t.views)

-- the entries of the bundles of these nodes, as the words have them
abbrev pub linked_entries : Table → List ℕ → List ℕ
linked_entries t [] = []
linked_entries t (k ∷ ks) = entries_of (bundles_now t) k ++ linked_entries t ks

-- the slots of all views, with the nodes of the tree, and with the entries of the root's bundles and of these nodes',
-- are those of the layout
pub record SlotsAddUp (t : Table) : Type 0 where
  pub nodes : sum_by (owned_count nodes_of) t.views + length (linked_nodes t) ≡ t.layout.nodes
  pub entries : sum_by (owned_count entries_in) t.views + length (linked_entries t (0 ∷ linked_nodes t)) ≡ t.layout.entries

abbrev pub SlotSumLaw : Type 0
SlotSumLaw = (t : Table) → IsRight t → SlotsAddUp t
