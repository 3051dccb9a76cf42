-- The law on trees: at the stamp, and at each number that a seat reads at, the words spell a search tree whose
-- contents are the map after so many updates.
use Rattle.std.specs.Prelude.{◌≡◌, ℕ, ◌≤◌, List, length, take, IfSome}
use Rattle.key_map.specs.declared.update.Update.{Update}
use Rattle.index_words.specs.declared.view.View.{View}
use Rattle.index_words.specs.declared.view.reading.TreeNode.{TreeNode}
use Rattle.index_words.specs.declared.word.Field.TheVariants.{Key, Val}
use Rattle.index_words.specs.declared.word.Part.TheVariants.{Child}
use Rattle.index_words.specs.declared.word.Word.TheVariants.{Stamp, Node, Entry}
use Rattle.key_map.specs.Lists.{IsItem}
use Rattle.core_grace.specs.Holds.{Bundles}
use Rattle.core_trees.specs.NamedTree.{NamedTree}
use Rattle.core_events.specs.Tables.{Table, held_by}
use Rattle.core_invariant.specs.Histories.{KnowsAll}
use Rattle.core_events.specs.Versions.{IsVersion, tree_nodes}
use Rattle.core_events.specs.SpelledNow.{tree_now, bundle_now}
use Rattle.core_events.specs.Numbered.{entry_number}

-- the bundle of each link and the number of each entry, as they are read from the words
abbrev pub bundles_now : Table → Bundles
bundles_now t = record {
  number = entry_number (held_by t) t.views;
  bundle = bundle_now t.layout (held_by t);
}

-- at the number the words spell the tree, which is a search tree; its contents are the map after so many updates
abbrev pub SpellsAt : Table → List Update → ℕ → NamedTree → Type 0
SpellsAt t updates number tree =
    IsVersion (λ k. held_by t (Node Key k)) (λ k. held_by t (Node Val k)) (λ e. held_by t (Entry Child e)) (bundles_now t) updates number tree

-- the section number is at most the stamp, and the nodes are those of the tree that the words spell at it
pub record ReadsMap (t : Table) (updates : List Update) (number : ℕ) (nodes : List TreeNode) : Type 0 where
  pub past : number ≤ held_by t Stamp
  pub tree : NamedTree
  pub read : nodes ≡ tree_nodes tree
  pub spelled : SpellsAt t updates number tree

-- what the view has seen is a beginning of the history, and with a section number it reads a map
pub record SeesMap (t : Table) (updates : List Update) (v : View) : Type 0 where
  pub seen : v.history.seen ≡ take (length v.history.seen) updates
  pub reads : IfSome v.reading.section (λ n. ReadsMap t updates n v.reading.tree)

-- there is a history of as many updates as the stamp says, which some view has seen whole; the tree at the stamp
-- has the map after all of them
pub record SpellsMap (t : Table) : Type 0 where
  pub updates : List Update
  pub long : length updates ≡ held_by t Stamp
  pub known : KnowsAll updates t.views
  pub now : SpellsAt t updates (held_by t Stamp) (tree_now t.layout (held_by t) t.views)
  pub views : (i : ℕ) (v : View) → IsItem t.views i v → SeesMap t updates v
