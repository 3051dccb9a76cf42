-- What the words of a table mean. It is determined by the words and the views; the rule names it, so that
-- each part of the rule can speak of it.
use Rattle.std.specs.Prelude.{List, ◌∷◌}
use Rattle.key_map.specs.declared.update.Update.{Update}
use Rattle.key_map.specs.Lists.{count}
use Rattle.core_grace.specs.Holds.{Bundles, entries_of, linked_in}
use Rattle.core_grace.specs.Slots.{Linked}
use Rattle.core_trees.specs.NamedTree.{NamedTree}
use Rattle.core_events.specs.Versions.{slots_of}

-- the history, the bundle of each link with the number of each entry, and the tree at the stamp
pub record Meaning : Type 0 where
  pub updates : List Update
  pub bundles : Bundles
  pub tree : NamedTree

-- what is linked: the nodes of the tree, and the entries of the bundles of the root and of these nodes
abbrev pub linked_by : Meaning → Linked
linked_by g = record {
  nodes = λ k. count k (slots_of g.tree);
  entries = λ e. linked_in g.bundles e (0 ∷ slots_of g.tree);
  entries_of = entries_of g.bundles;
}
