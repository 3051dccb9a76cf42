-- A link of the tree that a pass reads at its section number.
use Rattle.std.specs.Prelude.{◌≡◌, ℕ, Some}
use Rattle.index_words.specs.declared.view.View.{View}
use Rattle.core_trees.specs.declared.link.Link.{Link}
use Rattle.core_trees.specs.NamedTree.{NamedTree}
use Rattle.core_events.specs.Versions.{tree_nodes}
use Rattle.core_laws.specs.Found.{LeadsTo}
use Rattle.table_steps.specs.Passes.{Inside}

-- inside a section, with no lock held, the pass reads at this number
pub record InsideAt (v : View) (t : ℕ) : Type 0 where
  pub section : v.reading.section ≡ Some t
  pub inside : Inside v

-- the tree whose nodes the view has has this child at the link, 0 for none
abbrev pub LeadsThere : View → Link → ℕ → Type 0
LeadsThere v at child = (tree : NamedTree) → v.reading.tree ≡ tree_nodes tree → LeadsTo tree at.node at.side child
