-- Helper: the clauses of the crate's calls do not rest on this file.
-- A node, and a link, of the tree that a pass reads.
use Rattle.std.specs.Prelude.{◌≡◌, ℕ, ◌<◌, [], Some}
use Rattle.index_words.specs.declared.view.View.{View}
use Rattle.index_words.specs.declared.view.reading.Place.TheVariants.{Node as AtNode}
use Rattle.key_map.specs.Lists.{count}
use Rattle.core_grace.specs.Holds.{tree_slots}
use Rattle.core_trees.specs.declared.link.Link.{Link}
use Rattle.plan_laws.specs.Tries.{IsTrying}
use Rattle.table_steps.specs.Loads.{IsTreeLink}

abbrev pub IsInTree : View → ℕ → Type 0
IsInTree v node = 0 < count node (tree_slots v.reading.tree)

abbrev pub IsLinkOfTree : View → Link → Type 0
IsLinkOfTree v l = IsTreeLink v l.node l.side

-- a search stands at the node, and has loaded its key
abbrev pub StandsAtNode : View → ℕ → Type 0
StandsAtNode v node = (key : ℕ) × (v.reading.place ≡ AtNode node (Some key))

-- a pass inside a section that has locked no node, and has nothing of an update under way
abbrev pub HasNoLock : View → Type 0
HasNoLock v = (n : ℕ) × IsTrying v n []

-- it still reads the same tree, at the same number
pub record ReadsOn (v w : View) : Type 0 where
  pub tree : w.reading.tree ≡ v.reading.tree
  pub section : w.reading.section ≡ v.reading.section
