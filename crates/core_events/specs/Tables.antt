-- A table as plain data: its words, and the view of each of its seats.
use Rattle.std.specs.Prelude.{ℕ, List}
use Rattle.index_words.specs.declared.layout.Layout.{Layout}
use Rattle.index_words.specs.declared.view.View.{View}
use Rattle.index_words.specs.Words.{Memory, memory}

pub record Table : Type 0 where
  pub layout : Layout
  pub words : List ℕ
  pub views : List View

-- what its words hold
abbrev pub held_by : Table → Memory
held_by t = memory t.layout t.words
