-- Four passes of a table that work at once, and a fifth one.
use Rattle.std.specs.Prelude.{◌≡◌, List, [], ◌∷◌}
use Rattle.table_rule.specs.Homes.{Home}
use Rattle.table_steps.specs.Closes.{number_of}
use Rattle.table_steps.specs.Passes.{Pass, IsPassOf}
use Rattle.index_runs.specs.declared.sections.Four.{Four}

-- the pass of the table was laid down: it has the number that it had
pub record IsBack (table : Home) (old new : Pass) : Type 0 where
  pub of : IsPassOf table new
  pub number : number_of new ≡ number_of old

-- the four are of the table
pub record AreOf (table : Home) (four : Four) : Type 0 where
  pub a : IsPassOf table four.a.key
  pub b : IsPassOf table four.b.key
  pub c : IsPassOf table four.c.key
  pub d : IsPassOf table four.d.key

-- each of the four was laid down
pub record AreBack (table : Home) (old new : Four) : Type 0 where
  pub a : IsBack table old.a.key new.a.key
  pub b : IsBack table old.b.key new.b.key
  pub c : IsBack table old.c.key new.c.key
  pub d : IsBack table old.d.key new.d.key

-- the keys of all five
abbrev pub keys_of : Four → Pass → List Pass
keys_of four fifth = four.a.key ∷ four.b.key ∷ four.c.key ∷ four.d.key ∷ fifth ∷ []
