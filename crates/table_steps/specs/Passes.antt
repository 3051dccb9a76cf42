-- A pass as plain data, and the states in which its calls may be made.
use Rattle.std.specs.Prelude.{◌≡◌, ℕ, ◌+◌, ◌<◌, ◌/◌, List, [], ◌++◌, length, false}
use Rattle.index_words.specs.declared.view.View.{View}
use Rattle.key_map.specs.declared.update.Update.{Update}
use Rattle.core_grace.specs.Sections.{is_even}
use Rattle.core_laws.specs.ViewNeeds.{IsOutside}
use Rattle.atomic_table.specs.Seated.{TableId}
use Rattle.table_rule.specs.Homes.{Home}

-- a pass, or its key: its table, its seat and its number, and what it knows
pub record Pass : Type 0 where
  pub id : TableId
  pub seat : ℕ
  pub number : ℕ
  pub view : View

-- the pass is one of this table
pub record IsPassOf (home : Home) (p : Pass) : Type 0 where
  pub id : p.id ≡ home.id
  pub layout : p.view.layout ≡ home.layout

-- the same pass, perhaps with another view
pub record IsSamePass (p q : Pass) : Type 0 where
  pub id : q.id ≡ p.id
  pub seat : q.seat ≡ p.seat
  pub number : q.number ≡ p.number
  pub layout : q.view.layout ≡ p.view.layout

-- at rest: outside a section, with no lock held and nothing announced
pub record AtRest (v : View) : Type 0 where
  pub outside : IsOutside v
  pub unannounced : v.announced ≡ 0

-- inside a section, with no lock held
pub record Inside (v : View) : Type 0 where
  pub odd : is_even v.section_word ≡ false
  pub unlocked : v.held.nodes ≡ []

-- the table has no other pass
abbrev pub IsAlone : View → Type 0
IsAlone v = v.layout.passes ≡ 1

-- what was seen goes on
abbrev pub Extends : List Update → List Update → Type 0
Extends old new = (more : List Update) × (new ≡ old ++ more)

-- the pass owns more entries than each would have if all entries of the table were shared out evenly
abbrev pub HasSurplus : View → Type 0
HasSurplus v = v.layout.entries / v.layout.passes < length v.free.entries + length v.batch.entries + length v.retired.entries
