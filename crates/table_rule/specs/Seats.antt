-- How seats are made, split and joined, as events of the pure machine.
use Rattle.std.specs.Prelude.{◌≡◌, ◌≢◌, ℕ, List, length, true, Some}
use Rattle.std.specs.List.{slice_get}
use Rattle.index_words.specs.declared.layout.Layout.{Layout}
use Rattle.index_words.specs.declared.view.View.{View}
use Rattle.index_words.specs.declared.word.Word.TheVariants.{Stamp}
use Rattle.index_words.specs.Views.{spent_view}
use Rattle.core_events.specs.declared.event.Kind.TheVariants.{SplitSeat, JoinSeat}
use Rattle.core_invariant.specs.Rule.{InRule}
use Rattle.core_events.specs.Steps.{allowed, after}
use Rattle.core_laws.specs.ViewNeeds.{event_at}
use Rattle.table_rule.specs.Running.{table}

-- a split has happened: in a table that met the rule a seat had the view `v`, the split was allowed, and in the table
-- after it this seat has the view `w`, and the new one, after the others, the view `u`
pub record Split (z : Layout) (v : View) (nodes : ℕ) (w u : View) : Type 0 where
  pub words : List ℕ
  pub views : List View
  pub rule : InRule z words views
  pub seat : ℕ
  pub at : slice_get views seat ≡ Some v
  pub met : allowed (table z words views) (event_at z seat SplitSeat Stamp nodes) ≡ true
  pub left : slice_get (after (table z words views) (event_at z seat SplitSeat Stamp nodes)).views seat ≡ Some w
  pub right : slice_get (after (table z words views) (event_at z seat SplitSeat Stamp nodes)).views (length views) ≡ Some u

-- a join of two seats of one table: it is allowed, the first seat, which had the view `v`, has the view `w` after it,
-- and nothing is left of the second one's view
pub record JoinsInto (z : Layout) (words : List ℕ) (views : List View) (seat other : ℕ) (w : View) : Type 0 where
  pub met : allowed (table z words views) (event_at z seat JoinSeat Stamp other) ≡ true
  pub both : slice_get (after (table z words views) (event_at z seat JoinSeat Stamp other)).views seat ≡ Some w
  pub spent : slice_get (after (table z words views) (event_at z seat JoinSeat Stamp other)).views other ≡ Some spent_view

-- a join has happened, of a seat with the view `u` into one with the view `v`, which has the view `w` then. The kit's
-- table names no state at which both stood, so this is said of each: whatever the table was that met the rule and
-- had these two seats
pub record Join (z : Layout) (v u w : View) : Type 0 where
  pub event : (words : List ℕ) (views : List View) (seat other : ℕ) → InRule z words views → other ≢ seat → slice_get views seat ≡ Some v
      → slice_get views other ≡ Some u → JoinsInto z words views seat other w
