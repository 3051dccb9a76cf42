-- What every kind of event that is allowed keeps.
use Rattle.std.specs.Prelude.{◌≡◌}
use Rattle.core_events.specs.declared.event.Kind.{Kind}
use Rattle.core_events.specs.declared.event.Kind.TheVariants.{Raise}
use Rattle.core_invariant.specs.KeptRule.{KeepsRuleAt}
use Rattle.core_kept.specs.SearchLaws.{KeepsSearchesAt, KeepsSearchesNow}
use Rattle.core_kept.specs.TurnLaws.{KeepsTurnsAt}

-- the rule, and what each number that is read selects
abbrev pub RuleLaw : Type 0
RuleLaw = (kind : Kind) → KeepsRuleAt kind

-- the plain tree, what each seat's search claims and what it reaches: over the tree at the stamp as it was, and at a
-- raise over the new one
pub record SearchesLaw : Type 0 where
  pub stays : (kind : Kind) → ¬ (kind ≡ Raise) → KeepsSearchesAt kind
  pub raise : KeepsSearchesNow Raise

-- what is said of turns, of nodes that leave the plain tree, and of a table of one pass
abbrev pub TurnsLaw : Type 0
TurnsLaw = (kind : Kind) → KeepsTurnsAt kind
