-- What is shown of every event: it keeps the rule.
use Rattle.std.specs.Prelude.{◌≡◌, true}
use Rattle.core_events.specs.declared.event.Event.{Event}
use Rattle.core_events.specs.Tables.{Table}
use Rattle.core_invariant.specs.Rule.{IsRight}
use Rattle.core_events.specs.Steps.{allowed, after}

-- an event that is allowed keeps the rule, from every table that meets it
abbrev pub KeepsLaw : Type 0
KeepsLaw = (t : Table) (e : Event) → IsRight t → allowed t e ≡ true → IsRight (after t e)
