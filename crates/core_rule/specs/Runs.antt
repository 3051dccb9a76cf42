-- Runs: the events one after another, up to the first that is not allowed.
use Rattle.std.specs.Prelude.{◌≡◌, ℕ, ◌+◌, List, [], ◌∷◌, cond, Option, Some, None}
use Rattle.core_events.specs.declared.event.Event.{Event}
use Rattle.core_rule.specs.declared.run.RunError.{RunError}
use Rattle.core_rule.specs.declared.run.RunError.TheVariants.{NotAllowed, NoMemory}
use Rattle.core_events.specs.Tables.{Table}
use Rattle.core_events.specs.Steps.{allowed, after}

-- the table after all events
abbrev pub after_all : Table → List Event → Table
after_all t [] = t
after_all t (e ∷ es) = after_all (after t e) es

-- the place of the first event that is not allowed, counted from `place`
abbrev pub refused_from : ℕ → Table → List Event → Option ℕ
refused_from place t [] = None
refused_from place t (e ∷ es) = cond (allowed t e) (refused_from (place + 1) (after t e) es) (Some place)

abbrev pub first_refused : Table → List Event → Option ℕ
first_refused t events = refused_from 0 t events

-- a run is refused at the first event that is not allowed, or when out of memory
abbrev pub IsRefusal : Option ℕ → RunError → Type 0
IsRefusal refused (NotAllowed place) = refused ≡ Some place
IsRefusal refused NoMemory = Unit {0}
