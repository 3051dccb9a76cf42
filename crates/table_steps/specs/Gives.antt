-- The event of each step of sections, of looks and of fills.
use Rattle.std.specs.Prelude.{ℕ, ◌+◌}
use Rattle.index_words.specs.declared.word.Word.{Word}
use Rattle.index_words.specs.declared.word.Word.TheVariants.{Section}
use Rattle.core_grace.specs.Sections.{left_word}
use Rattle.core_events.specs.declared.event.Event.{Event}
use Rattle.core_events.specs.declared.event.Kind.TheVariants.{Enter, Leave, LookSec, Fill}
use Rattle.core_laws.specs.ViewNeeds.{event_at}
use Rattle.table_steps.specs.Passes.{Pass}

abbrev pub entering : Pass → Event
entering p = event_at p.view.layout p.seat Enter (Section p.number) (p.view.section_word + 1)

abbrev pub leaving : Pass → Event
leaving p = event_at p.view.layout p.seat Leave (Section p.number) (left_word p.view.section_word)

abbrev pub looking : Pass → ℕ → Event
looking p other = event_at p.view.layout p.seat LookSec (Section other) 0

abbrev pub filling : Pass → Word → ℕ → Event
filling p w value = event_at p.view.layout p.seat Fill w value
