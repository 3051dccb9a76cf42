-- The event of each step of an update.
use Rattle.std.specs.Prelude.{ℕ, Option, Some, None}
use Rattle.index_words.specs.declared.side.Side.{Side}
use Rattle.index_words.specs.declared.view.View.{View}
use Rattle.index_words.specs.declared.word.Field.TheVariants.{Lock, Mark, Head}
use Rattle.index_words.specs.declared.word.Part.TheVariants.{Stamp as Number}
use Rattle.index_words.specs.declared.word.Word.TheVariants.{Node, Entry}
use Rattle.core_events.specs.declared.event.Event.{Event}
use Rattle.core_events.specs.declared.event.Kind.TheVariants.{Prepare, Finalise, Unlock, Mark as MarkNode}
use Rattle.core_laws.specs.ViewNeeds.{event_at}
use Rattle.table_steps.specs.Passes.{Pass}

-- the place of the update that has raised, or 0 if none has
abbrev pub place_of : Option ℕ → ℕ
place_of None = 0
place_of (Some place) = place

abbrev pub raised_at : View → ℕ
raised_at v = place_of v.update.raised

abbrev pub preparing : Pass → ℕ → Side → ℕ → Event
preparing p node side entry = event_at p.view.layout p.seat Prepare (Node (Head side) node) entry

abbrev pub finalising : Pass → ℕ → Event
finalising p entry = event_at p.view.layout p.seat Finalise (Entry Number entry) (raised_at p.view)

abbrev pub unlocking : Pass → ℕ → Event
unlocking p node = event_at p.view.layout p.seat Unlock (Node Lock node) 0

abbrev pub marking : Pass → ℕ → Event
marking p node = event_at p.view.layout p.seat MarkNode (Node Mark node) 1
