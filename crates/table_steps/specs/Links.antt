-- The event of each step on a plain link and on its tag.
use Rattle.std.specs.Prelude.{ℕ, ◌+◌}
use Rattle.index_words.specs.declared.side.Side.{Side}
use Rattle.index_words.specs.declared.word.Field.TheVariants.{Link, Tag}
use Rattle.index_words.specs.declared.word.Word.TheVariants.{Node}
use Rattle.core_events.specs.declared.event.Event.{Event}
use Rattle.core_events.specs.declared.event.Kind.TheVariants.{LoadLink, SetLink, LoadTag, SetTag}
use Rattle.core_laws.specs.ViewNeeds.{event_at}
use Rattle.table_steps.specs.Passes.{Pass}

abbrev pub loading_link : Pass → ℕ → Side → Event
loading_link p node side = event_at p.view.layout p.seat LoadLink (Node (Link side) node) 0

abbrev pub loading_tag : Pass → ℕ → Side → Event
loading_tag p node side = event_at p.view.layout p.seat LoadTag (Node (Tag side) node) 0

abbrev pub setting_link : Pass → ℕ → Side → ℕ → Event
setting_link p node side child = event_at p.view.layout p.seat SetLink (Node (Link side) node) child

-- a tag is one more than before
abbrev pub setting_tag : Pass → ℕ → Side → ℕ → Event
setting_tag p node side tag = event_at p.view.layout p.seat SetTag (Node (Tag side) node) (tag + 1)
