-- What is said of a step of a table: that its needs are met, and the views after it.
use Rattle.std.specs.Prelude.{◌≡◌, ℕ, List, true, Some}
use Rattle.std.specs.List.{slice_get}
use Rattle.index_words.specs.declared.layout.Layout.{Layout}
use Rattle.index_words.specs.declared.view.View.{View}
use Rattle.index_words.specs.Words.{address}
use Rattle.core_events.specs.declared.event.Event.{Event}
use Rattle.core_events.specs.Steps.{allowed_at, IsChange}
use Rattle.machine_needs.specs.declared.step.Step.{Step}
use Rattle.machine_needs.specs.StepParts.{parts_of}

-- the event of a seat that makes the step
abbrev pub event_of : Layout → ℕ → Step → Event
event_of z seat s = record { seat = seat; kind = (parts_of s).kind; word = address z (parts_of s).word; value = (parts_of s).value; update = (parts_of s).update }

abbrev pub IsMet : Layout → List ℕ → List View → ℕ → Step → Type 0
IsMet z words views seat s = allowed_at (record { layout = z; words = words; views = views }) (event_of z seat s) (slice_get views seat) (Some (parts_of s).word) ≡ true

abbrev pub IsStepped : Layout → List ℕ → List View → ℕ → Step → List View → Type 0
IsStepped z words views seat s changed = IsChange z words views (event_of z seat s) (parts_of s).word changed
