-- Views that know and own nothing.
use Rattle.std.specs.Prelude.{true, false, [], None}
use Rattle.index_words.specs.declared.layout.Layout.{Layout}
use Rattle.index_words.specs.declared.view.View.{View}
use Rattle.index_words.specs.declared.view.slots.Slots.{Slots}
use Rattle.index_words.specs.declared.view.slots.Looks.{Looks}
use Rattle.index_words.specs.declared.view.history.SeenHistory.{SeenHistory}
use Rattle.index_words.specs.declared.view.history.Counts.{Counts}
use Rattle.index_words.specs.declared.view.reading.Reading.{Reading}
use Rattle.index_words.specs.declared.view.reading.Place.TheVariants.{Nowhere}
use Rattle.index_words.specs.declared.view.update.Held.{Held}
use Rattle.index_words.specs.declared.view.update.Updating.{Updating}

abbrev pub no_slots : Slots
no_slots = record { nodes = []; entries = [] }

abbrev pub no_looks : Looks
no_looks = record { found = []; passed = [] }

abbrev pub no_history : SeenHistory
no_history = record { seen = []; told = []; mine = []; ended = []; ended_places = []; left = 0; found = 0; looks = 0 }

abbrev pub no_counts : Counts
no_counts = record { busy = 0; waits = 0; moves = 0 }

abbrev pub no_reading : Reading
no_reading = record {
  section = None;
  opened = None;
  tree = [];
  place = Nowhere;
  above = None;
  links = [];
  left_turn = None;
  right_turn = None;
  least = None;
  looked = [];
  filled = [];
}

abbrev pub no_held : Held
no_held = record { nodes = []; nexts = [] }

abbrev pub no_update : Updating
no_update = record { raised = None; added = None; taken = []; pending = []; unset = []; owed = []; unlinking = None; waiting = no_looks }

-- a view without a number that knows and owns nothing
abbrev pub empty_view : Layout → View
empty_view z = record {
  layout = z;
  number = None;
  joined = false;
  to_give = [];
  section_word = 0;
  announced = 0;
  history = no_history;
  counts = no_counts;
  reading = no_reading;
  held = no_held;
  update = no_update;
  free = no_slots;
  retired = no_slots;
  batch = no_slots;
  grace = no_looks;
  unused = no_slots;
}

abbrev pub no_layout : Layout
no_layout = record { passes = 0; nodes = 0; entries = 0; calls = 0 }

-- what is left of a view that was joined into another one
abbrev pub spent_view : View
spent_view = record (empty_view no_layout) { joined = true }
