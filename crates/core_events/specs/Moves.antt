-- The view of a seat after each kind of event.
use Rattle.std.specs.Prelude.{ℕ, List, [], ◌∷◌, ◌++◌, take, drop, length, nat_lt, cond, Option, Some, None, map}
use Rattle.index_words.specs.declared.view.View.{View}
use Rattle.index_words.specs.declared.view.history.SeenHistory.{SeenHistory}
use Rattle.index_words.specs.declared.view.history.EndedPlace.{EndedPlace}
use Rattle.index_words.specs.declared.view.reading.Reading.{Reading}
use Rattle.index_words.specs.declared.view.reading.Place.TheVariants.{Nowhere}
use Rattle.key_map.specs.declared.update.Update.{Update}
use Rattle.index_words.specs.Views.{empty_view, no_reading}
use Rattle.core_grace.specs.Batches.{batch_taken, settled, both, apart_from}

-- it stands nowhere, remembers no link, and knows of no word that it has filled
abbrev pub nowhere : Reading → Reading
nowhere r = record r { place = Nowhere; above = None; links = []; left_turn = None; right_turn = None; filled = [] }

abbrev pub in_section : View → ℕ → View
in_section v word = record v { section_word = word; reading = nowhere v.reading }

-- enter: if no batch waits the retired slots become the batch
abbrev pub entered : ℕ → View → ℕ → View
entered passes v word = settled passes (batch_taken (in_section v word))

-- leave: what was read is gone, and the snapshot is ended. Nothing is pending, so the node that the update has brought
-- in is one of the tree like others: outside of a section the view works on it no more, as another update may take it
-- out
abbrev pub left : View → ℕ → View
left v word = record v { section_word = word; reading = no_reading; update = record v.update { added = None } }

-- split: so many of the first free nodes move to the new view, which has no number and copies what is seen
abbrev pub split_left : View → ℕ → View
split_left v nodes = record v { free = record { nodes = drop nodes v.free.nodes; entries = v.free.entries } }

abbrev pub split_right : View → ℕ → View
split_right v nodes = record (empty_view v.layout) {
  history = record (empty_view v.layout).history { seen = v.history.seen };
  free = record { nodes = take nodes v.free.nodes; entries = [] };
}

-- the longer of two histories
abbrev pub longer : List Update → List Update → List Update
longer seen other = cond (nat_lt (length seen) (length other)) other seen

abbrev pub own_number : Option ℕ → List ℕ
own_number None = []
own_number (Some n) = n ∷ []

abbrev pub own_ended : Option ℕ → List ℕ → List EndedPlace
own_ended None mine = []
own_ended (Some n) mine = map (λ at. record { pass = n; at = at }) mine

-- join: what the other view knew and owned
abbrev pub history_with : SeenHistory → Option ℕ → SeenHistory → SeenHistory
history_with own number other = record own {
  seen = longer own.seen other.seen;
  told = other.seen;
  ended = own.ended ++ (other.ended ++ own_number number);
  ended_places = own.ended_places ++ (other.ended_places ++ own_ended number other.mine);
}

-- a slot whose words were filled there may come back with the other view, so the view knows of no filled word, and
-- counts none of the other view's free slots as one that was never used
abbrev pub joined_with : View → View → View
joined_with v other = record v {
  to_give = v.to_give ++ other.to_give;
  reading = record v.reading { filled = [] };
  history = history_with v.history other.number other.history;
  free = both v.free other.free;
  retired = both v.retired (both other.retired other.batch);
  unused = apart_from other.free v.unused;
}
