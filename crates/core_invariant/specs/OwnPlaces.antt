-- What a view knows of itself: where its own updates stand, and how far what it has seen reaches.
use Rattle.std.specs.Prelude.{◌≡◌, ℕ, ◌<◌, ◌≤◌, List, length, ◌⊎◌, Option, Some, IfSome}
use Rattle.key_map.specs.Lists.{count, Every}
use Rattle.key_map.specs.History.{own_places}
use Rattle.index_words.specs.declared.view.View.{View}
use Rattle.index_words.specs.declared.view.history.EndedPlace.{EndedPlace}
use Rattle.key_map.specs.declared.update.Update.{Update}

-- its own places are those at which updates of its number stand in what it has seen, and the places that were given up
-- to it lie within that; so does its section number. While a snapshot is open the number found is the snapshot's
pub record KnowsPlacesOf (number : Option ℕ) (seen : List Update) (mine : List ℕ) (ended_places : List EndedPlace) (found : ℕ)
    (section_number snapshot : Option ℕ) : Type 0 where
  pub own : IfSome number (λ n. mine ≡ own_places n seen)
  pub given : Every (λ (p : EndedPlace). p.at ≤ length seen) ended_places
  pub section : IfSome section_number (λ t. t ≤ length seen)
  pub opened : IfSome snapshot (λ t. found ≡ t)

abbrev pub KnowsPlaces : View → Type 0
KnowsPlaces v =
    KnowsPlacesOf v.number v.history.seen v.history.mine v.history.ended_places v.history.found v.reading.section v.reading.opened

-- the view has this number, or it was given up to it
abbrev pub HasNumber : View → ℕ → Type 0
HasNumber v n = (v.number ≡ Some n) ⊎ (0 < count n v.history.ended)
