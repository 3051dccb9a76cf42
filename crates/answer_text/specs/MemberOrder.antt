-- Helper: the headline does not rest on this file.
-- The order of the members of an object.
use Rattle.std.specs.Prelude.{◌≡◌, ℕ, true, List, [], ◌∷◌, Option, Some, None}
use Rattle.key_names.specs.Ranks.{is_before}
use Rattle.answer_text.specs.Lines.{Member}

-- the names of the members that are present rise strictly in byte order, the first of them above `low`
abbrev pub RiseAbove : List ℕ → List (Option Member) → Type 0
RiseAbove low [] = Unit {0}
RiseAbove low (None ∷ ms) = RiseAbove low ms
RiseAbove low (Some m ∷ ms) = (is_before low m.name ≡ true) × RiseAbove m.name ms

-- the members stand in the byte order of their names, and none stands twice
abbrev pub StandInOrder : List (Option Member) → Type 0
StandInOrder ms = RiseAbove [] ms
