-- Laws on how seats are made, and on what a view knows that has every number.
use Rattle.std.specs.Prelude.{◌≡◌, ℕ, ◌<◌, List, [], ◌∷◌, ◌++◌, length, slice_set}
use Rattle.index_words.specs.declared.layout.Layout.{Layout}
use Rattle.key_map.specs.declared.pass.PassSize.{PassSize}
use Rattle.index_words.specs.declared.view.View.{View}
use Rattle.index_words.specs.declared.word.Word.TheVariants.{Stamp}
use Rattle.index_words.specs.Sizes.{layout_of}
use Rattle.index_words.specs.Views.{empty_view}
use Rattle.index_words.specs.Words.{memory}
use Rattle.key_map.specs.Lists.{IsItem}
use Rattle.core_links.specs.Bundle.{no_number}
use Rattle.core_events.specs.Openings.{first_table, pass_views, made_left, made_right, MayMake}
use Rattle.core_invariant.specs.OwnPlaces.{HasNumber}
use Rattle.core_invariant.specs.Rule.{InRule, IsRight}

-- the table with the first view alone meets the rule
abbrev pub FirstLaw : Type 0
FirstLaw = (z : Layout) → z.calls < no_number → IsRight (first_table z)

-- making a seat keeps the rule, from every table that meets it
abbrev pub MakeLaw : Type 0
MakeLaw =
    (z : Layout) (words : List ℕ) (vs : List View) (i n : ℕ) (v : View) (size : PassSize) → IsItem vs i v → InRule z words vs → MayMake v n size
    → InRule z words (slice_set vs i (made_left v size) ++ made_right v n size ∷ [])

-- made one after another from the first view, the seats of the passes stand after the first view, which is empty then
abbrev pub MadeLaw : Type 0
MadeLaw =
    (z : Layout) (sizes : List PassSize) → z ≡ layout_of sizes → IsRight (first_table z)
    → InRule z (first_table z).words (empty_view z ∷ pass_views z 0 1 1 sizes)

-- a view that has every number knows as many updates as the stamp says
abbrev pub WholeLaw : Type 0
WholeLaw =
    (z : Layout) (words : List ℕ) (vs : List View) (i : ℕ) (v : View) → IsItem vs i v → InRule z words vs → ((n : ℕ) → n < z.passes → HasNumber v n)
    → length v.history.seen ≡ memory z words Stamp
