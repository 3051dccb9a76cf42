-- How retired slots become free: they are taken as a batch, and the batch becomes free once every other
-- pass has been outside a section since.
use Rattle.std.specs.Prelude.{ℕ, List, [], ◌∷◌, ◌++◌, zero, suc, length, cond, ◌==◌, ◌&&◌, ◌||◌, not, Bool, true, false, Option, Some, None, find, filter}
use Rattle.std.specs.Option.{option_map}
use Rattle.index_words.specs.declared.view.View.{View}
use Rattle.index_words.specs.declared.view.slots.Slots.{Slots}
use Rattle.index_words.specs.declared.view.slots.Looks.{Looks}
use Rattle.index_words.specs.declared.view.slots.SectionFound.{SectionFound}
use Rattle.index_words.specs.Views.{no_slots, no_looks}
use Rattle.key_map.specs.Lists.{has}
use Rattle.core_grace.specs.Sections.{is_even, has_passed}

abbrev pub is_empty : Slots → Bool
is_empty s = length s.nodes == 0 && length s.entries == 0

abbrev pub both : Slots → Slots → Slots
both s t = record { nodes = s.nodes ++ t.nodes; entries = s.entries ++ t.entries }

-- if no batch waits, the retired slots become the batch, and no pass is passed
abbrev pub batch_taken : View → View
batch_taken v = cond (is_empty v.batch) (record v { retired = no_slots; batch = v.retired; grace = no_looks }) v

-- the odd word that was found first for a pass since the batch was taken
abbrev pub first_found : ℕ → List SectionFound → Option ℕ
first_found pass fs = option_map (λ (f : SectionFound). f.word) (find (λ (f : SectionFound). f.pass == pass) fs)

-- whether a pass may be passed whose section word is `word` and was `first`, if it was found before
abbrev pub lets_pass : Option ℕ → ℕ → Bool
lets_pass None word = is_even word
lets_pass (Some first) word = has_passed first word

-- the looks with one more: the pass is passed, or the odd word is noted, each time that it is found
abbrev pub looked_at : Looks → ℕ → ℕ → Looks
looked_at g pass word =
    cond (has pass g.passed) g
    (cond (lets_pass (first_found pass g.found) word) (record g { passed = g.passed ++ pass ∷ [] })
    (record g { found = g.found ++ record { pass = pass; word = word } ∷ [] }))

abbrev pub is_find : ℕ → ℕ → SectionFound → Bool
is_find pass word f = f.pass == pass && f.word == word

-- how often a word was found as a pass's section word
abbrev pub times_found : ℕ → ℕ → List SectionFound → ℕ
times_found pass word fs = length (filter (is_find pass word) fs)

abbrev pub is_number : ℕ → Option ℕ → Bool
is_number n None = false
is_number n (Some k) = k == n

-- each of the first passes is this one or was passed
abbrev pub all_passed : ℕ → Option ℕ → List ℕ → Bool
all_passed zero number passed = true
all_passed (suc n) number passed = (is_number n number || has n passed) && all_passed n number passed

-- the slots of a list that are not among these
abbrev pub apart_from : Slots → Slots → Slots
apart_from out s = record { nodes = filter (λ k. not (has k out.nodes)) s.nodes; entries = filter (λ e. not (has e out.entries)) s.entries }

-- the slots of the batch are free; they were used
abbrev pub batch_freed : View → View
batch_freed v = record v { free = both v.free v.batch; batch = no_slots; grace = no_looks; unused = apart_from v.batch v.unused }

-- if every other pass is passed the batch becomes free
abbrev pub settled : ℕ → View → View
settled passes v = cond (all_passed passes v.number v.grace.passed) (batch_freed v) v

-- the view after a look that found `word` as the section word of a pass
abbrev pub looked : ℕ → View → ℕ → ℕ → View
looked passes v pass word =
    let taken = batch_taken v in
    settled passes (record taken { grace = looked_at taken.grace pass word })
