-- The rule on pass numbers: each is the number of one view, or was given up to one view, or one view still has to give
-- it.
use Rattle.std.specs.Prelude.{◌≡◌, ℕ, ◌+◌, List, cond, nat_lt, sum_by}
use Rattle.index_words.specs.declared.layout.Layout.{Layout}
use Rattle.index_words.specs.declared.view.View.{View}
use Rattle.index_words.specs.declared.word.Word.TheVariants.{Section, Announced}
use Rattle.index_words.specs.Words.{Memory}
use Rattle.key_map.specs.Lists.{count, Every}
use Rattle.core_events.specs.Moves.{own_number}

-- how often a view has a pass number, in one of these ways
abbrev pub number_count : ℕ → View → ℕ
number_count n v = count n (own_number v.number) + (count n v.history.ended + count n v.to_give)

abbrev pub NumbersRight : Layout → List View → Type 0
NumbersRight z vs = (n : ℕ) → sum_by (number_count n) vs ≡ cond (nat_lt n z.passes) 1 0

-- the section word and the announcement of a number that is still to be given are 0
abbrev pub IsSpare : Memory → View → Type 0
IsSpare m v = Every (λ n. (m (Section n) ≡ 0) × (m (Announced n) ≡ 0)) v.to_give
