-- Announcements: before a pass reads at a number it announces how many updates it has seen, and a pass that cuts
-- bundles looks at what the others have announced. What each of these events needs, and the view afterwards.
use Rattle.std.specs.Prelude.{ℕ, ◌+◌, ◌-◌, [], ◌∷◌, ◌++◌, length, cond, not, Bool, false, nat_lt, ◌==◌, ◌&&◌, Option, Some, None, is_none, is_some}
use Rattle.index_words.specs.declared.view.View.{View}
use Rattle.index_words.specs.declared.word.Word.{Word}
use Rattle.index_words.specs.declared.word.Word.TheVariants.{Announced}
use Rattle.core_grace.specs.Sections.{is_even}
use Rattle.core_grace.specs.Batches.{is_number}

-- whether the seat has announced a number, and not taken it back
abbrev pub has_announced : View → Bool
has_announced v = not (v.announced == 0)

abbrev pub is_own_announced : Option ℕ → Word → Bool
is_own_announced (Some n) (Announced pass) = pass == n
is_own_announced _ _ = false

-- inside a section, as long as it has no section number, a seat announces how many updates it has seen, which is stored
-- plus 1; outside of a section it takes its announcement back
abbrev pub is_announcement : View → ℕ → Bool
is_announcement v value = cond (is_even v.section_word) (value == 0) (is_none v.reading.section && value == length v.history.seen + 1)

-- announce: in its own word
abbrev pub may_announce : View → Word → ℕ → Bool
may_announce v w value = is_own_announced v.number w && is_announcement v value

abbrev pub announced_view : View → ℕ → View
announced_view v value = record v { announced = value }

-- look at an announcement: another pass's, by a seat that has a section number
abbrev pub may_look_ann : View → Word → ℕ → Bool
may_look_ann v (Announced pass) value = is_some v.reading.section && not (is_number pass v.number) && value == 0
may_look_ann v _ value = false

-- the announced number if one is announced and it is the smaller one; `word` is what the announcement's word holds
abbrev pub smaller : ℕ → ℕ → ℕ
smaller least word = cond (nat_lt 0 word && nat_lt (word - 1) least) (word - 1) least

abbrev pub lowered : Option ℕ → ℕ → Option ℕ
lowered None word = None
lowered (Some least) word = Some (smaller least word)

-- the pass was looked at, and the least number is not above what the pass has announced
abbrev pub ann_loaded : View → ℕ → ℕ → View
ann_loaded v pass word = record v { reading = record v.reading { least = lowered v.reading.least word; looked = v.reading.looked ++ pass ∷ [] } }
