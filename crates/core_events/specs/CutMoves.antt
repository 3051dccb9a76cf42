-- The view of a seat after a cut: the entries after the cut are retired, and nothing is known of them any more.
use Rattle.std.specs.Prelude.{ℕ, List, ◌++◌, cond, not, ◌==◌, None, map, filter}
use Rattle.index_words.specs.declared.layout.Layout.{Layout}
use Rattle.index_words.specs.declared.view.View.{View}
use Rattle.index_words.specs.declared.view.reading.Place.{Place}
use Rattle.index_words.specs.declared.view.reading.Place.TheVariants.{Nowhere, Entry as AtEntry, Node as AtNode, Gap}
use Rattle.index_words.specs.declared.view.update.HeldNext.{HeldNext}
use Rattle.index_words.specs.declared.word.Part.TheVariants.{Next}
use Rattle.index_words.specs.declared.word.Word.TheVariants.{Entry}
use Rattle.index_words.specs.Words.{Memory}
use Rattle.key_map.specs.Lists.{has}
use Rattle.core_events.specs.SpelledNow.{entries_on}

-- the entries after this one, as the words have them
abbrev pub cut_off : Layout → Memory → ℕ → List ℕ
cut_off z m e = entries_on z m (m (Entry Next e))

-- a seat that stands at one of the entries that are cut off stands at no entry of that bundle from then on
abbrev pub place_cut : List ℕ → Place → Place
place_cut back (AtEntry node side entry found) = cond (has entry back) (AtEntry node side 0 None) (AtEntry node side entry found)
place_cut back Nowhere = Nowhere
place_cut back (AtNode node key) = AtNode node key
place_cut back (Gap node side) = Gap node side

abbrev pub next_cut : ℕ → HeldNext → HeldNext
next_cut e h = cond (h.entry == e) (record h { next = 0 }) h

-- what was loaded of the entries that are cut off is forgotten, and if the next of this one was loaded it is known as 0
abbrev pub nexts_cut : ℕ → List ℕ → List HeldNext → List HeldNext
nexts_cut e back nexts = map (next_cut e) (filter (λ (h : HeldNext). not (has h.entry back)) nexts)

-- cut: the entries after this one are retired
abbrev pub cut_view : View → ℕ → List ℕ → View
cut_view v e back = record v {
  reading = record v.reading { place = place_cut back v.reading.place };
  held = record v.held { nexts = nexts_cut e back v.held.nexts };
  retired = record v.retired { entries = v.retired.entries ++ back };
}
