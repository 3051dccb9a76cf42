-- The need of a cut, as a computed truth value: no number that is read, now or later, selects an entry that is cut off.
use Rattle.std.specs.Prelude.{ℕ, List, not, Bool, false, nat_lt, ◌==◌, ◌&&◌, ◌||◌, Option, Some, None}
use Rattle.std.specs.List.{list_any}
use Rattle.index_words.specs.declared.layout.Layout.{Layout}
use Rattle.index_words.specs.declared.side.Side.{Side}
use Rattle.index_words.specs.declared.side.Side.TheVariants.{Left, Right}
use Rattle.index_words.specs.declared.view.View.{View}
use Rattle.index_words.specs.declared.view.update.HeldNode.{HeldNode}
use Rattle.index_words.specs.declared.word.Part.TheVariants.{Next}
use Rattle.index_words.specs.declared.word.Word.{Word}
use Rattle.index_words.specs.declared.word.Word.TheVariants.{Entry}
use Rattle.index_words.specs.Words.{Memory}
use Rattle.key_map.specs.Lists.{has}
use Rattle.core_links.specs.Bundle.{select}
use Rattle.core_grace.specs.Batches.{is_number, all_passed}
use Rattle.core_events.specs.LoadNeeds.{is_part}
use Rattle.core_events.specs.SpelledNow.{bundle_now}
use Rattle.core_events.specs.Numbered.{entry_number}

-- the number selects the entry in the bundle of this link
abbrev pub selects_at : Layout → Memory → List View → ℕ → ℕ → ℕ → Side → Bool
selects_at z m vs least e k side = select (entry_number m vs) least (bundle_now z m side k) == e

-- the locked node was found unmarked, the seat's update did not take it out, and the number selects the entry in one of
-- its bundles
abbrev pub may_cut_at : Layout → Memory → List View → View → ℕ → ℕ → HeldNode → Bool
may_cut_at z m vs v least e h =
    is_number 0 h.mark && not (has h.node v.update.taken)
    && (selects_at z m vs least e h.node Left || selects_at z m vs least e h.node Right)

-- the seat has a least number, has looked at every other pass for it, and that number selects the entry at a locked
-- node
abbrev pub may_cut_by : Layout → Memory → List View → View → Option ℕ → ℕ → Bool
may_cut_by z m vs v None e = false
may_cut_by z m vs v (Some least) e =
    nat_lt 0 e && all_passed z.passes v.number v.reading.looked && list_any (may_cut_at z m vs v least e) v.held.nodes

-- cut: after the entry that the least number selects
abbrev pub may_cut : Layout → Memory → List View → View → Word → ℕ → Bool
may_cut z m vs v (Entry part e) value = is_part Next part && value == 0 && may_cut_by z m vs v v.reading.least e
may_cut z m vs v _ value = false
