-- What the moves of sections leave of a view, and what a live view is known to have.
use Rattle.std.proofs.Common.{◌≡◌, ℕ, ◌+◌, ◌-◌, ◌%◌, ◌<◌, ◌^◌, cond, Bool, true, false, refl, ap, ◌∙◌, List}
use Rattle.index_words.specs.declared.layout.Layout.{Layout}
use Rattle.index_words.specs.declared.view.View.{View}
use Rattle.index_words.specs.declared.view.update.Held.{Held}
use Rattle.index_words.specs.declared.view.update.Updating.{Updating}
use Rattle.index_words.specs.declared.view.reading.Reading.{Reading}
use Rattle.index_words.specs.declared.word.Word.{Word}
use Rattle.index_words.specs.Views.{no_reading, no_slots, no_looks}
use Rattle.index_words.specs.Words.{memory}
use Rattle.core_grace.specs.Batches.{is_empty, batch_taken, batch_freed, all_passed, settled, looked, looked_at}
use Rattle.core_grace.specs.Sections.{is_even}
use Rattle.core_events.specs.declared.event.Kind.TheVariants.{Fill}
use Rattle.core_events.specs.FillMoves.{filled_view, filled_with, with_filled, known_before, used_view}
use Rattle.core_events.specs.Moves.{entered, in_section, nowhere}
use Rattle.core_invariant.specs.Rule.{InRule}
use Rattle.core_invariant.specs.SeatRule.{SeatRight}
use Rattle.core_invariant.proofs.KeptViews.{SeatPart, part_of, still_kept}
use Rattle.core_invariant.proofs.OneView.{seat_at}
use Rattle.table_rule.specs.Homes.{IsLiveView}
use Rattle.table_rule.specs.Running.{Stands}
use Rattle.table_rule.proofs.Lists.{item_at}

-- what it has locked, what it has read, and its update
pub record Work : Type 0 where
  pub held : Held
  pub reading : Reading
  pub update : Updating

abbrev pub work_of : View → Work
work_of v = record { held = v.held; reading = v.reading; update = v.update }

-- what was locked, and the place of the update, are as they were
pub record IsStill (v w : View) : Type 0 where
  pub held : w.held ≡ v.held
  pub raised : w.update.raised ≡ v.update.raised

pub work_still : (v w : View) (r : Reading) → work_of w ≡ record { held = v.held; reading = r; update = v.update } → IsStill v w
work_still v w r is = record { held = ap (λ (u : Work). u.held) is; raised = ap (λ (u : Work). u.update.raised) is }

either_work : (b : Bool) (u : Work) (x y : View) → work_of x ≡ u → work_of y ≡ u → work_of (cond b x y) ≡ u
either_work true u x y one two = one
either_work false u x y one two = two

settled_work : (passes : ℕ) (v : View) → work_of (settled passes v) ≡ work_of v
settled_work passes v = either_work (all_passed passes v.number v.grace.passed) (work_of v) (batch_freed v) v refl refl

taken_work : (v : View) → work_of (batch_taken v) ≡ work_of v
taken_work v = either_work (is_empty v.batch) (work_of v) (record v { retired = no_slots; batch = v.retired; grace = no_looks }) v refl refl

pub entered_work : (passes word : ℕ) (v : View) → work_of (entered passes v word) ≡ record { held = v.held; reading = nowhere v.reading; update = v.update }
entered_work passes word v = settled_work passes (batch_taken (in_section v word)) ∙ taken_work (in_section v word)

pub looked_work : (passes pass word : ℕ) (v : View) → work_of (looked passes v pass word) ≡ work_of v
looked_work passes pass word v =
    let taken : View = batch_taken v in
    settled_work passes (record taken { grace = looked_at taken.grace pass word }) ∙ taken_work v

either_part : (b : Bool) (p : SeatPart) (x y : View) → part_of x ≡ p → part_of y ≡ p → part_of (cond b x y) ≡ p
either_part true p x y one two = one
either_part false p x y one two = two

settled_part : (passes : ℕ) (v : View) → part_of (settled passes v) ≡ part_of v
settled_part passes v = either_part (all_passed passes v.number v.grace.passed) (part_of v) (batch_freed v) v refl refl

taken_part : (v : View) → part_of (batch_taken v) ≡ part_of v
taken_part v = either_part (is_empty v.batch) (part_of v) (record v { retired = no_slots; batch = v.retired; grace = no_looks }) v refl refl

pub looked_part : (z : Layout) (pass word : ℕ) (v : View) → part_of (looked z.passes v pass word) ≡ part_of v
looked_part z pass word v =
    let taken : View = batch_taken v in
    settled_part z.passes (record taken { grace = looked_at taken.grace pass word }) ∙ taken_part v

pub filled_part : (z : Layout) (v : View) (w : Word) (value : ℕ) → part_of (filled_view v w value) ≡ part_of v
filled_part z v w value = still_kept z (λ w. 0) Rattle.std.proofs.Common.[] v w 0 value Rattle.std.proofs.Common.None Fill (refl, (refl, (refl, (refl, (refl, tt)))))

-- what a fill leaves of what was locked and of the update's place
pub filled_still : (v : View) (w : Word) (value : ℕ) → IsStill v (filled_view v w value)
filled_still v w value = by_test (is_even v.section_word)
  where
    by_test : (b : Bool) → IsStill v (cond b (used_view v w) (with_filled (used_view v w) (filled_with (known_before v w) w value)))
    by_test true = record { held = refl; raised = refl }
    by_test false = record { held = refl; raised = refl }

-- a live view's seat meets the rule on one seat
pub record RightSeat (v : View) : Type 0 where
  pub words : List ℕ
  pub views : List View
  pub rule : InRule v.layout words views
  pub seat : SeatRight v.layout (memory v.layout words) rule.meaning v

pub live_seat : (v : View) → IsLiveView v → RightSeat v
live_seat v live =
    let s : Stands v.layout v = live.stands in
    record {
      words = s.words;
      views = s.views;
      rule = s.rule;
      seat = seat_at v.layout (memory v.layout s.words) s.views s.rule.meaning s.seat v (item_at s.views s.seat v s.at) s.rule.rule;
    }

-- outside a section nothing is read
pub rest_reading : (v : View) → IsLiveView v → is_even v.section_word ≡ true → v.reading ≡ no_reading
rest_reading v live even = (live_seat v live).seat.section.outside even
