-- The sections in which a pass reads: what their steps need of each other, and what they leave together.
use Rattle.std.proofs.Common.{◌≡◌, ℕ, ◌+◌, ◌<◌, ◌++◌, List, length, arith, ap, ◌∙◌, sym, subst, Some}
use Rattle.std.proofs.lemmas.List.{append_assoc}
use Rattle.index_words.specs.declared.layout.Layout.{Layout}
use Rattle.index_words.specs.declared.view.View.{View}
use Rattle.index_words.specs.declared.view.reading.Reading.{Reading}
use Rattle.index_words.specs.declared.word.Word.TheVariants.{Stamp}
use Rattle.index_words.specs.Views.{no_reading}
use Rattle.key_map.specs.declared.update.Update.{Update}
use Rattle.core_grace.specs.Sections.{is_even, left_word}
use Rattle.core_events.specs.declared.event.Kind.TheVariants.{LoadStamp}
use Rattle.core_events.specs.Announcing.{announced_view}
use Rattle.core_events.specs.Moves.{entered, left, nowhere}
use Rattle.core_invariant.proofs.KeptViews.{SeatPart, part_of, entered_part}
use Rattle.core_laws.specs.ViewNeeds.{event_at, IsOutside, MayLoadStamp, MayFix}
use Rattle.table_rule.specs.Homes.{IsLiveView}
use Rattle.table_rule.specs.Running.{Happened}
use Rattle.table_steps.specs.Passes.{Pass, AtRest, Inside, Extends, IsSamePass}
use Rattle.table_steps.specs.Stamps.{loading_stamp, outside_again, with_seen, CanAnnounce, HasAnnounced, HasOpened, HasSeen, IsFoundAt, ReadsNow}
use Rattle.table_steps.proofs.Views.{Work, entered_work, rest_reading}

-- an enter leaves what the pass knows of the history
pub within_history : (v : View) → (entered v.layout.passes v (v.section_word + 1)).history ≡ v.history
within_history v = ap (λ (p : SeatPart). p.history) (entered_part v.layout.passes (v.section_word + 1) v)

-- after an enter nothing is read, and nothing is announced
module _ (v : View) (live : IsLiveView v) (rest : AtRest v) where
  abbrev within : View
  within = entered v.layout.passes v (v.section_word + 1)

  within_reading : within.reading ≡ nowhere no_reading
  within_reading =
      ap (λ (u : Work). u.reading) (entered_work v.layout.passes (v.section_word + 1) v) ∙ ap nowhere (rest_reading v live rest.outside.even)

  within_part : part_of within ≡ part_of (record v { section_word = v.section_word + 1; reading = nowhere v.reading })
  within_part = entered_part v.layout.passes (v.section_word + 1) v

  -- from the enter through the first load of the stamp to the announcement
  module _ (e : View) (is : e ≡ within) where
    pub may_load : Inside e → MayLoadStamp e
    may_load inside = record {
      inside = inside.odd;
      closed = ap (λ (u : View). u.reading.opened) is ∙ ap (λ (r : Reading). r.opened) within_reading;
    }

    e_unannounced : e.announced ≡ 0
    e_unannounced = ap (λ (u : View). u.announced) is ∙ ap (λ (p : SeatPart). p.announced) within_part ∙ rest.unannounced

    module _ (x : View) (n : ℕ) (seen : HasSeen e n x) (unread : e.announced ≡ 0 → x ≡ with_seen x.history.seen e) where
      x_is : x ≡ with_seen x.history.seen within
      x_is = unread e_unannounced ∙ ap (with_seen x.history.seen) is

      pub can_announce : (p : Pass) → p.view ≡ x → p.view.number ≡ Some p.number → Inside x → CanAnnounce p (Some n)
      can_announce p same own inside = (
        record {
          own = own;
          inside = ap (λ (u : View). is_even u.section_word) same ∙ inside.odd;
          unread = ap (λ (u : View). u.reading.section) same ∙ ap (λ (u : View). u.reading.section) x_is ∙ ap (λ (r : Reading). r.section) within_reading;
        },
        sym seen.whole ∙ ap (λ (u : View). length u.history.seen) (sym same),
      )

      pub has_announced : (w : View) → w ≡ announced_view x (n + 1) → HasAnnounced v w
      has_announced w w_is = record {
        first = x.history.seen;
        extends = subst (λ (us : List Update). Extends us x.history.seen)
            (ap (λ (u : View). u.history.seen) is ∙ ap (λ (p : SeatPart). p.history.seen) within_part) seen.extends;
        view = w_is ∙ ap (λ (u : View). announced_view u (n + 1)) x_is ∙ ap (λ k. announced_view (with_seen x.history.seen within) (k + 1)) (sym seen.whole);
      }

  -- from the announcement to the second load
  module _ (b : View) (announced : HasAnnounced v b) where
    pub may_load_again : Inside b → MayLoadStamp b
    may_load_again inside = record {
      inside = inside.odd;
      closed = ap (λ (u : View). u.reading.opened) announced.view ∙ ap (λ (r : Reading). r.opened) within_reading;
    }

    pub has_some : 0 < b.announced
    has_some = omega (arith, ap (λ (u : View). u.announced) announced.view)

    pub may_fix : Inside b → MayFix b
    may_fix inside = record { load = may_load_again inside; announced = has_some }

-- the second load as the pass's own
module _ (p q : Pass) (same : IsSamePass p q) (fixes n : ℕ) (w : View) (h : Happened q.view.layout (loading_stamp q fixes) q.view n w) where
  own_event : Happened p.view.layout (loading_stamp p fixes) q.view n w
  own_event =
      subst (λ (seat : ℕ). Happened p.view.layout (event_at p.view.layout seat LoadStamp Stamp fixes) q.view n w) same.seat
      (subst (λ (z : Layout). Happened z (event_at z q.seat LoadStamp Stamp fixes) q.view n w) same.layout h)

  pub found_at : IsFoundAt p fixes n w
  found_at = (q.view, own_event)

  pub has_opened : HasAnnounced p.view q.view → HasSeen q.view n w → ReadsNow q.view fixes n w → HasOpened p fixes n w
  has_opened announced seen reads =
      let first = announced.first in
      record {
        first = first;
        extends = announced.extends;
        event = subst (λ (u : View). Happened p.view.layout (loading_stamp p fixes) u n w) announced.view own_event;
        seen = subst (λ (u : View). HasSeen u n w) announced.view seen;
        reads = subst (λ (u : View). ReadsNow u fixes n w) announced.view reads;
      }

-- from the leave to the end
module _ (v x w : View) (is : x ≡ left v (left_word v.section_word)) (outside : IsOutside x) (back : w ≡ announced_view x 0) where
  pub is_outside_again : w ≡ outside_again v
  is_outside_again = back ∙ ap (λ (u : View). announced_view u 0) is

  pub at_rest : AtRest w
  at_rest = record {
    outside = record {
      even = ap (λ (u : View). is_even u.section_word) back ∙ outside.even;
      unlocked = ap (λ (u : View). u.held.nodes) back ∙ outside.unlocked;
    };
    unannounced = ap (λ (u : View). u.announced) back;
  }

-- what a pass has seen goes on through both loads
pub opened_extends : (p : Pass) (fixes n : ℕ) (w : View) → HasOpened p fixes n w → Extends p.view.history.seen w.history.seen
opened_extends p fixes n w opened =
    let more = opened.extends in
    let last = opened.seen.extends in (
      more.0 ++ last.0,
      last.1 ∙ ap (λ (us : List Update). us ++ last.0) more.1 ∙ append_assoc p.view.history.seen more.0 last.0,
    )
