use Rattle.std.proofs.Common.{◌≡◌, ◌∙◌, ap, List, ℕ, Some, None, sym, subst, slice_index_or}
use Rattle.std.specs.List.{slice_get}
use Rattle.std.proofs.lemmas.Option.{slice_get-get_or, slice_get_past}
use Rattle.index_words.specs.declared.view.View.{View}
use Rattle.core_updates.specs.Plans.{entries_in}
use Rattle.plan_laws.specs.Prunes.{HasNumbered}
use Rattle.plan_laws.proofs.Finals.{finalise_end}
use Rattle.plan_laws.proofs.Frames.{keeps_owned}
use Rattle.update_try.proofs.Finals.{may_finalise, finalised_next}
use Rattle.update_try.proofs.Steps.{same_more}
use Rattle.update_try.proofs.after_raise.finalise_all.Goals as goal

pub finalise-requires : goal.finalise-requires
finalise-requires c =
    let xs = c.as_slice-entry-items.result.now in
    let same : xs ≡ entries_in c.args.plan.now c.args.slots.now = c.as_slice-entry-items.ensures.value ∙ c.entries-2.ensures in
    let is = subst (λ (ys : List ℕ). slice_get ys c.entries.entry-index ≡ Some (slice_index_or xs c.entries.entry-index 0)) same (slice_get-get_or xs c.entries.entry-index 0 c.entries-test.true) in
    record { may = may_finalise c.entries.pass.view c.args.pass.now.number c.args.plan.now c.args.slots.now c.entries.invariant.0.0 c.entries.entry-index _ c.entries.invariant.0.1 is }

pub entries-preserved : goal.entries-preserved
entries-preserved c =
    let xs = c.as_slice-entry-items.result.now in
    let same : xs ≡ entries_in c.args.plan.now c.args.slots.now = c.as_slice-entry-items.ensures.value ∙ c.entries-2.ensures in
    let is = subst (λ (ys : List ℕ). slice_get ys c.entries.entry-index ≡ Some (slice_index_or xs c.entries.entry-index 0)) same (slice_get-get_or xs c.entries.entry-index 0 c.entries-test.true) in
    let at = c.entries.invariant.0.0 in
    let v = c.entries.pass.view in
    let w = c.finalise.new.self.view in
    let next = finalised_next v w c.args.pass.now.number c.args.plan.now c.args.slots.now at c.entries.entry-index _ c.entries.invariant.0.1 c.requires.apart is c.finalise.ensures.view in (
      (at, next.0),
      keeps_owned c.args.pass.now.view v w c.entries.invariant.1 next.1,
      same_more c.args.pass.now c.entries.pass c.finalise.new.self c.entries.invariant.2 c.finalise.ensures.same,
      ap (λ (u : View). u.reading) c.finalise.ensures.view ∙ c.entries.invariant.3,
    )

pub returns-clause-numbered : goal.returns-clause-numbered
returns-clause-numbered c =
    let xs = c.as_slice-entry-items.result.now in
    let same : xs ≡ entries_in c.args.plan.now c.args.slots.now = c.as_slice-entry-items.ensures.value ∙ c.entries-2.ensures in
    let none = subst (λ (ys : List ℕ). slice_get ys c.entries.entry-index ≡ None) same (slice_get_past xs c.entries.entry-index c.entries-test.false) in
    subst (λ k. HasNumbered c.entries.pass.view k c.args.plan.now c.args.slots.now) (sym c.entries.invariant.2.number)
    (finalise_end c.entries.pass.view c.args.pass.now.number c.args.plan.now c.args.slots.now c.entries.invariant.0.0 c.entries.entry-index c.entries.invariant.0.1 none)
