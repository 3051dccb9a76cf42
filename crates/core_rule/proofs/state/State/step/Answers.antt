use Rattle.std.proofs.Common.{◌≡◌, true, refl, ℕ, ◌+◌, ◌<◌, ◌^◌, List, ◌∙◌, ap, sym, subst}
use Rattle.index_words.specs.declared.word.Word.{Word}
use Rattle.index_words.specs.Words.{memory}
use Rattle.index_words.specs.declared.word.Word.TheVariants.{Stamp}
use Rattle.core_events.specs.declared.event.Event.{Event}
use Rattle.core_events.specs.Steps.{allowed, after}
use Rattle.core_events.specs.Tables.{Table, held_by}
use Rattle.core_events.proofs.Allowed.{raises}
use Rattle.machine_needs.specs.StepParts.{Parts}
use Rattle.core_invariant.specs.LinkLaw.{KeepsSelections}
use Rattle.core_kept.specs.KeepsSeen.{KeepsSeen}
use Rattle.core_kept.specs.SectionMoves.{MovesSections}
use Rattle.core_kept.proofs.SeenLaw.{keeps_seen}
use Rattle.core_kept.proofs.SectionLaw.{moves_sections}
use Rattle.core_kept.proofs.StepLaw.{AfterTable, stepped_right}
use Rattle.core_laws.specs.Owners.{KeepsOwners}
use Rattle.core_laws.proofs.Laws.{laws_of, laws_same, laws_refused}
use Rattle.core_laws.proofs.Owners.{owners}
use Rattle.core_laws.proofs.RaiseStamps.{raise_small, stored_small}
use Rattle.core_rule.proofs.StepOwners.{owners_refused, owners_stay}
use Rattle.core_rule.proofs.Stepped.{taken, taken_law, met_now, step_is, is_met_by, same_selections, refused_selections, refused_right}
use Rattle.core_rule.proofs.state.State.step.Goals as goal

pub change-requires-clause-met : goal.change-requires-clause-met
change-requires-clause-met c =
    is_met_by c.self.inside.layout c.self.inside.words.items c.as_slice.result.now c.self.inside.views.items c.as_slice-2.result.now c.args.event.now
    c.in-Some.word c.in-Some-allowed_step.step c.allowed_step.result c.as_slice.ensures.value c.as_slice-2.ensures.value
    c.allowed_step.ensures.met c.in-Some-allowed_step.is
    c.allowed_step.ensures.step c.as_slice-3.result.now c.as_slice-3.ensures.value

pub change-requires-clause-small : goal.change-requires-clause-small
change-requires-clause-small c is =
    let step_of = step_is c.self.inside.layout c.self.inside.words.items c.as_slice.result.now c.self.inside.views.items c.as_slice-2.result.now
    c.args.event.now c.in-Some.word c.in-Some-allowed_step.step c.allowed_step.result c.as_slice.ensures.value c.as_slice-2.ensures.value
    c.allowed_step.ensures.met c.in-Some-allowed_step.is c.allowed_step.ensures.step in
    let t : Table = record { layout = c.self.inside.layout; words = c.self.inside.words.items; views = c.self.inside.views.items } in
    let now = met_now c.self.inside.layout c.self.inside.words.items c.as_slice.result.now c.self.inside.views.items c.as_slice-2.result.now c.args.event.now
    c.in-Some.word c.in-Some-allowed_step.step c.allowed_step.result c.as_slice.ensures.value c.as_slice-2.ensures.value
    c.allowed_step.ensures.met c.in-Some-allowed_step.is in
    let raise = sym (ap (λ (p : Parts). p.kind) step_of) ∙ is in
    subst (λ (ws : List ℕ). memory c.self.inside.layout ws Stamp + 1 < 2 ^ 64) (sym c.as_slice-3.ensures.value)
    (subst (λ (w : Word). held_by t w + 1 < 2 ^ 64) (raises t c.args.event.now c.in-Some.word now raise).stamp
    (raise_small t c.args.event.now c.in-Some.word c.self.invariant now raise))

pub store-requires-clause-small : goal.store-requires-clause-small
store-requires-clause-small c is =
    stored_small c.self.inside.layout c.self.inside.words.items c.self.inside.words.items c.self.inside.views.items c.self.inside.views.items
    c.args.event.now c.in-Some.word _
    c.self.invariant c.in-Some.ensures.value refl refl refl
    (met_now c.self.inside.layout c.self.inside.words.items c.as_slice.result.now c.self.inside.views.items c.as_slice-2.result.now c.args.event.now
    c.in-Some.word c.in-Some-allowed_step.step c.allowed_step.result c.as_slice.ensures.value c.as_slice-2.ensures.value
    c.allowed_step.ensures.met c.in-Some-allowed_step.is)
    (sym (ap (λ (p : Parts). p.kind) (step_is c.self.inside.layout c.self.inside.words.items c.as_slice.result.now c.self.inside.views.items
    c.as_slice-2.result.now c.args.event.now c.in-Some.word c.in-Some-allowed_step.step c.allowed_step.result c.as_slice.ensures.value
    c.as_slice-2.ensures.value c.allowed_step.ensures.met c.in-Some-allowed_step.is c.allowed_step.ensures.step)) ∙ is)

pub invariant_of-self : goal.invariant_of-self
invariant_of-self c =
    refused_right (record { layout = c.self.inside.layout; words = c.self.inside.words.items; views = c.self.inside.views.items })
    c.change.new.views.items c.is_err.result
    c.change.result c.self.invariant c.is_err.ensures.value c.if-is_err.true c.change.ensures.err

pub invariant_of-self-2 : goal.invariant_of-self-2
invariant_of-self-2 c =
    (taken_law (λ t e u. AfterTable t u) stepped_right c.self.inside.layout c.self.inside.words.items c.self.inside.views.items c.args.event.now
    c.store.new.words.items c.change.new.views.items c.self.invariant
    (taken c.self.inside.layout c.self.inside.words.items c.as_slice.result.now c.self.inside.views.items c.as_slice-2.result.now c.args.event.now
    c.in-Some.word c.in-Some-allowed_step.step c.allowed_step.result c.as_slice.ensures.value c.as_slice-2.ensures.value
    c.allowed_step.ensures.met c.in-Some-allowed_step.is
    c.allowed_step.ensures.step c.as_slice-3.result.now c.store.new.words.items c.is_err.result c.change.result c.change.new.views.items
    c.in-Some.ensures.value c.as_slice-3.ensures.value c.is_err.ensures.value c.if-is_err.false c.change.ensures.ok c.store.ensures)).right

pub returns-clause-rule : goal.returns-clause-rule
returns-clause-rule c =
    (taken_law (λ t e u. AfterTable t u) stepped_right c.self.inside.layout c.self.inside.words.items c.self.inside.views.items c.args.event.now
    c.store.new.words.items c.change.new.views.items c.self.invariant
    (taken c.self.inside.layout c.self.inside.words.items c.as_slice.result.now c.self.inside.views.items c.as_slice-2.result.now c.args.event.now
    c.in-Some.word c.in-Some-allowed_step.step c.allowed_step.result c.as_slice.ensures.value c.as_slice-2.ensures.value
    c.allowed_step.ensures.met c.in-Some-allowed_step.is
    c.allowed_step.ensures.step c.as_slice-3.result.now c.store.new.words.items c.is_err.result c.change.result c.change.new.views.items
    c.in-Some.ensures.value c.as_slice-3.ensures.value c.is_err.ensures.value c.if-is_err.false c.change.ensures.ok c.store.ensures)).right

pub returns-clause-owners : goal.returns-clause-owners
returns-clause-owners c =
    subst (λ (u : Table). KeepsOwners c.args.event.now.seat u
    (record { layout = c.self.inside.layout; words = c.store.new.words.items; views = c.change.new.views.items })) c.self.view_is
    (taken_law (λ t e u. KeepsOwners e.seat t u) owners c.self.inside.layout c.self.inside.words.items c.self.inside.views.items c.args.event.now
    c.store.new.words.items c.change.new.views.items c.self.invariant
    (taken c.self.inside.layout c.self.inside.words.items c.as_slice.result.now c.self.inside.views.items c.as_slice-2.result.now c.args.event.now
    c.in-Some.word c.in-Some-allowed_step.step c.allowed_step.result c.as_slice.ensures.value c.as_slice-2.ensures.value
    c.allowed_step.ensures.met c.in-Some-allowed_step.is
    c.allowed_step.ensures.step c.as_slice-3.result.now c.store.new.words.items c.is_err.result c.change.result c.change.new.views.items
    c.in-Some.ensures.value c.as_slice-3.ensures.value c.is_err.ensures.value c.if-is_err.false c.change.ensures.ok c.store.ensures))

pub returns-clause-links : goal.returns-clause-links
returns-clause-links c =
    subst (λ (u : Table). KeepsSelections u (record { layout = c.self.inside.layout; words = c.store.new.words.items; views = c.change.new.views.items }))
    c.self.view_is
    (taken_law (λ t e u. AfterTable t u) stepped_right c.self.inside.layout c.self.inside.words.items c.self.inside.views.items c.args.event.now
    c.store.new.words.items c.change.new.views.items c.self.invariant
    (taken c.self.inside.layout c.self.inside.words.items c.as_slice.result.now c.self.inside.views.items c.as_slice-2.result.now c.args.event.now
    c.in-Some.word c.in-Some-allowed_step.step c.allowed_step.result c.as_slice.ensures.value c.as_slice-2.ensures.value
    c.allowed_step.ensures.met c.in-Some-allowed_step.is
    c.allowed_step.ensures.step c.as_slice-3.result.now c.store.new.words.items c.is_err.result c.change.result c.change.new.views.items
    c.in-Some.ensures.value c.as_slice-3.ensures.value c.is_err.ensures.value c.if-is_err.false c.change.ensures.ok c.store.ensures)).same

pub returns-clause-seen : goal.returns-clause-seen
returns-clause-seen c =
    subst (λ (u : Table). KeepsSeen u c.args.event.now
    (record { layout = c.self.inside.layout; words = c.store.new.words.items; views = c.change.new.views.items })) c.self.view_is
    (taken_law KeepsSeen keeps_seen c.self.inside.layout c.self.inside.words.items c.self.inside.views.items c.args.event.now c.store.new.words.items
    c.change.new.views.items c.self.invariant
    (taken c.self.inside.layout c.self.inside.words.items c.as_slice.result.now c.self.inside.views.items c.as_slice-2.result.now c.args.event.now
    c.in-Some.word c.in-Some-allowed_step.step c.allowed_step.result c.as_slice.ensures.value c.as_slice-2.ensures.value
    c.allowed_step.ensures.met c.in-Some-allowed_step.is
    c.allowed_step.ensures.step c.as_slice-3.result.now c.store.new.words.items c.is_err.result c.change.result c.change.new.views.items
    c.in-Some.ensures.value c.as_slice-3.ensures.value c.is_err.ensures.value c.if-is_err.false c.change.ensures.ok c.store.ensures))

pub returns-clause-sections : goal.returns-clause-sections
returns-clause-sections c =
    subst (λ (u : Table). MovesSections u c.args.event.now
    (record { layout = c.self.inside.layout; words = c.store.new.words.items; views = c.change.new.views.items })) c.self.view_is
    (taken_law MovesSections moves_sections c.self.inside.layout c.self.inside.words.items c.self.inside.views.items c.args.event.now c.store.new.words.items
    c.change.new.views.items c.self.invariant
    (taken c.self.inside.layout c.self.inside.words.items c.as_slice.result.now c.self.inside.views.items c.as_slice-2.result.now c.args.event.now
    c.in-Some.word c.in-Some-allowed_step.step c.allowed_step.result c.as_slice.ensures.value c.as_slice-2.ensures.value
    c.allowed_step.ensures.met c.in-Some-allowed_step.is
    c.allowed_step.ensures.step c.as_slice-3.result.now c.store.new.words.items c.is_err.result c.change.result c.change.new.views.items
    c.in-Some.ensures.value c.as_slice-3.ensures.value c.is_err.ensures.value c.if-is_err.false c.change.ensures.ok c.store.ensures))

pub returns-clause-ok : goal.returns-clause-ok
returns-clause-ok c =
    subst (λ (u : Table). (allowed u c.args.event.now ≡ true)
    × (record { layout = c.self.inside.layout; words = c.store.new.words.items; views = c.change.new.views.items } ≡ after u c.args.event.now)) c.self.view_is
    (taken_law (λ (t : Table) (e : Event) (u : Table). (allowed t e ≡ true) × (u ≡ after t e)) (λ t e right met. (met, refl)) c.self.inside.layout
    c.self.inside.words.items c.self.inside.views.items c.args.event.now c.store.new.words.items c.change.new.views.items c.self.invariant
    (taken c.self.inside.layout c.self.inside.words.items c.as_slice.result.now c.self.inside.views.items c.as_slice-2.result.now c.args.event.now
    c.in-Some.word c.in-Some-allowed_step.step c.allowed_step.result c.as_slice.ensures.value c.as_slice-2.ensures.value
    c.allowed_step.ensures.met c.in-Some-allowed_step.is
    c.allowed_step.ensures.step c.as_slice-3.result.now c.store.new.words.items c.is_err.result c.change.result c.change.new.views.items
    c.in-Some.ensures.value c.as_slice-3.ensures.value c.is_err.ensures.value c.if-is_err.false c.change.ensures.ok c.store.ensures))

pub returns-in_default-clause-owners : goal.returns-in_default-clause-owners
returns-in_default-clause-owners c = owners_stay c.args.event.now.seat c.args.self.now

pub returns-in_default-clause-links : goal.returns-in_default-clause-links
returns-in_default-clause-links c = same_selections c.args.self.now

pub returns-in_default-clause-trees : goal.returns-in_default-clause-trees
returns-in_default-clause-trees c = (laws_same _ c.args.self.now c.self.invariant c.self.view_is).trees

pub returns-in_default-clause-selected : goal.returns-in_default-clause-selected
returns-in_default-clause-selected c = (laws_same _ c.args.self.now c.self.invariant c.self.view_is).selected

pub returns-in_default-clause-remembered : goal.returns-in_default-clause-remembered
returns-in_default-clause-remembered c = (laws_same _ c.args.self.now c.self.invariant c.self.view_is).remembered

pub returns-in_default-clause-filled : goal.returns-in_default-clause-filled
returns-in_default-clause-filled c = (laws_same _ c.args.self.now c.self.invariant c.self.view_is).filled

pub returns-in_default-clause-places : goal.returns-in_default-clause-places
returns-in_default-clause-places c = (laws_same _ c.args.self.now c.self.invariant c.self.view_is).places

pub returns-in_default-allowed_step-clause-owners : goal.returns-in_default-allowed_step-clause-owners
returns-in_default-allowed_step-clause-owners c = owners_stay c.args.event.now.seat c.args.self.now

pub returns-in_default-allowed_step-clause-links : goal.returns-in_default-allowed_step-clause-links
returns-in_default-allowed_step-clause-links c = same_selections c.args.self.now

pub returns-in_default-allowed_step-clause-trees : goal.returns-in_default-allowed_step-clause-trees
returns-in_default-allowed_step-clause-trees c = (laws_same _ c.args.self.now c.self.invariant c.self.view_is).trees

pub returns-in_default-allowed_step-clause-selected : goal.returns-in_default-allowed_step-clause-selected
returns-in_default-allowed_step-clause-selected c = (laws_same _ c.args.self.now c.self.invariant c.self.view_is).selected

pub returns-in_default-allowed_step-clause-remembered : goal.returns-in_default-allowed_step-clause-remembered
returns-in_default-allowed_step-clause-remembered c = (laws_same _ c.args.self.now c.self.invariant c.self.view_is).remembered

pub returns-in_default-allowed_step-clause-filled : goal.returns-in_default-allowed_step-clause-filled
returns-in_default-allowed_step-clause-filled c = (laws_same _ c.args.self.now c.self.invariant c.self.view_is).filled

pub returns-in_default-allowed_step-clause-places : goal.returns-in_default-allowed_step-clause-places
returns-in_default-allowed_step-clause-places c = (laws_same _ c.args.self.now c.self.invariant c.self.view_is).places

pub returns-then-is_err-clause-owners : goal.returns-then-is_err-clause-owners
returns-then-is_err-clause-owners c =
    let t : Table = record { layout = c.self.inside.layout; words = c.self.inside.words.items; views = c.self.inside.views.items } in
    subst (λ (u : Table). KeepsOwners c.args.event.now.seat u
    (record { layout = c.self.inside.layout; words = c.self.inside.words.items; views = c.change.new.views.items })) c.self.view_is
    (owners_refused c.args.event.now.seat t c.change.new.views.items c.is_err.result c.change.result c.is_err.ensures.value
    c.if-is_err.true c.change.ensures.err)

pub returns-then-is_err-clause-links : goal.returns-then-is_err-clause-links
returns-then-is_err-clause-links c =
    let t : Table = record { layout = c.self.inside.layout; words = c.self.inside.words.items; views = c.self.inside.views.items } in
    subst (λ (u : Table). KeepsSelections u (record { layout = c.self.inside.layout; words = c.self.inside.words.items; views = c.change.new.views.items }))
    c.self.view_is
    (refused_selections t c.change.new.views.items c.is_err.result c.change.result c.is_err.ensures.value c.if-is_err.true c.change.ensures.err)

pub returns-then-is_err-clause-rule : goal.returns-then-is_err-clause-rule
returns-then-is_err-clause-rule c =
    refused_right (record { layout = c.self.inside.layout; words = c.self.inside.words.items; views = c.self.inside.views.items })
    c.change.new.views.items c.is_err.result
    c.change.result c.self.invariant c.is_err.ensures.value c.if-is_err.true c.change.ensures.err

pub returns-then-is_err-clause-trees : goal.returns-then-is_err-clause-trees
returns-then-is_err-clause-trees c =
    (laws_refused c.self.inside.layout c.self.inside.words.items c.self.inside.views.items c.change.new.views.items c.is_err.result c.change.result
    c.self.invariant c.is_err.ensures.value c.if-is_err.true c.change.ensures.err).trees

pub returns-then-is_err-clause-selected : goal.returns-then-is_err-clause-selected
returns-then-is_err-clause-selected c =
    (laws_refused c.self.inside.layout c.self.inside.words.items c.self.inside.views.items c.change.new.views.items c.is_err.result c.change.result
    c.self.invariant c.is_err.ensures.value c.if-is_err.true c.change.ensures.err).selected

pub returns-then-is_err-clause-remembered : goal.returns-then-is_err-clause-remembered
returns-then-is_err-clause-remembered c =
    (laws_refused c.self.inside.layout c.self.inside.words.items c.self.inside.views.items c.change.new.views.items c.is_err.result c.change.result
    c.self.invariant c.is_err.ensures.value c.if-is_err.true c.change.ensures.err).remembered

pub returns-then-is_err-clause-filled : goal.returns-then-is_err-clause-filled
returns-then-is_err-clause-filled c =
    (laws_refused c.self.inside.layout c.self.inside.words.items c.self.inside.views.items c.change.new.views.items c.is_err.result c.change.result
    c.self.invariant c.is_err.ensures.value c.if-is_err.true c.change.ensures.err).filled

pub returns-then-is_err-clause-places : goal.returns-then-is_err-clause-places
returns-then-is_err-clause-places c =
    (laws_refused c.self.inside.layout c.self.inside.words.items c.self.inside.views.items c.change.new.views.items c.is_err.result c.change.result
    c.self.invariant c.is_err.ensures.value c.if-is_err.true c.change.ensures.err).places

pub returns-clause-trees : goal.returns-clause-trees
returns-clause-trees c = (laws_of _ (returns-clause-rule c)).trees

pub returns-clause-selected : goal.returns-clause-selected
returns-clause-selected c = (laws_of _ (returns-clause-rule c)).selected

pub returns-clause-remembered : goal.returns-clause-remembered
returns-clause-remembered c = (laws_of _ (returns-clause-rule c)).remembered

pub returns-clause-filled : goal.returns-clause-filled
returns-clause-filled c = (laws_of _ (returns-clause-rule c)).filled

pub returns-clause-places : goal.returns-clause-places
returns-clause-places c = (laws_of _ (returns-clause-rule c)).places
