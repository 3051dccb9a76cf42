use Rattle.std.proofs.Common.{ap, ◌∙◌, sym, subst, Some, None, [], ◌∷◌}
use Rattle.index_words.specs.declared.side.Side.TheVariants.{Right}
use Rattle.index_words.specs.declared.view.View.{View}
use Rattle.core_events.specs.UpdateMoves.{prepared}
use Rattle.core_laws.specs.ViewNeeds.{MayPrepare}
use Rattle.core_updates.specs.SetLinks.{set_to}
use Rattle.table_steps.specs.Raises.{HasNew}
use Rattle.table_tests.proofs.FirstPut.{may_prepare, may_raise, has_new, may_set, may_unlock}
use Rattle.table_tests.proofs.first_put.put_by_steps.Goals as goal

pub prepare-requires : goal.prepare-requires
prepare-requires c = record { may = subst (λ (v : View). MayPrepare v 0 Right 1) (sym c.requires.locked) may_prepare }

pub raise-place-requires-clause-may : goal.raise-place-requires-clause-may
raise-place-requires-clause-may c = (
  set_to 0 Right 1 ∷ [],
  None,
  may_raise c.prepare.new.self.view c.prepare.new.self.number (c.prepare.ensures.view ∙ ap (λ (v : View). prepared v Right 0 1) c.requires.locked)
      (ap (λ (v : View). v.number) c.prepare.ensures.view ∙ c.number_fact.ensures ∙ ap Some (sym c.prepare.ensures.same.number)),
)

pub set_link-requires : goal.set_link-requires
set_link-requires c = record {
  may = may_set c.prepare.new.self.view c.raise-place.new.self.view c.finalise.new.self.view c.prepare.new.self.number c.raise-place.result
      (c.prepare.ensures.view ∙ ap (λ (v : View). prepared v Right 0 1) c.requires.locked)
      (ap (λ (v : View). v.number) c.prepare.ensures.view ∙ c.number_fact.ensures ∙ ap Some (sym c.prepare.ensures.same.number)) c.raise-place.ensures.gives c.finalise.ensures.view;
}

pub unlock-requires : goal.unlock-requires
unlock-requires c = record {
  may = may_unlock c.prepare.new.self.view c.raise-place.new.self.view c.finalise.new.self.view c.prepare.new.self.number c.raise-place.result
      (c.prepare.ensures.view ∙ ap (λ (v : View). prepared v Right 0 1) c.requires.locked)
      (ap (λ (v : View). v.number) c.prepare.ensures.view ∙ c.number_fact.ensures ∙ ap Some (sym c.prepare.ensures.same.number)) c.raise-place.ensures.gives c.finalise.ensures.view
      c.set_link.new.self.view c.set_link.ensures.view;
}

pub raise-place-requires-clause-new : goal.raise-place-requires-clause-new
raise-place-requires-clause-new c =
    subst (λ (v : View). HasNew v (1 ∷ 0 ∷ 0 ∷ [])) (sym (c.prepare.ensures.view ∙ ap (λ (v : View). prepared v Right 0 1) c.requires.locked)) has_new
