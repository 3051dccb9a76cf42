use Rattle.std.proofs.Common.{ap, ◌∙◌}
use Rattle.table_rule.specs.Homes.{Sat}
use Rattle.table_steps.proofs.Closed.{own_stand}
use Rattle.table_steps.proofs.Heard.{heard_keeps, note_may}
use Rattle.table_steps.proofs.pass.TablePass.hear.Goals as goal

pub absorb-requires-clause-may : goal.absorb-requires-clause-may
absorb-requires-clause-may c = note_may c.self.inside.seat.view c.note.inside.seat.view _ _ c.note.invariant c.facts-2.ensures c.facts.ensures

pub invariant_of-self : goal.invariant_of-self
invariant_of-self c = (
  heard_keeps c.self.inside.seat.view c.note.inside.seat.view c.absorb.new.seat.view _ _ c.note.invariant (ap (λ (s : Sat). s.view) c.absorb.ensures.view) c.self.inside.kept c.self.invariant.0 c.absorb.ensures.old,
  c.absorb.ensures.of,
)

pub returns-clause-own : goal.returns-clause-own
returns-clause-own c =
    own_stand c.absorb.new.seat.view c.self.inside.kept.number c.facts-3.ensures (ap (λ (s : Sat). s.view.number) c.absorb.ensures.view ∙ c.self.invariant.0.number)
