use Rattle.std.proofs.Common.{ap, ◌∙◌}
use Rattle.table_rule.specs.Homes.{Sat}
use Rattle.table_steps.proofs.Closed.{own_stand}
use Rattle.table_steps.proofs.ParcelSteps.{adopted_fits, adopted_keeps, parcel_may}
use Rattle.table_steps.proofs.pass.TablePass.adopt.Goals as goal

pub absorb-requires-clause-may : goal.absorb-requires-clause-may
absorb-requires-clause-may c = parcel_may c.self.inside.seat.view c.parcel.inside.seat.view _ _ _ c.parcel.invariant c.facts-2.ensures c.facts.ensures

pub regain_node-requires : goal.regain_node-requires
regain_node-requires c =
    adopted_fits c.self.inside.seat.view c.parcel.inside.seat.view c.absorb.new.seat.view c.self.inside.kept c.parcel.inside.node _ _ c.parcel.invariant (ap (λ (s : Sat). s.view) c.absorb.ensures.view) c.self.invariant.0 c.facts-3.ensures

pub invariant_of-self : goal.invariant_of-self
invariant_of-self c = (
  adopted_keeps c.self.inside.seat.view c.parcel.inside.seat.view c.absorb.new.seat.view c.self.inside.kept c.parcel.inside.node _ _ c.parcel.invariant (ap (λ (s : Sat). s.view) c.absorb.ensures.view) c.self.invariant.0 _ c.regain_node.ensures c.absorb.ensures.old,
  c.absorb.ensures.of,
)

pub returns-clause-own : goal.returns-clause-own
returns-clause-own c =
    own_stand c.absorb.new.seat.view c.self.inside.kept.number c.facts-3.ensures (ap (λ (s : Sat). s.view.number) c.absorb.ensures.view ∙ c.self.invariant.0.number)
