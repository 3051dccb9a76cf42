use Rattle.std.proofs.Common.{ap, sym, ◌∙◌, subst}
use Rattle.table_rule.specs.Homes.{Home, Sat, IsOf}
use Rattle.table_steps.proofs.ParcelSteps.{kept_once, lent_keeps, parcel_split}
use Rattle.table_steps.proofs.pass.TablePass.lend.Goals as goal

pub take_node-requires : goal.take_node-requires
take_node-requires c =
    kept_once c.self.inside.seat.view c.self.inside.kept c.in-Some.node c.self.invariant.0 (sym c.free_node.ensures ∙ c.in-Some.is) c.facts.ensures

pub invariant_of-self : goal.invariant_of-self
invariant_of-self c = (
  lent_keeps c.self.inside.seat.view c.self.inside.kept c.in-Some.node c.self.invariant.0 (sym c.free_node.ensures ∙ c.in-Some.is) c.facts.ensures c.split_node-seat.new.seat.view _ (ap (λ (s : Sat). s.view) c.split_node-seat.ensures.left) c.take_node.ensures,
  subst (λ (h : Home). IsOf h c.split_node-seat.new.seat) c.table.view_is c.split_node-seat.ensures.of,
)

pub invariant_of-result : goal.invariant_of-result
invariant_of-result c =
    parcel_split c.self.inside.seat.view c.self.inside.kept c.in-Some.node c.self.invariant.0 (sym c.free_node.ensures ∙ c.in-Some.is) c.facts.ensures c.split_node-seat.result.view c.split_node-seat.ensures.right
