use Rattle.std.proofs.Common.{ℕ, List, ap, sym}
use Rattle.pass_slots.specs.Owned.{KeptSlots}
use Rattle.pass_slots.proofs.Taken.{without_zero}
use Rattle.pass_slots.proofs.pass_slots.PassSlots.take_given_node.Goals as goal

pub returns-else-node-ne0 : goal.returns-else-node-ne0
returns-else-node-ne0 c =
    let s : KeptSlots = c.args.self.now in
    ap (λ (xs : List ℕ). record s { free = record s.free { nodes = xs } }) (sym (without_zero c.args.node s.free.nodes c.if-node-ne0.false))
