use Rattle.std.proofs.Common.{◌∙◌, arith}
use Rattle.pass_slots.proofs.Reversing.{turned_more, all_turned}
use Rattle.pass_slots.proofs.own_slots.reverse_first.Goals as goal

pub loop-i-preserved : goal.loop-i-preserved
loop-i-preserved c =
    let old = c.args.slots.now in
    let so_far = c.loop-i.invariant in (
      turned_more old.items c.loop-i.slots.items c.swap.new.self.items c.args.count c.loop-i.i (omega (arith, c.requires, old.ok.0)) (omega (arith, c.loop-i-test.true)) c.swap.ensures.items so_far.0,
      c.swap.ensures.capacity ∙ so_far.1,
      c.swap.ensures.len ∙ so_far.2,
    )

pub returns-clause-items : goal.returns-clause-items
returns-clause-items c =
    let old = c.args.slots.now in
    all_turned old.items c.loop-i.slots.items c.args.count c.loop-i.i (omega (arith, c.requires, old.ok.0)) (omega (arith, c.loop-i-test.false)) c.loop-i.invariant.0
