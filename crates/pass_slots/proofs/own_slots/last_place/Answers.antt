use Rattle.std.proofs.Common.{◌-◌, ◌+◌, length, drop, arith}
use Rattle.pass_slots.proofs.Taken.{still_before}
use Rattle.pass_slots.proofs.Ends.{starts_within, long_rest, not_there}
use Rattle.pass_slots.proofs.own_slots.last_place.Goals as goal

pub loop-i-preserved : goal.loop-i-preserved
loop-i-preserved c =
    let list = c.args.slots.now in
    let ys = drop c.args.start list.items in
    let i = c.loop-i.i in
    let long = long_rest c.args.start list.items (starts_within c.args.start c.args.slot list.items c.requires.there) in
    let place = c.len-in-loop-i.result - 1 - i in
    still_before c.args.slot ys (length ys - (i + 1)) (length ys - i)
    (omega (arith, long, c.loop-i-test.true, c.len.ensures, list.ok.0)) (omega (arith, long, c.loop-i-test.true, c.len.ensures, list.ok.0))
    (not_there c.args.start (length ys - (i + 1)) place c.args.slot c.index.result.now list.items
    (omega (arith, long, c.loop-i-test.true, c.len.ensures, c.len-in-loop-i.ensures, list.ok.0)) (omega (arith, long, c.loop-i-test.true, c.len.ensures, c.len-in-loop-i.ensures, list.ok.0))
    c.index.ensures c.if-index-slot.false)
    c.loop-i.invariant
