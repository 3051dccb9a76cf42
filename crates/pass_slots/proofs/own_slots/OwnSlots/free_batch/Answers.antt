use Rattle.std.proofs.Common.{◌++◌, reverse, ap, ◌∙◌}
use Rattle.pass_slots.specs.Owned.{SlotParts}
use Rattle.pass_slots.proofs.Ends.{freed, still_retired}
use Rattle.pass_slots.proofs.own_slots.OwnSlots.free_batch.Goals as goal

pub returns-clause-free : goal.returns-clause-free
returns-clause-free c =
    let s = c.self.inside in
    freed s.retired s.batch s.slots.items c.reverse_first.new.slots.items c.rotate_left.new.self.items c.reverse_first-2.new.slots.items c.self.invariant.1
    c.reverse_first.ensures.items c.rotate_left.ensures.items c.reverse_first-2.ensures.items
    ∙ ap (λ (p : SlotParts). p.free ++ p.batch) c.self.view_is

pub returns-clause-retired : goal.returns-clause-retired
returns-clause-retired c =
    let s = c.self.inside in
    ap reverse (still_retired s.retired s.batch s.slots.items c.reverse_first.new.slots.items c.rotate_left.new.self.items c.reverse_first-2.new.slots.items c.self.invariant.1
    c.reverse_first.ensures.items c.rotate_left.ensures.items c.reverse_first-2.ensures.items)
    ∙ ap (λ (p : SlotParts). p.retired) c.self.view_is
