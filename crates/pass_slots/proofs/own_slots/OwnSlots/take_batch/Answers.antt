use Rattle.std.proofs.Common.{◌≡◌, ◌+◌, drop, ap, ◌∙◌, arith}
use Rattle.pass_slots.specs.Owned.{SlotParts}
use Rattle.pass_slots.proofs.Ends.{none_batched}
use Rattle.pass_slots.proofs.own_slots.OwnSlots.take_batch.Goals as goal

pub returns-clause-free : goal.returns-clause-free
returns-clause-free c =
    let s = c.self.inside in
    let none : s.batch ≡ 0 = none_batched s.retired s.batch s.slots.items c.self.invariant.1 (ap (λ (p : SlotParts). p.batch) c.self.view_is ∙ c.requires) in
    let same : 0 + s.retired ≡ s.retired + s.batch = omega (arith, none) in
    ap (λ k. drop k s.slots.items) same ∙ ap (λ (p : SlotParts). p.free) c.self.view_is
