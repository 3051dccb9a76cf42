use Rattle.std.proofs.Common.{◌+◌, length, ap, ◌∙◌, arith, length-append, ◌∷◌, []}
use Rattle.pass_slots.specs.Owned.{SlotParts}
use Rattle.pass_slots.proofs.Ends.{none_batched, none_retired, long_rest}
use Rattle.pass_slots.proofs.own_slots.OwnSlots.add_free.Goals as goal

pub push_back_reserved-requires : goal.push_back_reserved-requires
push_back_reserved-requires c =
    let s = c.self.inside in
    let rest = long_rest (s.retired + s.batch) s.slots.items c.self.invariant.1 in
    let batch = none_batched s.retired s.batch s.slots.items c.self.invariant.1 (ap (λ (p : SlotParts). p.batch) c.self.view_is ∙ c.requires.batch) in
    let retired = none_retired s.retired s.batch s.slots.items c.self.invariant.1 (ap (λ (p : SlotParts). p.retired) c.self.view_is ∙ c.requires.retired) in
    let free = ap (λ (p : SlotParts). length p.free) c.self.view_is in
    let room = ap (λ (p : SlotParts). p.room) c.self.view_is in
    omega (arith, rest, batch, retired, free, room, c.requires.room, c.self.invariant.0, s.slots.ok.0)

pub invariant_of-self : goal.invariant_of-self
invariant_of-self c =
    let s = c.self.inside in
    let rest = long_rest (s.retired + s.batch) s.slots.items c.self.invariant.1 in
    let batch = none_batched s.retired s.batch s.slots.items c.self.invariant.1 (ap (λ (p : SlotParts). p.batch) c.self.view_is ∙ c.requires.batch) in
    let retired = none_retired s.retired s.batch s.slots.items c.self.invariant.1 (ap (λ (p : SlotParts). p.retired) c.self.view_is ∙ c.requires.retired) in
    let free = ap (λ (p : SlotParts). length p.free) c.self.view_is in
    let room = ap (λ (p : SlotParts). p.room) c.self.view_is in
    let more = ap length c.push_back_reserved.ensures.items ∙ length-append s.slots.items (c.args.slot ∷ []) in
    (omega (arith, c.self.invariant.0, c.push_back_reserved.ensures.capacity), omega (arith, more, c.self.invariant.1), omega (arith, more, rest, batch, retired, free, room, c.requires.room))
