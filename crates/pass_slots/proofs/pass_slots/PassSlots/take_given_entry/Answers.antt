use Rattle.std.proofs.Common.{ℕ, List, ap, sym}
use Rattle.pass_slots.specs.Owned.{KeptSlots}
use Rattle.pass_slots.proofs.Taken.{without_zero}
use Rattle.pass_slots.proofs.pass_slots.PassSlots.take_given_entry.Goals as goal

pub returns-else-entry-ne0 : goal.returns-else-entry-ne0
returns-else-entry-ne0 c =
    let s : KeptSlots = c.args.self.now in
    ap (λ (xs : List ℕ). record s { free = record s.free { entries = xs } }) (sym (without_zero c.args.entry s.free.entries c.if-entry-ne0.false))
