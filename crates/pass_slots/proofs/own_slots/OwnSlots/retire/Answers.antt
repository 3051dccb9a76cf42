use Rattle.std.proofs.Common.{◌+◌, ◌++◌, ◌∷◌, [], take, reverse, ap, ◌∙◌}
use Rattle.pass_slots.specs.Owned.{SlotParts}
use Rattle.pass_slots.proofs.Ends.{retired_more}
use Rattle.pass_slots.proofs.own_slots.OwnSlots.retire.Goals as goal

pub returns-clause-retired : goal.returns-clause-retired
returns-clause-retired c =
    let s = c.self.inside in
    ap (λ ys. reverse (take (s.retired + 1) ys)) c.push_front_reserved.ensures.items
    ∙ retired_more c.args.slot s.retired s.slots.items
    ∙ ap (λ (p : SlotParts). p.retired ++ c.args.slot ∷ []) c.self.view_is
