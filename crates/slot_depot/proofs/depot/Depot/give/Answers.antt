use Rattle.std.proofs.Common.{arith, ap, sym, ◌∙◌}
use Rattle.slot_depot.specs.Depots.{Opened, Seated}
use Rattle.slot_depot.proofs.Moves.{pushes, learns}
use Rattle.slot_depot.proofs.depot.Depot.give.Goals as goal

pub push_as-requires-clause-rule : goal.push_as-requires-clause-rule
push_as-requires-clause-rule g c =
    let invariant = c.seat.invariant in
    let seat = c.seat.view_is in
    let room = ap (λ (s : Seated). s.book.terms.room) seat ∙ c.requires.seat.room ∙ ap (λ (d : Opened). d.room) (sym c.self.view_is) in
    (pushes _ _ _ _ _ _ invariant.1 (omega (arith, invariant.2)) room (c.requires.home ∙ ap (λ (s : Seated). s.book.terms.home) (sym seat)), learns _ _ _ _)
