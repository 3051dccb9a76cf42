use Rattle.std.proofs.Common.{ap}
use Rattle.slot_depot.specs.declared.book.Book.{Book}
use Rattle.slot_depot.proofs.Moves.{deals}
use Rattle.slot_depot.proofs.steps.deal.Goals as goal

pub another-pass-requires-clause-rule : goal.another-pass-requires-clause-rule
another-pass-requires-clause-rule g c =
    let book = c.requires.book in
    deals _ _ _ _ (ap (λ (b : Book). b.opened) book) c.requires.several (ap (λ (b : Book). b.gave) book) (ap (λ (b : Book). b.took) book)
