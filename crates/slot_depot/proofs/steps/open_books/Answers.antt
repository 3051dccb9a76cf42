use Rattle.slot_depot.proofs.Moves.{opens}
use Rattle.slot_depot.proofs.steps.open_books.Goals as goal

pub another-requires-clause-rule : goal.another-requires-clause-rule
another-requires-clause-rule g c = opens _ _ _ _ _ c.requires.first
