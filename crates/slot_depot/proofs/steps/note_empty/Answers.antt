use Rattle.slot_depot.proofs.Moves.{notes_empty}
use Rattle.slot_depot.proofs.steps.note_empty.Goals as goal

pub another-requires-clause-rule : goal.another-requires-clause-rule
another-requires-clause-rule g c = notes_empty _ _ _ _ c.requires.opened
