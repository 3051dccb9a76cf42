use Rattle.slot_depot.proofs.Moves.{notes_full}
use Rattle.slot_depot.proofs.steps.note_full.Goals as goal

pub another-requires-clause-rule : goal.another-requires-clause-rule
another-requires-clause-rule g c = notes_full _ _ _ _ c.requires.opened
