use Rattle.replay_check.proofs.turns.reply_at.Goals as goal

pub returns-in-None-clause-recorded : goal.returns-in-None-clause-recorded
returns-in-None-clause-recorded c = λ records below. c.unplaced.ensures.recorded records
