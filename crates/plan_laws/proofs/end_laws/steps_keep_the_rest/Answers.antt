use Rattle.plan_laws.proofs.Frames.{steps_keep, keeps_pass, keeps_try, keeps_owned}
use Rattle.plan_laws.proofs.end_laws.steps_keep_the_rest.Goals as goal

pub returns : goal.returns
returns c = record { steps = steps_keep; pass = keeps_pass; tried = keeps_try; owned = keeps_owned }
