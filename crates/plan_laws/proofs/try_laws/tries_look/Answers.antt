use Rattle.plan_laws.proofs.Looks.{look, number_look, heads_stay, steps_keep_looks, keeps_looks}
use Rattle.plan_laws.proofs.try_laws.tries_look.Goals as goal

pub returns : goal.returns
returns c = record { look = look; number = number_look; heads = heads_stay; steps = steps_keep_looks; keeps = keeps_looks }
