use Rattle.plan_laws.proofs.Tries.{lock_step, loads_keep, last_unlock}
use Rattle.plan_laws.proofs.try_laws.tries_lock.Goals as goal

pub returns : goal.returns
returns c = record { step = lock_step; loads = loads_keep; unlock = last_unlock }
