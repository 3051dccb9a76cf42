use Rattle.plan_laws.proofs.Releases.{give_up, nothing_locked, unlock_step, leave_step, take_back_step}
use Rattle.plan_laws.proofs.end_laws.locks_are_given_back.Goals as goal

pub returns : goal.returns
returns c = record { give_up = give_up; nothing_locked = nothing_locked; unlock = unlock_step; leave = leave_step; take_back = take_back_step }
