use Rattle.plan_laws.proofs.Parting.{start_parting, link_copy, load_far_tag, unlock_upper, leave_parted, look_parted}
use Rattle.plan_laws.proofs.FarUnlinks.{mark_far, unlink_far}
use Rattle.plan_laws.proofs.end_laws.removals_wait.Goals as goal

pub returns : goal.returns
returns c = record { start = start_parting; copy = link_copy; tag = load_far_tag; unlock = unlock_upper; leave = leave_parted; look = look_parted; mark = mark_far; unlink = unlink_far }
