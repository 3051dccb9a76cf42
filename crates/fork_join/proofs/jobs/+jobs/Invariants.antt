use Rattle.std.proofs.Common.{◌+◌, ◌*◌}
use Rattle.fork_join.proofs.jobs.+jobs.Given as goal

abbrev pub decreases-run_jobs : goal.decreases-run_jobs
decreases-run_jobs g l = 2 * l.first.len

abbrev pub decreases-given : goal.decreases-given
decreases-given g l = 2 * l.first.len + 1

abbrev pub decreases-kept : goal.decreases-kept
decreases-kept g l = 2 * l.rest.len + 1
