use Rattle.std.proofs.Common.{◌+◌, ◌-◌, ◌*◌, length}
use Rattle.fork_join.proofs.places.+places.Given as goal

abbrev pub decreases-change_from : goal.decreases-change_from
decreases-change_from g l = 4 * length l.s.now

abbrev pub decreases-change_both : goal.decreases-change_both
decreases-change_both g l = 4 * (length l.first.now + length l.rest.now) - 1

abbrev pub decreases-change_both-given : goal.decreases-change_both-given
decreases-change_both-given g l = 4 * length l.first.now + 1

abbrev pub decreases-change_both-kept : goal.decreases-change_both-kept
decreases-change_both-kept g l = 4 * length l.rest.now + 1
