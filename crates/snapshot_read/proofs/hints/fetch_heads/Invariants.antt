use Rattle.std.proofs.Common.{◌≡◌}
use Rattle.snapshot_read.proofs.hints.fetch_heads.Given as goal

-- the loads change nothing
abbrev pub invariant-nodes : goal.invariant-nodes
invariant-nodes l = l.pass ≡ l.fn.pass
