use Rattle.std.proofs.Common.{◌≡◌, drop}
use Rattle.request_lines.specs.Session.{request_lines}
use Rattle.client_run.proofs.PartTurns.{IsWalk}
use Rattle.client_run.proofs.parts.run_part.Given as goal

abbrev pub invariant-loop-asked : goal.invariant-loop-asked
invariant-loop-asked g l =
    IsWalk l.fn.progress.dir l.fn.progress.last (drop l.fn.progress.done (request_lines l.part)) l.asked-index (g.P.KeyPass.view l.initial.pass) (g.P.KeyPass.view l.pass)
    l.replies.items l.last
    × (g.P.Homed.home l.pass ≡ g.P.Homed.home l.initial.pass)
