use Rattle.std.proofs.Common.{◌≡◌, take}
use Rattle.request_lines.specs.Session.{request_lines}
use Rattle.slot_depot.specs.Depots.{IsSameSeat}
use Rattle.client_run.specs.Pooling.{capped, HasGrown}
use Rattle.client_run.proofs.TradedRuns.{Trading}
use Rattle.client_run.proofs.Turn.{IsTurn}
use Rattle.client_run.proofs.pooled.run_pooled.Given as goal

abbrev pub invariant-loop-asked : goal.invariant-loop-asked
invariant-loop-asked g l =
    let view = g.P.KeyPass.view in
    let lines = take l.asked-index (request_lines l.part) in
    IsTurn l.dir lines (capped l.own (view l.initial.pass)) (capped l.own (view l.pass)) l.replies.items l.last
    × Trading l.own lines (view l.initial.pass) (view l.pass) (g.P.PoolPass.free_nodes l.pass) l.initial.seat.book l.seat.book l.replies.items
    × HasGrown l.initial.seat.book l.seat.book
    × IsSameSeat l.initial.seat l.seat
    × (g.P.Homed.home l.pass ≡ g.P.Homed.home l.initial.pass)
