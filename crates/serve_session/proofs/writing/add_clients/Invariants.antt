use Rattle.serve_session.proofs.Lines.{AddsFirst}
use Rattle.serve_session.proofs.writing.add_clients.Given as goal

abbrev pub invariant-loop-client : goal.invariant-loop-client
invariant-loop-client g l = AddsFirst l.fn.pieces (g.R.Runner.replied l.runner) l.client l.pieces
