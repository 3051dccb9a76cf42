use Rattle.std.proofs.Common.{List, ◌∙◌, ap, subst, Result, Err}
use Rattle.std.proofs.lemmas.Result.{IfOk-weaker, err_from_is_err_and}
use Rattle.std.specs.Prelude.{IsErrOf}
use Rattle.run_text.specs.declared.pieces.Piece.{Piece}
use Rattle.run_text.specs.declared.stop.Stop.{Stop}
use Rattle.serve_session.specs.Texts.{AddsClients}
use Rattle.serve_session.proofs.Lines.{all_in_range, nothing_started, text_taken, started_in_pieces, started_in_last}
use Rattle.serve_session.proofs.writing.write_run.Goals as goal

pub write-requires-clause-in_range : goal.write-requires-clause-in_range
write-requires-clause-in_range g c κs within =
    all_in_range c.args.dir.now c.args.records.now (g.R.Runner.replied c.args.runner.now) c.args.updates.now _ _
    (subst (λ (ps : List Piece). AddsClients ps (g.R.Runner.replied c.args.runner.now) c.add_clients.new.pieces) c.new-pieces.ensures c.in_ok-add_clients.ensures)
    c.in_ok-add_journal.ensures c.requires.replies c.requires.keys

pub returns-in_err-add_clients-clause-start : goal.returns-in_err-add_clients-clause-start
returns-in_err-add_clients-clause-start g c = λ stop is. nothing_started _ _

pub returns-in_err-add_journal-clause-start : goal.returns-in_err-add_journal-clause-start
returns-in_err-add_journal-clause-start g c = λ stop is. nothing_started _ _

pub returns-in_err-write-clause-start : goal.returns-in_err-write-clause-start
returns-in_err-write-clause-start g c = λ stop is.
    let error = err_from_is_err_and c.from_residual-in_err-write.result c.from_residual-in_err-write.ensures.1 in
    started_in_pieces c.args.dir.now c.args.records.now (g.R.Runner.replied c.args.runner.now) c.args.updates.now _ _
    (subst (λ (ps : List Piece). AddsClients ps (g.R.Runner.replied c.args.runner.now) c.add_clients.new.pieces) c.new-pieces.ensures c.in_ok-add_clients.ensures)
    c.in_ok-add_journal.ensures _ _
    (c.in_err-write.ensures.start stop (subst (λ (r : Result (Unit {0}) Stop). IsErrOf r stop) (error.1 ∙ ap Err error.2) is))

pub returns-clause-taken : goal.returns-clause-taken
returns-clause-taken g c =
    IfOk-weaker c.write_last.result _ _
    (λ done taken.
    text_taken c.args.dir.now c.args.records.now (g.R.Runner.replied c.args.runner.now) c.args.updates.now _ _
    (subst (λ (ps : List Piece). AddsClients ps (g.R.Runner.replied c.args.runner.now) c.add_clients.new.pieces) c.new-pieces.ensures c.in_ok-add_clients.ensures)
    c.in_ok-add_journal.ensures _ _ _ c.in_ok-write.ensures.taken taken)
    c.write_last.ensures.taken

pub returns-clause-start : goal.returns-clause-start
returns-clause-start g c = λ stop is.
    started_in_last c.args.dir.now c.args.records.now (g.R.Runner.replied c.args.runner.now) c.args.updates.now _ _
    (subst (λ (ps : List Piece). AddsClients ps (g.R.Runner.replied c.args.runner.now) c.add_clients.new.pieces) c.new-pieces.ensures c.in_ok-add_clients.ensures)
    c.in_ok-add_journal.ensures _ _ _ c.in_ok-write.ensures.taken (c.write_last.ensures.start stop is)
