use Rattle.std.proofs.Common.{sym, ap, ◌∙◌, subst, Result, Err}
use Rattle.std.proofs.lemmas.Result.{err_from_is_err_and}
use Rattle.run_text.specs.declared.stop.Stop.{Stop}
use Rattle.run_text.specs.Pieces.{pieces_text}
use Rattle.run_text.specs.Sheets.{Writes}
use Rattle.run_text.proofs.batches.write_beside.Goals as goal

pub returns-in_err-write_batch-clause-written : goal.returns-in_err-write_batch-clause-written
returns-in_err-write_batch-clause-written g c =
    let error = err_from_is_err_and c.from_residual.result c.from_residual.ensures.1 in
    subst
    (λ (r : Result (Unit {0}) Stop). Writes (pieces_text c.args.known.now.dir.now c.args.known.now.records.now c.args.batch.now.pieces.now) (g.K.Sink.taken c.args.sink.now) (g.K.Sink.taken c.write_batch.new.sink) (g.K.Sink.faults c.args.sink.now) (g.K.Sink.faults c.write_batch.new.sink) r)
    (sym (error.1 ∙ ap Err error.2))
    c.in_err-write_batch.ensures
