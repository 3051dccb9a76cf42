use Rattle.std.proofs.Common.{sym, ap, ◌∙◌, subst, Result, Err}
use Rattle.std.proofs.lemmas.Result.{err_from_is_err_and}
use Rattle.outside_io.specs.Streams.{one_more}
use Rattle.run_text.specs.declared.stop.Stop.{Stop}
use Rattle.run_text.specs.Pieces.{pieces_text}
use Rattle.run_text.specs.Sheets.{Writes}
use Rattle.run_text.proofs.Made.{sheet_taken, sheet_started}
use Rattle.run_text.proofs.batches.write_batch.Goals as goal

pub returns-in_err-write : goal.returns-in_err-write
returns-in_err-write g c =
    let error = err_from_is_err_and c.from_residual.result c.from_residual.ensures.1 in
    subst
    (λ (r : Result (Unit {0}) Stop). Writes (pieces_text c.args._known.now.dir.now c.args._known.now.records.now c.args.batch.now.pieces.now) (g.K.Sink.taken c.args.sink.now) (g.K.Sink.taken c.write.new.sink) (g.K.Sink.faults c.args.sink.now) (g.K.Sink.faults c.write.new.sink) r)
    (sym (error.1 ∙ ap Err error.2))
    (record {
      taken = tt;
      start = λ stop is.
          sheet_started c.args._known.now.dir.now c.args._known.now.records.now c.args.batch.now.pieces.now c.args.batch.now.sheets.now c.requires c.loop-place.place c.index-sheets-place.result c.loop-place-test.true c.index-sheets-place.is
          _ _ _ (c.loop-place.invariant.taken) (c.in_err-write.ensures.start stop is);
      fault = λ is. c.in_err-write.ensures.fault is ∙ ap one_more c.loop-place.invariant.quiet;
      quiet = λ no_fault. c.in_err-write.ensures.quiet no_fault ∙ c.loop-place.invariant.quiet;
    })

pub loop-place-preserved : goal.loop-place-preserved
loop-place-preserved g c = record {
  taken =
      sheet_taken c.args._known.now.dir.now c.args._known.now.records.now c.args.batch.now.pieces.now c.args.batch.now.sheets.now c.requires c.loop-place.place c.index-sheets-place.result c.loop-place-test.true c.index-sheets-place.is
      _ _ _ (c.loop-place.invariant.taken) c.in_ok-write.ensures.filled c.in_ok-write.ensures.taken;
  quiet = c.in_ok-write.ensures.quiet (λ is. cc) ∙ c.loop-place.invariant.quiet;
}
