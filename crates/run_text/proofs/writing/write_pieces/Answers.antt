use Rattle.std.proofs.Common.{length, drop, length-take, length-drop, sym, ap, ◌∙◌, subst, Result, Err, arith}
use Rattle.std.proofs.lemmas.Result.{err_from_is_err_and}
use Rattle.outside_io.specs.Streams.{one_more}
use Rattle.run_text.specs.declared.stop.Stop.{Stop}
use Rattle.run_text.specs.Pieces.{pieces_text}
use Rattle.run_text.specs.Sheets.{Writes}
use Rattle.run_text.proofs.Made.{batch_taken, batch_started}
use Rattle.run_text.proofs.writing.write_pieces.Goals as goal

pub returns-in_err-write_beside : goal.returns-in_err-write_beside
returns-in_err-write_beside g c =
    let error = err_from_is_err_and c.from_residual-in_err-write_beside.result c.from_residual-in_err-write_beside.ensures.1 in
    let here = c.in_err-write_beside.ensures.written in
    subst
    (λ (r : Result (Unit {0}) Stop). Writes (pieces_text c.args.known.now.dir.now c.args.known.now.records.now c.args.pieces.now) (g.K.Sink.taken c.args.sink.now) (g.K.Sink.taken c.write_beside.new.sink) (g.K.Sink.faults c.args.sink.now) (g.K.Sink.faults c.write_beside.new.sink) r)
    (sym (error.1 ∙ ap Err error.2))
    (record {
      taken = tt;
      start = λ stop is.
          batch_started c.args.known.now.dir.now c.args.known.now.records.now c.args.pieces.now c.batch_at-front.result.now c.loop-done.done _ c.batch_at-front.ensures.whole
          _ _ _ c.loop-done.invariant.taken (here.start stop is);
      fault = λ is. here.fault is ∙ ap one_more c.loop-done.invariant.quiet;
      quiet = λ no_fault. here.quiet no_fault ∙ c.loop-done.invariant.quiet;
    })

pub loop-done-preserved : goal.loop-done-preserved
loop-done-preserved g c =
    let batch = c.batch_at-front.result.now in
    let written = c.in_ok-write_beside.ensures.written in
    record {
      most = c.loop-done.invariant.most;
      spare = rw c.swap.ensures.y_after c.loop-done.invariant.filled_room;
      filled_room = rw c.swap.ensures.x_after (c.in_ok-write_beside.ensures.as_many ∙ c.loop-done.invariant.spare);
      within = omega (arith, c.loop-done.invariant.within, ap length c.batch_at-front.ensures.batch, length-take c.args.most (drop c.loop-done.done c.args.pieces.now), length-drop c.loop-done.done c.args.pieces.now);
      filled = rw c.swap.ensures.x_after (rw (sym c.batch_at-next.ensures.batch) c.in_ok-write_beside.ensures.next);
      taken = batch_taken c.args.known.now.dir.now c.args.known.now.records.now c.args.pieces.now batch c.loop-done.done (length batch) c.batch_at-front.ensures.whole
          _ _ _ c.loop-done.invariant.taken written.taken;
      quiet = written.quiet (λ is. cc) ∙ c.loop-done.invariant.quiet;
    }
