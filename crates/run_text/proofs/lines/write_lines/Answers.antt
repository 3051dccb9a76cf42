use Rattle.std.proofs.Common.{length, ◌∙◌, arith}
use Rattle.run_text.proofs.Starts.{front_of, on_err, with_err, line_taken, line_started, rest_started}
use Rattle.run_text.proofs.lines.write_lines.Goals as goal

pub returns-in_err-write_all-clause-start : goal.returns-in_err-write_all-clause-start
returns-in_err-write_all-clause-start g c =
    let line = c.split_at-in-loop-end in
    on_err c.from_residual.result
    (line_started c.args.text.now line.result.0.now c.loop-end.done (length line.result.0.now)
    (front_of c.args.text.now c.split_at.result.1.now line.result.0.now c.loop-end.done _ c.split_at.ensures.back line.ensures.front line.ensures.front_len)
    _ _ _ c.loop-end.invariant.taken c.in_err-write_all.ensures.start)

pub loop-end-preserved : goal.loop-end-preserved
loop-end-preserved g c =
    let line = c.split_at-in-loop-end in
    record {
      within = omega (arith, c.loop-end.invariant.within, c.split_at.ensures.back_len, line.ensures.front_len);
      taken = line_taken c.args.text.now line.result.0.now c.loop-end.done (length line.result.0.now)
          (front_of c.args.text.now c.split_at.result.1.now line.result.0.now c.loop-end.done _ c.split_at.ensures.back line.ensures.front line.ensures.front_len)
          _ _ _ c.loop-end.invariant.taken c.in_ok-write_all.ensures.all;
      quiet = c.in_ok-write_all.ensures.quiet ∙ c.loop-end.invariant.quiet;
    }

pub returns-clause-start : goal.returns-clause-start
returns-clause-start g c =
    with_err c.write_all-2.result
    (rest_started c.args.text.now c.split_at-2.result.1.now c.loop-end.done c.split_at-2.ensures.back _ _ _ c.loop-end.invariant.taken)
    c.write_all-2.ensures.start
