use Rattle.std.proofs.Common.{arith}
use Rattle.std.proofs.lemmas.Result.{err_from_is_err_and}
use Rattle.outside_io.proofs.Pieces.{read_both, length-piece}
use Rattle.outside_io.proofs.reading.read_all.Goals as goal

pub returns-then-n-limit-clause-refused : goal.returns-then-n-limit-clause-refused
returns-then-n-limit-clause-refused g c = record {
  bytes = _;
  read = read_both _ _ _ _ _ c.loop-bytes.invariant.read c.in_ok-n.ensures.given;
  count = rw (length-piece _ _ _ c.in_ok-n.ensures.room) (omega arith, omega (arith, c.in_ok-n.ensures.room, c.loop-bytes.invariant.room, c.loop-bytes.invariant.within));
}

pub returns-in_err-extend_from_slice-clause-refused : goal.returns-in_err-extend_from_slice-clause-refused
returns-in_err-extend_from_slice-clause-refused g c =
    let exit = c.from_residual-in_err-extend_from_slice in
    let p = err_from_is_err_and exit.result exit.ensures.1 in
    rw (p.1, p.2) (record {
      bytes = _;
      read = read_both _ _ _ _ _ c.loop-bytes.invariant.read c.in_ok-n.ensures.given;
      count = rw (length-piece _ _ _ c.in_ok-n.ensures.room) (omega arith);
    })
