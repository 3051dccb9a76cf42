use Rattle.std.proofs.Common.{sym, ◌∙◌}
use Rattle.bundle_reads.proofs.ReadMoves.{read_nothing, same_pass}
use Rattle.snapshot_read.proofs.Ways.{known_first}
use Rattle.snapshot_read.proofs.snapshot.next_on.Goals as goal

pub tries-init : goal.tries-init
tries-init g c = (read_nothing c.args.pass.now.view, same_pass c.args.pass.now, c.requires.reads, c.requires.kept)

pub returns-in-Some-known-clause-first : goal.returns-in-Some-known-clause-first
returns-in-Some-known-clause-first g c = λ at opened.
    known_first c.args.pass.now.view c.tries.pass.view c.try_next_on.result c.in-Some-known.first c.args.key at c.tries.invariant.0
    (sym c.known.ensures ∙ c.in-Some-known.is) c.try_next_on.ensures.first opened
