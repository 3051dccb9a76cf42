use Rattle.listing_times.proofs.work.list_on.Goals as goal
use Rattle.listing_times.proofs.work.list_on.Goals.{else-pairs-test, then-pairs-test+in_default}

pub pairs-init : goal.pairs-init
pairs-init g c = ((c.begin.result, c.begin.ensures.reads), c.forget.ensures c.begin.new.pass.view)

pub end-requires : goal.end-requires
end-requires g c = record {
  reads =
      elim c.pairs-test.branch [
        | else-pairs-test w ↦ rw w.pass-is c.pairs.invariant.0
        | then-pairs-test+in_default w ↦ rw w.pass-is w.next_on.ensures.reads
      ];
}
