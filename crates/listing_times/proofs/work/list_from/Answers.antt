use Rattle.listing_times.proofs.work.list_from.Goals as goal
use Rattle.listing_times.proofs.work.list_from.Goals.{else-pairs-test, then-pairs-test+in_default}

pub end-requires : goal.end-requires
end-requires g c = record {
  reads =
      elim c.pairs-test.branch [
        | else-pairs-test w ↦ rw w.pass-is c.pairs.invariant
        | then-pairs-test+in_default w ↦ rw w.pass-is w.next_from.ensures.reads
      ];
}
