use Rattle.std.proofs.Common.{subst}
use Rattle.table_steps.specs.Closes.{AreAllKeys}
use Rattle.index_runs.proofs.Seats.{all_back}
use Rattle.index_runs.proofs.sections.make_sections.Goals as goal

pub closed-requires : goal.closed-requires
closed-requires g c =
    let five = c.in-Some-taken_up in
    let back = c.work_around-four in
    record {
      all = all_back c.in-Ok.table five.four back.result.0 five.fifth back.result.1
          (subst (AreAllKeys c.in-Ok.table) five.ensures c.in-Ok.ensures.all)
          back.ensures.back back.ensures.fifth;
    }
