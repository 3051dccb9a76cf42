use Rattle.depot_runs.proofs.Seats.{all_back}
use Rattle.depot_runs.proofs.run.work_all.Goals as goal

pub returns : goal.returns
returns g c = rw (c.in_ok-back.ensures.seats) (record { all = all_back c.args.depot.now c.args.seats.items c.in_ok-left.left.items c.requires.all c.in_ok-left.ensures.left })
