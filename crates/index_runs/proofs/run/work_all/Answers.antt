use Rattle.index_runs.proofs.Keys.{all_laid_down}
use Rattle.index_runs.proofs.run.work_all.Goals as goal

pub returns : goal.returns
returns g c =
    rw (c.in_ok-back.ensures.keys)
    (record { all = all_laid_down c.args.index.now c.args.keys.items c.in_ok-left.left.items c.requires.all c.in_ok-left.ensures.laid })
