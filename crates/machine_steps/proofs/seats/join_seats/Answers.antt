use Rattle.std.proofs.Common.{◌∙◌}
use Rattle.machine_views.specs.Gains.{with_gain}
use Rattle.machine_steps.proofs.SplitViews.{joined_views}
use Rattle.machine_steps.proofs.seats.join_seats.Goals as goal

pub returns-clause-ok : goal.returns-clause-ok
returns-clause-ok c v u found found_other =
    joined_views (λ w. with_gain w c.in_ok-gains.gains) c.args.views.now.items c.args.seat c.args.other c.index.result.now c.index-2.result.now c.index_mut-view.result.now
    c.take_gain.new.view c.replace-joined.new.dest v u found found_other c.index.ensures c.index-2.ensures c.in_ok-gains.ensures c.index_mut-view.ensures.value
    c.take_gain.ensures (c.replace-joined.ensures.after ∙ c.spent.ensures)
