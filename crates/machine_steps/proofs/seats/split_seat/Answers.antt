use Rattle.machine_steps.proofs.SplitViews.{split_views}
use Rattle.machine_steps.proofs.seats.split_seat.Goals as goal

pub returns-clause-ok : goal.returns-clause-ok
returns-clause-ok c v found =
    split_views c.args.views.now.items c.push.new.self.items c.args.seat c.args.nodes c.index.result.now c.index_mut-view.result.now c.in_ok-part.part c.keep_rest.new.view v
    c.requires.there.within found c.index.ensures c.in_ok-part.ensures c.in_ok-push.ensures.items c.index_mut-view.ensures.value c.keep_rest.ensures
