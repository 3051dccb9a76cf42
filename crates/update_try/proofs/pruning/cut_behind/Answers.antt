use Rattle.std.proofs.Common.{◌∙◌, [], ◌∷◌, ◌++◌, ap, sym, subst}
use Rattle.index_words.specs.declared.view.View.{View}
use Rattle.key_map.specs.Lists.{count}
use Rattle.core_events.specs.CutMoves.{cut_view}
use Rattle.table_steps.specs.Cuts.{CanCut}
use Rattle.update_try.proofs.PruneWalks.{least_more, update_more}
use Rattle.update_try.proofs.Pruned.{can_cut, cut_back, cut_least, cut_update}
use Rattle.update_try.specs.Pruning.{EndsAtLeast, KeepsOthers}
use Rattle.update_try.proofs.KeptWalks.{others_kept, others_more, walks_held}
use Rattle.update_try.proofs.ShortBundles.{cut_ends, cut_others, stop_chain}
use Rattle.update_try.proofs.PruneWalks.{holds_still, walk_kept, walked_kept}
use Rattle.update_try.proofs.pruning.cut_behind.Goals as goal

pub cut-requires : goal.cut-requires
cut-requires c =
    let v = c.args.pass.now.view in
    let w = c.walk_along.new.pass.view in
    let at = c.args.at in
    let stops = c.requires.stops in
    let walk = c.walk_along.ensures in
    let can : CanCut w at.node at.side c.args.stop.entry
    = can_cut v w at c.args.least stops.0 stops.1 c.args.stop c.requires.stays c.requires.least c.requires.looked c.requires.low stops.2 walk.nexts walk.least
    walk.held walk.chain.0 walk.chain.1 in
    record { can = (at.node, at.side, can) }

pub returns-clause-update : goal.returns-clause-update
returns-clause-update c =
    let v = c.args.pass.now.view in
    let w = c.walk_along.new.pass.view in
    let at = c.args.at in
    let stops = c.requires.stops in
    let walk = c.walk_along.ensures in
    let can : CanCut w at.node at.side c.args.stop.entry
    = can_cut v w at c.args.least stops.0 stops.1 c.args.stop c.requires.stays c.requires.least c.requires.looked c.requires.low stops.2 walk.nexts walk.least
    walk.held walk.chain.0 walk.chain.1 in
    update_more v w c.cut.new.self.view walk.update (cut_update w c.cut.new.self.view c.args.stop.entry can.back (c.cut.ensures.gives at.node at.side can))

pub returns-clause-least : goal.returns-clause-least
returns-clause-least c =
    let v = c.args.pass.now.view in
    let w = c.walk_along.new.pass.view in
    let at = c.args.at in
    let stops = c.requires.stops in
    let walk = c.walk_along.ensures in
    let can : CanCut w at.node at.side c.args.stop.entry
    = can_cut v w at c.args.least stops.0 stops.1 c.args.stop c.requires.stays c.requires.least c.requires.looked c.requires.low stops.2 walk.nexts walk.least
    walk.held walk.chain.0 walk.chain.1 in
    least_more v w c.cut.new.self.view walk.least (cut_least w c.cut.new.self.view c.args.stop.entry can.back (c.cut.ensures.gives at.node at.side can))

pub walk_along-requires : goal.walk_along-requires
walk_along-requires c =
    let stops = c.requires.stops in
    record { stands = (stops.0, stops.1 ++ c.args.stop.entry ∷ [], stops.2.stands, stops.2.part) }

-- behind the walk the whole bundle is known
pub returns-clause-ends : goal.returns-clause-ends
returns-clause-ends c =
    let v = c.args.pass.now.view in
    let p = c.walk_along.new.pass in
    let w = p.view in
    let at = c.args.at in
    let stop = c.args.stop in
    let stops = c.requires.stops in
    let s = stops.2 in
    let walk = c.walk_along.ensures in
    let can : CanCut w at.node at.side stop.entry
    = can_cut v w at c.args.least stops.0 stops.1 stop c.requires.stays c.requires.least c.requires.looked c.requires.low s walk.nexts walk.least
    walk.held walk.chain.0 walk.chain.1 in
    let event = c.cut.ensures.event.1 in
    subst (λ (x : View). EndsAtLeast x at c.args.least.number)
    (sym (c.cut.ensures.gives at.node at.side can
    ∙ ap (cut_view w stop.entry) (cut_back v w at c.args.least stops.0 stops.1 stop c.requires.stays c.requires.least c.requires.looked c.requires.low s
    walk.nexts walk.least walk.held walk.chain.0 walk.chain.1)))
    (cut_ends w.layout event.words event.views event.rule p.seat w event.seat at stops.0 stop.entry stops.1 walk.chain.0
    (holds_still v w at stops.0 walk.held s.holds)
    (ap (count at.node) walk.least.taken ∙ c.requires.stays)
    (stop_chain v w at c.args.least.number stops.0 stops.1 walk.chain.0 stop s walk.nexts walk.chain.1) c.args.least.number stop.number stop.next
    (walk_kept v w at.node c.args.least.number stops.0 stop.entry stops.1 walk.nexts s.walked)
    (walked_kept v w at.node stop.entry stop.number stop.next walk.nexts s.here))

pub returns-clause-others : goal.returns-clause-others
returns-clause-others c =
    let v = c.args.pass.now.view in
    let p = c.walk_along.new.pass in
    let w = p.view in
    let at = c.args.at in
    let stop = c.args.stop in
    let stops = c.requires.stops in
    let s = stops.2 in
    let walk = c.walk_along.ensures in
    let can : CanCut w at.node at.side stop.entry
    = can_cut v w at c.args.least stops.0 stops.1 stop c.requires.stays c.requires.least c.requires.looked c.requires.low s walk.nexts walk.least
    walk.held walk.chain.0 walk.chain.1 in
    let event = c.cut.ensures.event.1 in
    others_more v w c.cut.new.self.view at (others_kept v w at (walks_held v w walk.nexts walk.held))
    (subst (KeepsOthers w at)
    (sym (c.cut.ensures.gives at.node at.side can
    ∙ ap (cut_view w stop.entry) (cut_back v w at c.args.least stops.0 stops.1 stop c.requires.stays c.requires.least c.requires.looked c.requires.low s
    walk.nexts walk.least walk.held walk.chain.0 walk.chain.1)))
    (cut_others w.layout event.words event.views event.rule p.seat w event.seat at stops.0 stop.entry stops.1 walk.chain.0
    (holds_still v w at stops.0 walk.held s.holds)
    (ap (count at.node) walk.least.taken ∙ c.requires.stays)
    (stop_chain v w at c.args.least.number stops.0 stops.1 walk.chain.0 stop s walk.nexts walk.chain.1)))
