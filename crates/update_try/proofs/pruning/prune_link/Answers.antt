use Rattle.std.proofs.Common.{[], ◌∙◌, ap}
use Rattle.key_map.specs.Lists.{count}
use Rattle.update_try.proofs.PruneWalks.{least_more, least_still, update_more}
use Rattle.update_try.proofs.Pruned.{begins, head_least, head_update, may_head, stopped_still}
use Rattle.update_try.proofs.KeptWalks.{others_kept, others_more, walks_head, walks_more, walks_still}
use Rattle.update_try.proofs.pruning.prune_link.Goals as goal

pub load_head-head-requires : goal.load_head-head-requires
load_head-head-requires c = record { may = may_head c.args.pass.now.view c.args.at c.requires.changed }

pub go_past-requires : goal.go_past-requires
go_past-requires c =
    let v = c.args.pass.now.view in
    let w = c.load_head-head.new.self.view in
    let head = c.load_head-head.result in
    let loads = c.load_head-head.ensures in
    record { past = (head, [], begins v w c.args.at head loads.view.number c.args.own.number c.requires.changed.unmarked c.requires.changed.idle loads.view.view loads.there) }

pub returns-in_default-clause-least : goal.returns-in_default-clause-least
returns-in_default-clause-least c =
    let v = c.args.pass.now.view in
    let w = c.load_head-head.new.self.view in
    let x = c.go_past.new.pass.view in
    let view = c.load_head-head.ensures.view in
    least_still v x c.args.own (least_more v w x (head_least v w c.args.at c.load_head-head.result view.number view.view) c.go_past.ensures.least) c.requires.least

pub returns-in_default-clause-update : goal.returns-in_default-clause-update
returns-in_default-clause-update c =
    let v = c.args.pass.now.view in
    let w = c.load_head-head.new.self.view in
    let view = c.load_head-head.ensures.view in
    update_more v w c.go_past.new.pass.view (head_update v w c.args.at c.load_head-head.result view.number view.view) c.go_past.ensures.update

pub least_of_all-least-requires : goal.least_of_all-least-requires
least_of_all-least-requires c =
    let v = c.args.pass.now.view in
    let w = c.load_head-head.new.self.view in
    let x = c.go_past.new.pass.view in
    let view = c.load_head-head.ensures.view in
    record { least = least_still v x c.args.own (least_more v w x (head_least v w c.args.at c.load_head-head.result view.number view.view) c.go_past.ensures.least) c.requires.least }

pub cut_from-requires-clause-stays : goal.cut_from-requires-clause-stays
cut_from-requires-clause-stays c =
    let v = c.args.pass.now.view in
    let w = c.load_head-head.new.self.view in
    let view = c.load_head-head.ensures.view in
    let loads = head_least v w c.args.at c.load_head-head.result view.number view.view in
    ap (count c.args.at.node) (c.least_of_all-least.ensures.place.taken ∙ c.go_past.ensures.least.taken ∙ loads.taken) ∙ c.requires.changed.stays

pub cut_from-requires-clause-stops : goal.cut_from-requires-clause-stops
cut_from-requires-clause-stops c =
    let x = c.go_past.new.pass.view in
    let y = c.least_of_all-least.new.pass.view in
    let stops = c.in-Some.ensures.stops in
    let looks = c.least_of_all-least.ensures in
    (stops.0, stops.1, stopped_still x y looks.place c.args.at c.args.own.number c.least_of_all-least.result.number stops.0 stops.1 c.in-Some.stop looks.lower stops.2)

pub returns-clause-least : goal.returns-clause-least
returns-clause-least c = least_still c.least_of_all-least.new.pass.view c.cut_from.new.pass.view c.least_of_all-least.result c.cut_from.ensures.least c.least_of_all-least.ensures.least

pub returns-clause-update : goal.returns-clause-update
returns-clause-update c =
    let v = c.args.pass.now.view in
    let w = c.load_head-head.new.self.view in
    let x = c.go_past.new.pass.view in
    let y = c.least_of_all-least.new.pass.view in
    let z = c.cut_from.new.pass.view in
    let view = c.load_head-head.ensures.view in
    update_more v w z (head_update v w c.args.at c.load_head-head.result view.number view.view)
    (update_more w x z c.go_past.ensures.update (update_more x y z c.least_of_all-least.ensures.update c.cut_from.ensures.update))

pub returns-in_default-clause-pruned : goal.returns-in_default-clause-pruned
returns-in_default-clause-pruned c = c.go_past.ensures.pruned c.in_default.is

pub returns-in_default-clause-others : goal.returns-in_default-clause-others
returns-in_default-clause-others c =
    let p = c.args.pass.now in
    let q = c.load_head-head.new.self in
    let x = c.go_past.new.pass.view in
    let e = c.load_head-head.ensures in
    others_kept p.view x c.args.at (walks_more p.view q.view x (walks_head p q c.args.at.node c.args.at.side c.load_head-head.result e.event e.view) c.go_past.ensures.walks)

pub returns-clause-others : goal.returns-clause-others
returns-clause-others c =
    let p = c.args.pass.now in
    let q = c.load_head-head.new.self in
    let x = c.go_past.new.pass.view in
    let y = c.least_of_all-least.new.pass.view in
    let e = c.load_head-head.ensures in
    others_more p.view y c.cut_from.new.pass.view c.args.at
    (others_kept p.view y c.args.at (walks_more p.view x y (walks_more p.view q.view x (walks_head p q c.args.at.node c.args.at.side c.load_head-head.result e.event e.view) c.go_past.ensures.walks)
    (walks_still x y c.least_of_all-least.ensures.place)))
    c.cut_from.ensures.others
