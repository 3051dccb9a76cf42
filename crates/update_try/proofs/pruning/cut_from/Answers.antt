use Rattle.std.proofs.Common.{◌<◌, ◌∙◌, inl, [], ◌∷◌, ◌++◌, ap, arith}
use Rattle.key_map.specs.Lists.{count}
use Rattle.update_try.proofs.PruneWalks.{least_more, least_still, update_more}
use Rattle.update_try.proofs.Pruned.{goes_on}
use Rattle.update_try.proofs.KeptWalks.{others_kept, others_more}
use Rattle.update_try.proofs.pruning.cut_from.Goals as goal

pub go_past-requires : goal.go_past-requires
go_past-requires c =
    let stops = c.requires.stops in
    let stop = c.args.stop in
    let above : c.args.least.number < stop.number = omega (arith, c.if-stop-least.false) in
    record { past = (stops.0, stops.1 ++ stop.entry ∷ [], goes_on c.args.pass.now.view c.args.at c.args.least.number stops.0 stops.1 stop above stops.2) }

pub cut_behind-requires-2 : goal.cut_behind-requires-2
cut_behind-requires-2 c =
    let v = c.args.pass.now.view in
    let w = c.go_past.new.pass.view in
    let keeps = c.go_past.ensures.least in
    record {
      stays = ap (count c.args.at.node) keeps.taken ∙ c.requires.stays;
      least = least_still v w c.args.least keeps c.requires.least;
      looked = c.requires.looked;
      stops = c.in-Some.ensures.stops;
      low = c.in-Some.ensures.low;
    }

pub returns-clause-update : goal.returns-clause-update
returns-clause-update c =
    update_more c.args.pass.now.view c.go_past.new.pass.view c.cut_behind-2.new.pass.view c.go_past.ensures.update c.cut_behind-2.ensures.update

pub returns-clause-least : goal.returns-clause-least
returns-clause-least c =
    least_more c.args.pass.now.view c.go_past.new.pass.view c.cut_behind-2.new.pass.view c.go_past.ensures.least c.cut_behind-2.ensures.least

pub returns-then-stop-least-clause-pruned : goal.returns-then-stop-least-clause-pruned
returns-then-stop-least-clause-pruned c = inl c.cut_behind.ensures.ends

pub returns-clause-pruned : goal.returns-clause-pruned
returns-clause-pruned c = inl c.cut_behind-2.ensures.ends

pub returns-clause-others : goal.returns-clause-others
returns-clause-others c =
    let w = c.go_past.new.pass.view in
    others_more c.args.pass.now.view w c.cut_behind-2.new.pass.view c.args.at (others_kept c.args.pass.now.view w c.args.at c.go_past.ensures.walks) c.cut_behind-2.ensures.others

pub returns-in_default-clause-others : goal.returns-in_default-clause-others
returns-in_default-clause-others c = others_kept c.args.pass.now.view c.go_past.new.pass.view c.args.at c.go_past.ensures.walks

pub returns-in_default-clause-pruned : goal.returns-in_default-clause-pruned
returns-in_default-clause-pruned c = c.go_past.ensures.pruned c.in_default.is
