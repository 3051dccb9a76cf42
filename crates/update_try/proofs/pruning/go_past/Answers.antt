use Rattle.std.proofs.Common.{◌<◌, [], ◌∷◌, ◌++◌, arith}
use Rattle.std.proofs.lemmas.List.{length-append}
use Rattle.update_try.proofs.PruneWalks.{least_more, least_same, update_more, update_same}
use Rattle.update_try.proofs.Pruned.{goes_on}
use Rattle.update_try.proofs.KeptWalks.{walks_more, walks_same}
use Rattle.update_try.proofs.ShortBundles.{short_far, short_last, short_none}
use Rattle.update_try.proofs.Steps.{same_more, same_pass}
use Rattle.update_try.proofs.pruning.go_past.Goals as goal

pub along-init : goal.along-init
along-init c =
    let p = c.args.pass.now in
    ((c.requires.past, omega arith), update_same p.view, least_same p.view, same_pass p, walks_same p.view)

pub load_entry-here-requires : goal.load_entry-here-requires
load_entry-here-requires c = record { past = (c.args.least, c.along.invariant.0.0); some = omega (arith, c.if-entry-eq0.false) }

pub along-preserved : goal.along-preserved
along-preserved c =
    let p = c.args.pass.now in
    let v = c.along.pass.view in
    let q = c.load_entry-here.new.pass in
    let here = c.load_entry-here.result in
    let e = c.load_entry-here.ensures in
    let above : c.args.least < here.number = omega (arith, c.if-here-least.false) in
    let past = c.along.invariant.0.0 in
    let stops = e.stops c.args.least past.0 past.1 past.2 in (
      (
        (past.0, past.1 ++ here.entry ∷ [], goes_on q.view c.args.at c.args.least past.0 past.1 here above stops),
        omega (arith, length-append past.1 (here.entry ∷ []), c.along.invariant.0.1),
      ),
      update_more p.view v q.view c.along.invariant.1 e.update,
      least_more p.view v q.view c.along.invariant.2 e.least,
      same_more p c.along.pass q c.along.invariant.3 e.same,
      walks_more p.view v q.view c.along.invariant.4 e.walks,
    )

pub returns-then-here-least-clause-stops : goal.returns-then-here-least-clause-stops
returns-then-here-least-clause-stops c =
    let past = c.along.invariant.0.0 in (past.0, past.1, c.load_entry-here.ensures.stops c.args.least past.0 past.1 past.2)

pub returns-then-entry-eq0-clause-update : goal.returns-then-entry-eq0-clause-update
returns-then-entry-eq0-clause-update c = c.along.invariant.1

pub returns-then-entry-eq0-clause-least : goal.returns-then-entry-eq0-clause-least
returns-then-entry-eq0-clause-least c = c.along.invariant.2

pub returns-then-here-eq0-clause-update : goal.returns-then-here-eq0-clause-update
returns-then-here-eq0-clause-update c = update_more c.args.pass.now.view c.along.pass.view c.load_entry-here.new.pass.view c.along.invariant.1 c.load_entry-here.ensures.update

pub returns-then-here-eq0-clause-least : goal.returns-then-here-eq0-clause-least
returns-then-here-eq0-clause-least c = least_more c.args.pass.now.view c.along.pass.view c.load_entry-here.new.pass.view c.along.invariant.2 c.load_entry-here.ensures.least

pub returns-then-here-least-clause-update : goal.returns-then-here-least-clause-update
returns-then-here-least-clause-update c = update_more c.args.pass.now.view c.along.pass.view c.load_entry-here.new.pass.view c.along.invariant.1 c.load_entry-here.ensures.update

pub returns-then-here-least-clause-least : goal.returns-then-here-least-clause-least
returns-then-here-least-clause-least c = least_more c.args.pass.now.view c.along.pass.view c.load_entry-here.new.pass.view c.along.invariant.2 c.load_entry-here.ensures.least

pub returns-clause-update : goal.returns-clause-update
returns-clause-update c = c.along.invariant.1

pub returns-clause-least : goal.returns-clause-least
returns-clause-least c = c.along.invariant.2

pub returns-then-entry-eq0-clause-walks : goal.returns-then-entry-eq0-clause-walks
returns-then-entry-eq0-clause-walks c = c.along.invariant.4

pub returns-clause-walks : goal.returns-clause-walks
returns-clause-walks c = c.along.invariant.4

pub returns-then-here-eq0-clause-walks : goal.returns-then-here-eq0-clause-walks
returns-then-here-eq0-clause-walks c = walks_more c.args.pass.now.view c.along.pass.view c.load_entry-here.new.pass.view c.along.invariant.4 c.load_entry-here.ensures.walks

pub returns-then-here-least-clause-walks : goal.returns-then-here-least-clause-walks
returns-then-here-least-clause-walks c = walks_more c.args.pass.now.view c.along.pass.view c.load_entry-here.new.pass.view c.along.invariant.4 c.load_entry-here.ensures.walks

pub returns-then-entry-eq0-clause-pruned : goal.returns-then-entry-eq0-clause-pruned
returns-then-entry-eq0-clause-pruned c told =
    let past = c.along.invariant.0.0 in
    short_none c.along.pass.view c.args.at c.args.least c.args.longest past.0 past.1 c.along.entry past.2 (omega (arith, c.if-entry-eq0.true))

pub returns-then-here-eq0-clause-pruned : goal.returns-then-here-eq0-clause-pruned
returns-then-here-eq0-clause-pruned c told =
    let past = c.along.invariant.0.0 in
    short_last c.load_entry-here.new.pass.view c.args.at c.args.least c.args.longest past.0 past.1 c.load_entry-here.result (c.load_entry-here.ensures.stops c.args.least past.0 past.1 past.2) (omega (arith, c.if-here-eq0.true))

pub returns-clause-pruned : goal.returns-clause-pruned
returns-clause-pruned c told =
    let past = c.along.invariant.0.0 in
    short_far c.along.pass.view c.args.at c.args.least c.args.longest past.0 past.1 c.along.entry past.2 (omega (arith, c.along-test.false, c.along.invariant.0.1))
