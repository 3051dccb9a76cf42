use Rattle.std.proofs.Common.{◌≡◌, ◌<◌, ◌++◌, ◌∷◌, [], ap, ◌∙◌, subst, arith, refl}
use Rattle.std.proofs.lemmas.List.{length-append}
use Rattle.index_words.specs.declared.layout.Layout.{Layout}
use Rattle.plan_laws.proofs.Frames.{keeps_try}
use Rattle.update_try.specs.Walked.{HoldsPart}
use Rattle.update_try.proofs.LockedBundles.{part_ends, part_few, may_walk, walked_try, walked_looks, walked_nexts, walked_long, walked_on, walked_part, walked_trying, walked_counts, walked_update, walked_least, walked_held}
use Rattle.update_try.proofs.PruneWalks.{update_same, update_more, least_same, least_more}
use Rattle.plan_laws.proofs.Looks.{keeps_looks}
use Rattle.update_try.proofs.Steps.{looks_same, same_pass, same_more, try_same}
use Rattle.update_try.proofs.walking.walk_along.Goals as goal

pub along-init : goal.along-init
along-init c =
    let p = c.args.pass.now in
    let start = c.requires.stands in (
      ([], refl),
      (start.0, start.1, start.2, start.3, omega arith),
      looks_same p.view,
      (λ place item is. is),
      try_same p.view,
      same_pass p,
      update_same p.view,
      least_same p.view,
      refl,
      (λ n nodes t. t),
      refl,
    )

pub load_next-entry-requires : goal.load_next-entry-requires
load_next-entry-requires c =
    let some : 0 < c.along.entry = omega (arith, c.along-test.true) in
    let whole = c.along.invariant.1 in
    record { may = may_walk c.along.pass.view c.args.at whole.0 c.along.entry whole.2 some }

pub along-smaller : goal.along-smaller
along-smaller c =
    let v = c.along.pass.view in
    let w = c.load_next-entry.new.self.view in
    let some : 0 < c.along.entry = omega (arith, c.along-test.true) in
    let whole = c.along.invariant.1 in
    let few = part_few v c.facts.ensures c.args.at whole.0 c.along.entry whole.1 whole.2 some whole.3 in
    let long = walked_long v c.args.at whole.0 c.along.entry whole.2 some w c.load_next-entry.result c.load_next-entry.ensures.view c.load_next-entry.ensures.there in
    let same : w.layout.entries ≡ v.layout.entries = ap (λ (z : Layout). z.entries) c.load_next-entry.ensures.same.layout in
    omega (arith, few, long, same, whole.4)

pub along-preserved : goal.along-preserved
along-preserved c =
    let p = c.args.pass.now in
    let q = c.load_next-entry.new.self in
    let v = c.along.pass.view in
    let w = q.view in
    let entry = c.along.entry in
    let at = c.args.at in
    let some : 0 < entry = omega (arith, c.along-test.true) in
    let part = c.along.invariant.0 in
    let whole = c.along.invariant.1 in
    let head = whole.0 in
    let on = whole.2 in
    let next = c.load_next-entry.result in
    let e = c.load_next-entry.ensures in
    let long = walked_long v at head entry on some w next e.view e.there in (
      (part.0 ++ entry ∷ [], walked_part v at head entry on some w next e.view e.there c.args.first part.0 part.1),
      (
        head,
        whole.1 ++ entry ∷ [],
        walked_on v at head entry on some w next e.view e.there,
        walked_part v at head entry on some w next e.view e.there head whole.1 whole.3,
        omega (arith, long, whole.4, length-append whole.1 (entry ∷ [])),
      ),
      keeps_looks p.view v w c.along.invariant.2 (walked_looks v at head entry on some w next e.view e.there),
      (λ place item is. walked_nexts v at head entry on some w next e.view e.there place item (c.along.invariant.3 place item is)),
      keeps_try p.view v w c.along.invariant.4 (walked_try v at head entry on some w next e.view e.there),
      same_more p c.along.pass q c.along.invariant.5 e.same,
      update_more p.view v w c.along.invariant.6 (walked_update v at head entry on some w next e.view e.there),
      least_more p.view v w c.along.invariant.7 (walked_least v at head entry on some w next e.view e.there),
      walked_held v at head entry on some w next e.view e.there ∙ c.along.invariant.8,
      (λ n nodes t. walked_trying v at head entry on some w next e.view e.there n nodes (c.along.invariant.9 n nodes t)),
      walked_counts v at head entry on some w next e.view e.there ∙ c.along.invariant.10,
    )

pub returns-clause-chain : goal.returns-clause-chain
returns-clause-chain c =
    let part = c.along.invariant.0 in
    let none : c.along.entry ≡ 0 = omega (arith, c.along-test.false) in
    (part.0, part_ends c.along.pass.view c.args.at.node c.args.first part.0 (subst (HoldsPart c.along.pass.view c.args.at.node c.args.first part.0) none part.1))
