use Rattle.std.proofs.Common.{◌∙◌}
use Rattle.bundle_reads.proofs.ReadMoves.{same_more, read_more, leads_before}
use Rattle.bundle_reads.proofs.ReadTrees.{section_reader}
use Rattle.bundle_reads.proofs.Bundles.{at_head, head_reads}
use Rattle.bundle_reads.proofs.child.child_at.Goals as goal

pub along-init : goal.along-init
along-init c =
    let p = c.args.pass.now in
    let v = p.view in
    let known = section_reader v c.args.at c.facts.ensures c.requires.reads in
    let found = c.load_head-entry.ensures.view in
    let w = c.load_head-entry.new.self.view in (
      at_head v c.args.at c.requires.reads known c.args.link c.requires.link p.seat c.load_head-entry.result found.number w c.load_head-entry.ensures.event found.view c.load_head-entry.ensures.there,
      head_reads v c.args.at c.requires.reads known c.args.link c.requires.link p.seat c.load_head-entry.result found.number w c.load_head-entry.ensures.event found.view c.load_head-entry.ensures.there,
      c.load_head-entry.ensures.same,
    )

pub returns-in-Found-clause-read : goal.returns-in-Found-clause-read
returns-in-Found-clause-read c = read_more c.args.pass.now.view c.along.pass.view c.look_along.new.pass.view c.along.invariant.1 c.look_along.ensures.read

pub returns-in-Found-clause-leads : goal.returns-in-Found-clause-leads
returns-in-Found-clause-leads c = leads_before c.args.pass.now.view c.along.pass.view c.args.link c.in-Found.child c.along.invariant.1 c.in-Found.ensures.goes.0

pub along-preserved : goal.along-preserved
along-preserved c =
    let v = c.args.pass.now.view in
    let w = c.along.pass.view in
    let u = c.look_along.new.pass.view in
    let goes = c.in-Next.ensures.goes.0 in (
      record { stands = goes.stands; null = λ none. leads_before v w c.args.link 0 c.along.invariant.1 (goes.null none); waits = goes.waits ∙ c.along.invariant.0.waits },
      read_more v w u c.along.invariant.1 c.look_along.ensures.read,
      same_more c.args.pass.now c.along.pass c.look_along.new.pass c.along.invariant.2 c.look_along.ensures.same,
    )

pub along-smaller : goal.along-smaller
along-smaller c = c.in-Next.ensures.goes.1
