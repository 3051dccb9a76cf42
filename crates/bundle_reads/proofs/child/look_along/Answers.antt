use Rattle.std.proofs.Common.{◌≡◌, ◌<◌, ◌≤◌, arith}
use Rattle.table_steps.specs.Loads.{FoundChild}
use Rattle.bundle_reads.proofs.ReadTrees.{section_reader}
use Rattle.bundle_reads.proofs.Bundles.{number_reads, pending_waits, pending_elsewhere, may_child, at_selected, child_leads, child_reads, child_waits, may_next, next_reads, at_next, next_closer}
use Rattle.bundle_reads.proofs.child.look_along.Goals as goal

pub returns-then-number-eq0-clause-read : goal.returns-then-number-eq0-clause-read
returns-then-number-eq0-clause-read c =
    let v = c.args.pass.now.view in
    let known = section_reader v c.args.at c.facts.ensures c.requires.reads in
    number_reads v c.args.at c.requires.reads known c.args.link c.requires.link c.args.entry c.requires.stands c.requires.some c.load_ts-number.result
    c.load_ts-number.new.self.view c.load_ts-number.ensures.view

pub returns-then-number-eq0-clause-goes : goal.returns-then-number-eq0-clause-goes
returns-then-number-eq0-clause-goes c =
    let v = c.args.pass.now.view in
    let known = section_reader v c.args.at c.facts.ensures c.requires.reads in
    let none : c.load_ts-number.result ≡ 0 = omega arith in (
      pending_waits v c.args.at c.requires.reads known c.args.link c.requires.link c.args.entry c.requires.stands c.requires.some c.load_ts-number.result
          c.load_ts-number.new.self.view c.load_ts-number.ensures.view none,
      pending_elsewhere v c.args.at c.requires.reads known c.args.link c.requires.link c.args.entry c.requires.stands c.requires.some c.load_ts-number.result
          c.load_ts-number.new.self.view c.load_ts-number.ensures.view c.args.pass.now.seat c.load_ts-number.ensures.event none,
    )

pub load_ptr-requires : goal.load_ptr-requires
load_ptr-requires c =
    let v = c.args.pass.now.view in
    let known = section_reader v c.args.at c.facts.ensures c.requires.reads in
    record {
      may = may_child v c.args.at c.requires.reads known c.args.link c.requires.link c.args.entry c.requires.stands c.requires.some
          c.load_ts-number.result c.load_ts-number.new.self.view c.load_ts-number.ensures.view;
    }

pub returns-then-number-at-clause-read : goal.returns-then-number-at-clause-read
returns-then-number-at-clause-read c =
    let v = c.args.pass.now.view in
    let known = section_reader v c.args.at c.facts.ensures c.requires.reads in
    let x = c.load_ts-number.result in
    let y = c.load_ts-number.new.self in
    let above : 0 < x = omega arith in
    let past : x ≤ c.args.at = omega arith in
    let selected = at_selected v c.args.at c.requires.reads known c.args.link c.requires.link c.args.entry c.requires.stands c.requires.some x y.view
    c.load_ts-number.ensures.view above past in
    let found : FoundChild y c.args.entry c.load_ptr.result c.load_ptr.new.self.view = c.load_ptr.ensures.selected selected in
    child_reads v c.args.at c.requires.reads known c.args.link c.requires.link c.args.entry c.requires.stands c.requires.some x y.view
    c.load_ts-number.ensures.view above past y.seat c.load_ptr.result c.load_ptr.new.self.view found.event found.view

pub returns-then-number-at-clause-goes : goal.returns-then-number-at-clause-goes
returns-then-number-at-clause-goes c =
    let v = c.args.pass.now.view in
    let known = section_reader v c.args.at c.facts.ensures c.requires.reads in
    let x = c.load_ts-number.result in
    let y = c.load_ts-number.new.self in
    let above : 0 < x = omega arith in
    let past : x ≤ c.args.at = omega arith in
    let selected = at_selected v c.args.at c.requires.reads known c.args.link c.requires.link c.args.entry c.requires.stands c.requires.some x y.view
    c.load_ts-number.ensures.view above past in
    let found : FoundChild y c.args.entry c.load_ptr.result c.load_ptr.new.self.view = c.load_ptr.ensures.selected selected in (
      child_leads v c.args.at c.requires.reads known c.args.link c.requires.link c.args.entry c.requires.stands c.requires.some x y.view
          c.load_ts-number.ensures.view above past y.seat c.load_ptr.result c.load_ptr.new.self.view found.event found.view,
      child_waits v c.args.at c.requires.reads known c.args.link c.requires.link c.args.entry c.requires.stands c.requires.some x y.view
          c.load_ts-number.ensures.view above past y.seat c.load_ptr.result c.load_ptr.new.self.view found.event found.view,
    )

pub load_next-next-requires : goal.load_next-next-requires
load_next-next-requires c =
    let v = c.args.pass.now.view in
    let known = section_reader v c.args.at c.facts.ensures c.requires.reads in
    let over : c.args.at < c.load_ts-number.result = omega arith in
    record {
      may = may_next v c.args.at c.requires.reads known c.args.link c.requires.link c.args.entry c.requires.stands c.requires.some
          c.load_ts-number.result c.load_ts-number.new.self.view c.load_ts-number.ensures.view over;
    }

pub returns-clause-read : goal.returns-clause-read
returns-clause-read c =
    let v = c.args.pass.now.view in
    let known = section_reader v c.args.at c.facts.ensures c.requires.reads in
    let y = c.load_ts-number.new.self in
    let n = c.load_next-next.new.self in
    let over : c.args.at < c.load_ts-number.result = omega arith in
    next_reads v c.args.at c.requires.reads known c.args.link c.requires.link c.args.entry c.requires.stands c.requires.some c.load_ts-number.result y.view
    c.load_ts-number.ensures.view over y.seat c.load_next-next.result n.view c.load_next-next.ensures.event c.load_next-next.ensures.view
    c.load_next-next.ensures.there

pub returns-clause-goes : goal.returns-clause-goes
returns-clause-goes c =
    let v = c.args.pass.now.view in
    let known = section_reader v c.args.at c.facts.ensures c.requires.reads in
    let y = c.load_ts-number.new.self in
    let n = c.load_next-next.new.self in
    let over : c.args.at < c.load_ts-number.result = omega arith in
    let x : c.load_ts-number.result < 18446744073709551616 = omega arith in (
      at_next v c.args.at c.requires.reads known c.args.link c.requires.link c.args.entry c.requires.stands c.requires.some c.load_ts-number.result y.view
          c.load_ts-number.ensures.view over y.seat c.load_next-next.result n.view c.load_next-next.ensures.event c.load_next-next.ensures.view
          c.load_next-next.ensures.there,
      next_closer v c.args.at c.requires.reads known c.args.link c.requires.link c.args.entry c.requires.stands c.requires.some c.load_ts-number.result y.view
          c.load_ts-number.ensures.view over y.seat c.load_next-next.result n.view c.load_next-next.ensures.event c.load_next-next.ensures.view
          c.load_next-next.ensures.there c.args.pass.now.seat c.load_ts-number.ensures.event x,
    )
