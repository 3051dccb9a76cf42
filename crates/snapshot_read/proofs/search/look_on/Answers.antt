use Rattle.std.proofs.Common.{refl, ◌∙◌, subst}
use Rattle.key_map.specs.History.{after}
use Rattle.key_map.specs.Map.{first_from}
use Rattle.bundle_reads.specs.Links.{LeadsThere}
use Rattle.snapshot_read.proofs.SnapshotMoves.{tree_after}
use Rattle.bundle_reads.proofs.ReadMoves.{read_nothing, read_more, inside_on, same_pass, same_more, leads_before}
use Rattle.snapshot_read.proofs.SnapshotTrees.{reader}
use Rattle.snapshot_read.proofs.Levels.{way_link}
use Rattle.snapshot_read.proofs.Ways.{way_ends, every_on, every_before, kept_on, answer_is}
use Rattle.snapshot_read.proofs.search.look_on.Goals as goal

pub down-init : goal.down-init
down-init c =
    let v = c.args.pass.now.view in
    (read_nothing v, refl, same_pass c.args.pass.now, c.take-search.ensures.way v c.args.at c.requires.kept, c.take-search.ensures.covers, c.take-search.ensures.kept v c.args.at c.requires.kept)

pub down-preserved : goal.down-preserved
down-preserved c =
    let v = c.args.pass.now.view in
    let p = c.child_at.new.pass in
    let t = c.args.at in
    let q = c.go_on-search.new.pass in
    let read = read_more v c.down.pass.view p.view c.down.invariant.0 c.child_at.ensures.read in (
      read_more v p.view q.view read c.go_on-search.ensures.read,
      c.go_on-search.ensures.waits ∙ c.in-Some.ensures.waits ∙ c.down.invariant.1,
      same_more c.args.pass.now p q (same_more c.args.pass.now c.down.pass p c.down.invariant.2 c.child_at.ensures.same) c.go_on-search.ensures.same,
      λ tree is. c.go_on-search.ensures.way tree (tree_after v p.view t tree read is),
      c.go_on-search.ensures.covers,
      every_before v p.view t c.go_on-search.new.way read (c.go_on-search.ensures.kept (every_on v p.view t c.down.way read c.down.invariant.5)),
    )

pub child_at-requires-clause-reads : goal.child_at-requires-clause-reads
child_at-requires-clause-reads c =
    let v = c.args.pass.now.view in
    let known = reader v c.args.at c.facts.ensures c.requires.reads in
    inside_on v c.down.pass.view c.args.at c.down.invariant.0 known.inside

pub child_at-requires-clause-link : goal.child_at-requires-clause-link
child_at-requires-clause-link c =
    let v = c.args.pass.now.view in
    let known = reader v c.args.at c.facts.ensures c.requires.reads in
    way_link v c.down.pass.view c.args.at c.down.search known.tree known.is c.down.invariant.0 (c.down.invariant.3 known.tree known.is)

pub returns-then-child-eq0-clause-first : goal.returns-then-child-eq0-clause-first
returns-then-child-eq0-clause-first c =
    let v = c.args.pass.now.view in
    let t = c.args.at in
    let s = c.down.search in
    let known = reader v t c.facts.ensures c.requires.reads in
    let null : LeadsThere c.down.pass.view s.at 0 = subst (LeadsThere c.down.pass.view s.at) c.if-child-eq0.true c.in-Some.ensures.leads in
    answer_is c.of_best.result s.best (first_from c.args.key (after v.history.seen t)) c.of_best.ensures
    (way_ends v t c.args.key s known.tree known.is c.down.invariant.3 c.down.invariant.4 (leads_before v c.down.pass.view s.at 0 c.down.invariant.0 null))

pub returns-then-child-eq0-clause-kept : goal.returns-then-child-eq0-clause-kept
returns-then-child-eq0-clause-kept c =
    let v = c.args.pass.now.view in
    let p = c.child_at.new.pass.view in
    kept_on v p c.args.at c.down.way (read_more v c.down.pass.view p c.down.invariant.0 c.child_at.ensures.read) c.requires.reads c.down.invariant.5
