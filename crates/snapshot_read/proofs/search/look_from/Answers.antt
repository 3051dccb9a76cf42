use Rattle.std.proofs.Common.{refl, sym, subst}
use Rattle.key_map.specs.History.{after}
use Rattle.key_map.specs.Map.{first_from}
use Rattle.bundle_reads.specs.Links.{LeadsThere}
use Rattle.snapshot_read.proofs.SnapshotMoves.{tree_after}
use Rattle.bundle_reads.proofs.ReadMoves.{read_nothing, read_more, inside_on, same_pass, leads_before}
use Rattle.snapshot_read.proofs.SnapshotTrees.{reader}
use Rattle.snapshot_read.proofs.Levels.{way_link}
use Rattle.snapshot_read.specs.Ways.{Covers, IsOnWay}
use Rattle.snapshot_read.proofs.Ways.{at_root, root_covers, way_ends, way_meets, answer_is}
use Rattle.snapshot_read.proofs.search.look_from.Goals as goal

pub down-init : goal.down-init
down-init c =
    let v = c.args.pass.now.view in
    let root = sym c.root-search.ensures in
    (read_nothing v, refl, same_pass c.args.pass.now, subst (λ s. IsOnWay v c.args.at s) root (at_root v c.args.at), subst (λ s. Covers c.args.key s) root (root_covers c.args.key c.ranges.key.fits))

pub child_at-requires-clause-reads : goal.child_at-requires-clause-reads
child_at-requires-clause-reads c =
    let v = c.args.pass.now.view in
    let known = reader v c.args.at c.facts.ensures c.requires.reads in
    inside_on v c.down.pass.view c.args.at c.down.invariant.0 known.inside

pub child_at-requires-clause-link : goal.child_at-requires-clause-link
child_at-requires-clause-link c =
    let v = c.args.pass.now.view in
    let known = reader v c.args.at c.facts.ensures c.requires.reads in
    way_link v c.down.pass.view c.args.at c.down.search known.tree known.is c.down.invariant.0 (c.down.invariant.3 known.tree known.is)

pub returns-in-down-clause-first : goal.returns-in-down-clause-first
returns-in-down-clause-first c =
    let v = c.args.pass.now.view in
    let t = c.args.at in
    let s = c.go_down-search.result in
    let known = reader v t c.facts.ensures c.requires.reads in
    let p = c.child_at.new.pass in
    let read = read_more v c.down.pass.view p.view c.down.invariant.0 c.child_at.ensures.read in
    way_meets v t c.args.key s known.tree known.is (λ tree is. c.go_down-search.ensures.way tree (tree_after v p.view t tree read is)) c.go_down-search.ensures.covers
    c.in-Some-best.here c.in-Some-best.is c.if-here-key.true

pub returns-then-child-eq0-clause-first : goal.returns-then-child-eq0-clause-first
returns-then-child-eq0-clause-first c =
    let v = c.args.pass.now.view in
    let t = c.args.at in
    let s = c.down.search in
    let known = reader v t c.facts.ensures c.requires.reads in
    let null : LeadsThere c.down.pass.view s.at 0 = subst (LeadsThere c.down.pass.view s.at) c.if-child-eq0.true c.in-Some.ensures.leads in
    answer_is c.of_best.result s.best (first_from c.args.key (after v.history.seen t)) c.of_best.ensures
    (way_ends v t c.args.key s known.tree known.is c.down.invariant.3 c.down.invariant.4 (leads_before v c.down.pass.view s.at 0 c.down.invariant.0 null))
