use Rattle.std.proofs.Common.{◌<◌, ap, sym, subst, Option}
use Rattle.key_map.specs.declared.pair.Pair.{Pair}
use Rattle.index_words.specs.declared.word.Field.TheVariants.{Key, Val}
use Rattle.snapshot_read.specs.Ways.{keys_left, OnWay, right_of}
use Rattle.snapshot_read.specs.declared.kept_way.Search.{Search}
use Rattle.bundle_reads.proofs.ReadMoves.{pair_read, read_more, same_more}
use Rattle.snapshot_read.proofs.SnapshotMoves.{reads_on}
use Rattle.snapshot_read.proofs.SnapshotTrees.{reader}
use Rattle.snapshot_read.proofs.Levels.{may_pair, pair_too, go_right, closer_right, go_left, closer_left}
use Rattle.snapshot_read.proofs.Ways.{key_or}
use Rattle.snapshot_read.proofs.search.go_down.Goals as goal

pub load_key-here-requires : goal.load_key-here-requires
load_key-here-requires c =
    let p = c.args.pass.now in
    let v = p.view in
    let known = reader v c.args.at c.facts.ensures c.requires.reads in
    record { may = may_pair v c.args.at c.args.child c.args.search c.requires.reads c.requires.some c.requires.leads c.requires.way known.tree known.is }

pub returns-then-here-key-clause-way : goal.returns-then-here-key-clause-way
returns-then-here-key-clause-way c =
    let p = c.args.pass.now in
    let v = p.view in
    λ tree is. subst (OnWay tree) (sym c.right_of.ensures)
    (go_right v c.args.at c.args.child c.args.search c.requires.reads c.requires.some c.requires.leads c.requires.way tree is p.seat c.load_key-here.result
    c.load_key-here.new.self.view c.load_key-here.ensures.event)

pub returns-then-here-key-clause-closer : goal.returns-then-here-key-clause-closer
returns-then-here-key-clause-closer c =
    let p = c.args.pass.now in
    let v = p.view in
    let known = reader v c.args.at c.facts.ensures c.requires.reads in
    subst (λ (s : Search). keys_left s < keys_left c.args.search) (sym c.right_of.ensures)
    (closer_right v c.args.at c.args.child c.args.search c.requires.reads c.requires.some c.requires.leads c.requires.way known.tree known.is p.seat
    c.load_key-here.result c.load_key-here.new.self.view c.load_key-here.ensures.event)

pub load_val-val-requires : goal.load_val-val-requires
load_val-val-requires c =
    let p = c.args.pass.now in
    let v = p.view in
    let q = c.load_key-here.new.self in
    let read = pair_read v q.view c.requires.reads.inside.unlocked Key c.args.child c.load_key-here.result c.load_key-here.ensures.view in
    let known = reader v c.args.at c.facts.ensures c.requires.reads in
    record {
      may = pair_too v c.args.at c.args.child c.args.search c.requires.reads c.requires.some c.requires.leads c.requires.way
          known.tree known.is q.view read;
    }

pub returns-then-here-key-clause-read : goal.returns-then-here-key-clause-read
returns-then-here-key-clause-read c =
    let v = c.args.pass.now.view in
    pair_read v c.load_key-here.new.self.view c.requires.reads.inside.unlocked Key c.args.child c.load_key-here.result c.load_key-here.ensures.view

pub returns-clause-read : goal.returns-clause-read
returns-clause-read c =
    let p = c.args.pass.now in
    let v = p.view in
    let q = c.load_key-here.new.self in
    let read = pair_read v q.view c.requires.reads.inside.unlocked Key c.args.child c.load_key-here.result c.load_key-here.ensures.view in
    let w = c.load_val-val.new.self.view in
    read_more v q.view w read (pair_read q.view w (reads_on v q.view c.args.at read c.requires.reads).inside.unlocked Val c.args.child
    c.load_val-val.result c.load_val-val.ensures.view)

pub returns-clause-same : goal.returns-clause-same
returns-clause-same c = same_more c.args.pass.now c.load_key-here.new.self c.load_val-val.new.self c.load_key-here.ensures.same c.load_val-val.ensures.same

pub returns-clause-way : goal.returns-clause-way
returns-clause-way c =
    let p = c.args.pass.now in
    let v = p.view in
    let q = c.load_key-here.new.self in
    let read = pair_read v q.view c.requires.reads.inside.unlocked Key c.args.child c.load_key-here.result c.load_key-here.ensures.view in
    λ tree is. go_left v c.args.at c.args.child c.args.search c.requires.reads c.requires.some c.requires.leads c.requires.way tree is p.seat
    c.load_key-here.result q.view c.load_key-here.ensures.event q.view read q.seat c.load_val-val.result
    c.load_val-val.new.self.view c.load_val-val.ensures.event

pub returns-clause-closer : goal.returns-clause-closer
returns-clause-closer c =
    let p = c.args.pass.now in
    let v = p.view in
    let q = c.load_key-here.new.self in
    let read = pair_read v q.view c.requires.reads.inside.unlocked Key c.args.child c.load_key-here.result c.load_key-here.ensures.view in
    let known = reader v c.args.at c.facts.ensures c.requires.reads in
    closer_left v c.args.at c.args.child c.args.search c.requires.reads c.requires.some c.requires.leads c.requires.way known.tree known.is p.seat
    c.load_key-here.result q.view c.load_key-here.ensures.event q.view read q.seat c.load_val-val.result
    c.load_val-val.new.self.view c.load_val-val.ensures.event

pub returns-clause-turned : goal.returns-clause-turned
returns-clause-turned c =
    let p = c.args.pass.now in
    let v = p.view in
    λ here side best tree is.
    subst (λ k. OnWay tree (right_of c.args.child k c.args.search.best)) (ap (λ (o : Option Pair). key_or o) best)
    (go_right v c.args.at c.args.child c.args.search c.requires.reads c.requires.some c.requires.leads c.requires.way tree is p.seat c.load_key-here.result
    c.load_key-here.new.self.view c.load_key-here.ensures.event)
