use Rattle.std.proofs.Common.{◌<◌, arith}
use Rattle.update_try.proofs.FoundHeads.{head_heads, head_search, head_stands, may_load, none_numbered, number_heads, number_search, number_stands, some_numbered, written}
use Rattle.update_try.proofs.Pruned.{may_number}
use Rattle.update_try.proofs.heads.find_head.Goals as goal

pub load_head-head-requires : goal.load_head-head-requires
load_head-head-requires c = record { may = may_load c.args.pass.now c.args.at c.requires.trying c.requires.unmarked }

pub load_ts-number-requires : goal.load_ts-number-requires
load_ts-number-requires c =
    let q = c.load_head-head.new.self in
    let head = c.load_head-head.result in
    let e = c.load_head-head.ensures in
    let some : 0 < head = omega (arith, c.if-head-ne0.true) in
    let stands = head_stands c.args.pass.now c.args.at c.requires.trying c.requires.unmarked q head e.event e.view e.there in
    record { may = may_number q.view c.args.at head head stands some }

pub prove-unreachable-requires : goal.prove-unreachable-requires
prove-unreachable-requires c =
    let q = c.load_head-head.new.self in
    let head = c.load_head-head.result in
    let e = c.load_head-head.ensures in
    let u = c.load_ts-number.new.self.view in
    let x = c.load_ts-number.result in
    let l = c.load_ts-number.ensures in
    let some : 0 < head = omega (arith, c.if-head-ne0.true) in
    omega (
      arith,
      c.if-prove.true,
      written c.args.pass.now c.args.at c.requires.trying c.requires.unmarked q head e.event e.view e.there u x some l.event l.view,
    )

pub returns-then-head-ne0-clause-head : goal.returns-then-head-ne0-clause-head
returns-then-head-ne0-clause-head c =
    let q = c.load_head-head.new.self in
    let head = c.load_head-head.result in
    let e = c.load_head-head.ensures in
    let u = c.load_ts-number.new.self.view in
    let x = c.load_ts-number.result in
    let l = c.load_ts-number.ensures in
    let some : 0 < head = omega (arith, c.if-head-ne0.true) in
    some_numbered c.args.pass.now c.args.at c.requires.trying c.requires.unmarked q head e.event e.view e.there u x some l.event l.view

pub returns-then-head-ne0-clause-stands : goal.returns-then-head-ne0-clause-stands
returns-then-head-ne0-clause-stands c =
    let q = c.load_head-head.new.self in
    let head = c.load_head-head.result in
    let e = c.load_head-head.ensures in
    let u = c.load_ts-number.new.self.view in
    let x = c.load_ts-number.result in
    let l = c.load_ts-number.ensures in
    let some : 0 < head = omega (arith, c.if-head-ne0.true) in
    number_stands c.args.pass.now c.args.at c.requires.trying c.requires.unmarked q head e.event e.view e.there u x some l.event l.view

pub returns-then-head-ne0-clause-keeps : goal.returns-then-head-ne0-clause-keeps
returns-then-head-ne0-clause-keeps c =
    let q = c.load_head-head.new.self in
    let head = c.load_head-head.result in
    let e = c.load_head-head.ensures in
    let u = c.load_ts-number.new.self.view in
    let x = c.load_ts-number.result in
    let l = c.load_ts-number.ensures in
    let some : 0 < head = omega (arith, c.if-head-ne0.true) in
    number_search c.args.pass.now c.args.at c.requires.trying c.requires.unmarked q head e.event e.view e.there u x some l.event l.view

pub returns-then-head-ne0-clause-heads : goal.returns-then-head-ne0-clause-heads
returns-then-head-ne0-clause-heads c =
    let q = c.load_head-head.new.self in
    let head = c.load_head-head.result in
    let e = c.load_head-head.ensures in
    let u = c.load_ts-number.new.self.view in
    let x = c.load_ts-number.result in
    let l = c.load_ts-number.ensures in
    let some : 0 < head = omega (arith, c.if-head-ne0.true) in
    number_heads c.args.pass.now c.args.at c.requires.trying c.requires.unmarked q head e.event e.view e.there u x some l.event l.view

pub returns-else-head-ne0-clause-head : goal.returns-else-head-ne0-clause-head
returns-else-head-ne0-clause-head c =
    let q = c.load_head-head.new.self in
    let head = c.load_head-head.result in
    let e = c.load_head-head.ensures in
    none_numbered c.args.pass.now c.args.at c.requires.trying c.requires.unmarked q head e.event e.view e.there (omega (arith, c.if-head-ne0.false))

pub returns-else-head-ne0-clause-stands : goal.returns-else-head-ne0-clause-stands
returns-else-head-ne0-clause-stands c =
    let q = c.load_head-head.new.self in
    let head = c.load_head-head.result in
    let e = c.load_head-head.ensures in
    head_stands c.args.pass.now c.args.at c.requires.trying c.requires.unmarked q head e.event e.view e.there

pub returns-else-head-ne0-clause-keeps : goal.returns-else-head-ne0-clause-keeps
returns-else-head-ne0-clause-keeps c =
    let q = c.load_head-head.new.self in
    let head = c.load_head-head.result in
    let e = c.load_head-head.ensures in
    head_search c.args.pass.now c.args.at c.requires.trying c.requires.unmarked q head e.event e.view e.there

pub returns-else-head-ne0-clause-heads : goal.returns-else-head-ne0-clause-heads
returns-else-head-ne0-clause-heads c =
    let q = c.load_head-head.new.self in
    let head = c.load_head-head.result in
    let e = c.load_head-head.ensures in
    head_heads c.args.pass.now c.args.at c.requires.trying c.requires.unmarked q head e.event e.view e.there
