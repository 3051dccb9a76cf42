use Rattle.std.proofs.Common.{◌≡◌, ap, ◌∙◌}
use Rattle.core_events.specs.Announcing.{announced_view}
use Rattle.index_words.specs.declared.view.View.{View}
use Rattle.table_tests.specs.FirstPut.{at_announced}
use Rattle.table_tests.proofs.FirstPut.{can_announce, found_root, may_read_root}
use Rattle.table_tests.proofs.first_put.reads_nothing.Goals as goal

pub announce-requires : goal.announce-requires
announce-requires c = record { can = can_announce c.args.pass.now c.requires.seen c.number_fact.ensures }

pub has_no_child-requires : goal.has_no_child-requires
has_no_child-requires c =
    let a = c.announce.new.self.view in
    let is : a ≡ at_announced = c.announce.ensures.view ∙ ap (λ (v : View). announced_view v 1) c.requires.seen in
    record {
      may = may_read_root a c.load_stamp.new.self.view c.load_stamp.result is c.load_stamp.ensures.seen c.load_stamp.ensures.reads c.if-load_stamp-eq0.true;
    }

pub returns-then-load_stamp-eq0 : goal.returns-then-load_stamp-eq0
returns-then-load_stamp-eq0 c = λ null.
    let a = c.announce.new.self.view in
    let is : a ≡ at_announced = c.announce.ensures.view ∙ ap (λ (v : View). announced_view v 1) c.requires.seen in
    found_root a c.load_stamp.new.self.view c.load_stamp.result is c.load_stamp.ensures.seen c.load_stamp.ensures.reads c.has_no_child.new.pass.view
    (c.has_no_child.ensures null) c.if-load_stamp-eq0.true
