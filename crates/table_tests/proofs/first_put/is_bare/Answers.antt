use Rattle.std.proofs.Common.{◌≡◌, refl}
use Rattle.std.proofs.lemmas.Bool.{eqb-true}
use Rattle.table_tests.specs.FirstPut.{at_pair, at_unmarked_root}
use Rattle.table_tests.proofs.FirstPut.{locked_root_is, may_load_head, may_read_again, unmarked_is}
use Rattle.table_tests.proofs.first_put.is_bare.Goals as goal

pub has_no_child-requires : goal.has_no_child-requires
has_no_child-requires c =
    let loads = c.load_mark.ensures.loads in
    record {
      may = may_read_again c.load_mark.new.self.view
          (unmarked_is at_pair c.args.pass.now.view c.load_mark.new.self.view loads.found refl c.requires.locked loads.view (loads.clear c.if-load_mark.false));
    }

pub load_head-requires : goal.load_head-requires
load_head-requires c =
    let loads = c.load_mark.ensures.loads in
    record {
      may = may_load_head c.load_mark.new.self.view c.has_no_child.new.pass.view
          (unmarked_is at_pair c.args.pass.now.view c.load_mark.new.self.view loads.found refl c.requires.locked loads.view (loads.clear c.if-load_mark.false))
          (c.has_no_child.ensures c.if-has_no_child.true);
    }

pub returns-then-has_no_child : goal.returns-then-has_no_child
returns-then-has_no_child c = λ null.
    let loads = c.load_mark.ensures.loads in
    let is : c.load_mark.new.self.view ≡ at_unmarked_root
    = unmarked_is at_pair c.args.pass.now.view c.load_mark.new.self.view loads.found refl c.requires.locked loads.view (loads.clear c.if-load_mark.false) in
    locked_root_is c.load_mark.new.self.view c.has_no_child.new.pass.view c.load_head.new.self.view c.load_head.result is (c.has_no_child.ensures c.if-has_no_child.true)
    c.load_head.ensures.view (eqb-true c.load_head.result 0 null)
