use Rattle.std.proofs.lemmas.Bool.{eqb-true}
use Rattle.table_tests.proofs.FirstPut.{may_read_tag, no_child}
use Rattle.table_tests.proofs.first_put.has_no_child.Goals as goal

pub load_tag-requires : goal.load_tag-requires
load_tag-requires c = record { may = may_read_tag c.args.pass.now.view c.load_link.new.self.view c.load_link.result c.requires.may.inside c.load_link.ensures.view }

pub returns-then-load_link-eq0 : goal.returns-then-load_link-eq0
returns-then-load_link-eq0 c = λ null.
    no_child c.args.pass.now.view c.load_link.new.self.view c.load_tag.new.self.view c.load_link.result c.load_tag.result c.load_link.ensures.view c.load_tag.ensures.view
    c.if-load_link-eq0.true (eqb-true c.load_tag.result 0 null)
