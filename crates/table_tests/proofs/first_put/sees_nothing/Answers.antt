use Rattle.std.proofs.Common.{◌≡◌, ◌+◌, ap, ◌∙◌}
use Rattle.std.proofs.lemmas.Bool.{eqb-true}
use Rattle.index_words.specs.declared.view.View.{View}
use Rattle.core_events.specs.Moves.{entered}
use Rattle.table_tests.specs.FirstPut.{at_start}
use Rattle.table_tests.proofs.FirstPut.{found_none, may_see}
use Rattle.table_tests.proofs.first_put.sees_nothing.Goals as goal

pub load_stamp-requires : goal.load_stamp-requires
load_stamp-requires c =
    let e : c.enter.new.self.view ≡ entered 2 at_start 1 = c.enter.ensures.view ∙ ap (λ (v : View). entered v.layout.passes v (v.section_word + 1)) c.requires.start in
    record { may = may_see c.enter.new.self.view e }

pub returns : goal.returns
returns c = λ null.
    let e : c.enter.new.self.view ≡ entered 2 at_start 1 = c.enter.ensures.view ∙ ap (λ (v : View). entered v.layout.passes v (v.section_word + 1)) c.requires.start in
    found_none c.enter.new.self.view e c.load_stamp.new.self.view c.load_stamp.result c.load_stamp.ensures.seen c.load_stamp.ensures.unread
    (eqb-true c.load_stamp.result 0 null)
