use Rattle.std.proofs.Common.{◌+◌, ap}
use Rattle.index_words.specs.declared.view.update.Updating.{Updating}
use Rattle.core_grace.specs.Sections.{left_word}
use Rattle.table_steps.proofs.Views.{live_seat, rest_reading}
use Rattle.tree_update.proofs.SettleSteps.{left_settled, left_apart}
use Rattle.tree_update.proofs.settle.free_passed.Goals as goal

pub returns-clause-keeps : goal.returns-clause-keeps
returns-clause-keeps c =
    let v = c.args.pass.now.view in
    let e = c.enter.new.self.view in
    left_apart v.layout.passes v (v.section_word + 1) (rest_reading v c.facts.ensures c.requires.rest.outside.even)
    (ap (λ (u : Updating). u.added) ((live_seat v c.facts.ensures).seat.section.done c.requires.rest.outside.unlocked)) e c.leave.new.self.view (left_word e.section_word) c.enter.ensures.view c.leave.ensures.view

pub returns-clause-settled : goal.returns-clause-settled
returns-clause-settled c =
    let v = c.args.pass.now.view in
    let e = c.enter.new.self.view in
    left_settled v.layout.passes v (v.section_word + 1) c.requires.passed e c.leave.new.self.view (left_word e.section_word) c.enter.ensures.view c.leave.ensures.view
