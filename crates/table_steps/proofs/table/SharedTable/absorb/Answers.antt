use Rattle.std.proofs.Common.{ap, ◌∙◌}
use Rattle.index_words.specs.declared.view.View.{View}
use Rattle.core_events.specs.Moves.{joined_with}
use Rattle.table_rule.specs.Homes.{Sat}
use Rattle.table_steps.proofs.Heard.{old_begins, other_begins}
use Rattle.table_steps.proofs.table.SharedTable.absorb.Goals as goal

pub returns-clause-old : goal.returns-clause-old
returns-clause-old c = old_begins c.args.seat.now.view c.args.other.view c.join.new.seat.view c.join-2.new.seat.view (ap (λ (s : Sat). s.view) c.join.ensures.view ∙ ap (λ (s : Sat). joined_with s.view c.args.other.view) c.split-copy.ensures.same) (ap (λ (s : Sat). s.view) c.join-2.ensures.view ∙ ap (λ (y : View). joined_with c.join.new.seat.view y) c.split-copy.ensures.right) c.facts.ensures c.facts-2.ensures

pub returns-clause-other : goal.returns-clause-other
returns-clause-other c = other_begins c.args.seat.now.view c.args.other.view c.join.new.seat.view c.join-2.new.seat.view (ap (λ (s : Sat). s.view) c.join.ensures.view ∙ ap (λ (s : Sat). joined_with s.view c.args.other.view) c.split-copy.ensures.same) (ap (λ (s : Sat). s.view) c.join-2.ensures.view ∙ ap (λ (y : View). joined_with c.join.new.seat.view y) c.split-copy.ensures.right) c.facts.ensures c.facts-2.ensures
