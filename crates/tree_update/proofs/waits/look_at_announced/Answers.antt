use Rattle.std.proofs.Common.{◌∙◌, ap, sym}
use Rattle.std.specs.Prelude.{is_some}
use Rattle.index_words.specs.declared.view.View.{View}
use Rattle.core_grace.specs.Sections.{is_even}
use Rattle.update_try.proofs.PruneWalks.{may_look}
use Rattle.tree_update.proofs.CallSteps.{announced_stays, stays_nothing}
use Rattle.tree_update.proofs.waits.look_at_announced.Goals as goal

pub look_ann-word-requires : goal.look_ann-word-requires
look_ann-word-requires c = record { may = may_look c.args.pass.now.view c.args.other (sym c.is_own.ensures.known ∙ c.if-is_own.false) c.requires.there c.requires.reads }

pub returns-then-is_own-clause-stays : goal.returns-then-is_own-clause-stays
returns-then-is_own-clause-stays c = stays_nothing c.args.pass.now.view

pub returns-clause-inside : goal.returns-clause-inside
returns-clause-inside c =
    let view = c.look_ann-word.ensures.view in
    record {
      odd = ap (λ (u : View). is_even u.section_word) view ∙ c.requires.inside.odd;
      unlocked = ap (λ (u : View). u.held.nodes) view ∙ c.requires.inside.unlocked;
    }

pub returns-clause-reads : goal.returns-clause-reads
returns-clause-reads c = ap (λ (u : View). is_some u.reading.section) c.look_ann-word.ensures.view ∙ c.requires.reads

pub returns-clause-stays : goal.returns-clause-stays
returns-clause-stays c =
    announced_stays c.args.pass.now.view c.look_ann-word.new.self.view c.args.other c.look_ann-word.result c.look_ann-word.ensures.view
