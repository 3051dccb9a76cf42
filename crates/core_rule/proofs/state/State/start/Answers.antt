use Rattle.core_kept.proofs.Opened.{started}
use Rattle.core_rule.proofs.state.State.start.Goals as goal

pub invariant_of-result : goal.invariant_of-result
invariant_of-result c =
    started c.args.layout.now c.args.sizes.now c.in_ok-words.words.items c.in_ok-views.views.items c.word_count.result c.requires.fit c.requires.sums c.word_count.ensures c.in_ok-words.ensures c.in_ok-views.ensures

pub returns-clause-rule : goal.returns-clause-rule
returns-clause-rule c =
    started c.args.layout.now c.args.sizes.now c.in_ok-words.words.items c.in_ok-views.views.items c.word_count.result c.requires.fit c.requires.sums c.word_count.ensures c.in_ok-words.ensures c.in_ok-views.ensures
