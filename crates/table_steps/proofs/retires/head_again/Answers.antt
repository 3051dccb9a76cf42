use Rattle.table_steps.proofs.ReadAgain.{head_chain, head_small, head_word_there}
use Rattle.table_steps.proofs.retires.head_again.Goals as goal
use Rattle.std.proofs.Common.{arith, ap}
use Rattle.index_words.specs.declared.layout.Layout.{Layout}

pub read-word-requires-clause-there : goal.read-word-requires-clause-there
read-word-requires-clause-there c =
    let known = c.requires.known in
    head_word_there c.args.table.now.layout c.args.seat.now.view c.facts.ensures c.requires.of.layout c.args.node c.args.side known.0 known.1

pub prove-unreachable-requires : goal.prove-unreachable-requires
prove-unreachable-requires c =
    let known = c.requires.known in
    let small = head_small c.args.table.now.layout c.args.seat.now.view c.facts.ensures c.requires.of.layout c.args.node c.args.side known.0 known.1 c.read-word.result c.read-word.ensures.holds in
    omega (arith, small, c.if-prove.true, ap (λ (z : Layout). z.entries) c.layout-entries.ensures)

pub returns-clause-chain : goal.returns-clause-chain
returns-clause-chain c es held =
    head_chain c.args.table.now.layout c.args.seat.now.view c.facts.ensures c.requires.of.layout c.args.node c.args.side es held c.read-word.result c.read-word.ensures.holds
