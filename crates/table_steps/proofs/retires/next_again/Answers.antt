use Rattle.table_steps.proofs.ReadAgain.{next_chain, next_small, next_word_there}
use Rattle.table_steps.proofs.retires.next_again.Goals as goal
use Rattle.std.proofs.Common.{arith, ap}
use Rattle.index_words.specs.declared.layout.Layout.{Layout}

pub read-word-requires-clause-there : goal.read-word-requires-clause-there
read-word-requires-clause-there c =
    let known = c.requires.known in
    next_word_there c.args.table.now.layout c.args.seat.now.view c.facts.ensures c.requires.of.layout known.0 c.args.entry known.1 known.2

pub prove-unreachable-requires : goal.prove-unreachable-requires
prove-unreachable-requires c =
    let known = c.requires.known in
    let small = next_small c.args.table.now.layout c.args.seat.now.view c.facts.ensures c.requires.of.layout known.0 c.args.entry known.1 known.2 c.read-word.result c.read-word.ensures.holds in
    omega (arith, small, c.if-prove.true, ap (λ (z : Layout). z.entries) c.layout-entries.ensures)

pub returns-clause-chain : goal.returns-clause-chain
returns-clause-chain c node es chain =
    next_chain c.args.table.now.layout c.args.seat.now.view c.facts.ensures c.requires.of.layout node c.args.entry es chain c.read-word.result c.read-word.ensures.holds
