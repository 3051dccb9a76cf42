use Rattle.bundle_reads.proofs.ReadTrees.{finds}
use Rattle.link_check.proofs.Comparing.{child_in_tree, node_on}
use Rattle.link_check.proofs.Visits.{read_none, read_tree}
use Rattle.link_check.proofs.compare.tree_child.Goals as goal

pub returns-in-Some-clause-unlocked : goal.returns-in-Some-clause-unlocked
returns-in-Some-clause-unlocked c = read_none c.args.pass.now.view c.child_at.new.pass.view c.child_at.ensures.read c.requires.unlocked

pub returns-in-Some-clause-child : goal.returns-in-Some-clause-child
returns-in-Some-clause-child c = λ some.
    let v = c.args.pass.now.view in
    let s = c.facts.ensures.stands in
    let read = finds v.layout s.words s.views s.rule s.seat v s.at c.args.at c.requires.reads in
    node_on v c.child_at.new.pass.view c.in-Some.child (read_tree v c.child_at.new.pass.view c.child_at.ensures.read)
    (child_in_tree v read.tree c.args.link c.in-Some.child read.nodes c.requires.link (c.in-Some.ensures.leads read.tree read.nodes) some)
