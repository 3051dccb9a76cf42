use Rattle.machine_spelled.proofs.link_plans.+first_node.Given as goal

abbrev pub decreases-first_node : goal.decreases-first_node
decreases-first_node l = l.left.depth
