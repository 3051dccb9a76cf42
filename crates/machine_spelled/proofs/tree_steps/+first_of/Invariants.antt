use Rattle.machine_spelled.proofs.tree_steps.+first_of.Given as goal

abbrev pub decreases-first_of : goal.decreases-first_of
decreases-first_of l = l.tree.depth
