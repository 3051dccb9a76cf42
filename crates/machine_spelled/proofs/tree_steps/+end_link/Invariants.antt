use Rattle.machine_spelled.proofs.tree_steps.+end_link.Given as goal

abbrev pub decreases-end_link : goal.decreases-end_link
decreases-end_link l = l.tree.depth
