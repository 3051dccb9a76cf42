use Rattle.machine_spelled.proofs.tree_steps.+found.Given as goal

abbrev pub decreases-found : goal.decreases-found
decreases-found l = l.tree.depth
