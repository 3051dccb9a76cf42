use Rattle.machine_spelled.proofs.spelling.+first_pair.Given as goal

abbrev pub decreases-first_pair : goal.decreases-first_pair
decreases-first_pair l = l.tree.depth
