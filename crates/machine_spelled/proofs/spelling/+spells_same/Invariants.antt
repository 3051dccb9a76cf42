use Rattle.machine_spelled.proofs.spelling.+spells_same.Given as goal

abbrev pub decreases-spells_same : goal.decreases-spells_same
decreases-spells_same l = l.tree.depth
