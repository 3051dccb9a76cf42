use Rattle.machine_spelled.proofs.spelling.+spells_rest.Given as goal

abbrev pub decreases-spells_rest : goal.decreases-spells_rest
decreases-spells_rest l = l.tree.depth
