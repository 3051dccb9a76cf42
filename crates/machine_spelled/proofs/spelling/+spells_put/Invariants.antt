use Rattle.machine_spelled.proofs.spelling.+spells_put.Given as goal

abbrev pub decreases-spells_put : goal.decreases-spells_put
decreases-spells_put l = l.tree.depth
