use Rattle.machine_spelled.proofs.spelling.+spells_removal.Given as goal

abbrev pub decreases-spells_removal : goal.decreases-spells_removal
decreases-spells_removal l = l.tree.depth
