use Rattle.table_steps.proofs.table.SharedTable.make_key.Given as goal

abbrev pub ghosts-make : goal.ghosts-make
ghosts-make a = record { number = a.number; size = a.size.now }
