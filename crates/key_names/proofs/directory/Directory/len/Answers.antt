use Rattle.key_names.proofs.directory.Directory.len.Goals as goal

pub returns-clause-fine : goal.returns-clause-fine
returns-clause-fine c = rw (← c.self.view_is) c.self.invariant.fine
