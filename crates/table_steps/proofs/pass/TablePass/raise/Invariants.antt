use Rattle.core_updates.specs.Held.{raise_of}
use Rattle.table_steps.proofs.pass.TablePass.raise.Given as goal

abbrev pub ghosts-add : goal.ghosts-add
ghosts-add a = record { event = raise_of a.self.now.layout a.seat.now.seat a.update.now }
