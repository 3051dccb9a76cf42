use Rattle.core_events.specs.declared.event.Kind.TheVariants.{LookSec}
use Rattle.core_laws.specs.ViewNeeds.{event_at}
use Rattle.table_steps.proofs.pass.TablePass.look_waiting.Given as goal

abbrev pub ghosts-load : goal.ghosts-load
ghosts-load a = record { event = event_at a.self.now.layout a.seat.now.seat LookSec a.word 0 }
