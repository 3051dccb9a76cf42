use Rattle.core_events.specs.declared.event.Kind.TheVariants.{Leave}
use Rattle.core_laws.specs.ViewNeeds.{event_at}
use Rattle.table_steps.proofs.pass.TablePass.leave_waiting.Given as goal

abbrev pub ghosts-store : goal.ghosts-store
ghosts-store a = record { event = event_at a.self.now.layout a.seat.now.seat Leave a.word a.value }
