use Rattle.core_events.specs.declared.event.Kind.TheVariants.{TryLock}
use Rattle.core_laws.specs.ViewNeeds.{event_at}
use Rattle.table_steps.proofs.pass.TablePass.try_lock.Given as goal

abbrev pub ghosts-exchange : goal.ghosts-exchange
ghosts-exchange a = record { event = event_at a.self.now.layout a.seat.now.seat TryLock a.word a.value }
