use Rattle.core_events.specs.declared.event.Kind.TheVariants.{SetLink}
use Rattle.core_laws.specs.ViewNeeds.{event_at}
use Rattle.table_steps.proofs.pass.TablePass.set_link.Given as goal

abbrev pub ghosts-store : goal.ghosts-store
ghosts-store a = record { event = event_at a.self.now.layout a.seat.now.seat SetLink a.word a.value }
