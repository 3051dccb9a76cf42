use Rattle.core_events.specs.declared.event.Kind.TheVariants.{SetTag}
use Rattle.core_laws.specs.ViewNeeds.{event_at}
use Rattle.table_steps.proofs.pass.TablePass.set_tag.Given as goal

abbrev pub ghosts-store : goal.ghosts-store
ghosts-store a = record { event = event_at a.self.now.layout a.seat.now.seat SetTag a.word a.value }
