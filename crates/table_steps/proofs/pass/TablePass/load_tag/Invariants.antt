use Rattle.core_events.specs.declared.event.Kind.TheVariants.{LoadTag}
use Rattle.core_laws.specs.ViewNeeds.{event_at}
use Rattle.table_steps.proofs.pass.TablePass.load_tag.Given as goal

abbrev pub ghosts-load : goal.ghosts-load
ghosts-load a = record { event = event_at a.self.now.layout a.seat.now.seat LoadTag a.word 0 }
