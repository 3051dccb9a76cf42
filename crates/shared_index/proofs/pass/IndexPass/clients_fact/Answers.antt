use Rattle.std.proofs.Common.{◌<◌, All, subst}
use Rattle.key_map.specs.declared.update.Update.{Update}
use Rattle.table_steps.specs.Passes.{Pass}
use Rattle.shared_index.proofs.OwnFacts.{seen_clients}
use Rattle.shared_index.proofs.pass.IndexPass.clients_fact.Goals as goal

pub returns : goal.returns
returns c =
    subst (λ (p : Pass). All (λ (u : Update). u.client < p.view.layout.passes) p.view.history.seen) c.self.view_is
    (seen_clients c.self.inside.pass.view c.facts.ensures)
