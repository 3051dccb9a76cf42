use Rattle.std.proofs.Common.{subst}
use Rattle.bucket_terms.specs.Gathering.{Gathered}
use Rattle.table_steps.specs.Passes.{Pass}
use Rattle.shared_index.specs.Shown.{shown}
use Rattle.shared_index.proofs.Gathers.{gathered_shown}
use Rattle.shared_index.proofs.key_pass.IndexPassKeyPass.gather.Goals as goal

pub returns-clause-gathered : goal.returns-clause-gathered
returns-clause-gathered g c =
    let q = c.gather-vain.new.pass in
    let closed = c.own_facts.ensures.closed c.gather-vain.ensures.rest in
    subst (λ (p : Pass). Gathered (shown p) (shown q)) c.self.view_is
    (gathered_shown c.self.inside.pass q c.gather-vain.ensures.same c.gather-vain.ensures.gathers c.own_facts.ensures.own closed)
