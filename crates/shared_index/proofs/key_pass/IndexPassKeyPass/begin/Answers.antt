use Rattle.std.proofs.Common.{rules, subst}
use Rattle.bucket_terms.specs.PassView.{Began}
use Rattle.table_steps.specs.Passes.{Pass}
use Rattle.table_steps.specs.Stamps.{IsFoundAt}
use Rattle.shared_index.specs.Shown.{shown}
use Rattle.shared_index.proofs.Begun.{began}
use Rattle.shared_index.proofs.key_pass.IndexPassKeyPass.begin.Goals as goal

pub invariant_of-self : goal.invariant_of-self
invariant_of-self c = (search rules, c.forget.ensures c.begin-at.new.pass.view)

pub returns-clause-began : goal.returns-clause-began
returns-clause-began c =
    let q = c.begin-at.new.pass in
    subst (λ (p : Pass). Began (shown p) (shown q) c.begin-at.result) c.self.view_is
    (began c.self.inside.pass q c.begin-at.result c.begin-at.ensures.same c.begin-at.ensures.begun c.begin-at.ensures.reads c.own_facts.ensures.own)

pub returns-clause-event : goal.returns-clause-event
returns-clause-event c =
    let q = c.begin-at.new.pass in
    subst (λ (p : Pass). IsFoundAt p 1 c.begin-at.result q.view) c.self.view_is c.begin-at.ensures.event
