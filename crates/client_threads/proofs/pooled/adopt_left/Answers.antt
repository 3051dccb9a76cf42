use Rattle.std.proofs.Common.{◌+◌, ap, ◌∙◌, length, subst, sym, arith}
use Rattle.bucket_terms.specs.Pool.{Traded}
use Rattle.table_steps.specs.Passes.{Pass}
use Rattle.shared_index.specs.Keys.{home_of_pass}
use Rattle.shared_index.specs.Shown.{shown}
use Rattle.client_threads.proofs.Depots.{adopted_first}
use Rattle.client_threads.proofs.pooled.adopt_left.Goals as goal

pub returns : goal.returns
returns c =
    let first = c.remove.result in
    let now = c.detach.result in
    let traded : Traded (shown first) (shown now) =
    subst (λ (p : Pass). Traded (shown first) (shown p)) (sym c.detach.ensures.same)
    (subst (λ (p : Pass). Traded (shown p) (shown c.adopt_all.new.pass)) c.attach-pass.ensures.same c.adopt_all.ensures.traded) in
    rw (c.in-Ok.ensures.items, c.remove.ensures.items)
    (adopted_first c.args.index.now c.args.keys.items first now (length c.args.left.items) c.requires.some c.remove.ensures.value traded
    (ap (λ (p : Pass). (shown p).nodes) c.detach.ensures.same ∙ c.adopt_all.ensures.nodes
    ∙ ap (λ (p : Pass). (shown p).nodes + length c.args.left.items) c.attach-pass.ensures.same)
    (ap home_of_pass c.detach.ensures.same ∙ c.adopt_all.ensures.home ∙ ap home_of_pass c.attach-pass.ensures.same ∙ ap home_of_pass c.remove.ensures.value
    ∙ c.requires.of first))

pub unreachable-requires : goal.unreachable-requires
unreachable-requires c = omega (arith, c.in-Err.ensures.full, c.remove.ensures.capacity, c.remove.ensures.len, c.args.keys.ok)
