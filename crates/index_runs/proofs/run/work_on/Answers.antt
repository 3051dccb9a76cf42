use Rattle.std.proofs.Common.{sym, ap, ◌∙◌, subst}
use Rattle.table_rule.specs.Homes.{Home}
use Rattle.table_steps.specs.Passes.{IsPassOf}
use Rattle.shared_index.specs.Keys.{IsKeyOf, home_of_pass}
use Rattle.shared_index.proofs.KeyHomes.{of_table}
use Rattle.index_runs.proofs.run.work_on.Goals as goal

-- a key of the index is one of its table
pub tell_free-requires : goal.tell_free-requires
tell_free-requires g c =
    let key = c.detach-key.result in
    let of : IsKeyOf c.args.index.now key =
    ap home_of_pass c.detach-key.ensures.same ∙ c.do_task-events.ensures.home ∙ ap home_of_pass c.attach-pass.ensures.same ∙ c.requires.of in
    record { of = subst (λ (home : Home). IsPassOf home key) (sym c.table.ensures) (of_table c.args.index.now key of) }
