use Rattle.std.proofs.Common.{◌≡◌, ◌<◌, ℕ, Some}
use Rattle.std.specs.List.{slice_get}
use Rattle.index_words.specs.declared.side.Side.TheVariants.{Left, Right}
use Rattle.core_updates.specs.Plans.{out_of}
use Rattle.table_steps.specs.Passes.{IsSamePass}
use Rattle.update_search.specs.Searching.{KeepsSearch}
use Rattle.update_try.specs.Walked.{HoldsBundle}
use Rattle.update_try.proofs.heads.find_heads.Given as goal

abbrev pub invariant-nodes : goal.invariant-nodes
invariant-nodes l =
    KeepsSearch l.fn.pass.view l.pass.view × IsSamePass l.fn.pass l.pass
    × ((place node : ℕ) → place < l.node-index → slice_get (out_of l.plan) place ≡ Some node → HoldsBundle l.pass.view node Left × HoldsBundle l.pass.view node Right)
