use Rattle.std.proofs.Common.{◌≡◌, drop}
use Rattle.index_words.specs.declared.view.reading.Filled.{Filled}
use Rattle.key_map.specs.Lists.{Every}
use Rattle.core_laws.specs.ViewNeeds.{IsInside, MayFill}
use Rattle.plan_laws.specs.Fills.{filled_all}
use Rattle.table_steps.specs.Passes.{IsSamePass}
use Rattle.update_try.proofs.fills.fill_words.Given as goal

abbrev pub invariant-words : goal.invariant-words
invariant-words l =
    IsInside l.pass.view × Every (λ (f : Filled). MayFill l.pass.view f.word) (drop l.fill-index l.fills)
    × (filled_all l.pass.view (drop l.fill-index l.fills) ≡ filled_all l.fn.pass.view l.fills) × IsSamePass l.fn.pass l.pass
