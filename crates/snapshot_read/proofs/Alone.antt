-- The looks of a pass that is alone on its table always give an answer.
use Rattle.std.proofs.Common.{◌∙◌, ap}
use Rattle.index_words.specs.declared.layout.Layout.{Layout}
use Rattle.table_steps.specs.Passes.{Pass, IsAlone, IsSamePass}
use Rattle.snapshot_read.specs.declared.looks.Look.{Look}
use Rattle.snapshot_read.specs.declared.looks.Look.TheVariants.{Found, Nothing, Pending}
use Rattle.snapshot_read.specs.Looks.{IfUnknown, IsKnown}

pub known_alone : (look : Look) (p q : Pass) → IsSamePass p q → IfUnknown look (¬ IsAlone q.view) → IsAlone p.view → IsKnown look
known_alone Pending p q same others one = others (ap (λ (z : Layout). z.passes) same.layout ∙ one)
known_alone _ p q same others one = tt
