-- A pass that is alone on its table stays so.
use Rattle.std.proofs.Common.{ap, sym, ◌∙◌}
use Rattle.index_words.specs.declared.layout.Layout.{Layout}
use Rattle.table_steps.specs.Passes.{Pass, IsAlone, IsSamePass}

-- a pass that is not alone is not so after its steps
pub others_stay : (p q : Pass) → IsSamePass p q → ¬ IsAlone p.view → ¬ IsAlone q.view
others_stay p q same others one = others (sym (ap (λ (z : Layout). z.passes) same.layout) ∙ one)

-- nor was it before them
pub others_before : (p q : Pass) → IsSamePass p q → ¬ IsAlone q.view → ¬ IsAlone p.view
others_before p q same others one = others (ap (λ (z : Layout). z.passes) same.layout ∙ one)
