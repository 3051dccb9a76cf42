-- A pass that is alone on its table makes each put that it tries.
use Rattle.std.proofs.Common.{ap, sym, ◌∙◌}
use Rattle.index_words.specs.declared.layout.Layout.{Layout}
use Rattle.table_steps.specs.Passes.{Pass, IsAlone, IsSamePass}
use Rattle.tree_update.specs.declared.trying.Try.{Try}
use Rattle.tree_update.specs.declared.trying.Try.TheVariants.{Done as Made}
use Rattle.tree_update.specs.Trying.{UnlessDone, IsMade}

-- a pass that is not alone is not so after its steps
pub others_stay : (p q : Pass) → IsSamePass p q → ¬ IsAlone p.view → ¬ IsAlone q.view
others_stay p q same others one = others (sym (ap (λ (z : Layout). z.passes) same.layout) ∙ one)

-- nor was it before them
others_before : (p q : Pass) → IsSamePass p q → ¬ IsAlone q.view → ¬ IsAlone p.view
others_before p q same others one = others (ap (λ (z : Layout). z.passes) same.layout ∙ one)

pub made_alone : (tried : Try) (p q : Pass) → IsSamePass p q → UnlessDone tried (¬ IsAlone q.view) → IsAlone p.view → IsMade tried
made_alone (Made done) p q same others one = tt
made_alone _ p q same others one = others_before p q same others one
