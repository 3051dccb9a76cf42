use Rattle.std.proofs.Common.{◌≡◌, ℕ, List, subst, ◌∙◌}
use Rattle.std.proofs.lemmas.Str.Pattern.{starts_text}
use Rattle.key_names.specs.Names.{name_at, begins_with}
use Rattle.page_rules.proofs.group_end.is_in.Goals as goal

pub returns : goal.returns
returns c =
    let name = name_at c.args.dir.now c.args.rank in
    subst (λ (text : List ℕ). c.starts_with.result ≡ begins_with text c.args.group.now) (c.as_str.ensures ∙ c.name.ensures)
    (starts_text c.starts_with.result c.args.group.now c.as_str.result.now c.starts_with.ensures.cases)
