use Rattle.std.proofs.Common.{◌≡◌, ℕ, List, ◌∷◌, [], ◌++◌, ap, ◌∙◌}
use Rattle.request_lines.specs.Sample.{sample_name}
use Rattle.request_lines.proofs.SampleParts.{drawn}
use Rattle.request_lines.proofs.generated.Generated.name.Goals as goal

-- the copy is of the name in the request
copied : (c : goal.After-note) → c.in_ok-name.name ≡ sample_name c.args.client c.args.i
copied c =
    c.in_ok-name.ensures ∙ c.index.ensures ∙ drawn c.args.client c.args.i c.args.own.now.names.items c.index.result.now c.requires.own.names c.requires.known

pub returns-clause-name : goal.returns-clause-name
returns-clause-name c = copied c

pub returns-clause-names : goal.returns-clause-names
returns-clause-names c =
    c.note.ensures.names ∙ c.in_ok-number.ensures ∙ ap (λ (name : List ℕ). c.args.self.now.names ++ name ∷ []) (copied c)
