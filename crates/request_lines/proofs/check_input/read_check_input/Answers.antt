use Rattle.std.proofs.Common.{◌+◌, ◌∙◌, ap, sym, ℕ, Some}
use Rattle.line_grammar.specs.declared.cause.Cause.TheVariants.{NoText}
use Rattle.request_lines.proofs.CheckInputs.{accepted, lacks_text, refused}
use Rattle.request_lines.proofs.check_input.read_check_input.Goals as goal

pub returns-in-Ok-Some-clause-refused : goal.returns-in-Ok-Some-clause-refused
returns-in-Ok-Some-clause-refused c =
    accepted c.args.bytes.now c.parts.result.0.now c.parts.result.1 c.parts.ensures.session c.parts.ensures.text c.in-Ok-Some.text (cc) c.in-Ok-Some.ensures.refused

pub returns-in-Ok-None-clause-refused : goal.returns-in-Ok-None-clause-refused
returns-in-Ok-None-clause-refused c =
    lacks_text c.args.bytes.now c.parts.result.0.now c.parts.result.1 c.parts.ensures.session c.parts.ensures.text (cc) c.in-Ok-None.ensures.refused
    ∙ ap (λ (n : ℕ). Some (record { line = n + 1; cause = NoText })) (sym c.line_count.ensures.count)

pub returns-in-Err-default-clause-refused : goal.returns-in-Err-default-clause-refused
returns-in-Err-default-clause-refused c =
    refused c.args.bytes.now c.parts.result.0.now c.parts.result.1 c.parts.ensures.session c.parts.ensures.text c.in-Err-default.error c.in-Err-default.ensures.refused
