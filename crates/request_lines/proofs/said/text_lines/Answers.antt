use Rattle.std.proofs.Common.{[], refl, sym, ap, subst, ◌∙◌, append-nil}
use Rattle.std.specs.Str.{IsValidUpTo}
use Rattle.request_lines.specs.InputParts.{texts_of}
use Rattle.request_lines.proofs.BrokenLines.{first_lines}
use Rattle.request_lines.proofs.said.text_lines.Goals as goal

pub returns-in-Ok : goal.returns-in-Ok
returns-in-Ok c = record { after = []; all = sym (append-nil (texts_of c.in-Ok.text.now) ∙ ap texts_of c.in-Ok.ensures.cases.0); stops = refl }

pub whole_lines-requires : goal.whole_lines-requires
whole_lines-requires c = rw (c.split_at.ensures.front, c.valid_up_to.ensures) (c.in-Err.ensures.cases.1).front

pub returns-in-Err : goal.returns-in-Err
returns-in-Err c =
    let valid = subst (IsValidUpTo c.args.block.now) (sym c.valid_up_to.ensures) c.in-Err.ensures.cases.1 in
    first_lines c.args.block.now c.valid_up_to.result valid c.whole_lines.result
    (rw (← c.split_at.ensures.front) c.whole_lines.ensures.place) (rw (← c.split_at.ensures.front) c.whole_lines.ensures.front)
