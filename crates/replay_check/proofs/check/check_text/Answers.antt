use Rattle.std.proofs.Common.{◌≡◌, ℕ, List, length, refl, ap, ◌∙◌, subst, arith}
use Rattle.std.specs.Borrow.{Bor}
use Rattle.std.proofs.lemmas.List.{length-map}
use Rattle.std.proofs.lemmas.Result.{IfOk-weaker}
use Rattle.request_lines.specs.CheckInput.{text_lines}
use Rattle.text_laws.specs.TextLaws.{IsCheckable}
use Rattle.replay_check.specs.Telling.{checked}
use Rattle.replay_check.specs.Judging.{IsVerdict}
use Rattle.replay_check.specs.Looking.{texts_of}
use Rattle.replay_check.proofs.Verdicts.{legal_is, wrong_is, checkable}
use Rattle.replay_check.proofs.check.check_text.Goals as goal
use Rattle.replay_check.proofs.check.check_text.Goals.{After-check_lines}

same_lines : (c : After-check_lines) → texts_of c.deref.result.now ≡ text_lines c.args.text.now
same_lines c = ap texts_of c.deref.ensures.value ∙ c.in_ok-lines.ensures

fine : (c : After-check_lines) → IsCheckable (checked c.args.session.now c.args.dir.now c.args.slots) (text_lines c.args.text.now)
fine c =
    let same = ap length c.in_ok-lines.ensures in
    let long = length-map c.in_ok-lines.lines.items (λ (line : Bor (List ℕ)). line.now) in
    let ok = c.in_ok-lines.lines.ok in
    let small = c.in_ok-lines.lines.small in
    checkable c.args.session.now c.args.dir.now c.requires (checked c.args.session.now c.args.dir.now c.args.slots) c.args.text.now refl refl (omega arith)

pub returns-clause-legal : goal.returns-clause-legal
returns-clause-legal c =
    let k = checked c.args.session.now c.args.dir.now c.args.slots in
    let w = (goal.at.returns-clause-legal c).After-check_lines in
    IfOk-weaker c.check_lines.result _ _ (λ verdict is.
    legal_is k c.args.text.now (fine w) verdict (subst (λ (ts : List (List ℕ)). IsVerdict k ts verdict) (same_lines w) is))
    c.check_lines.ensures

pub returns-clause-wrong : goal.returns-clause-wrong
returns-clause-wrong c =
    let k = checked c.args.session.now c.args.dir.now c.args.slots in
    let w = (goal.at.returns-clause-wrong c).After-check_lines in
    IfOk-weaker c.check_lines.result _ _ (λ verdict is.
    wrong_is k c.args.text.now (fine w) verdict (subst (λ (ts : List (List ℕ)). IsVerdict k ts verdict) (same_lines w) is))
    c.check_lines.ensures
