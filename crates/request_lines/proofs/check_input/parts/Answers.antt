use Rattle.std.proofs.Common.{◌≡◌, ◌+◌, ◌≤◌, ℕ, length, drop, Some, subst, sym, ap, ◌∙◌, arith}
use Rattle.std.proofs.lemmas.List.{length-drop}
use Rattle.request_lines.proofs.CheckInputs.{HasNoneBefore, next_line, none_yet, not_here, here_session, here_text, nowhere_session, nowhere_text}
use Rattle.request_lines.proofs.check_input.parts.Goals as goal

pub loop-at-init : goal.loop-at-init
loop-at-init c = none_yet c.args.bytes.now

pub returns-then-is_divider-clause-session : goal.returns-then-is_divider-clause-session
returns-then-is_divider-clause-session c =
    c.split_at.ensures.front ∙ here_session c.args.bytes.now _ c.loop-at.at c.line_len.result c.loop-at.invariant
    (next_line _ _ _ c.line_len.result c.split_at.ensures.back c.split_at-in-loop-at.ensures.front c.line_len.ensures.cut)
    (sym c.is_divider.ensures ∙ c.if-is_divider.true)

pub returns-then-is_divider-clause-text : goal.returns-then-is_divider-clause-text
returns-then-is_divider-clause-text c =
    ap Some (c.split_at-in-loop-at.ensures.back ∙ ap (drop c.line_len.result) c.split_at.ensures.back)
    ∙ here_text c.args.bytes.now _ c.loop-at.at c.line_len.result c.loop-at.invariant
    (next_line _ _ _ c.line_len.result c.split_at.ensures.back c.split_at-in-loop-at.ensures.front c.line_len.ensures.cut)
    (sym c.is_divider.ensures ∙ c.if-is_divider.true)

pub loop-at-preserved : goal.loop-at-preserved
loop-at-preserved c =
    let len : length c.split_at-in-loop-at.result.0.now ≡ c.line_len.result = c.split_at-in-loop-at.ensures.front_len in
    let left : length c.split_at.result.1.now ≡ length (drop c.loop-at.at c.args.bytes.now) = ap length c.split_at.ensures.back in
    let all = length-drop c.loop-at.at c.args.bytes.now in
    let within : c.loop-at.at + c.line_len.result ≤ length c.args.bytes.now = omega (arith, c.line_len.ensures.most, c.loop-at.invariant.inside) in
    subst (λ (n : ℕ). HasNoneBefore c.args.bytes.now (c.loop-at.at + n)) (sym len)
    (not_here c.args.bytes.now _ c.loop-at.at c.line_len.result c.loop-at.invariant
    (next_line _ _ _ c.line_len.result c.split_at.ensures.back c.split_at-in-loop-at.ensures.front c.line_len.ensures.cut)
    within (sym c.is_divider.ensures ∙ c.if-is_divider.false))

pub returns-clause-session : goal.returns-clause-session
returns-clause-session c = nowhere_session c.args.bytes.now c.loop-at.at c.loop-at.invariant (omega (arith, c.loop-at-test.false))

pub returns-clause-text : goal.returns-clause-text
returns-clause-text c = nowhere_text c.args.bytes.now c.loop-at.at c.loop-at.invariant (omega (arith, c.loop-at-test.false))
