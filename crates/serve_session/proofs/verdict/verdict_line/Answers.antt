use Rattle.std.proofs.Common.{ℕ, List, [], ◌∷◌, ◌++◌, ap, ◌∙◌}
use Rattle.serve_session.proofs.VerdictLines.{line_of_members, text_of_verdict}
use Rattle.serve_session.proofs.verdict.verdict_line.Goals as goal

pub returns-clause-text : goal.returns-clause-text
unfolding lib.Utf8.encode
returns-clause-text c =
    let sent = c.in-Ok.ensures.events in
    let text = text_of_verdict c.args.verdict sent.0 _ sent.1 sent.2 in
    c.from_string.ensures ∙ c.in_ok-push.ensures.bytes ∙ ap (λ (l : List ℕ). l ++ 10 ∷ []) text ∙ line_of_members c.args.verdict
