use Rattle.request_lines.proofs.BrokenLines.{utf8_before}
use Rattle.request_lines.proofs.said.whole_lines.Goals as goal

pub returns-in-Err-clause-place : goal.returns-in-Err-clause-place
returns-in-Err-clause-place c =
    absurd (c.in-Err.ensures.cases.0 (rw c.split_at.ensures.front (utf8_before c.args.text.now c.in_ok-end.end c.requires c.in_ok-end.ensures)))
