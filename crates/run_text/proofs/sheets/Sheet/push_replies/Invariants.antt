use Rattle.std.proofs.Common.{◌≡◌, ◌++◌, take, string_bytes}
use Rattle.answer_text.specs.Shown.{reply_lines}
use Rattle.run_text.proofs.sheets.Sheet.push_replies.Given as goal

abbrev pub invariant-loop-placed : goal.invariant-loop-placed
invariant-loop-placed l = string_bytes l.self.text ≡ string_bytes l.fn.self.text ++ reply_lines l.known.dir.now l.known.records.now (take l.placed-index l.replies)
