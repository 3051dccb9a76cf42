use Rattle.std.proofs.Common.{◌≡◌, ◌+◌, ◌++◌, take, string_bytes}
use Rattle.answer_text.specs.Lines.{journal_lines}
use Rattle.run_text.proofs.sheets.Sheet.push_updates.Given as goal

abbrev pub invariant-loop-update : goal.invariant-loop-update
invariant-loop-update l = record {
  place : l.place ≡ l.before + l.update-index;
  pushed : string_bytes l.self.text ≡ string_bytes l.fn.self.text ++ journal_lines l.dir (l.before + 1) (take l.update-index l.updates);
}
