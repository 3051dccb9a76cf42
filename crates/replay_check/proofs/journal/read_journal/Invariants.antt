use Rattle.std.proofs.Common.{◌≡◌, [], map, length, take}
use Rattle.request_lines.specs.Session.{request_lines}
use Rattle.text_laws.specs.WrongLine.{Checked, AreJournal}
use Rattle.replay_check.specs.Own.{AreOwn}
use Rattle.replay_check.specs.Telling.{IsOfSession}
use Rattle.replay_check.specs.Looking.{texts_of}
use Rattle.replay_check.proofs.journal.read_journal.Given as goal

abbrev pub invariant-loop-line : goal.invariant-loop-line
invariant-loop-line l = record {
  journal : (c : Checked) → IsOfSession c l.session l.dir → AreJournal c [] (take l.line-index (texts_of l.lines)) l.updates.items;
  count : length l.updates.items ≡ l.line-index;
  own : AreOwn (map request_lines l.session.clients) l.updates.items l.own.items;
}
