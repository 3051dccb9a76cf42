use Rattle.std.proofs.Common.{◌≡◌, ◌-◌, ◌≤◌, length}
use Rattle.answer_text.specs.EntryTexts.{AreRight, AreMadeFrom}
use Rattle.answer_text.proofs.entry_texts.WantedTexts.texts.Given as goal

abbrev pub invariant-loop-place : goal.invariant-loop-place
invariant-loop-place l =
    AreRight l.self.dir l.self.records l.texts.items
    × (length l.texts.items ≡ l.place - l.from)
    × (l.place - l.from ≤ l.to - l.from)
    × AreMadeFrom l.self l.from l.texts.items
