use Rattle.answer_text.specs.EntryTexts.{AreRight}
use Rattle.run_text.proofs.entries.made.Given as goal

abbrev pub invariant-loop-part : goal.invariant-loop-part
invariant-loop-part g l = AreRight l.wanted.dir l.wanted.records l.texts
