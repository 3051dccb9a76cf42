use Rattle.run_text.specs.Texts.{IsWantedOf}
use Rattle.run_text.proofs.entries.wanted_texts.Given as goal

abbrev pub invariant-loop-piece : goal.invariant-loop-piece
invariant-loop-piece l = IsWantedOf l.dir l.records l.wanted
