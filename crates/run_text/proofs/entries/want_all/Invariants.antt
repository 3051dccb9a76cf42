use Rattle.run_text.specs.Texts.{IsWantedOf}
use Rattle.run_text.proofs.entries.want_all.Given as goal

abbrev pub invariant-loop-placed : goal.invariant-loop-placed
invariant-loop-placed l = IsWantedOf l.initial.wanted.dir l.initial.wanted.records l.wanted
