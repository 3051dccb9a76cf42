use Rattle.run_text.specs.Texts.{IsWantedOf}
use Rattle.run_text.proofs.entries.want_page.Given as goal

abbrev pub invariant-loop-place : goal.invariant-loop-place
invariant-loop-place l = IsWantedOf l.initial.wanted.dir l.initial.wanted.records l.wanted
