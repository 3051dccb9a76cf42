use Rattle.std.proofs.Common.{arith, ◌∙◌}
use Rattle.std.proofs.lemmas.Grind.{common_steps}
use Rattle.outside_io.proofs.Pieces.{taken_more}
use Rattle.outside_io.proofs.writing.write_all.Goals as goal

pub loop-done-preserved : goal.loop-done-preserved
loop-done-preserved g c = record {
  within = grind (arith, common_steps, c.in_ok-done.ensures.most);
  taken = taken_more _ _ _ _ _ _ c.loop-done.invariant.taken c.in_ok-done.ensures.took;
  quiet = c.in_ok-done.ensures.quiet ∙ c.loop-done.invariant.quiet;
}
