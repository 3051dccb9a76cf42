use Rattle.std.proofs.Common.{◌≡◌, ◌≤◌}
use Rattle.serve_session.proofs.SampleSizes.{sample_updates}
use Rattle.serve_session.proofs.sample.size_of_pass.Given as goal

abbrev pub invariant-loop-i : goal.invariant-loop-i
invariant-loop-i l = (l.updates ≡ sample_updates l.i) × (l.updates ≤ l.i)
