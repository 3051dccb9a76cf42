use Rattle.std.proofs.Common.{◌≡◌, drop}
use Rattle.core_events.specs.Openings.{opening}
use Rattle.core_invariant.specs.Rule.{IsRight}
use Rattle.core_rule.specs.Runs.{after_all, first_refused, refused_from}
use Rattle.core_rule.proofs.run.run_of.Given as goal

abbrev pub invariant-loop-place : goal.invariant-loop-place
invariant-loop-place l = record {
  refused : first_refused (opening l.fn.layout l.fn.sizes) l.events ≡ refused_from l.place l.state (drop l.place l.events);
  after : after_all (opening l.fn.layout l.fn.sizes) l.events ≡ after_all l.state (drop l.place l.events);
  rule : IsRight l.state;
}
