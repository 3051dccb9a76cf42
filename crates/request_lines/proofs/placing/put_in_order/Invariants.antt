use Rattle.request_lines.specs.Interned.{AreMoved}
use Rattle.request_lines.proofs.placing.put_in_order.Given as goal

abbrev pub invariant-loop-place : goal.invariant-loop-place
invariant-loop-place l = AreMoved l.initial.names.items l.names.items l.places.items l.numbers.items
