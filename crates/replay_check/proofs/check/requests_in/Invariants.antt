use Rattle.std.proofs.Common.{◌≡◌, map, take}
use Rattle.request_lines.specs.Session.{request_lines}
use Rattle.text_laws.specs.WrongLine.{requests_of}
use Rattle.replay_check.proofs.check.requests_in.Given as goal

abbrev pub invariant-loop-part : goal.invariant-loop-part
invariant-loop-part l = l.count ≡ requests_of (map request_lines (take l.part-index l.part-items))
