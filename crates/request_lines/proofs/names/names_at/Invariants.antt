use Rattle.std.proofs.Common.{◌≡◌, take}
use Rattle.request_lines.specs.Interned.{named}
use Rattle.request_lines.proofs.names.names_at.Given as goal

abbrev pub invariant-loop-place : goal.invariant-loop-place
invariant-loop-place l = l.listed.items ≡ named l.names (take l.place-index l.places)
