use Rattle.std.specs.List.{AllWithin}
use Rattle.key_names.specs.Names.{IsFine}
use Rattle.key_names.proofs.directory.check_names.Given as goal

abbrev pub invariant-loop-place : goal.invariant-loop-place
invariant-loop-place l = AllWithin IsFine l.names 0 l.place
