use Rattle.std.proofs.Common.{◌<◌, length, arith, subst}
use Rattle.std.proofs.lemmas.Bool.Decides.{nat_tests}
use Rattle.std.proofs.lemmas.List.Elements.{AllWithin-more, at_read, All-from_all_within, AllWithin-upto}
use Rattle.key_names.specs.Names.{IsFine}
use Rattle.key_names.proofs.directory.check_names.Goals as goal

pub loop-place-preserved : goal.loop-place-preserved
loop-place-preserved c =
    let within : c.loop-place.place < length c.args.names.now = omega arith in
    let read = c.bytes-bytes in
    let not_empty : 0 < length read.result.now = grind (arith, nat_tests, c.if-is_empty.ensures) in
    let fine : IsFine read.result.now = record { not_empty = not_empty; short = omega arith; text = read.ensures.utf8 } in
    AllWithin-more IsFine _ 0 _ c.loop-place.invariant
    (at_read _ IsFine _ _ within c.index-names-place.is (subst IsFine read.ensures.value fine))

pub returns-clause-ok : goal.returns-clause-ok
returns-clause-ok c =
    All-from_all_within IsFine _ (AllWithin-upto IsFine _ 0 _ _ (omega arith) c.loop-place.invariant)
