use Rattle.std.proofs.Common.{◌≡◌, length, ap, sym, ◌∙◌, arith}
use Rattle.std.specs.List.{range_with_len}
use Rattle.request_lines.proofs.Interned.{none_moved, numbers_below, ranked_by_places, same_count}
use Rattle.request_lines.proofs.placing.put_in_order.Goals as goal

pub loop-place-init : goal.loop-place-init
loop-place-init c =
    let names = c.args.names.now.items in
    let count : length c.args.entries.now ≡ length names = sym (same_count names c.args.entries.now c.requires) in
    let places : c.in_ok-places.places.items ≡ range_with_len 0 (length names) = c.in_ok-places.ensures ∙ ap (range_with_len 0) count in
    let numbers : c.in_ok-numbers.numbers.items ≡ range_with_len 0 (length names) = c.in_ok-numbers.ensures ∙ ap (range_with_len 0) count in
    rw (places, numbers) (none_moved names)

pub move_to-requires-clause-place : goal.move_to-requires-clause-place
move_to-requires-clause-place c =
    omega (arith, c.loop-place-test.true, same_count c.args.names.now.items c.args.entries.now c.requires, c.loop-place.invariant.names_count)

pub move_to-requires-clause-number : goal.move_to-requires-clause-number
move_to-requires-clause-number c =
    omega (arith, numbers_below c.args.names.now.items c.args.entries.now c.requires c.loop-place.place (record { leads = (0, 0); number = 0 }) c.loop-place-test.true, c.loop-place.invariant.names_count)

pub returns : goal.returns
returns c = ranked_by_places c.args.names.now.items c.loop-place.names.items c.loop-place.places.items c.loop-place.numbers.items c.loop-place.invariant
