use Rattle.std.proofs.Common.{◌≡◌, ◌<◌, length, sym, ◌∙◌, arith}
use Rattle.std.specs.Prelude.{slice_index}
use Rattle.std.proofs.lemmas.List.{get_or_default}
use Rattle.request_lines.proofs.Interned.{moved_once}
use Rattle.request_lines.proofs.placing.move_to.Goals as goal

pub returns-clause-moved : goal.returns-clause-moved
returns-clause-moved c kept are =
    let place_low : c.args.place < length kept = omega (arith, c.requires.place, are.names_count) in
    let number_low : c.args.number < length kept = omega (arith, c.requires.number, are.names_count) in
    let places = c.args.places.now.items in
    let numbers = c.args.numbers.now.items in
    let is_from : slice_index places c.args.number ≡ c.index-from.result.now =
    sym (c.index-from.ensures ∙ get_or_default places c.args.number _ 0 (omega (arith, number_low, are.places_count))) in
    let is_other : slice_index numbers c.args.place ≡ c.index-other.result.now =
    sym (c.index-other.ensures ∙ get_or_default numbers c.args.place _ 0 (omega (arith, place_low, are.numbers_count))) in
    moved_once are c.args.place c.args.number c.index-from.result.now c.index-other.result.now place_low number_low is_from is_other
    (λ same. omega (arith, same, c.if-from-place.false)) c.swap.new.self.items c.swap.ensures.by_index (omega (arith, c.swap.ensures.len))
