use Rattle.std.proofs.Common.{ℕ, ◌++◌, List, sym, subst, slice_index}
use Rattle.index_words.specs.declared.view.View.{View}
use Rattle.core_events.specs.UpdateMoves.{listed_entry}
use Rattle.pass_slots.specs.Owned.{KeptSlots}
use Rattle.table_rule.specs.Homes.{Sat}
use Rattle.table_steps.specs.Raises.{HoldsEntries}
use Rattle.table_steps.specs.Retires.{HasRoomFor}
use Rattle.table_steps.proofs.RetireSteps.{Split, split_held, room_before, room_after, both_retired}
use Rattle.table_steps.proofs.retires.retire_nodes.Goals as goal

pub retire_node-requires-clause-entries : goal.retire_node-requires-clause-entries
retire_node-requires-clause-entries c =
    let v : View = c.args.seat.now.view in
    let s : KeptSlots = c.args.slots.now in
    let one : List ℕ = listed_entry (slice_index c.args.out 0) in
    let two : List ℕ = listed_entry (slice_index c.args.out 1) in
    let needs = c.requires.entries in
    let parts : Split v one two needs.0 = split_held v one two needs.0 needs.1 in
    (parts.first, parts.one, room_before s one two parts.first parts.second c.args.limit (subst (λ (xs : List ℕ). HasRoomFor (one ++ two) xs c.args.limit s) parts.are needs.2))

pub retire_node-requires-2-clause-entries : goal.retire_node-requires-2-clause-entries
retire_node-requires-2-clause-entries c =
    let v : View = c.args.seat.now.view in
    let s : KeptSlots = c.args.slots.now in
    let one : List ℕ = listed_entry (slice_index c.args.out 0) in
    let two : List ℕ = listed_entry (slice_index c.args.out 1) in
    let needs = c.requires.entries in
    let parts : Split v one two needs.0 = split_held v one two needs.0 needs.1 in (
      parts.second,
      subst (λ (x : Sat). HoldsEntries x.view two parts.second) (sym c.retire_node.ensures.same) parts.two,
      room_after s c.retire_node.new.slots one two parts.first parts.second c.args.limit (subst (λ (xs : List ℕ). HasRoomFor (one ++ two) xs c.args.limit s) parts.are needs.2)
          (c.retire_node.ensures.retired parts.first parts.one),
    )

pub returns-clause-retired : goal.returns-clause-retired
returns-clause-retired c es held =
    let v : View = c.args.seat.now.view in
    let one : List ℕ = listed_entry (slice_index c.args.out 0) in
    let two : List ℕ = listed_entry (slice_index c.args.out 1) in
    let parts : Split v one two es = split_held v one two es held in
    let again : HoldsEntries c.retire_node.new.seat.view two parts.second = subst (λ (x : Sat). HoldsEntries x.view two parts.second) (sym c.retire_node.ensures.same) parts.two in
    both_retired c.args.slots.now c.retire_node.new.slots c.retire_node-2.new.slots one two es parts.first parts.second parts.are (c.retire_node.ensures.retired parts.first parts.one)
    (c.retire_node-2.ensures.retired parts.second again)
