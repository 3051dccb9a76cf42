use Rattle.std.proofs.Common.{ap, ◌∙◌, ◌≡◌, ◌+◌, ◌-◌, ◌<◌, ◌++◌, suc, List, ℕ, length, take, drop, reverse, arith}
use Rattle.key_map.specs.Lists.{count}
use Rattle.pass_slots.proofs.Taken.{removed_is}
use Rattle.pass_slots.proofs.Ends.{taken_free, taken_middle, got_after, found_within}
use Rattle.pass_slots.specs.Owned.{SlotParts}
use Rattle.core_events.specs.UpdateMoves.{without}
use Rattle.pass_slots.proofs.own_slots.OwnSlots.take.Goals as goal

pub returns-clause-free : goal.returns-clause-free
returns-clause-free c =
    let s = c.self.inside in
    let xs : List ℕ = s.slots.items in
    let at : ℕ = c.last_place-at.result in
    let found = c.last_place-at.ensures in
    let low : at < length xs = found_within xs at c.args.slot found.place in
    let next : at + 1 ≡ suc at = omega arith in
    let gone : c.remove_at.new.slots.items ≡ take at xs ++ drop (suc at) xs
    = c.remove_at.ensures.items ∙ ap (λ k. take at xs ++ drop k xs) next in
    let free = ap (λ (p : SlotParts). p.free) c.self.view_is in
    ap (drop (s.retired + s.batch)) gone
    ∙ taken_free (s.retired + s.batch) at xs found.after low
    ∙ removed_is c.args.slot (drop (s.retired + s.batch) xs) (at - (s.retired + s.batch)) (got_after (s.retired + s.batch) at c.args.slot xs found.after found.place) (ap (count c.args.slot) free ∙ c.requires)
    ∙ ap (without c.args.slot) free

pub returns-clause-batch : goal.returns-clause-batch
returns-clause-batch c =
    let s = c.self.inside in
    let xs : List ℕ = s.slots.items in
    let at : ℕ = c.last_place-at.result in
    let found = c.last_place-at.ensures in
    let low : at < length xs = found_within xs at c.args.slot found.place in
    let next : at + 1 ≡ suc at = omega arith in
    let gone : c.remove_at.new.slots.items ≡ take at xs ++ drop (suc at) xs
    = c.remove_at.ensures.items ∙ ap (λ k. take at xs ++ drop k xs) next in
    ap (λ ys. reverse (take s.batch (drop s.retired ys))) gone
    ∙ ap reverse (taken_middle s.retired s.batch at xs found.after low)
    ∙ ap (λ (p : SlotParts). p.batch) c.self.view_is
