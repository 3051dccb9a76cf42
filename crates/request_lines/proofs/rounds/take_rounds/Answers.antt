use Rattle.std.proofs.Common.{ℕ, ◌+◌, ◌^◌, ◌<◌, List, drop, length, length-take, length-drop, sym, ap, subst, ◌∙◌, arith}
use Rattle.std.specs.Borrow.{Bor}
use Rattle.std.proofs.lemmas.List.{drop_all}
use Rattle.std.proofs.lemmas.Result.{err_from_is_err_and}
use Rattle.request_lines.specs.Counting.{IsWithin}
use Rattle.request_lines.specs.Reading.{Progress, progress}
use Rattle.request_lines.specs.Said.{AreRead, texts_in}
use Rattle.request_lines.proofs.TakingLaws.{AreTakenUpTo, taken_start, taken_few, taken_refused, taken_more, taken_end, round_cut}
use Rattle.request_lines.proofs.rounds.take_rounds.Goals as goal

pub loop-done-init : goal.loop-done-init
loop-done-init g c = record {
  room = c.read_all.ensures.as_many ∙ c.in_ok-said.ensures;
  spare_room = c.in_ok-spare.ensures;
  read = subst (λ (bs : List (Bor (List ℕ))). AreRead bs c.read_all.new.said.items) c.round_at.ensures.round c.read_all.ensures.read;
  inside = omega arith;
  taken = rw c.make_room.ensures.same (taken_start (progress c.args.reader.now) 0 (texts_in c.args.blocks.now));
  within = subst IsWithin (sym (ap (λ (p : Progress). p.counts) c.make_room.ensures.same)) c.requires.within;
}

pub take_beside-requires-clause-few : goal.take_beside-requires-clause-few
take_beside-requires-clause-few g c =
    let blocks = c.args.blocks.now in
    let round = c.round_at-round.result.now in
    let done = c.loop-done.done in
    let few : 0 + length (texts_in blocks) < 2 ^ 32 = omega (arith, c.requires.few) in
    omega (arith, taken_few (texts_in round) (texts_in (drop (done + length round) blocks)) (round_cut blocks round done c.round_at-round.ensures.whole) c.loop-done.invariant.taken few)

pub returns-in_err-number-clause-taken : goal.returns-in_err-number-clause-taken
returns-in_err-number-clause-taken g c =
    let error = err_from_is_err_and c.from_residual-in_err-number.result c.from_residual-in_err-number.ensures.1 in
    let blocks = c.args.blocks.now in
    let round = c.round_at-round.result.now in
    let done = c.loop-done.done in
    rw (error.1, error.2)
    (taken_refused (texts_in round) (texts_in (drop (done + length round) blocks)) (round_cut blocks round done c.round_at-round.ensures.whole) c.loop-done.invariant.taken (progress c.take_beside.new.reader) c.in_err-number.field-0.0 c.in_err-number.ensures.taken)

pub loop-done-preserved : goal.loop-done-preserved
loop-done-preserved g c =
    let blocks = c.args.blocks.now in
    let round = c.round_at-round.result.now in
    let done = c.loop-done.done in
    record {
      room = rw c.swap.ensures.x_after (c.in_ok-number.ensures.spare_room ∙ c.loop-done.invariant.spare_room);
      spare_room = rw c.swap.ensures.y_after (c.in_ok-number.ensures.said_room ∙ c.loop-done.invariant.room);
      read = rw c.swap.ensures.x_after (subst (λ (bs : List (Bor (List ℕ))). AreRead bs c.take_beside.new.spare.items) c.round_at-next.ensures.round c.in_ok-number.ensures.next);
      inside = omega (arith, c.loop-done.invariant.inside, ap length c.round_at-round.ensures.round, length-take c.args.most (drop done blocks), length-drop done blocks);
      taken = taken_more (texts_in round) (texts_in (drop (done + length round) blocks)) (round_cut blocks round done c.round_at-round.ensures.whole) c.loop-done.invariant.taken (progress c.take_beside.new.reader) c.in_ok-number.number c.in_ok-number.ensures.taken;
      within = c.in_ok-number.ensures.within;
    }

pub returns-clause-taken : goal.returns-clause-taken
returns-clause-taken g c =
    let blocks = c.args.blocks.now in
    let p = progress c.args.reader.now in
    let q = progress c.loop-done.reader in
    let none = drop_all c.loop-done.done blocks (omega (arith, c.loop-done.invariant.inside, c.loop-done-test.false)) in
    taken_end p q 0 (texts_in blocks) c.loop-done.number
    (subst (λ (bs : List (Bor (List ℕ))). AreTakenUpTo p 0 (texts_in blocks) (texts_in bs) c.loop-done.number q) none c.loop-done.invariant.taken)
