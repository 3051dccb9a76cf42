use Rattle.std.proofs.Common.{◌≡◌, ℕ, ◌+◌, ◌<◌, ◌++◌, List, drop, length, get_or, refl, sym, ap, subst, ◌∙◌, arith}
use Rattle.std.specs.Borrow.{Bor}
use Rattle.std.proofs.lemmas.List.{length-set, get_or-set_other, drop_more, drop_all}
use Rattle.std.proofs.lemmas.Result.{err_from_is_err_and}
use Rattle.request_lines.specs.declared.said.Said.{Said}
use Rattle.request_lines.specs.InputParts.{texts_of}
use Rattle.request_lines.specs.Reading.{progress}
use Rattle.request_lines.specs.Said.{IsRead, AreRead, texts_in}
use Rattle.request_lines.proofs.TakingLaws.{AreTakenUpTo, taken_start, taken_few, taken_refused, taken_more, taken_end, block_of}
use Rattle.request_lines.proofs.reader.Reader.take_each.Goals as goal

-- the lines of the block at this place are the first that are left, and the list there has what they say
at_place : (blocks : List (Bor (List ℕ))) (said now : List Said) (i : ℕ) (e : Said) → AreRead blocks said → i < length blocks → e ≡ get_or now i e → get_or now i e ≡ get_or said i e
    → (texts : List (List ℕ)) × (texts_in (drop i blocks) ≡ texts ++ texts_in (drop (i + 1) blocks)) × IsRead texts e
at_place blocks said now i e are lt here left =
    let d = block_of blocks (omega arith) in
    let texts = texts_of (get_or blocks i d).now in
    (texts, ap texts_in (drop_more blocks i d lt), subst (IsRead texts) (sym (here ∙ left)) (are.each i e lt d))

pub loop-place-init : goal.loop-place-init
loop-place-init c = record {
  taken = taken_start (progress c.args.self.now) c.args.before (texts_in c.args.blocks.now);
  within = c.requires.within;
  long = refl;
  left = λ j d le. refl;
}

pub take_all-requires-clause-says : goal.take_all-requires-clause-says
take_all-requires-clause-says c =
    let i = c.loop-place.place in
    let blocks = c.args.blocks.now in
    let e = c.index_mut.result.now in
    let here = at_place blocks c.args.said.now.items c.loop-place.said.items i e c.requires.read c.loop-place-test.true c.index_mut.ensures.value (c.loop-place.invariant.left i e (omega arith)) in
    (here.0, here.2, taken_few here.0 (texts_in (drop (i + 1) blocks)) here.1 c.loop-place.invariant.taken c.requires.few)

pub returns-in_err-number-clause-taken : goal.returns-in_err-number-clause-taken
returns-in_err-number-clause-taken c =
    let error = err_from_is_err_and c.from_residual.result c.from_residual.ensures.1 in
    let i = c.loop-place.place in
    let blocks = c.args.blocks.now in
    let e = c.index_mut.result.now in
    let here = at_place blocks c.args.said.now.items c.loop-place.said.items i e c.requires.read c.loop-place-test.true c.index_mut.ensures.value (c.loop-place.invariant.left i e (omega arith)) in
    rw (error.1, error.2)
    (taken_refused here.0 (texts_in (drop (i + 1) blocks)) here.1 c.loop-place.invariant.taken
    (progress c.take_all.new.self) c.in_err-number.field-0.0 (c.in_err-number.ensures.taken here.0 here.2))

pub loop-place-preserved : goal.loop-place-preserved
loop-place-preserved c =
    let i = c.loop-place.place in
    let blocks = c.args.blocks.now in
    let e = c.index_mut.result.now in
    let here = at_place blocks c.args.said.now.items c.loop-place.said.items i e c.requires.read c.loop-place-test.true c.index_mut.ensures.value (c.loop-place.invariant.left i e (omega arith)) in
    record {
      taken = taken_more here.0 (texts_in (drop (i + 1) blocks)) here.1 c.loop-place.invariant.taken
          (progress c.take_all.new.self) c.in_ok-number.number (c.in_ok-number.ensures.taken here.0 here.2);
      within = c.in_ok-number.ensures.within;
      long = length-set c.loop-place.said.items i c.take_all.new.said ∙ c.loop-place.invariant.long;
      left = λ j d le. get_or-set_other c.loop-place.said.items i j c.take_all.new.said d (omega arith) ∙ c.loop-place.invariant.left j d (omega arith);
    }

pub returns-clause-taken : goal.returns-clause-taken
returns-clause-taken c =
    let i = c.loop-place.place in
    let blocks = c.args.blocks.now in
    let p = progress c.args.self.now in
    let q = progress c.loop-place.self in
    let none = drop_all i blocks (omega (arith, c.loop-place.auto.place-end, c.loop-place-test.false)) in
    taken_end p q c.args.before (texts_in blocks) c.loop-place.number
    (subst (λ (bs : List (Bor (List ℕ))). AreTakenUpTo p c.args.before (texts_in blocks) (texts_in bs) c.loop-place.number q) none c.loop-place.invariant.taken)
