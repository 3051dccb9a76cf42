use Rattle.std.proofs.Common.{[], ap, ◌∙◌, arith}
use Rattle.std.proofs.lemmas.Result.{err_from_is_err_and}
use Rattle.request_lines.specs.InputParts.{texts_of, texts_left}
use Rattle.request_lines.specs.Reading.{progress}
use Rattle.request_lines.proofs.TakingLaws.{AreTakenUpTo, taken_start, taken_few, taken_refused, taken_more, taken_end}
use Rattle.request_lines.proofs.reader.Reader.take_in_turn.Goals as goal

pub loop-left-init : goal.loop-left-init
loop-left-init c = record { taken = taken_start (progress c.args.self.now) 0 (texts_of c.args.bytes.now); within = c.requires.within }

pub take_all-requires-clause-says : goal.take_all-requires-clause-says
take_all-requires-clause-says c =
    let block = texts_of c.first_block.result.0.now in (
      block,
      c.read.ensures,
      taken_few block (texts_left c.first_block.result.1) (ap texts_left c.in-Some.is ∙ c.first_block.ensures.cut) c.loop-left.invariant.taken (omega (arith, c.requires.few)),
    )

pub returns-in_err-number-clause-taken : goal.returns-in_err-number-clause-taken
returns-in_err-number-clause-taken c =
    let error = err_from_is_err_and c.from_residual.result c.from_residual.ensures.1 in
    let block = texts_of c.first_block.result.0.now in
    rw (error.1, error.2)
    (taken_refused block (texts_left c.first_block.result.1) (ap texts_left c.in-Some.is ∙ c.first_block.ensures.cut) c.loop-left.invariant.taken (progress c.take_all.new.self) c.in_err-number.field-0.0 (c.in_err-number.ensures.taken block c.read.ensures))

pub loop-left-preserved : goal.loop-left-preserved
loop-left-preserved c =
    let block = texts_of c.first_block.result.0.now in
    record {
      taken = taken_more block (texts_left c.first_block.result.1) (ap texts_left c.in-Some.is ∙ c.first_block.ensures.cut) c.loop-left.invariant.taken (progress c.take_all.new.self) c.in_ok-number.number (c.in_ok-number.ensures.taken block c.read.ensures);
      within = c.in_ok-number.ensures.within;
    }

pub returns-clause-taken : goal.returns-clause-taken
returns-clause-taken c =
    let taken : AreTakenUpTo (progress c.args.self.now) 0 (texts_of c.args.bytes.now) [] c.loop-left.number (progress c.loop-left.self) = rw c.in_default.is at c.loop-left.invariant.taken in
    taken_end (progress c.args.self.now) (progress c.loop-left.self) 0 (texts_of c.args.bytes.now) c.loop-left.number taken
