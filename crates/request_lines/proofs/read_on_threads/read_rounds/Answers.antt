use Rattle.std.proofs.Common.{◌≡◌, Err, ap, arith, length}
use Rattle.std.proofs.lemmas.Result.{err_from_is_err_and}
use Rattle.request_lines.specs.InputParts.{texts_of}
use Rattle.request_lines.specs.Reading.{progress, HasTaken}
use Rattle.request_lines.specs.Said.{texts_in}
use Rattle.request_lines.proofs.BlockLaws.{texts_small}
use Rattle.request_lines.proofs.InputLaws.{taken_whole, refused_whole}
use Rattle.request_lines.proofs.LineCounts.{refused_is}
use Rattle.request_lines.proofs.read_on_threads.read_rounds.Goals as goal
use Rattle.request_lines.proofs.read_on_threads.read_rounds.Given.{Over}

pub take_rounds-requires-clause-few : goal.take_rounds-requires-clause-few
take_rounds-requires-clause-few g c =
    let same : texts_in c.deref.result.now ≡ texts_of c.args.bytes.now = rw c.deref.ensures.value c.in_ok-blocks.ensures in
    omega (arith, ap length same, texts_small c.args.bytes.now c.requires.small)

pub returns-in_err-take_rounds-clause-refused : goal.returns-in_err-take_rounds-clause-refused
returns-in_err-take_rounds-clause-refused g c =
    let error = err_from_is_err_and c.from_residual-in_err-take_rounds.result c.from_residual-in_err-take_rounds.ensures.1 in
    let bytes = c.args.bytes.now in
    let same : texts_in c.deref.result.now ≡ texts_of bytes = rw c.deref.ensures.value c.in_ok-blocks.ensures in
    let e = c.in_err-take_rounds.field-0.0 in
    rw (error.1, error.2)
    (refused_is bytes (Err e) (refused_whole bytes (progress c.new-reader.result) (progress c.take_rounds.new.reader) (texts_in c.deref.result.now) e c.new-reader.ensures.start same c.in_err-take_rounds.ensures.taken))

pub finish-requires-clause-taken : goal.finish-requires-clause-taken
finish-requires-clause-taken g c =
    let bytes = c.args.bytes.now in
    let same : texts_in c.deref.result.now ≡ texts_of bytes = rw c.deref.ensures.value c.in_ok-blocks.ensures in
    (bytes, taken_whole bytes (progress c.new-reader.result) (progress c.take_rounds.new.reader) (texts_in c.deref.result.now) _ c.new-reader.ensures.start same c.requires.small c.in_ok-take_rounds.ensures.taken)

-- all lines were taken
taken : (g : Over) (c : goal.After-drop-blocks-2 g) → HasTaken c.args.bytes.now (progress c.take_rounds.new.reader)
taken g c =
    let bytes = c.args.bytes.now in
    let same : texts_in c.deref.result.now ≡ texts_of bytes = rw c.deref.ensures.value c.in_ok-blocks.ensures in
    taken_whole bytes (progress c.new-reader.result) (progress c.take_rounds.new.reader) (texts_in c.deref.result.now) _ c.new-reader.ensures.start same c.requires.small c.in_ok-take_rounds.ensures.taken

pub returns-clause-session : goal.returns-clause-session
returns-clause-session g c = c.finish.ensures.session c.args.bytes.now (taken g c)

pub returns-clause-refused : goal.returns-clause-refused
returns-clause-refused g c = c.finish.ensures.refused c.args.bytes.now (taken g c)
