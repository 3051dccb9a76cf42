use Rattle.std.proofs.Common.{Err, refl, arith}
use Rattle.std.proofs.lemmas.Result.{err_from_is_err_and}
use Rattle.request_lines.specs.InputParts.{texts_of}
use Rattle.request_lines.specs.Reading.{progress, HasTaken}
use Rattle.request_lines.proofs.BlockLaws.{texts_small}
use Rattle.request_lines.proofs.InputLaws.{taken_whole, refused_whole}
use Rattle.request_lines.proofs.LineCounts.{refused_is}
use Rattle.request_lines.proofs.read.read_lines.Goals as goal

pub take_in_turn-requires-clause-few : goal.take_in_turn-requires-clause-few
take_in_turn-requires-clause-few c = omega (arith, texts_small c.args.bytes.now c.requires)

pub returns-in_err-take_in_turn-clause-refused : goal.returns-in_err-take_in_turn-clause-refused
returns-in_err-take_in_turn-clause-refused c =
    let error = err_from_is_err_and c.from_residual.result c.from_residual.ensures.1 in
    let bytes = c.args.bytes.now in
    let e = c.in_err-take_in_turn.field-0.0 in
    rw (error.1, error.2)
    (refused_is bytes (Err e) (refused_whole bytes (progress c.new-reader.result) (progress c.take_in_turn.new.self) (texts_of bytes) e c.new-reader.ensures.start refl c.in_err-take_in_turn.ensures.taken))

pub finish-requires-clause-taken : goal.finish-requires-clause-taken
finish-requires-clause-taken c =
    let bytes = c.args.bytes.now in
    (bytes, taken_whole bytes (progress c.new-reader.result) (progress c.take_in_turn.new.self) (texts_of bytes) _ c.new-reader.ensures.start refl c.requires c.in_ok-take_in_turn.ensures.taken)

-- all lines were taken
taken : (c : goal.After-finish) → HasTaken c.args.bytes.now (progress c.take_in_turn.new.self)
taken c =
    let bytes = c.args.bytes.now in
    taken_whole bytes (progress c.new-reader.result) (progress c.take_in_turn.new.self) (texts_of bytes) _ c.new-reader.ensures.start refl c.requires c.in_ok-take_in_turn.ensures.taken

pub returns-clause-session : goal.returns-clause-session
returns-clause-session c = c.finish.ensures.session c.args.bytes.now (taken c)

pub returns-clause-refused : goal.returns-clause-refused
returns-clause-refused c = c.finish.ensures.refused c.args.bytes.now (taken c)
