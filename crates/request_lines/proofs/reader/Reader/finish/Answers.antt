use Rattle.std.proofs.Common.{List, ℕ, IfOk, ◌+◌, length}
use Rattle.std.proofs.lemmas.Result.{IfOk-weaker}
use Rattle.request_lines.specs.SessionLaws.{HasNames, HasRecords, HasRequests, HasLines, IsSmall}
use Rattle.request_lines.specs.InputParts.{texts_of}
use Rattle.request_lines.specs.Reading.{progress, HasTaken}
use Rattle.request_lines.proofs.BlockLaws.{texts_small}
use Rattle.request_lines.proofs.InputLaws.{halfway_whole, session_at, answer_at}
use Rattle.request_lines.proofs.CountedLines.{IsSessionOf}
use Rattle.request_lines.proofs.LineCounts.{session_is, refused_is}
use Rattle.request_lines.proofs.Sound.{few_names, sound_answer, IsSoundSession}
use Rattle.request_lines.proofs.SoundLines.{sound_whole}
use Rattle.request_lines.proofs.reader.Reader.finish.Goals as goal

pub kept_session-requires : goal.kept_session-requires
kept_session-requires c =
    let bytes = c.requires.taken.0 in
    let after = progress c.args.self in
    few_names after (1 + length (texts_of bytes)) c.requires.within (sound_whole bytes after c.requires.taken.1)

-- the session is that of the lines as the reader counts them
counted_session : (c : goal.After-kept_session) (bytes : List ℕ) → HasTaken bytes (progress c.args.self) → IfOk c.kept_session.result (IsSessionOf bytes)
counted_session c bytes taken =
    let after = progress c.args.self in
    session_at bytes after (1 + length (texts_of bytes)) c.kept_session.result (halfway_whole bytes after taken)
    c.kept_session.ensures.clients c.kept_session.ensures.names c.kept_session.ensures.records

pub returns-clause-session : goal.returns-clause-session
returns-clause-session c bytes taken = IfOk-weaker _ (IsSessionOf bytes) _ (λ s is. session_is bytes s is) (counted_session c bytes taken)

pub returns-clause-refused : goal.returns-clause-refused
returns-clause-refused c bytes taken = refused_is bytes _ (answer_at bytes _ (counted_session c bytes taken) c.kept_session.ensures.memory)

-- what holds of the session
sound : (c : goal.After-kept_session) → IfOk c.kept_session.result IsSoundSession
sound c =
    let bytes = c.requires.taken.0 in
    let taken = c.requires.taken.1 in
    let after = progress c.args.self in
    sound_answer after (1 + length (texts_of bytes)) c.kept_session.result (texts_small bytes taken.small) c.requires.within (sound_whole bytes after taken)
    c.kept_session.ensures.clients c.kept_session.ensures.names c.kept_session.ensures.records

pub returns-clause-names : goal.returns-clause-names
returns-clause-names c = IfOk-weaker _ IsSoundSession HasNames (λ s holds. holds.names) (sound c)

pub returns-clause-records : goal.returns-clause-records
returns-clause-records c = IfOk-weaker _ IsSoundSession HasRecords (λ s holds. holds.records) (sound c)

pub returns-clause-requests : goal.returns-clause-requests
returns-clause-requests c = IfOk-weaker _ IsSoundSession HasRequests (λ s holds. holds.requests) (sound c)

pub returns-clause-lines : goal.returns-clause-lines
returns-clause-lines c = IfOk-weaker _ IsSoundSession HasLines (λ s holds. holds.lines) (sound c)

pub returns-clause-small : goal.returns-clause-small
returns-clause-small c = IfOk-weaker _ IsSoundSession IsSmall (λ s holds. holds.small) (sound c)
