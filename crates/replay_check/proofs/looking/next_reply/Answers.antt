use Rattle.std.proofs.Common.{◌≡◌, ◌<◌, All, List, Some, length, sym, ap, ◌∙◌, subst, arith}
use Rattle.std.specs.List.{slice_get}
use Rattle.std.proofs.lemmas.Result.{IfOk-weaker}
use Rattle.key_map.specs.declared.pair.Pair.{Pair}
use Rattle.bucket_terms.specs.declared.record.Record.{Record}
use Rattle.bucket_terms.specs.LegalRun.{lines_of}
use Rattle.request_lines.specs.Session.{request_line}
use Rattle.replay_check.specs.Own.{history_of}
use Rattle.replay_check.specs.Turns.{IsOwnPlace}
use Rattle.replay_check.specs.Looking.{against}
use Rattle.replay_check.proofs.NextReplies.{found_next}
use Rattle.replay_check.proofs.BasisLaws.{in_lines, few_lines, of_session, there, line_at, own_at, text_there_is, lines_long}
use Rattle.replay_check.proofs.SessionLines.{lines_are}
use Rattle.replay_check.proofs.SessionRecords.{recorded_map}
use Rattle.replay_check.proofs.looking.next_reply.Goals as goal

pub overflow_add-text : goal.overflow_add-text
overflow_add-text c = let few = few_lines c.args.basis.now c.requires.basis c.args.number c.requires.within c.args.client.now c.requires.ready.come c.requires.inside in omega arith

pub offset_bounds-basis-client : goal.offset_bounds-basis-client
offset_bounds-basis-client c = let few = few_lines c.args.basis.now c.requires.basis c.args.number c.requires.within c.args.client.now c.requires.ready.come c.requires.inside in omega arith

pub bounds-basis-client : goal.bounds-basis-client
bounds-basis-client c = in_lines c.args.basis.now c.requires.basis c.args.number c.requires.within c.args.client.now c.requires.ready.come c.requires.inside

pub line_reply-requires-clause-recorded : goal.line_reply-requires-clause-recorded
line_reply-requires-clause-recorded c =
    let b = c.args.basis.now in
    subst (λ (rs : List Record). All (λ (p : Pair). p.val < length rs) c.args.replay.now.map) (sym c.as_slice-records.ensures)
    (recorded_map b.session.now b.dir.now c.requires.basis.read (against b) (of_session b) b.updates.now c.requires.basis.made c.args.replay.now c.args.replay.now.at c.requires.here)

pub returns-clause-found : goal.returns-clause-found
returns-clause-found c =
    let b = c.args.basis.now in
    let client = c.args.client.now in
    let part = c.index-as_slice-number.result in
    let asked = request_line c.index-as_slice-client.result in
    let part_is = there b.session.now.clients c.as_slice.result.now c.args.number part c.as_slice.ensures c.requires.within c.index-as_slice-number.is in
    let lines = lines_are b.session.now.clients c.args.number part part_is in
    let long = lines_long b.session.now.clients c.args.number part part_is in
    let less : client.next < length part.requests = let before = c.requires.inside in omega arith in
    let asks : slice_get (lines_of (against b).parts c.args.number) client.next ≡ Some asked =
    ap (λ ls. slice_get ls client.next) lines ∙ line_at part c.as_slice-2.result.now client.next c.index-as_slice-client.result c.as_slice-2.ensures less c.index-as_slice-client.is in
    let own : IsOwnPlace (history_of b.updates.now c.args.number) asked.line c.get-own.result =
    subst (IsOwnPlace (history_of b.updates.now c.args.number) asked.line) (sym c.get-own.ensures)
    (own_at b c.requires.basis c.args.number c.requires.within client.next asked c.index-basis-number.result asks) in
    IfOk-weaker c.line_reply.result _ _ (λ found looked.
    found_next b c.requires.basis c.args.number c.requires.within client c.args.replay.now asked c.get-own.result _ asks
    (text_there_is b c.requires.basis c.args.number c.requires.within client c.requires.ready.come c.requires.inside _)
    own c.requires.here c.requires.due c.as_slice-records.result.now found (sym c.as_slice-records.ensures) looked)
    c.line_reply.ensures.looked
