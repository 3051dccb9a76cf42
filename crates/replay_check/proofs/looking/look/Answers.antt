use Rattle.std.proofs.Common.{◌≡◌, ◌<◌, Some, None, length, sym, ap, ◌∙◌, subst, arith}
use Rattle.std.specs.List.{slice_get}
use Rattle.std.specs.Option.{unwrap_or}
use Rattle.bucket_terms.specs.LegalRun.{lines_of}
use Rattle.request_lines.specs.declared.session.Asked.{Asked}
use Rattle.request_lines.specs.declared.session.ClientPart.{ClientPart}
use Rattle.request_lines.specs.Session.{request_line}
use Rattle.text_laws.specs.WrongLine.{IsReplyLine, reply_texts}
use Rattle.text_laws.specs.WrongParts.{text_at}
use Rattle.client_run.specs.Listing.{HasPageInRange}
use Rattle.replay_check.specs.Own.{history_of}
use Rattle.replay_check.specs.Turns.{IsOwnPlace}
use Rattle.replay_check.specs.Looking.{GoesOn, IsNextFound, against, answers_of, texts_in}
use Rattle.replay_check.proofs.NextLines.{come_more, come_no_more}
use Rattle.replay_check.proofs.BasisLaws.{few_used, few_lines, there, line_at, own_at, lines_long, lines_rise, short_64, inside}
use Rattle.replay_check.proofs.SessionLines.{lines_are}
use Rattle.replay_check.proofs.looking.look.Goals as goal

pub go_on-requires-clause-used : goal.go_on-requires-clause-used
go_on-requires-clause-used c = few_used c.args.basis.now c.requires.basis c.args.number c.requires.within c.args.client.now c.requires.ready.come c.requires.inside

pub go_on-requires-clause-line : goal.go_on-requires-clause-line
go_on-requires-clause-line c = let few = few_lines c.args.basis.now c.requires.basis c.args.number c.requires.within c.args.client.now c.requires.ready.come c.requires.inside in omega arith

pub returns-in-Some-clause-ready : goal.returns-in-Some-clause-ready
returns-in-Some-clause-ready c =
    let b = c.args.basis.now in
    let client = c.args.client.now in
    let placed = c.in-Some.placed in
    let come = c.requires.ready.come in
    let part = c.index-as_slice-number.result in
    let asked = request_line c.index-as_slice-client.result in
    let part_is = there b.session.now.clients c.as_slice.result.now c.args.number part c.as_slice.ensures c.requires.within c.index-as_slice-number.is in
    let lines = lines_are b.session.now.clients c.args.number part part_is in
    let long = lines_long b.session.now.clients c.args.number part part_is in
    let less : client.next < length part.requests = let before = c.requires.inside in omega arith in
    let asks : slice_get (lines_of (against b).parts c.args.number) client.next ≡ Some asked =
    ap (λ ls. slice_get ls client.next) lines ∙ line_at part c.as_slice-in-Some.result.now client.next c.index-as_slice-client.result (c.as_slice-in-Some.ensures ∙ ap (λ (p : ClientPart). p.requests) (sym c.index-as_slice-number.is)) less c.index-as_slice-client.is in
    let own : IsOwnPlace (history_of b.updates.now c.args.number) asked.line c.get-own.result =
    subst (IsOwnPlace (history_of b.updates.now c.args.number) asked.line) (sym c.get-own.ensures)
    (own_at b c.requires.basis c.args.number c.requires.within client.next asked c.index-basis-number.result asks) in
    let found : IsNextFound b c.args.number client (Some placed) = subst (IsNextFound b c.args.number client) c.in-Some.is c.in_ok-placed.ensures.found in
    let line : IsReplyLine (against b) b.updates.now c.args.number (answers_of come) asked (text_at (reply_texts (against b) (texts_in b) c.args.number) client.next) placed = found asked come asks in
    let page : HasPageInRange b.dir.now placed.reply = c.in_ok-placed.ensures.in_range placed c.in-Some.is in
    let due : client.due ≡ unwrap_or placed.at client.seen = come.due asked asks placed line in
    record {
      come = come_more (against b) b.updates.now (texts_in b) c.args.number (short_64 b c.requires.basis) c.requires.basis.made (lines_rise b c.requires.basis c.args.number c.requires.within)
          c.requires.basis.long (inside b c.requires.basis c.args.number c.requires.within)
          client c.go_on.new.client asked c.get-own.result placed come asks own line page
          (subst (λ (a : Asked). GoesOn (texts_in b) a.request c.get-own.result placed client c.go_on.new.client) (sym c.index-as_slice-client.is) c.go_on.ensures);
      later = λ before. let seen = c.go_on.ensures.seen in let least = c.go_on.ensures.least in let here = c.requires.due in omega arith;
    }

pub returns-in-None-clause-ready : goal.returns-in-None-clause-ready
returns-in-None-clause-ready c =
    let b = c.args.basis.now in
    let client = c.args.client.now in
    let found : IsNextFound b c.args.number client None = subst (IsNextFound b c.args.number client) c.in-None.is c.in_ok-placed.ensures.found in
    record {
      come = come_no_more (against b) b.updates.now (texts_in b) c.args.number (short_64 b c.requires.basis) c.requires.basis.made (lines_rise b c.requires.basis c.args.number c.requires.within)
          c.requires.basis.long (inside b c.requires.basis c.args.number c.requires.within)
          client 18446744073709551615 c.requires.ready.come (λ asked asks placed line. found asked c.requires.ready.come asks placed line);
      later = λ before. let place = c.requires.here.within in let short = c.requires.basis.short in omega arith;
    }
