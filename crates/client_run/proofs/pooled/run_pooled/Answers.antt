use Rattle.std.proofs.Common.{◌≡◌, ℕ, ◌+◌, List, ◌≤◌, ◌++◌, ◌∷◌, [], Option, Some, length, get_or, take, sym, subst, ap, ◌∙◌, refl, arith, if◌then◌else◌}
use Rattle.std.specs.Option.{option_copied, ForSome}
use Rattle.bucket_terms.specs.declared.reply.Reply.{Reply}
use Rattle.bucket_terms.specs.declared.reply.Placed.{Placed}
use Rattle.bucket_terms.specs.LegalRun.{RequestLine, is_listing, last_listing, answered_lines}
use Rattle.bucket_terms.specs.RunParts.{updates_in}
use Rattle.request_lines.specs.Session.{request_line, request_lines}
use Rattle.client_run.specs.ClientRun.{IsLaterLine}
use Rattle.client_run.specs.Listing.{HasPageInRange}
use Rattle.request_lines.specs.SessionLaws.{IsAskable}
use Rattle.std.proofs.lemmas.List.{take_more}
use Rattle.client_run.specs.Pooling.{capped, AnswersPooled}
use Rattle.client_run.proofs.TradedAnswers.{continues_all, grown_same, grown_on, stopped_all}
use Rattle.client_run.proofs.TradedRuns.{Trading, trading_none, trading_more}
use Rattle.client_run.proofs.Turn.{later_at, call_at, line_here, first_turn, next_turn, reply_at, last_in_range}
use Rattle.client_run.proofs.Stopping.{after_error, stopped_later, stopped_behind}
use Rattle.client_run.proofs.pooled.run_pooled.Goals as goal

pub loop-asked-init : goal.loop-asked-init
loop-asked-init g c =
    let old = g.P.KeyPass.view c.args.pass.now in
    let book = c.args.seat.now.book in (
      rw c.new-replies.ensures.items (first_turn c.args.dir.now (capped c.args.own old) c.client-client.ensures.mine c.requires.closed),
      rw c.new-replies.ensures.items (trading_none c.args.own old (g.P.PoolPass.free_nodes c.args.pass.now) book),
      grown_same book,
      record { id = refl; terms = refl },
      refl,
    )

pub answer_pooled-requires-clause-askable : goal.answer_pooled-requires-clause-askable
answer_pooled-requires-clause-askable g c =
    let d = c.asked-item.result in
    let here = line_here c.args.part.now.requests c.as_slice-asked-items.result.now c.loop-asked.asked-index d c.as_slice-asked-items.ensures c.loop-asked-test.true c.asked-item.is in
    rw c.in_ok-known.ensures (subst (λ (l : RequestLine). IsAskable c.args.dir.now l) here.1 (c.requires.askable c.loop-asked.asked-index (request_line d) here.0))

pub answer_pooled-requires-clause-calls : goal.answer_pooled-requires-clause-calls
answer_pooled-requires-clause-calls g c =
    let d = c.asked-item.result in
    let here = line_here c.args.part.now.requests c.as_slice-asked-items.result.now c.loop-asked.asked-index d c.as_slice-asked-items.ensures c.loop-asked-test.true c.asked-item.is in
    subst (λ (l : RequestLine). updates_in (l ∷ []) ≤ (g.P.KeyPass.view c.loop-asked.pass).left) here.1
    (call_at c.args.dir.now (request_lines c.args.part.now) c.loop-asked.asked-index (request_line d) (capped c.args.own (g.P.KeyPass.view c.args.pass.now)) (capped c.args.own (g.P.KeyPass.view c.loop-asked.pass)) c.loop-asked.replies.items here.0 c.loop-asked.invariant.0.running c.requires.calls)

pub answer_pooled-requires-clause-later : goal.answer_pooled-requires-clause-later
answer_pooled-requires-clause-later g c =
    let d = c.asked-item.result in
    let here = line_here c.args.part.now.requests c.as_slice-asked-items.result.now c.loop-asked.asked-index d c.as_slice-asked-items.ensures c.loop-asked-test.true c.asked-item.is in
    subst (λ (l : RequestLine). IsLaterLine (g.P.KeyPass.view c.loop-asked.pass) l.line) here.1
    (later_at c.args.dir.now (request_lines c.args.part.now) c.loop-asked.asked-index (request_line d) (capped c.args.own (g.P.KeyPass.view c.args.pass.now)) (capped c.args.own (g.P.KeyPass.view c.loop-asked.pass)) c.loop-asked.replies.items here.0 c.loop-asked.invariant.0.running c.requires.later c.requires.rising)

pub answer_pooled-requires-clause-in_range : goal.answer_pooled-requires-clause-in_range
answer_pooled-requires-clause-in_range g c =
    let replies = c.loop-asked.replies.items in
    let is : option_copied c.reply_at-last_reply.result ≡ reply_at replies c.loop-asked.last = c.reply_at-last_reply.ensures ∙ ap (λ (rs : List Placed). reply_at rs c.loop-asked.last) c.deref.ensures.value in
    rw c.in_ok-known.ensures (subst (λ (o : Option Reply). ForSome o (HasPageInRange c.args.dir.now)) (sym is) (last_in_range c.args.dir.now replies c.loop-asked.last c.loop-asked.invariant.0.in_range))

pub loop-asked-preserved : goal.loop-asked-preserved
loop-asked-preserved g c =
    let dir = c.args.dir.now in
    let own = c.args.own in
    let lines = request_lines c.args.part.now in
    let i = c.loop-asked.asked-index in
    let d = c.asked-item.result in
    let old = g.P.KeyPass.view c.args.pass.now in
    let mid = g.P.KeyPass.view c.loop-asked.pass in
    let now = g.P.KeyPass.view c.answer_pooled.new.pass in
    let free = g.P.PoolPass.free_nodes c.answer_pooled.new.pass in
    let book = c.args.seat.now.book in
    let written = c.loop-asked.seat.book in
    let after = c.answer_pooled.new.seat.book in
    let replies = c.loop-asked.replies.items in
    let p = c.in_ok-placed.placed in
    let here = line_here c.args.part.now.requests c.as_slice-asked-items.result.now i d c.as_slice-asked-items.ensures c.loop-asked-test.true c.asked-item.is in
    let before = c.loop-asked.invariant.0 in
    let trades = c.loop-asked.invariant.1 in
    let grown = c.loop-asked.invariant.2 in
    let same = c.loop-asked.invariant.3 in
    let last = c.loop-asked.last in
    let last_is : option_copied c.reply_at-last_reply.result ≡ last_listing (answered_lines (take i lines) replies) =
    c.reply_at-last_reply.ensures ∙ ap (λ (rs : List Placed). reply_at rs last) c.deref.ensures.value ∙ before.listing in
    let long : c.len-place.result ≡ length replies = omega arith in
    let later_is : c.later_listing-last.result ≡ (if is_listing (get_or lines i (request_line d)).request then Some (length replies) else last) =
    c.later_listing-last.ensures
    ∙ ap (λ (n : ℕ). if is_listing d.request then Some n else last) long
    ∙ ap (λ (l : RequestLine). if is_listing l.request then Some (length replies) else last) (sym here.1) in
    let pushed : c.push.new.self.items ≡ replies ++ p ∷ [] = c.in_ok-push.ensures.items in
    let step : AnswersPooled dir own mid now free (last_listing (answered_lines (take i lines) replies)) (record { asked = get_or lines i (request_line d); placed = p }) written after =
    subst (λ (l : RequestLine). AnswersPooled dir own mid now free (last_listing (answered_lines (take i lines) replies)) (record { asked = l; placed = p }) written after) (sym here.1)
    (subst (λ (o : Option Reply). AnswersPooled dir own mid now free o (record { asked = request_line d; placed = p }) written after) last_is (rw (← c.in_ok-known.ensures) c.in_ok-placed.ensures.answers)) in
    let more : Trading own (take (i + 1) lines) old now free book after (replies ++ p ∷ []) =
    subst (λ (ls : List RequestLine). Trading own ls old now free book after (replies ++ p ∷ [])) (sym (take_more lines i (request_line d) here.0))
    (trading_more dir own (take i lines) old mid now (g.P.PoolPass.free_nodes c.loop-asked.pass) free book written after replies (get_or lines i (request_line d)) p before.running trades grown step c.in_ok-placed.ensures.grown) in (
      rw pushed (next_turn dir lines i (request_line d) (capped own old) (capped own mid) (capped own now) replies p last c.later_listing-last.result here.0 before c.requires.later c.requires.rising step.answers (rw (← c.in_ok-known.ensures) c.in_ok-placed.ensures.in_range) later_is),
      rw pushed more,
      grown_on book written after grown c.in_ok-placed.ensures.grown,
      record { id = c.in_ok-placed.ensures.seat.id ∙ same.id; terms = c.in_ok-placed.ensures.seat.terms ∙ same.terms },
      c.in_ok-placed.ensures.home ∙ c.loop-asked.invariant.4,
    )

pub returns-in_err-placed-clause-stopped : goal.returns-in_err-placed-clause-stopped
returns-in_err-placed-clause-stopped g c =
    let view = g.P.KeyPass.view in
    after_error c.from_residual-in_err-placed.result (stopped_later (view c.args.pass.now) (view c.loop-asked.pass) (view c.answer_pooled.new.pass)
    (continues_all c.args.own (view c.args.pass.now) (view c.loop-asked.pass) c.loop-asked.invariant.0.running.ran.continues) c.in_err-placed.ensures.stopped)

pub returns-in_err-push-clause-stopped : goal.returns-in_err-push-clause-stopped
returns-in_err-push-clause-stopped g c =
    let view = g.P.KeyPass.view in
    after_error c.from_residual-in_err-push.result
    (stopped_all c.args.own (view c.args.pass.now) (view c.answer_pooled.new.pass) (stopped_behind c.args.dir.now (capped c.args.own (view c.args.pass.now)) (capped c.args.own (view c.loop-asked.pass)) (capped c.args.own (view c.answer_pooled.new.pass)) (option_copied c.reply_at-last_reply.result) (record { asked = request_line c.asked-item.result; placed = c.in_ok-placed.placed })
    c.loop-asked.invariant.0.running.ran.continues (rw (← c.in_ok-known.ensures) c.in_ok-placed.ensures.answers.answers)))
