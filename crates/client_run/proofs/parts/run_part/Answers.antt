use Rattle.std.proofs.Common.{◌≡◌, ℕ, List, ◌+◌, ◌≤◌, ◌∷◌, [], Option, Some, length, get_or, drop, take, sym, subst, ap, ◌∙◌, arith, if◌then◌else◌}
use Rattle.std.specs.Option.{option_copied}
use Rattle.std.proofs.lemmas.List.{length-map, length-drop}
use Rattle.bucket_terms.specs.declared.reply.Reply.{Reply}
use Rattle.bucket_terms.specs.declared.reply.Placed.{Placed}
use Rattle.bucket_terms.specs.LegalRun.{RequestLine, is_listing}
use Rattle.bucket_terms.specs.RunParts.{updates_in}
use Rattle.request_lines.specs.declared.session.Asked.{Asked}
use Rattle.request_lines.specs.Session.{request_line, request_lines}
use Rattle.request_lines.specs.SessionLaws.{IsAskable}
use Rattle.client_run.specs.ClientRun.{Answers, IsLaterLine}
use Rattle.client_run.specs.Listing.{HasPageInRange}
use Rattle.client_run.specs.Parts.{Kept, last_by}
use Rattle.client_run.proofs.PartTurns.{IsWalk, line_in, next_line, next_call, next_walk, went}
use Rattle.client_run.proofs.Stopping.{after_error, stopped_later, stopped_behind}
use Rattle.client_run.proofs.parts.run_part.Goals as goal

pub answer-requires-clause-askable : goal.answer-requires-clause-askable
answer-requires-clause-askable g c =
    let d = c.asked-item.result in
    let left = drop c.args.progress.done (request_lines c.args.part.now) in
    let next_is : c.split_at-2.result.0.now ≡ take c.min.result (drop c.args.progress.done c.args.part.now.requests) =
    c.split_at-2.ensures.front ∙ ap (λ (xs : List Asked). take c.min.result xs)
    (c.split_at.ensures.back ∙ ap (λ (xs : List Asked). drop c.progress.inside.done xs) c.as_slice.ensures
    ∙ ap (λ (k : Kept). drop k.done c.args.part.now.requests) c.progress.view_is) in
    let here = line_in c.args.part.now.requests c.split_at-2.result.0.now c.args.progress.done c.min.result c.loop-asked.asked-index d next_is c.loop-asked-test.true c.asked-item.is in
    subst (λ (names : List (List ℕ)). IsAskable names (request_line d)) (ap (λ (k : Kept). k.dir) (sym c.progress.view_is))
    (subst (IsAskable c.args.progress.dir) here.1 (next_line (IsAskable c.args.progress.dir) left c.loop-asked.asked-index (request_line d) here.0 c.loop-asked.invariant.0.can.askable))

pub answer-requires-clause-calls : goal.answer-requires-clause-calls
answer-requires-clause-calls g c =
    let d = c.asked-item.result in
    let left = drop c.args.progress.done (request_lines c.args.part.now) in
    let next_is : c.split_at-2.result.0.now ≡ take c.min.result (drop c.args.progress.done c.args.part.now.requests) =
    c.split_at-2.ensures.front ∙ ap (λ (xs : List Asked). take c.min.result xs)
    (c.split_at.ensures.back ∙ ap (λ (xs : List Asked). drop c.progress.inside.done xs) c.as_slice.ensures
    ∙ ap (λ (k : Kept). drop k.done c.args.part.now.requests) c.progress.view_is) in
    let here = line_in c.args.part.now.requests c.split_at-2.result.0.now c.args.progress.done c.min.result c.loop-asked.asked-index d next_is c.loop-asked-test.true c.asked-item.is in
    subst (λ (l : RequestLine). updates_in (l ∷ []) ≤ (g.P.KeyPass.view c.loop-asked.pass).left) here.1
    (next_call left c.loop-asked.asked-index (g.P.KeyPass.view c.loop-asked.pass).left (request_line d) here.0 c.loop-asked.invariant.0.can.calls)

pub answer-requires-clause-later : goal.answer-requires-clause-later
answer-requires-clause-later g c =
    let d = c.asked-item.result in
    let left = drop c.args.progress.done (request_lines c.args.part.now) in
    let next_is : c.split_at-2.result.0.now ≡ take c.min.result (drop c.args.progress.done c.args.part.now.requests) =
    c.split_at-2.ensures.front ∙ ap (λ (xs : List Asked). take c.min.result xs)
    (c.split_at.ensures.back ∙ ap (λ (xs : List Asked). drop c.progress.inside.done xs) c.as_slice.ensures
    ∙ ap (λ (k : Kept). drop k.done c.args.part.now.requests) c.progress.view_is) in
    let here = line_in c.args.part.now.requests c.split_at-2.result.0.now c.args.progress.done c.min.result c.loop-asked.asked-index d next_is c.loop-asked-test.true c.asked-item.is in
    subst (λ (l : RequestLine). IsLaterLine (g.P.KeyPass.view c.loop-asked.pass) l.line) here.1
    (next_line (λ (l : RequestLine). IsLaterLine (g.P.KeyPass.view c.loop-asked.pass) l.line) left c.loop-asked.asked-index (request_line d) here.0 c.loop-asked.invariant.0.can.later)

pub returns-in_err-placed-clause-stopped : goal.returns-in_err-placed-clause-stopped
returns-in_err-placed-clause-stopped g c =
    let view = g.P.KeyPass.view in
    after_error c.from_residual-in_err-placed.result (stopped_later (view c.args.pass.now) (view c.loop-asked.pass) (view c.answer.new.pass) c.loop-asked.invariant.0.continues c.in_err-placed.ensures.stopped)

pub returns-in_err-push-clause-stopped : goal.returns-in_err-push-clause-stopped
returns-in_err-push-clause-stopped g c =
    let view = g.P.KeyPass.view in
    after_error c.from_residual-in_err-push.result
    (stopped_behind c.progress.inside.known (view c.args.pass.now) (view c.loop-asked.pass) (view c.answer.new.pass) (option_copied c.last_listing-last_reply.result) (record { asked = request_line c.asked-item.result; placed = c.in_ok-placed.placed })
    c.loop-asked.invariant.0.continues c.in_ok-placed.ensures.answers)

pub loop-asked-preserved : goal.loop-asked-preserved
loop-asked-preserved g c =
    let i = c.loop-asked.asked-index in
    let d = c.asked-item.result in
    let old = g.P.KeyPass.view c.args.pass.now in
    let mid = g.P.KeyPass.view c.loop-asked.pass in
    let now = g.P.KeyPass.view c.answer.new.pass in
    let replies = c.loop-asked.replies.items in
    let p = c.in_ok-placed.placed in
    let dir = c.args.progress.dir in
    let before = c.args.progress.last in
    let last = c.loop-asked.last in
    let left = drop c.args.progress.done (request_lines c.args.part.now) in
    let next_is : c.split_at-2.result.0.now ≡ take c.min.result (drop c.args.progress.done c.args.part.now.requests) =
    c.split_at-2.ensures.front ∙ ap (λ (xs : List Asked). take c.min.result xs)
    (c.split_at.ensures.back ∙ ap (λ (xs : List Asked). drop c.progress.inside.done xs) c.as_slice.ensures
    ∙ ap (λ (k : Kept). drop k.done c.args.part.now.requests) c.progress.view_is) in
    let here = line_in c.args.part.now.requests c.split_at-2.result.0.now c.args.progress.done c.min.result i d next_is c.loop-asked-test.true c.asked-item.is in
    let last_is : option_copied c.last_listing-last_reply.result ≡ last_by replies last before =
    c.last_listing-last_reply.ensures ∙ ap (λ (rs : List Placed). last_by rs last (option_copied c.as_ref-earlier.result)) c.deref.ensures.value
    ∙ ap (λ (o : Option Reply). last_by replies last o) (c.as_ref-earlier.ensures.value ∙ ap (λ (k : Kept). k.last) c.progress.view_is) in
    let long : c.len-place.result ≡ length replies = omega arith in
    let later_is : c.later_listing-last.result ≡ (if is_listing (get_or left i (request_line d)).request then Some (length replies) else last) =
    c.later_listing-last.ensures
    ∙ ap (λ (n : ℕ). if is_listing d.request then Some n else last) long
    ∙ ap (λ (l : RequestLine). if is_listing l.request then Some (length replies) else last) (sym here.1) in
    let answered : Answers dir mid now (last_by replies last before) (record { asked = get_or left i (request_line d); placed = p }) =
    subst (λ (l : RequestLine). Answers dir mid now (last_by replies last before) (record { asked = l; placed = p })) (sym here.1)
    (subst (λ (o : Option Reply). Answers dir mid now o (record { asked = request_line d; placed = p })) last_is
    (subst (λ (names : List (List ℕ)). Answers names mid now (option_copied c.last_listing-last_reply.result) (record { asked = request_line d; placed = p }))
    (ap (λ (k : Kept). k.dir) c.progress.view_is) c.in_ok-placed.ensures.answers)) in
    let fine : HasPageInRange dir p.reply = subst (λ (names : List (List ℕ)). HasPageInRange names p.reply) (ap (λ (k : Kept). k.dir) c.progress.view_is) c.in_ok-placed.ensures.in_range in (
      subst (λ (rs : List Placed). IsWalk dir before left (i + 1) old now rs c.later_listing-last.result) (sym c.in_ok-push.ensures.items)
          (next_walk dir before left i (request_line d) old mid now replies p last c.later_listing-last.result here.0 c.loop-asked.invariant.0 answered fine later_is),
      c.in_ok-placed.ensures.home ∙ c.loop-asked.invariant.1,
    )

pub returns-clause-went : goal.returns-clause-went
returns-clause-went g c =
    let kept = c.progress.view_is in
    let next = c.progress.inside.done + length c.split_at-2.result.0.now in
    let new : Kept = record { dir = c.progress.inside.known; done = next; last = c.in_ok-last.last } in
    let lines = request_lines c.args.part.now in
    let done_is = ap (λ (k : Kept). k.done) kept in
    let rest : length c.split_at.result.1.now + c.progress.inside.done ≡ length c.args.part.now.requests =
    c.split_at.ensures.back_len ∙ ap (λ (xs : List Asked). length xs) c.as_slice.ensures in
    let same = length-map c.args.part.now.requests request_line in
    let dropped = length-drop c.args.progress.done lines in
    let last_is : c.in_ok-last.last ≡ last_by c.loop-asked.replies.items c.loop-asked.last c.args.progress.last =
    c.in_ok-last.ensures ∙ ap (λ (rs : List Placed). last_by rs c.loop-asked.last c.progress.inside.last) c.deref-2.ensures.value
    ∙ ap (λ (k : Kept). last_by c.loop-asked.replies.items c.loop-asked.last k.last) kept in
    went c.args.progress new lines c.args.most c.loop-asked.asked-index (g.P.KeyPass.view c.args.pass.now) (g.P.KeyPass.view c.loop-asked.pass) c.loop-asked.replies.items c.loop-asked.last
    c.client-client.ensures.mine c.requires.can.within c.loop-asked.invariant.0 (ap (λ (k : Kept). k.dir) kept) (omega (arith, done_is, c.split_at-2.ensures.front_len)) last_is
    (omega (arith, done_is, rest, same, dropped, c.split_at-2.ensures.front_len, c.min.ensures))
