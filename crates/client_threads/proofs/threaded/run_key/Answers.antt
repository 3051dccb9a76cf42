use Rattle.std.proofs.Common.{All, List, ap, ◌∙◌, sym, subst}
use Rattle.bucket_terms.specs.LegalRun.{RequestLine, lines_of}
use Rattle.request_lines.specs.Session.{request_lines}
use Rattle.request_lines.specs.SessionLaws.{IsAskable, Rise}
use Rattle.client_run.specs.ClientRun.{IsLaterLine}
use Rattle.table_steps.specs.Passes.{Pass}
use Rattle.shared_index.specs.Shown.{shown}
use Rattle.client_threads.specs.Runs.{parts_of}
use Rattle.client_threads.proofs.Threads.{key_lines, ran_key}
use Rattle.client_threads.proofs.threaded.run_key.Goals as goal

pub run_client-requires-clause-askable : goal.run_client-requires-clause-askable
run_client-requires-clause-askable g c =
    subst (All (IsAskable c.args.input.now.dir.now))
    (sym (key_lines c.args.input.now.session.now.clients c.args.key.number c.client.result c.index-parts-client.result (c.client.ensures.number ∙ ap (λ (p : Pass). p.number) c.attach-pass.ensures.same) c.requires.there (rw c.as_slice-parts.ensures at c.index-parts-client.is)))
    c.requires.can.askable

pub run_client-requires-clause-rising : goal.run_client-requires-clause-rising
run_client-requires-clause-rising g c =
    subst Rise
    (sym (key_lines c.args.input.now.session.now.clients c.args.key.number c.client.result c.index-parts-client.result (c.client.ensures.number ∙ ap (λ (p : Pass). p.number) c.attach-pass.ensures.same) c.requires.there (rw c.as_slice-parts.ensures at c.index-parts-client.is)))
    c.requires.can.rising

pub run_client-requires-clause-later : goal.run_client-requires-clause-later
run_client-requires-clause-later g c =
    subst (λ (ls : List RequestLine). All (λ (l : RequestLine). IsLaterLine (shown c.attach-pass.result) l.line) ls)
    (sym (key_lines c.args.input.now.session.now.clients c.args.key.number c.client.result c.index-parts-client.result (c.client.ensures.number ∙ ap (λ (p : Pass). p.number) c.attach-pass.ensures.same) c.requires.there (rw c.as_slice-parts.ensures at c.index-parts-client.is)))
    (subst (λ (p : Pass). All (λ (l : RequestLine). IsLaterLine (shown p) l.line) (lines_of (parts_of c.args.input.now.session.now.clients) c.args.key.number)) (sym c.attach-pass.ensures.same) c.requires.can.later)

pub returns : goal.returns
returns g c =
    ran_key c.args.input.now.dir.now c.args.input.now.index.now (lines_of (parts_of c.args.input.now.session.now.clients) c.args.key.number) (request_lines c.index-parts-client.result) c.args.key c.attach-pass.result c.run_client.new.pass c.detach.result
    c.in_ok-replies.replies.items c.from_vec.result c.requires.can.of c.attach-pass.ensures.same
    (key_lines c.args.input.now.session.now.clients c.args.key.number c.client.result c.index-parts-client.result (c.client.ensures.number ∙ ap (λ (p : Pass). p.number) c.attach-pass.ensures.same) c.requires.there (rw c.as_slice-parts.ensures at c.index-parts-client.is))
    c.in_ok-replies.ensures.ran c.in_ok-replies.ensures.home c.detach.ensures.same c.from_vec.ensures
