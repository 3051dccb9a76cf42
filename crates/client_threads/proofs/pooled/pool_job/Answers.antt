use Rattle.std.proofs.Common.{All, List, ap, ◌∙◌, sym, subst}
use Rattle.bucket_terms.specs.LegalRun.{RequestLine, lines_of}
use Rattle.request_lines.specs.Session.{request_lines}
use Rattle.request_lines.specs.SessionLaws.{IsAskable, Rise}
use Rattle.client_run.specs.ClientRun.{IsLaterLine}
use Rattle.client_run.specs.Pooling.{KeepsNodes}
use Rattle.slot_depot.specs.Depots.{IsSameSeat}
use Rattle.table_steps.specs.Passes.{Pass}
use Rattle.shared_index.specs.Shown.{shown}
use Rattle.client_threads.specs.Depots.{SeatedKey}
use Rattle.client_threads.specs.Runs.{parts_of}
use Rattle.client_threads.proofs.Threads.{key_lines}
use Rattle.client_threads.proofs.Depots.{pooled_key}
use Rattle.client_threads.proofs.NodeSums.{nodes_kept}
use Rattle.client_threads.proofs.pooled.pool_job.Goals as goal

pub run_pooled-requires-clause-askable : goal.run_pooled-requires-clause-askable
run_pooled-requires-clause-askable g c =
    let number = c.client.ensures.number ∙ ap (λ (p : Pass). p.number) c.attach-pass.ensures.same ∙ ap (λ (j : SeatedKey). j.key.number) c.job.view_is in
    subst (All (IsAskable c.args.input.now.dir.now))
    (sym (key_lines c.args.input.now.session.now.clients c.args.job.key.number c.client.result c.index-parts-client.result number c.requires.can.there (rw c.as_slice-parts.ensures at c.index-parts-client.is))) c.requires.can.can.askable

pub run_pooled-requires-clause-rising : goal.run_pooled-requires-clause-rising
run_pooled-requires-clause-rising g c =
    let number = c.client.ensures.number ∙ ap (λ (p : Pass). p.number) c.attach-pass.ensures.same ∙ ap (λ (j : SeatedKey). j.key.number) c.job.view_is in
    subst Rise (sym (key_lines c.args.input.now.session.now.clients c.args.job.key.number c.client.result c.index-parts-client.result number c.requires.can.there (rw c.as_slice-parts.ensures at c.index-parts-client.is))) c.requires.can.can.rising

pub run_pooled-requires-clause-later : goal.run_pooled-requires-clause-later
run_pooled-requires-clause-later g c =
    let number = c.client.ensures.number ∙ ap (λ (p : Pass). p.number) c.attach-pass.ensures.same ∙ ap (λ (j : SeatedKey). j.key.number) c.job.view_is in
    let same = c.attach-pass.ensures.same ∙ ap (λ (j : SeatedKey). j.key) c.job.view_is in
    subst (λ (ls : List RequestLine). All (λ (l : RequestLine). IsLaterLine (shown c.attach-pass.result) l.line) ls)
    (sym (key_lines c.args.input.now.session.now.clients c.args.job.key.number c.client.result c.index-parts-client.result number c.requires.can.there (rw c.as_slice-parts.ensures at c.index-parts-client.is)))
    (subst (λ (p : Pass). All (λ (l : RequestLine). IsLaterLine (shown p) l.line) (lines_of (parts_of c.args.input.now.session.now.clients) c.args.job.key.number)) (sym same) c.requires.can.can.later)

pub returns : goal.returns
returns g c =
    let number = c.client.ensures.number ∙ ap (λ (p : Pass). p.number) c.attach-pass.ensures.same ∙ ap (λ (j : SeatedKey). j.key.number) c.job.view_is in
    let same = c.attach-pass.ensures.same ∙ ap (λ (j : SeatedKey). j.key) c.job.view_is in
    record {
      over =
          pooled_key c.args.own c.args.input.now.dir.now c.args.input.now.index.now (lines_of (parts_of c.args.input.now.session.now.clients) c.args.job.key.number) (request_lines c.index-parts-client.result) c.args.job.key
          c.attach-pass.result c.run_pooled.new.pass c.detach.result c.in_ok-replies.replies.items c.from_vec.result _ _ _ c.requires.can.can.of same
          (key_lines c.args.input.now.session.now.clients c.args.job.key.number c.client.result c.index-parts-client.result number c.requires.can.there (rw c.as_slice-parts.ensures at c.index-parts-client.is))
          c.in_ok-replies.ensures.ran c.in_ok-replies.ensures.home c.detach.ensures.same c.from_vec.ensures;
      seat = subst (λ (j : SeatedKey). IsSameSeat j.seat c.run_pooled.new.seat) c.job.view_is c.in_ok-replies.ensures.seat;
      nodes =
          subst (λ (j : SeatedKey). KeepsNodes (shown j.key) (shown c.detach.result) j.seat.book c.run_pooled.new.seat.book) c.job.view_is
          (nodes_kept c.job.inside.key c.attach-pass.result c.run_pooled.new.pass c.detach.result c.job.inside.seat.book c.run_pooled.new.seat.book c.attach-pass.ensures.same c.detach.ensures.same c.in_ok-replies.ensures.ran.nodes);
    }
