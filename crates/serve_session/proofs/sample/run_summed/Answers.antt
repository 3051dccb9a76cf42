use Rattle.std.proofs.Common.{List, None, refl, ap, ◌∙◌, sym, subst}
use Rattle.std.proofs.lemmas.Result.{IfOk-weaker}
use Rattle.key_map.specs.declared.update.Update.{Update}
use Rattle.key_map.specs.declared.pass.PassSize.{PassSize}
use Rattle.bucket_terms.specs.LegalRun.{Run}
use Rattle.request_lines.specs.declared.session.Session.{Session}
use Rattle.shared_index.specs.Keys.{AreFresh}
use Rattle.client_threads.specs.Sizes.{sizes_of}
use Rattle.serve_session.proofs.SampleSizes.{sizes_are_of}
use Rattle.sample_laws.specs.Totals.{summary_of}
use Rattle.client_threads.proofs.Sessions.{can_serve}
use Rattle.serve_session.proofs.Sampled.{RanSample, ran_sample, four_clients, run_summary, listed_fits, requests_fit}
use Rattle.serve_session.proofs.sample.run_summed.Goals as goal

pub history_over-requires-clause-can : goal.history_over-requires-clause-can
history_over-requires-clause-can g c κs within =
    can_serve c.args.made.session _ c.take_directory-dir.result c.take_directory-dir.ensures.session
    (four_clients c.args.n c.args.made.session c.requires.session.is) c.take_directory-dir.ensures.directory c.requires.session.requests c.requires.session.lines c.requires.session.small

pub history_over-requires-clause-fresh : goal.history_over-requires-clause-fresh
history_over-requires-clause-fresh g c κs within =
    subst (λ (sizes : List PassSize). AreFresh 0 sizes c.args.made.keys.items)
    (sym (ap (λ (s : Session). sizes_of None s.clients) c.take_directory-dir.ensures.session ∙ sizes_are_of c.args.n c.args.made.session c.requires.session.is)) c.requires.fresh

pub summary_of-requires-clause-listed : goal.summary_of-requires-clause-listed
summary_of-requires-clause-listed g c κs within =
    let run : Run = record { updates = c.in_ok-updates.updates.items; replies = g.R.Runner.replied c.history_over.new.runner } in
    let ran : RanSample c.args.n c.take_directory-dir.result run =
    ran_sample c.args.n c.args.made.session _ c.take_directory-dir.result run c.take_directory-dir.ensures.session c.requires.session.is c.take_directory-dir.ensures.directory
    c.in_ok-updates.ensures.ran in
    listed_fits c.sample_session.ensures.summary c.args.n c.requires.most c.take_directory-dir.result ran.names run ran.legal

pub summary_of-requires-clause-requests : goal.summary_of-requires-clause-requests
summary_of-requires-clause-requests g c κs within =
    let run : Run = record { updates = c.in_ok-updates.updates.items; replies = g.R.Runner.replied c.history_over.new.runner } in
    let ran : RanSample c.args.n c.take_directory-dir.result run =
    ran_sample c.args.n c.args.made.session _ c.take_directory-dir.result run c.take_directory-dir.ensures.session c.requires.session.is c.take_directory-dir.ensures.directory
    c.in_ok-updates.ensures.ran in
    requests_fit c.sample_session.ensures.summary c.args.n c.requires.most c.take_directory-dir.result ran.names run ran.legal

pub returns-clause-summary : goal.returns-clause-summary
returns-clause-summary g c =
    let replies = g.R.Runner.replied c.history_over.new.runner in
    let run : Run = record { updates = c.in_ok-updates.updates.items; replies = replies } in
    let ran : RanSample c.args.n c.take_directory-dir.result run =
    ran_sample c.args.n c.args.made.session _ c.take_directory-dir.result run c.take_directory-dir.ensures.session c.requires.session.is c.take_directory-dir.ensures.directory
    c.in_ok-updates.ensures.ran in
    IfOk-weaker c.summary_of.result _ _
    (λ s is. is ∙ ap (λ (us : List Update). summary_of (record { updates = us; replies = replies })) c.deref.ensures.value
    ∙ run_summary c.sample_session.ensures.summary c.args.n c.requires.most c.take_directory-dir.result ran.names run ran.legal)
    c.summary_of.ensures

pub returns-clause-ran : goal.returns-clause-ran
returns-clause-ran g c =
    let run : Run = record { updates = c.in_ok-updates.updates.items; replies = g.R.Runner.replied c.history_over.new.runner } in
    let ran : RanSample c.args.n c.take_directory-dir.result run =
    ran_sample c.args.n c.args.made.session _ c.take_directory-dir.result run c.take_directory-dir.ensures.session c.requires.session.is c.take_directory-dir.ensures.directory
    c.in_ok-updates.ensures.ran in
    IfOk-weaker c.summary_of.result _ _
    (λ s is. record { dir = c.take_directory-dir.result; names = ran.names; run = run; legal = ran.legal; holds = (c.in_ok-updates.ensures.runs, refl) })
    c.summary_of.ensures
