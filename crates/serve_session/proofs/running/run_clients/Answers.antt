use Rattle.run_text.specs.declared.stop.Stop.TheVariants.{Fault, NoMemory}
use Rattle.std.proofs.Common.{◌<◌, inr, List, All, length, refl, sym, subst}
use Rattle.std.proofs.lemmas.Result.{IfOk-weaker}
use Rattle.std.proofs.lemmas.List.Elements.{All-map}
use Rattle.bucket_terms.specs.declared.record.Record.{Record}
use Rattle.bucket_terms.specs.declared.reply.Placed.{Placed}
use Rattle.key_map.specs.declared.update.Update.{Update}
use Rattle.bucket_terms.specs.LegalRun.{Run, slots_under}
use Rattle.request_lines.specs.Session.{request_lines}
use Rattle.request_lines.specs.SessionLaws.{HasRecordBelow}
use Rattle.answer_text.specs.InRange.{IsReplyOf}
use Rattle.client_threads.specs.Runs.{parts_of}
use Rattle.client_threads.proofs.Clients.{each_legal}
use Rattle.serve_session.proofs.Runs.{update_keys, all_recorded}
use Rattle.client_threads.specs.Pools.{named}
use Rattle.serve_session.proofs.Sessions.{written}
use Rattle.serve_session.proofs.running.run_clients.Goals as goal

pub write_run-requires-clause-replies : goal.write_run-requires-clause-replies
write_run-requires-clause-replies g c κs within =
    let parts = parts_of c.args.served.now.session.now.clients in
    let run : Run = record { updates = c.in_ok-updates.updates.items; replies = g.R.Runner.replied c.history_of.new.runner } in
    subst (λ (rs : List Record). All (All (λ (p : Placed). IsReplyOf c.args.served.now.dir.now rs p.reply)) (g.R.Runner.replied c.history_of.new.runner)) (sym c.as_slice-records.ensures)
    (all_recorded c.args.served.now.dir.now c.args.served.now.session.now.records parts (slots_under (named c.args.served.now.slots) parts) run c.in_ok-updates.ensures.ran
    (All-map (All (HasRecordBelow (length c.args.served.now.session.now.records))) request_lines c.args.served.now.session.now.clients c.requires.can.recorded))

pub write_run-requires-clause-keys : goal.write_run-requires-clause-keys
write_run-requires-clause-keys g c κs within =
    let parts = parts_of c.args.served.now.session.now.clients in
    let run : Run = record { updates = c.in_ok-updates.updates.items; replies = g.R.Runner.replied c.history_of.new.runner } in
    subst (λ (us : List Update). All (λ (u : Update). u.key < length c.args.served.now.dir.now) us) (sym c.deref.ensures.value)
    (update_keys c.args.served.now.dir.now c.args.served.now.session.now.records parts (slots_under (named c.args.served.now.slots) parts) run (each_legal c.args.served.now.dir.now parts (slots_under (named c.args.served.now.slots) parts) run c.in_ok-updates.ensures.ran)
    (All-map (All (HasRecordBelow (length c.args.served.now.session.now.records))) request_lines c.args.served.now.session.now.clients c.requires.can.recorded))

pub returns-clause-wrote : goal.returns-clause-wrote
returns-clause-wrote g c =
    IfOk-weaker c.write_run.result _ _
    (λ done taken.
    written (named c.args.served.now.slots) c.args.served.now.dir.now c.args.served.now.session.now c.as_slice-records.result.now c.in_ok-updates.updates.items c.deref.result.now
    (g.R.Runner.replied c.history_of.new.runner) _ c.as_slice-records.ensures c.deref.ensures.value c.in_ok-updates.ensures.ran
    (taken, inr (c.in_ok-updates.ensures.runs, refl)))
    c.write_run.ensures.taken

pub returns-clause-start : goal.returns-clause-start
returns-clause-start g c = λ is.
    written (named c.args.served.now.slots) c.args.served.now.dir.now c.args.served.now.session.now c.as_slice-records.result.now c.in_ok-updates.updates.items c.deref.result.now
    (g.R.Runner.replied c.history_of.new.runner) _ c.as_slice-records.ensures c.deref.ensures.value c.in_ok-updates.ensures.ran
    (c.write_run.ensures.start Fault is)

pub returns-clause-no_memory : goal.returns-clause-no_memory
returns-clause-no_memory g c = λ is.
    inr (written (named c.args.served.now.slots) c.args.served.now.dir.now c.args.served.now.session.now c.as_slice-records.result.now c.in_ok-updates.updates.items c.deref.result.now
    (g.R.Runner.replied c.history_of.new.runner) _ c.as_slice-records.ensures c.deref.ensures.value c.in_ok-updates.ensures.ran
    (c.write_run.ensures.start NoMemory is))
