use Rattle.run_text.specs.declared.stop.Stop.TheVariants.{Fault, NoMemory}
use Rattle.std.proofs.Common.{◌≡◌, ◌==◌, Bool, [], length, inl, inr, refl, sym, ap, ◌∙◌}
use Rattle.std.proofs.lemmas.Result.{IfOk-weaker}
use Rattle.request_lines.specs.declared.session.Session.{Session}
use Rattle.client_threads.proofs.Sessions.{some_client, can_serve}
use Rattle.client_threads.specs.Pools.{named}
use Rattle.serve_session.proofs.Sessions.{run_holds, none_holds}
use Rattle.serve_session.proofs.running.run_session.Goals as goal

-- whether the session has no clients is known once its names are taken out
no_clients : (session taken : Session) (empty : Bool) → taken ≡ record session { names = [] } → empty ≡ (length taken.clients == 0) → (length session.clients == 0) ≡ empty
no_clients session taken empty is by = ap (λ (s : Session). length s.clients == 0) (sym is) ∙ sym by

pub returns-then-is_empty-clause-wrote : goal.returns-then-is_empty-clause-wrote
returns-then-is_empty-clause-wrote g c =
    IfOk-weaker c.write_last.result _ _
    (λ done taken.
    none_holds (named c.args.slots) c.args.session c.take_directory-dir.result _
    (no_clients c.args.session c.take_directory-dir.new.self c.is_empty.result c.take_directory-dir.ensures.session c.is_empty.ensures ∙ c.if-is_empty.true) c.take_directory-dir.ensures.directory (taken, inl refl))
    c.write_last.ensures.taken

pub returns-then-is_empty-clause-start : goal.returns-then-is_empty-clause-start
returns-then-is_empty-clause-start g c = λ is.
    none_holds (named c.args.slots) c.args.session c.take_directory-dir.result _
    (no_clients c.args.session c.take_directory-dir.new.self c.is_empty.result c.take_directory-dir.ensures.session c.is_empty.ensures ∙ c.if-is_empty.true) c.take_directory-dir.ensures.directory
    (c.write_last.ensures.start Fault is)

pub returns-then-is_empty-clause-no_memory : goal.returns-then-is_empty-clause-no_memory
returns-then-is_empty-clause-no_memory g c = λ is.
    inr (none_holds (named c.args.slots) c.args.session c.take_directory-dir.result _
    (no_clients c.args.session c.take_directory-dir.new.self c.is_empty.result c.take_directory-dir.ensures.session c.is_empty.ensures ∙ c.if-is_empty.true) c.take_directory-dir.ensures.directory
    (c.write_last.ensures.start NoMemory is))

pub run_clients-requires-clause-can : goal.run_clients-requires-clause-can
run_clients-requires-clause-can g c κs within =
    can_serve c.args.session _ c.take_directory-dir.result c.take_directory-dir.ensures.session
    (some_client _ (no_clients c.args.session c.take_directory-dir.new.self c.is_empty.result c.take_directory-dir.ensures.session c.is_empty.ensures ∙ c.if-is_empty.false)) c.take_directory-dir.ensures.directory
    c.requires.requests c.requires.lines c.requires.small

pub returns-clause-wrote : goal.returns-clause-wrote
returns-clause-wrote g c =
    IfOk-weaker c.run_clients.result _ _
    (λ done holds.
    run_holds (named c.args.slots) c.args.session _ c.take_directory-dir.result _ c.take_directory-dir.ensures.session c.take_directory-dir.ensures.directory holds)
    c.run_clients.ensures.wrote

pub returns-clause-start : goal.returns-clause-start
returns-clause-start g c = λ is.
    run_holds (named c.args.slots) c.args.session _ c.take_directory-dir.result _ c.take_directory-dir.ensures.session c.take_directory-dir.ensures.directory
    (c.run_clients.ensures.start is)

pub returns-clause-no_memory : goal.returns-clause-no_memory
returns-clause-no_memory g c = λ is. elim (c.run_clients.ensures.no_memory is) [
  | inl same ↦ inl same
  | inr holds ↦ inr
      (run_holds (named c.args.slots) c.args.session _ c.take_directory-dir.result _ c.take_directory-dir.ensures.session c.take_directory-dir.ensures.directory holds)
]
