use Rattle.std.proofs.Common.{List, sym, ap, ◌∙◌, length}
use Rattle.std.specs.List.{slice_get}
use Rattle.request_lines.specs.declared.session.ClientPart.{ClientPart}
use Rattle.client_run.proofs.Sessions.{askable, served_first}
use Rattle.path_tests.proofs.gates.run.Goals as goal

pub run_part-requires-clause-askable : goal.run_part-requires-clause-askable
run_part-requires-clause-askable g c =
    let names = c.in_ok-session.session.names in
    let count = length c.in_ok-session.session.records in
    askable c.in_ok-dir.dir names count c.in-Some.part.now.requests c.in_ok-dir.ensures
    (served_first names count c.in_ok-session.session.clients c.in-Some.part.now (ap (λ (cs : List ClientPart). slice_get cs 0) (sym c.as_slice.ensures) ∙ sym c.in-Some.ensures.value) c.in_ok-session.ensures.requests.served)
