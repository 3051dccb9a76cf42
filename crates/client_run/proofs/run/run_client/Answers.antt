use Rattle.std.proofs.Common.{arith}
use Rattle.std.proofs.lemmas.List.{length-map}
use Rattle.request_lines.specs.Session.{request_line, request_lines}
use Rattle.client_run.proofs.PartRuns.{whole_run}
use Rattle.client_run.proofs.run.run_client.Goals as goal

pub returns-clause-ran : goal.returns-clause-ran
returns-clause-ran g c =
    let long = length-map c.args.part.now.requests request_line in
    whole_run c.args.dir.now (request_lines c.args.part.now) (g.P.KeyPass.view c.args.pass.now) (g.P.KeyPass.view c.run_part.new.pass) c.in_ok-replies.replies.items
    c.in_ok-progress.progress c.in_ok-replies.field-0-1 c.len.result c.in_ok-progress.ensures (omega (arith, long, c.len.ensures)) c.in_ok-replies.ensures.went
    c.requires.closed c.requires.later c.requires.rising
