use Rattle.std.proofs.Common.{arith}
use Rattle.serve_session.proofs.Lines.{no_client_yet, one_client_more, all_clients}
use Rattle.serve_session.proofs.writing.add_clients.Goals as goal

pub loop-client-init : goal.loop-client-init
loop-client-init g c = no_client_yet c.args.pieces.now (g.R.Runner.replied c.args.runner.now)

pub loop-client-preserved : goal.loop-client-preserved
loop-client-preserved g c =
    one_client_more c.args.pieces.now (g.R.Runner.replied c.args.runner.now) c.loop-client.client c.replies.result.now _ _
    (omega (arith, c.loop-client-test.true, c.requires)) c.replies.ensures c.loop-client.invariant c.in_ok-add_replies.ensures

pub returns : goal.returns
returns g c =
    all_clients c.args.pieces.now (g.R.Runner.replied c.args.runner.now) c.loop-client.client _ (omega (arith, c.loop-client-test.false, c.requires)) c.loop-client.invariant
