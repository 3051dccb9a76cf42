use Rattle.std.proofs.Common.{sym, ◌∙◌}
use Rattle.client_threads.proofs.Sessions.{some_client, can_serve}
use Rattle.serve_tests.proofs.sessions.with_directory.Goals as goal

pub returns : goal.returns
returns c =
    can_serve c.args.session _ c.take_directory-dir.result c.take_directory-dir.ensures.session (some_client _ (sym c.is_empty.ensures ∙ c.if-is_empty.false))
    c.take_directory-dir.ensures.directory c.requires.requests c.requires.lines c.requires.small
