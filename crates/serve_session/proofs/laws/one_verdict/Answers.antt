use Rattle.serve_session.proofs.OneVerdict.{verdict_law, or_checked_law}
use Rattle.serve_session.proofs.laws.one_verdict.Goals as goal

pub returns : goal.returns
returns c = record { verdict = verdict_law; or_checked = or_checked_law }
