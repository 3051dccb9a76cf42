use Rattle.serve_session.proofs.ServedLaws.{within_limit, too_long, start, sample_run}
use Rattle.serve_session.proofs.laws.served.Goals as goal

pub returns : goal.returns
returns c = record { within = within_limit; too_long = too_long; start = start; sample = sample_run c.sample_session.ensures.of_input }
