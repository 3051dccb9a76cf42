use Rattle.serve_session.proofs.OneText.{text_law, refusal_law, or_served_law, runners_run_law}
use Rattle.serve_session.proofs.laws.one_text.Goals as goal

pub returns : goal.returns
returns c = record { text = text_law; refusal = refusal_law; or_served = or_served_law; runner = runners_run_law }
