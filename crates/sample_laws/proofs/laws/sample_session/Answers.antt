use Rattle.sample_laws.proofs.SampleLaw.{sample_law, sample_alone, sample_input_law}
use Rattle.sample_laws.proofs.laws.sample_session.Goals as goal

pub returns : goal.returns
returns c = record { summary = sample_law; alone = sample_alone; of_input = sample_input_law }
