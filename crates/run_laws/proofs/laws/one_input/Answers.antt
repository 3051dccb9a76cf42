use Rattle.run_laws.proofs.Determined as determined
use Rattle.run_laws.proofs.laws.one_input.Goals as goal

pub returns : goal.returns
returns c = record {
  input = determined.one_input;
  reading = determined.one_reading;
  text = determined.one_text;
  tells = determined.tells_on;
  session = determined.one_session;
  refused = determined.no_session;
  directory = determined.one_directory;
}
