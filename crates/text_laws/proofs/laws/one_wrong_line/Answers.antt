use Rattle.text_laws.proofs.OneWrong.{one_wrong_line, none_wrong_law}
use Rattle.text_laws.proofs.laws.one_wrong_line.Goals as goal

pub returns : goal.returns
returns c = record { one = one_wrong_line; none = none_wrong_law }
