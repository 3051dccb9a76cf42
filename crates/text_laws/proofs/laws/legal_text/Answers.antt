use Rattle.request_lines.specs.CheckInput.{text_lines}
use Rattle.text_laws.proofs.FromLegal.{from_legal}
use Rattle.text_laws.proofs.OneWrong.{all_right, right_text}
use Rattle.text_laws.proofs.ToLegal.{to_legal}
use Rattle.text_laws.proofs.laws.legal_text.Goals as goal

pub returns : goal.returns
returns c = record {
  legal = λ k text fine. ((λ right. to_legal k text (all_right k (text_lines text) right)), (λ legal. right_text k (text_lines text) (from_legal k text fine.rising legal)));
}
