-- Helper: the headline does not rest on this file.
-- A text has at most one first wrong line, and none exactly if it is the text of a legal run.
use Rattle.std.specs.Prelude.{◌≡◌, ◌↔◌, ℕ, ◌^◌, ◌<◌, List, length, All}
use Rattle.key_names.specs.Names.{Rises}
use Rattle.bucket_terms.specs.LegalRun.{RequestLine, Run, IsLegal}
use Rattle.answer_text.specs.Lines.{session_text}
use Rattle.request_lines.specs.SessionLaws.{Rise}
use Rattle.request_lines.specs.CheckInput.{text_lines}
use Rattle.text_laws.specs.WrongLine.{Checked, AreRight, IsWrongLine, requests_of}

-- each line is right
pub record IsRightText (c : Checked) (texts : List (List ℕ)) : Type 0 where
  pub long : requests_of c.parts < length texts
  pub right : AreRight c texts (length texts)

-- what the texts of a session have: names and each client's lines rise, and clients and lines have numbers of 64 bits
pub record IsCheckable (c : Checked) (texts : List (List ℕ)) : Type 0 where
  pub names : Rises c.dir
  pub rising : All Rise c.parts
  pub numbers : All (λ (lines : List RequestLine). All (λ (l : RequestLine). l.line < 2 ^ 64) lines) c.parts
  pub clients : length c.parts < 2 ^ 64
  pub lines : length texts < 2 ^ 64

abbrev pub OneWrongLineLaw : Type 0
OneWrongLineLaw = (c : Checked) (texts : List (List ℕ)) (m n : ℕ) → IsWrongLine c texts m → IsWrongLine c texts n → m ≡ n

abbrev pub NoneWrongLaw : Type 0
NoneWrongLaw = (c : Checked) (texts : List (List ℕ)) (n : ℕ) → IsRightText c texts → ¬ (IsWrongLine c texts n)

-- the text is that of a legal run
pub record IsLegalText (c : Checked) (text : List ℕ) : Type 0 where
  pub run : Run
  pub legal : IsLegal c.dir c.parts c.slots run
  pub text_is : text ≡ session_text c.dir c.records run

abbrev pub LegalTextLaw : Type 0
LegalTextLaw = (c : Checked) (text : List ℕ) → IsCheckable c (text_lines text) → IsRightText c (text_lines text) ↔ IsLegalText c text
