-- What a verdict says, from the lines to the whole text.
use Rattle.std.proofs.Common.{◌≡◌, ◌↔◌, ℕ, ◌-◌, ◌^◌, ◌<◌, ◌≤◌, All, List, Option, length, map, take, drop, refl, sym, ap, ◌∙◌, subst, arith}
use Rattle.std.specs.Borrow.{Bor}
use Rattle.std.proofs.lemmas.List.{take-map, drop-map, length-map, length-drop}
use Rattle.std.proofs.lemmas.List.Elements.{All-map, All-weaker}
use Rattle.bucket_terms.specs.LegalRun.{RequestLine}
use Rattle.key_names.specs.Names.{Rises}
use Rattle.request_lines.specs.declared.session.ClientPart.{ClientPart}
use Rattle.request_lines.specs.declared.session.Session.{Session}
use Rattle.request_lines.specs.Session.{request_lines}
use Rattle.request_lines.specs.SessionLaws.{HasLineNumber, Rise, all_requests}
use Rattle.request_lines.specs.CheckInput.{text_lines}
use Rattle.text_laws.specs.WrongLine.{Checked, IsWrongLine, journal_texts, requests_of}
use Rattle.text_laws.specs.WrongParts.{HasAllParts}
use Rattle.text_laws.specs.TextLaws.{IsCheckable, IsLegalText}
use Rattle.text_laws.proofs.FromLegal.{from_legal}
use Rattle.text_laws.proofs.ToLegal.{to_legal}
use Rattle.text_laws.proofs.OneWrong.{one_wrong_line, none_wrong_law, right_text}
use Rattle.text_laws.proofs.WrongParts.{in_part}
use Rattle.replay_check.specs.declared.verdict.Verdict.{Verdict}
use Rattle.replay_check.specs.declared.verdict.Verdict.TheVariants.{Legal, Wrong}
use Rattle.replay_check.specs.Telling.{IsRead, checked}
use Rattle.replay_check.specs.Judging.{IsVerdict}
use Rattle.replay_check.specs.Looking.{texts_of}
use Rattle.replay_check.proofs.BasisLaws.{requests_are}

module _ (c : Checked) (text : List ℕ) (fine : IsCheckable c (text_lines text)) where
  pub legal_is : (verdict : Verdict) → IsVerdict c (text_lines text) verdict → (verdict ≡ Legal) ↔ IsLegalText c text
  legal_is Legal right = ((λ same. to_legal c text right), (λ legal. refl))
  legal_is (Wrong n) wrong = ((λ same. cc), (λ legal. absurd (none_wrong_law c (text_lines text) n (right_text c (text_lines text) (from_legal c text fine.rising legal)) (in_part c (text_lines text) fine n wrong))))

  pub wrong_is : (verdict : Verdict) → IsVerdict c (text_lines text) verdict → (line : ℕ) → (verdict ≡ Wrong line) ↔ IsWrongLine c (text_lines text) line
  wrong_is Legal right line = ((λ same. cc), (λ wrong. absurd (none_wrong_law c (text_lines text) line (right_text c (text_lines text) right) wrong)))
  wrong_is (Wrong n) wrong line = (
    (λ same. in_part c (text_lines text) fine line (subst (IsVerdict c (text_lines text)) same wrong)),
    (λ other. ap Wrong (one_wrong_line c (text_lines text) n line (in_part c (text_lines text) fine n wrong) other)),
  )

-- a text can be checked against a session that was read
pub checkable : (session : Session) (dir : List (List ℕ)) (read : IsRead session dir) (c : Checked) (text : List ℕ) → c.dir ≡ dir → c.parts ≡ map request_lines session.clients
    → length (text_lines text) < 2 ^ 64 → IsCheckable c (text_lines text)
checkable session dir read c text names parts short = record {
  names = subst (λ (d : List (List ℕ)). Rises d) (sym names) read.directory.rising;
  rising = subst (All Rise) (sym parts) (All-map Rise request_lines session.clients read.lines.rising);
  numbers = subst (All (λ (lines : List RequestLine). All (λ (l : RequestLine). l.line < 2 ^ 64) lines)) (sym parts)
      (All-map (λ (lines : List RequestLine). All (λ (l : RequestLine). l.line < 2 ^ 64) lines) request_lines session.clients
      (All-weaker (λ (part : ClientPart). All HasLineNumber (request_lines part)) (λ (part : ClientPart). All (λ (l : RequestLine). l.line < 2 ^ 64) (request_lines part))
      (λ part numbers. All-weaker HasLineNumber (λ (l : RequestLine). l.line < 2 ^ 64) (λ l number. small l.line number.1) (request_lines part) numbers) session.clients read.lines.numbers));
  clients = let count = ap length parts in let same = length-map session.clients request_lines in let few = read.small.clients in omega arith;
  lines = short;
}
  where
    small : (n : ℕ) → n < 2 ^ 32 → n < 2 ^ 64
    small n less = omega arith

-- the journal's lines are those between the replies and the last line
pub journal_texts_are : (c : Checked) (lines journal rest : List (Bor (List ℕ))) (asked : ℕ) → asked ≡ requests_of c.parts → rest ≡ drop asked lines → journal ≡ take (length rest - 1) rest
    → texts_of journal ≡ journal_texts c (texts_of lines)
journal_texts_are c lines journal rest asked count rest_is cut_is =
    let now = λ (line : Bor (List ℕ)). line.now in
    let behind : texts_of rest ≡ drop (requests_of c.parts) (texts_of lines) =
    ap texts_of rest_is ∙ ap (λ (n : ℕ). texts_of (drop n lines)) count ∙ sym (drop-map now (requests_of c.parts) lines) in
    let long : length rest - 1 ≡ length (texts_of lines) - requests_of c.parts - 1 =
    omega (arith, ap length rest_is, length-drop asked lines, length-map lines now, count) in
    ap texts_of cut_is
    ∙ sym (take-map now (length rest - 1) rest)
    ∙ ap (take (length rest - 1)) behind
    ∙ ap (λ (n : ℕ). take n (drop (requests_of c.parts) (texts_of lines))) long

-- a text has a line for each request, and more
pub long_text : (session : Session) (dir : List (List ℕ)) (slots : Option ℕ) (lines : List (Bor (List ℕ))) (asked : ℕ) → asked ≡ requests_of (map request_lines session.clients)
    → asked < length lines → HasAllParts (checked session dir slots) (texts_of lines)
long_text session dir slots lines asked count more = omega (arith, length-map lines (λ (line : Bor (List ℕ)). line.now))

pub few_requests : (session : Session) (dir : List (List ℕ)) → IsRead session dir → requests_of (map request_lines session.clients) ≤ 200000
few_requests session dir read =
    let same = requests_are session.clients in
    let small = read.small in
    let few : length (all_requests session.clients) ≤ 200000 = small.requests in
    omega arith
