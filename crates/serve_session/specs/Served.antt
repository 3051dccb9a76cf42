-- What a call of `serve` has read and written, by how it ended.
use Rattle.std.specs.Prelude.{◌≡◌, ◌↔◌, ℕ, ◌≤◌, List, [], ◌∷◌, length, map, true, false, codes, Option, Some, None}
use Rattle.key_names.specs.Names.{HoldsEachOnce}
use Rattle.outside_io.specs.Streams.{one_more, IsReadToEnd}
use Rattle.bucket_terms.specs.declared.{reply.Placed.Placed, summary.Summary.Summary}
use Rattle.bucket_terms.specs.LegalRun.{RequestLine, Run, IsLegal, slots_under}
use Rattle.request_lines.specs.declared.{session.Asked.Asked, session.ClientPart.ClientPart, session.Session.Session, session_error.InputError.InputError}
use Rattle.request_lines.specs.Input.{IsSessionOf, most_input_bytes}
use Rattle.request_lines.specs.CheckInput.{IsCheckInput, text_lines}
use Rattle.request_lines.specs.Sample.{sample_text}
use Rattle.serde_json.specs.Data.{boolean}
use Rattle.answer_text.specs.Lines.{always, object_of, whole, line_of, session_text}
use Rattle.text_laws.specs.WrongLine.{IsWrongLine}
use Rattle.replay_check.specs.declared.verdict.Verdict.{Verdict}
use Rattle.replay_check.specs.declared.verdict.Verdict.TheVariants.{Legal, Wrong}

-- these are all the bytes that were left to read, and no more than the limit
pub record HasRead (before after : Option (List ℕ)) (input : List ℕ) : Type 0 where
  pub all : IsReadToEnd before after input
  pub within : length input ≤ most_input_bytes

-- the request lines of each client
abbrev pub client_lines : List ClientPart → List (List RequestLine)
client_lines clients = map (λ (part : ClientPart). map (λ (asked : Asked). record { line = asked.line; request = asked.request }) part.requests) clients

-- this is true of the directory of the session: of its names, each once and in byte order
pub record HoldsOfDirectory (session : Session) (P : List (List ℕ) → Type 0) : Type 0 where
  pub dir : List (List ℕ)
  pub names : HoldsEachOnce session.names dir
  pub holds : P dir

-- this is true of a legal run of the session and its text, with the node slots named or those that its lines ask for
pub record HoldsOfRun (named : Option ℕ) (dir : List (List ℕ)) (session : Session) (P : Run → List ℕ → Type 0) : Type 0 where
  pub run : Run
  pub legal : IsLegal dir (client_lines session.clients) (slots_under named (client_lines session.clients)) run
  pub holds : P run (session_text dir session.records run)

-- an input was read, and this is true of one legal run of its session and of its text
pub record HoldsOfInput (named : Option ℕ) (before after : Option (List ℕ)) (P : Run → List ℕ → Type 0) : Type 0 where
  pub input : List ℕ
  pub session : Session
  pub has_read : HasRead before after input
  pub of_input : IsSessionOf input session
  pub text : HoldsOfDirectory session (λ dir. HoldsOfRun named dir session P)

-- this is true of one legal run of the generated session with this many requests of each client
pub record HoldsOfSample (requests : ℕ) (P : Run → Type 0) : Type 0 where
  pub session : Session
  pub of_input : IsSessionOf (sample_text requests) session
  pub text : HoldsOfDirectory session (λ dir. HoldsOfRun None dir session (λ run text. P run))

-- the replies of the run are those that a runner has now, whose count of runs was `old` before and is one more
abbrev pub IsRunOf : (old new : ℕ) → List (List Placed) → Run → Type 0
IsRunOf old new replied run = (new ≡ one_more old) × (run.replies ≡ replied)

-- the verdict on a text: legal exactly if it is that of a legal run, and wrong in a line exactly if that is the first
pub record IsVerdictOn (named : Option ℕ) (dir : List (List ℕ)) (session : Session) (text : List ℕ) (verdict : Verdict) : Type 0 where
  pub legal : (verdict ≡ Legal) ↔ HoldsOfRun named dir session (λ run written. text ≡ written)
  pub wrong : (line : ℕ) → (verdict ≡ Wrong line) ↔ IsWrongLine
      (record { dir = dir; records = session.records; parts = client_lines session.clients; slots = slots_under named (client_lines session.clients) })
      (text_lines text) line

-- an input was read, and this is the verdict on the text that stands after its session
pub record HasVerdict (named : Option ℕ) (before after : Option (List ℕ)) (verdict : Verdict) : Type 0 where
  pub input : List ℕ
  pub session : Session
  pub text : List ℕ
  pub has_read : HasRead before after input
  pub of_input : IsCheckInput input session text
  pub is : HoldsOfDirectory session (λ dir. IsVerdictOn named dir session text verdict)

-- an input was read and is refused: this is its first faulty line, with its first cause
pub record WasRefused (refusal : List ℕ → Option InputError) (before after : Option (List ℕ)) (error : InputError) : Type 0 where
  pub input : List ℕ
  pub has_read : HasRead before after input
  pub is : refusal input ≡ Some error

-- the line of a verdict, and that of a summary: their members stand in the byte order of their names
abbrev pub verdict_text : Verdict → List ℕ
verdict_text Legal = line_of (object_of (always (codes "Legal") (boolean true) ∷ []))
verdict_text (Wrong line) = line_of (object_of (always (codes "Legal") (boolean false) ∷ always (codes "Wrong") (whole line) ∷ []))

abbrev pub summary_text : Summary → List ℕ
summary_text summary = line_of (object_of (
    always (codes "Keys") (whole summary.keys) ∷ always (codes "Listed") (whole summary.listed)
    ∷ always (codes "Requests") (whole summary.requests) ∷ always (codes "Updates") (whole summary.updates) ∷ []))
