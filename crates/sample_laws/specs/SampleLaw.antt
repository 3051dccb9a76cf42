-- Helper: the headline does not rest on this file.
-- The summary of the generated session.
use Rattle.std.specs.Prelude.{◌≡◌, ℕ, ◌<◌, List, length, map, All}
use Rattle.key_names.specs.Names.{Rises, HoldsEachOnce}
use Rattle.bucket_terms.specs.LegalRun.{RequestLine, Run, IsLegal, lines_of}
use Rattle.bucket_terms.specs.RunParts.{default_slots}
use Rattle.request_lines.specs.declared.session.Session.{Session}
use Rattle.request_lines.specs.Input.{IsSessionOf}
use Rattle.request_lines.specs.SampleSession.{sample_session}
use Rattle.request_lines.specs.Session.{request_lines}
use Rattle.sample_laws.specs.Own.{IsNamed}
use Rattle.sample_laws.specs.Totals.{summary_of, summary_alone}
use Rattle.sample_laws.specs.Sample.{sample_summary}

-- the requests of the four clients, with their lines
abbrev pub sample_parts : ℕ → List (List RequestLine)
sample_parts n = map request_lines (sample_session n).clients

-- the summary that the number of requests gives is the sums over the four clients of what each has alone, in any
-- directory that has their names
abbrev pub SampleAloneLaw : Type 0
SampleAloneLaw =
    (dir : List (List ℕ)) (n : ℕ)
    → ((c : ℕ) → c < length (sample_parts n) → All (λ (l : RequestLine). IsNamed dir l.request) (lines_of (sample_parts n) c))
    → summary_alone dir (sample_parts n) ≡ sample_summary n

-- in each legal run of the generated session over names that rise, where each client has one more node slot than
-- requests that may make an update, the summary is the one that the number of requests gives
abbrev pub SampleLaw : Type 0
SampleLaw =
    (dir : List (List ℕ)) (n : ℕ) (run : Run) → Rises dir
    → IsLegal dir (sample_parts n) (λ client. default_slots (lines_of (sample_parts n) client)) run
    → summary_of run ≡ sample_summary n

-- the same of a session that was read from an input whose session is the generated one: the directory has its names
abbrev pub SampleInputLaw : Type 0
SampleInputLaw =
    (input : List ℕ) (n : ℕ) (session : Session) (dir : List (List ℕ)) (run : Run)
    → IsSessionOf input (sample_session n) → IsSessionOf input session → HoldsEachOnce session.names dir
    → IsLegal dir (map request_lines session.clients) (λ client. default_slots (lines_of (map request_lines session.clients) client)) run
    → summary_of run ≡ sample_summary n
