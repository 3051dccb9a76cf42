-- Helper: the headline does not rest on this file.
-- What the promise rules out: an input above the limit was not read, what was taken of a text can be
-- completed to it, and a run of the generated session has its summary.
use Rattle.std.specs.Prelude.{◌≡◌, ℕ, ◌≤◌, List, ◌++◌, length, Option, Some}
use Rattle.outside_io.specs.Streams.{Gave, IsOver, IsTaken, TakesStart}
use Rattle.bucket_terms.specs.declared.reply.Placed.{Placed}
use Rattle.bucket_terms.specs.LegalRun.{Run}
use Rattle.request_lines.specs.Input.{most_input_bytes}
use Rattle.sample_laws.specs.Sample.{sample_summary}
use Rattle.sample_laws.specs.Totals.{summary_of}
use Rattle.serve_session.specs.Served.{HasRead, HoldsOfSample, IsRunOf}

-- all that was left was read, and it is within the limit
abbrev pub WithinLimitLaw : Type 0
WithinLimitLaw = (before : List ℕ) (after : Option (List ℕ)) (input : List ℕ) → HasRead (Some before) after input → length before ≤ most_input_bytes

-- an input is not both too long and read to its end
abbrev pub TooLongLaw : Type 0
TooLongLaw =
    (before : List ℕ) (now after : Option (List ℕ)) (input : List ℕ) → Gave (Some before) now (IsOver most_input_bytes) → ¬ (HasRead (Some before) after input)

-- if a start of a text was taken, the rest of it can be taken afterwards
abbrev pub StartLaw : Type 0
StartLaw = (before now text : List ℕ) → TakesStart (Some before) (Some now) text → (rest : List ℕ) × IsTaken (Some now) (Some (before ++ text)) rest

-- a runner's run of the generated session has the summary of that session
abbrev pub SampleRunLaw : Type 0
SampleRunLaw =
    (requests old new : ℕ) (replied : List (List Placed)) → requests ≤ 40000 → HoldsOfSample requests (IsRunOf old new replied)
    → (run : Run) × (IsRunOf old new replied run × (summary_of run ≡ sample_summary requests))
