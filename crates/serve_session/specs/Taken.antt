-- Helper: the headline does not rest on this file.
-- What a sink has taken of the text of a run; and what is true of a session with its directory.
use Rattle.std.specs.Prelude.{◌≡◌, ◌⊎◌, ℕ, List, [], Option}
use Rattle.outside_io.specs.Streams.{IsTaken, TakesStart}
use Rattle.bucket_terms.specs.declared.reply.Placed.{Placed}
use Rattle.bucket_terms.specs.LegalRun.{Run}
use Rattle.request_lines.specs.declared.session.Session.{Session}
use Rattle.replay_check.specs.declared.verdict.Verdict.{Verdict}
use Rattle.serve_session.specs.Served.{HoldsOfDirectory, HoldsOfRun, IsRunOf, IsVerdictOn}

-- this is true of one legal run of the session, whose names are the directory
abbrev pub HoldsOfSession : Option ℕ → Session → (Run → List ℕ → Type 0) → Type 0
HoldsOfSession named session P = HoldsOfDirectory session (λ dir. HoldsOfRun named dir session P)

-- the verdict on a text of the session
abbrev pub IsVerdictOf : Option ℕ → Session → List ℕ → Verdict → Type 0
IsVerdictOf named session text verdict = HoldsOfDirectory session (λ dir. IsVerdictOn named dir session text verdict)

-- the sink took a start of the text
abbrev pub TookStart : {K : Type 0} → (K → Option (List ℕ)) → K → K → Run → List ℕ → Type 0
TookStart taken sink sink' run text = TakesStart (taken sink) (taken sink') text

-- the sink took the whole text, and the run is the runner's; if there is no client, there are no replies
abbrev pub TookBy : {K R : Type 0} → (K → Option (List ℕ)) → K → K → (R → ℕ) → (R → List (List Placed)) → R → R → Run → List ℕ → Type 0
TookBy taken sink sink' runs replied runner runner' run text =
    IsTaken (taken sink) (taken sink') text × ((run.replies ≡ []) ⊎ IsRunOf (runs runner) (runs runner') (replied runner') run)
