-- Helper: the headline does not rest on this file.
-- What the headline determines: the text of an input of one client, the refusal of an input, and the verdict on a text.
use Rattle.std.specs.Prelude.{◌≡◌, ◌≢◌, ◌⊎◌, ℕ, List, [], length, Option, Some, None}
use Rattle.outside_io.specs.Streams.{one_more, IsTaken}
use Rattle.bucket_terms.specs.declared.reply.Placed.{Placed}
use Rattle.request_lines.specs.declared.session_error.InputError.{InputError}
use Rattle.bucket_terms.specs.LegalRun.{Run}
use Rattle.replay_check.specs.declared.verdict.Verdict.{Verdict}
use Rattle.request_lines.specs.Input.{refusal_of}
use Rattle.request_lines.specs.CheckInput.{check_refusal}
use Rattle.serve_session.specs.Served.{HoldsOfInput, HasVerdict, IsRunOf, WasRefused}

-- from one input, if it has one client, whose node slots are not named, and after one text that was taken before,
-- one text is taken
abbrev pub OneTextLaw : Type 0
OneTextLaw =
    (input taken x y : List ℕ) (after after' : Option (List ℕ))
    → (first : HoldsOfInput None (Some input) after (λ (run : Run) (text : List ℕ). IsTaken (Some taken) (Some x) text))
    → HoldsOfInput None (Some input) after' (λ (run : Run) (text : List ℕ). IsTaken (Some taken) (Some y) text)
    → length first.session.clients ≡ 1 → x ≡ y

-- an input has one refusal at most, both in the form `run` and in the form `check`
abbrev pub OneRefusalLaw : Type 0
OneRefusalLaw =
    (refusal : List ℕ → Option InputError) (input : List ℕ) (after after' : Option (List ℕ)) (e f : InputError)
    → WasRefused refusal (Some input) after e → WasRefused refusal (Some input) after' f → e ≡ f

-- and none if it has a session with a legal run
abbrev pub RefusedOrServedLaw : Type 0
RefusedOrServedLaw =
    (named : Option ℕ) (input : List ℕ) (after after' : Option (List ℕ)) (e : InputError)
    → WasRefused refusal_of (Some input) after e → ¬ (HoldsOfInput named (Some input) after' (λ (run : Run) (text : List ℕ). Unit {0}))

-- a run that has replies has those of the runner, whose count of runs is one more
abbrev pub RunnersRunLaw : Type 0
RunnersRunLaw =
    (old new : ℕ) (replied : List (List Placed)) (run : Run) → (run.replies ≡ []) ⊎ IsRunOf old new replied run → run.replies ≢ []
    → (run.replies ≡ replied) × (new ≡ one_more old)

-- from one input one verdict is found
abbrev pub OneVerdictLaw : Type 0
OneVerdictLaw =
    (named : Option ℕ) (input : List ℕ) (after after' : Option (List ℕ)) (v w : Verdict)
    → HasVerdict named (Some input) after v → HasVerdict named (Some input) after' w → v ≡ w

-- and none if the input is refused
abbrev pub RefusedOrCheckedLaw : Type 0
RefusedOrCheckedLaw =
    (named : Option ℕ) (input : List ℕ) (after after' : Option (List ℕ)) (e : InputError) (v : Verdict)
    → WasRefused check_refusal (Some input) after e → ¬ (HasVerdict named (Some input) after' v)
