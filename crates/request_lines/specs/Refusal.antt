-- Helper: the headline does not rest on this file.
-- When reading a session is refused.
use Rattle.std.specs.Prelude.{◌≡◌, ℕ, List, Some, None, Result, Ok, Err}
use Rattle.request_lines.specs.declared.session.Session.{Session}
use Rattle.request_lines.specs.declared.session_error.SessionError.{SessionError}
use Rattle.request_lines.specs.declared.session_error.SessionError.TheVariants as errors
use Rattle.request_lines.specs.Input.{refusal_of}

-- a session comes exactly where no line has a cause, and else the refusal, unless memory ran out
abbrev pub IsRefused : List ℕ → Result Session SessionError → Type 0
IsRefused bytes (Ok session) = refusal_of bytes ≡ None
IsRefused bytes (Err (errors.Input e)) = refusal_of bytes ≡ Some e
IsRefused bytes (Err errors.NoMemory) = Unit {0}
