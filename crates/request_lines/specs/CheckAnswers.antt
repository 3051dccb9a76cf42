-- Helper: the headline does not rest on this file.
-- When reading an input of `check` is refused.
use Rattle.std.specs.Prelude.{◌≡◌, ℕ, List, Some, None, Result, Ok, Err}
use Rattle.request_lines.specs.declared.check_input.CheckInput.{CheckInput}
use Rattle.request_lines.specs.declared.session_error.SessionError.{SessionError}
use Rattle.request_lines.specs.declared.session_error.SessionError.TheVariants as errors
use Rattle.request_lines.specs.CheckInput.{check_refusal}

-- a session and a text come exactly where nothing is refused, and else the refusal, unless memory ran out
abbrev pub IsCheckRefused : List ℕ → Result CheckInput SessionError → Type 0
IsCheckRefused bytes (Ok read) = check_refusal bytes ≡ None
IsCheckRefused bytes (Err (errors.Input e)) = check_refusal bytes ≡ Some e
IsCheckRefused bytes (Err errors.NoMemory) = Unit {0}
