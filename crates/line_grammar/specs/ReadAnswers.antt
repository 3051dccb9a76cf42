-- Helper: the headline does not rest on this file.
-- What a function that reads returns.
use Rattle.std.specs.Prelude.{◌≡◌, Result, Ok, Err}
use Rattle.line_grammar.specs.declared.cause.Cause.{Cause}
use Rattle.line_grammar.specs.declared.line_error.LineError.{LineError}
use Rattle.line_grammar.specs.declared.line_error.LineError.TheVariants as errors

-- the error says which cause reading gives, unless memory ran out
abbrev pub Fails : {A : Type 0} → LineError → Result A Cause → Type 0
Fails errors.NoMemory read = Unit {0}
Fails (errors.Faulty cause) read = read ≡ Err cause

-- the answer, seen by `view`, is what reading gives, unless memory ran out
abbrev pub ReadsAs : {A B : Type 0} → (A → B) → Result A LineError → Result B Cause → Type 0
ReadsAs view (Ok x) read = read ≡ Ok (view x)
ReadsAs view (Err e) read = Fails e read

abbrev pub Reads : {A : Type 0} → Result A LineError → Result A Cause → Type 0
Reads (Ok x) read = read ≡ Ok x
Reads (Err e) read = Fails e read
