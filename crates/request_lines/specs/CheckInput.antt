-- The lines of a text; and the input of `check`: a session, a line that is `----`, and a written text.
use Rattle.std.specs.Prelude.{◌≡◌, ℕ, ◌+◌, ◌-◌, ◌==◌, Bool, List, [], ◌∷◌, length, take, codes, slice_index, Option, Some, None, is_some, if◌then◌else◌}
use Rattle.std.specs.{List.concat, List.before_first, List.after_first, List.list_any, Option.option_or, Str.bytes_eq, Str.Lines.strip_carriage_return}
use Rattle.line_grammar.specs.declared.cause.Cause.TheVariants.{NoText}
use Rattle.request_lines.specs.declared.{session.Session.Session, session_error.InputError.InputError}
use Rattle.request_lines.specs.Input.{IsSessionOf, refusal_of}

-- the byte in front of these lines: it belongs to the first of them
abbrev pub with_byte : ℕ → List (List ℕ) → List (List ℕ)
with_byte byte [] = (byte ∷ []) ∷ []
with_byte byte (line ∷ lines) = (byte ∷ line) ∷ lines

-- the lines of a text, each with its line feed. A last piece without one is a line too.
abbrev pub text_lines : List ℕ → List (List ℕ)
text_lines [] = []
text_lines (byte ∷ text) = if byte == 10 then (byte ∷ []) ∷ text_lines text else with_byte byte (text_lines text)

-- a line without the line feed at its end, where it has one
abbrev pub strip_line_feed : List ℕ → List ℕ
strip_line_feed line = if slice_index line (length line - 1) == 10 then take (length line - 1) line else line

-- the line is `----`; one carriage return at its end is dropped
abbrev pub is_divider : List ℕ → Bool
is_divider line = bytes_eq (strip_carriage_return (strip_line_feed line)) (codes "----")

-- the session is in the lines before the first line `----`, or in all if there is none; the text is in those after it
unfoldable pub session_part : List ℕ → List ℕ
session_part input = concat (before_first is_divider (text_lines input))

unfoldable pub text_part : List ℕ → Option (List ℕ)
text_part input = if list_any is_divider (text_lines input) then Some (concat (after_first is_divider (text_lines input))) else None

-- the refusal of an input of `check`: that of its session, or else, one line after the last, that no line is `----`
unfoldable pub check_refusal : List ℕ → Option InputError
check_refusal input =
    option_or (refusal_of (session_part input))
    (if is_some (text_part input) then None else Some (record { line = length (text_lines input) + 1; cause = NoText }))

-- the session and the text of an input of `check`
pub record IsCheckInput (input : List ℕ) (session : Session) (text : List ℕ) : Type 0 where
  pub of_part : IsSessionOf (session_part input) session
  pub text_is : text_part input ≡ Some text
