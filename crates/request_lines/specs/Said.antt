-- Helper: the headline does not rest on this file.
-- What the lines of a block of an input say, before they are checked against the limits of a session.
use Rattle.std.specs.Prelude.{◌≡◌, ℕ, ◌<◌, ◌≤◌, ◌==◌, List, [], ◌∷◌, ◌++◌, length, Option, Some, None, Result, Ok, Err, slice_index_or, if◌then◌else◌}
use Rattle.std.specs.Borrow.{Bor}
use Rattle.std.specs.Option.{option_map}
use Rattle.line_grammar.specs.declared.cause.Cause.{Cause}
use Rattle.line_grammar.specs.declared.command.Command.{Command}
use Rattle.line_grammar.specs.declared.line_error.LineError.{LineError}
use Rattle.line_grammar.specs.declared.line_error.LineError.TheVariants as faults
use Rattle.request_lines.specs.declared.said.Said.{Said}
use Rattle.line_grammar.specs.Line.{reading_of}
use Rattle.request_lines.specs.InputParts.{texts_of, texts_left}

-- what a line says, or its own cause; nothing where it is empty
unfoldable pub said_of : List ℕ → Option (Result Command Cause)
said_of text = if length text == 0 then None else Some (reading_of text)

-- the line says this command, or is empty
abbrev pub SaysLine : List ℕ → Option Command → Type 0
SaysLine text command = said_of text ≡ option_map Ok command

-- the same of what comes of its reading, or it has this cause of its own
abbrev pub ReadsLine : List ℕ → Result (Option Command) LineError → Type 0
ReadsLine text (Ok command) = SaysLine text command
ReadsLine text (Err (faults.Faulty cause)) = said_of text ≡ Some (Err cause)
ReadsLine text (Err faults.NoMemory) = Unit {0}

-- each of these lines says one of the commands, in order
abbrev pub SayInTurn : List (List ℕ) → List (Option Command) → Type 0
SayInTurn [] [] = Unit {0}
SayInTurn (text ∷ texts) (command ∷ commands) = SaysLine text command × SayInTurn texts commands
SayInTurn texts commands = ⊥

-- there are no more lines, or the next one has this cause of its own
abbrev pub StopsAt : List (List ℕ) → Option Cause → Type 0
StopsAt [] cause = cause ≡ None
StopsAt (text ∷ texts) None = ⊥
StopsAt (text ∷ texts) (Some cause) = said_of text ≡ Some (Err cause)

-- these lines are the first of the texts, and after them there are no more, or the next one has this cause of its own
pub record AreFirst (lines : Option (Bor (List ℕ))) (texts : List (List ℕ)) (cause : Option Cause) : Type 0 where
  pub after : List (List ℕ)
  pub all : texts ≡ texts_left lines ++ after
  pub stops : StopsAt after cause

-- the lines say this, up to the first that has a cause of its own
pub record Says (texts : List (List ℕ)) (said : Said) : Type 0 where
  pub front : List (List ℕ)
  pub after : List (List ℕ)
  pub all : texts ≡ front ++ after
  pub commands : SayInTurn front said.commands.items
  pub cause : StopsAt after said.cause

-- the lines of these blocks
abbrev pub texts_in : List (Bor (List ℕ)) → List (List ℕ)
texts_in [] = []
texts_in (block ∷ blocks) = texts_of block.now ++ texts_in blocks

-- where memory sufficed, this is what the lines say
abbrev pub IsRead : List (List ℕ) → Said → Type 0
IsRead texts said = said.memory ≡ Ok tt → Says texts said

-- the same of the lines of the block at this place
abbrev pub IsReadAt : List (Bor (List ℕ)) → ℕ → Said → Type 0
IsReadAt blocks place said = (b : Bor (List ℕ)) → IsRead (texts_of (slice_index_or blocks place b).now) said

-- what the lines of each block say is in a list, the one at its place
pub record AreRead (blocks : List (Bor (List ℕ))) (said : List Said) : Type 0 where
  pub enough : length blocks ≤ length said
  pub each : (place : ℕ) (d : Said) → place < length blocks → IsReadAt blocks place (slice_index_or said place d)
