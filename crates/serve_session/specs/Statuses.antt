-- Helper: the headline does not rest on this file.
-- The exit status of the process for each end of serving, and what standard error says of it.
use Rattle.std.specs.Prelude.{ℕ, List, ◌++◌, codes, decimal}
use Rattle.line_grammar.specs.CauseNames.{cause_name}
use Rattle.serve_session.specs.declared.status.Status.{Status}
use Rattle.serve_session.specs.declared.status.Status.TheVariants.{Done, BadWords, BadInput, TooLong, ReadFault, WriteFault, NoMemory, Illegal}

abbrev pub exit_code : Status → ℕ
exit_code Done = 0
exit_code BadWords = 2
exit_code (BadInput e) = 3
exit_code TooLong = 4
exit_code ReadFault = 5
exit_code WriteFault = 6
exit_code NoMemory = 7
exit_code (Illegal line) = 8

-- after the program's name, a colon and a space
abbrev pub status_text : Status → List ℕ
status_text Done = codes "done"
status_text BadWords = codes "bad words"
status_text (BadInput e) = codes "line " ++ decimal e.line ++ codes ": " ++ cause_name e.cause
status_text TooLong = codes "input too long"
status_text ReadFault = codes "read fault"
status_text WriteFault = codes "write fault"
status_text NoMemory = codes "no memory"
status_text (Illegal line) = codes "wrong line " ++ decimal line
