-- What an input, its session and its directory determine.
use Rattle.std.specs.Prelude.{◌≡◌, ℕ, List, [], Option, Some, None}
use Rattle.key_names.specs.Names.{HoldsEachOnce}
use Rattle.outside_io.specs.Streams.{IsRead, IsReadToEnd, IsTaken}
use Rattle.request_lines.specs.declared.session.Session.{Session}
use Rattle.request_lines.specs.declared.session_error.InputError.{InputError}
use Rattle.request_lines.specs.Input.{IsSessionOf, refusal_of}

-- a source that reports its bytes gave all that were left, and no others, or it gave the first of them
abbrev pub OneInputLaw : Type 0
OneInputLaw = (before input : List ℕ) (after : Option (List ℕ)) → IsReadToEnd (Some before) after input → (input ≡ before) × (after ≡ Some [])

abbrev pub OneReadingLaw : Type 0
OneReadingLaw = (before now x y : List ℕ) → IsRead (Some before) (Some now) x → IsRead (Some before) (Some now) y → x ≡ y

-- a sink that reports its bytes took one text, and keeps reporting them
abbrev pub OneTextLaw : Type 0
OneTextLaw = (before now x y : List ℕ) → IsTaken (Some before) (Some now) x → IsTaken (Some before) (Some now) y → x ≡ y

abbrev pub TellsOnLaw : Type 0
TellsOnLaw = (before x : List ℕ) → ¬ (IsTaken (Some before) None x)

-- an input has one session at most, and none if it is refused
abbrev pub OneSessionLaw : Type 0
OneSessionLaw = (input : List ℕ) (s t : Session) → IsSessionOf input s → IsSessionOf input t → s ≡ t

abbrev pub NoSessionLaw : Type 0
NoSessionLaw = (input : List ℕ) (s : Session) (e : InputError) → IsSessionOf input s → ¬ (refusal_of input ≡ Some e)

-- names have one directory
abbrev pub OneDirectoryLaw : Type 0
OneDirectoryLaw = (names d e : List (List ℕ)) → HoldsEachOnce names d → HoldsEachOnce names e → d ≡ e
