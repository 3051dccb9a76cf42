-- Helper: the headline does not rest on this file.
-- The order of the causes.
use Rattle.std.specs.Prelude.{ℕ, nat_le, Option, Some, None, if◌then◌else◌}
use Rattle.line_grammar.specs.declared.cause.Cause.{Cause}
use Rattle.line_grammar.specs.declared.cause.Cause.TheVariants.{NotUtf8, UnknownVerb, WrongFields, BadEscape, EmptyKey, KeyTooLong, BadNumber, NumberTooLarge, BadEtag, UnknownParameter, RepeatedParameter, BadListType, BadMaxKeys, BadEncoding, BadFetchOwner, NoClient, TooManyClients, TooManyLines, TooManyEntries, NoText}

-- the place of a cause in the order in which they are tested
unfoldable pub place_of : Cause → ℕ
place_of NotUtf8 = 0
place_of UnknownVerb = 1
place_of WrongFields = 2
place_of BadEscape = 3
place_of EmptyKey = 4
place_of KeyTooLong = 5
place_of BadNumber = 6
place_of NumberTooLarge = 7
place_of BadEtag = 8
place_of UnknownParameter = 9
place_of RepeatedParameter = 10
place_of BadListType = 11
place_of BadMaxKeys = 12
place_of BadEncoding = 13
place_of BadFetchOwner = 14
place_of NoClient = 15
place_of TooManyClients = 16
place_of TooManyLines = 17
place_of TooManyEntries = 18
place_of NoText = 19

-- the earlier of two causes
unfoldable pub earliest : Option Cause → Option Cause → Option Cause
earliest None cause = cause
earliest (Some cause) None = Some cause
earliest (Some cause) (Some other) = if nat_le (place_of cause) (place_of other) then Some cause else Some other
