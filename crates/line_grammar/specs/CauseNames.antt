-- Helper: the headline does not rest on this file.
-- The names of the causes, as standard error has them.
use Rattle.std.specs.Prelude.{ℕ, List, codes}
use Rattle.line_grammar.specs.declared.cause.Cause.{Cause}
use Rattle.line_grammar.specs.declared.cause.Cause.TheVariants.{NotUtf8, UnknownVerb, WrongFields, BadEscape, EmptyKey, KeyTooLong, BadNumber, NumberTooLarge, BadEtag, UnknownParameter, RepeatedParameter, BadListType, BadMaxKeys, BadEncoding, BadFetchOwner, NoClient, TooManyClients, TooManyLines, TooManyEntries, NoText}

abbrev pub cause_name : Cause → List ℕ
cause_name NotUtf8 = codes "NotUtf8"
cause_name UnknownVerb = codes "UnknownVerb"
cause_name WrongFields = codes "WrongFields"
cause_name BadEscape = codes "BadEscape"
cause_name EmptyKey = codes "EmptyKey"
cause_name KeyTooLong = codes "KeyTooLong"
cause_name BadNumber = codes "BadNumber"
cause_name NumberTooLarge = codes "NumberTooLarge"
cause_name BadEtag = codes "BadEtag"
cause_name UnknownParameter = codes "UnknownParameter"
cause_name RepeatedParameter = codes "RepeatedParameter"
cause_name BadListType = codes "BadListType"
cause_name BadMaxKeys = codes "BadMaxKeys"
cause_name BadEncoding = codes "BadEncoding"
cause_name BadFetchOwner = codes "BadFetchOwner"
cause_name NoClient = codes "NoClient"
cause_name TooManyClients = codes "TooManyClients"
cause_name TooManyLines = codes "TooManyLines"
cause_name TooManyEntries = codes "TooManyEntries"
cause_name NoText = codes "NoText"
