-- Helper: the headline does not rest on this file.
-- Where a text keeps its bytes. No public clause cites this module.
use Rattle.std.specs.Prelude.{ℕ, List}
use Rattle.std.specs.String.{string_bytes}
use Rattle.key_names.specs.declared.text.Kept.{Kept as KeptText}
use Rattle.key_names.specs.declared.text.Kept.TheVariants.{Short, Long}

-- the most bytes of a text that lies in the value itself
abbrev pub short_bytes : ℕ
short_bytes = 64

-- the bytes, wherever they lie
abbrev pub kept_bytes : KeptText → List ℕ
kept_bytes (Short text) = text.bytes
kept_bytes (Long text) = string_bytes text
