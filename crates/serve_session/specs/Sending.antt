-- Helper: the headline does not rest on this file.
-- What the members of an object send to a `Serializer`.
use Rattle.std.specs.Prelude.{◌≡◌, List, [], ◌∷◌, Option, Some, None}
use Rattle.serde.specs.Event.{Log, Logs, field_key}
use Rattle.serde.specs.declared.name.Case.TheVariants.{AsIs}
use Rattle.serde_json.specs.Events.{SendsValue}
use Rattle.answer_text.specs.Lines.{Member}

-- a name and its value, or nothing
abbrev pub SendsMember : Option Member → Log → Log → Type 0
SendsMember (Some m) old new = (named : Log) × Logs old named (field_key m.name AsIs) × SendsValue m.value named new
SendsMember None old new = new ≡ old

-- one member after the other
abbrev pub SendsAll : List (Option Member) → Log → Log → Type 0
SendsAll [] old new = new ≡ old
SendsAll (m ∷ ms) old new = (mid : Log) × SendsMember m old mid × SendsAll ms mid new
