-- Helper: the headline does not rest on this file.
-- What a verdict says of the lines of a text.
use Rattle.std.specs.Prelude.{ℕ, List}
use Rattle.text_laws.specs.WrongLine.{Checked}
use Rattle.text_laws.specs.WrongParts.{AreAllRight, IsWrongInPart}
use Rattle.replay_check.specs.declared.verdict.Verdict.{Verdict}
use Rattle.replay_check.specs.declared.verdict.Verdict.TheVariants.{Legal, Wrong}

abbrev pub IsVerdict : Checked → List (List ℕ) → Verdict → Type 0
IsVerdict c texts Legal = AreAllRight c texts
IsVerdict c texts (Wrong line) = IsWrongInPart c texts line
