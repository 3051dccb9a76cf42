-- The text of a verdict's object.
use Rattle.std.proofs.Common.{◌≡◌, ℕ, List, [], Some, false, refl}
use Rattle.serde.specs.Event.{Log}
use Rattle.serde_json.specs.Events.{SendsValue}
use Rattle.serde_json.specs.Sent.{IsTextOf}
use Rattle.serde_json.specs.Written.{has_float, compact_text}
use Rattle.serde_json.proofs.FreeTexts.{text_of_value}
use Rattle.answer_text.specs.Lines.{line_of, object_of}
use Rattle.replay_check.specs.declared.verdict.Verdict.{Verdict}
use Rattle.replay_check.specs.declared.verdict.Verdict.TheVariants.{Legal, Wrong}
use Rattle.serve_session.specs.Served.{verdict_text}
use Rattle.serve_session.specs.Texts.{verdict_members}

no_float : (verdict : Verdict) → has_float (object_of (verdict_members verdict)) ≡ false
no_float Legal = refl
no_float (Wrong line) = refl

pub text_of_verdict : (verdict : Verdict) (log : Log) (text : List ℕ) → SendsValue (object_of (verdict_members verdict)) (Some []) log → IsTextOf log text
    → text ≡ compact_text (object_of (verdict_members verdict))
text_of_verdict verdict log text sent is = text_of_value (object_of (verdict_members verdict)) log text sent is (no_float verdict)

-- the line of a verdict is that of its members
pub line_of_members : (verdict : Verdict) → line_of (object_of (verdict_members verdict)) ≡ verdict_text verdict
line_of_members Legal = refl
line_of_members (Wrong line) = refl
