-- What the promise rules out.
use Rattle.std.proofs.Common.{◌≡◌, ℕ, ◌+◌, ◌<◌, ◌≤◌, List, ◌++◌, length, take, drop, Option, Some, None, Ok, sym, ap, ◌∙◌, arith, append_assoc}
use Rattle.std.proofs.lemmas.List.{length-append, take-append-drop}
use Rattle.outside_io.specs.Streams.{Gave, IsOver}
use Rattle.request_lines.specs.Input.{most_input_bytes}
use Rattle.request_lines.specs.Sample.{sample_text}
use Rattle.request_lines.specs.SampleSession.{sample_session}
use Rattle.request_lines.proofs.SampleParts.{text_read}
use Rattle.sample_laws.specs.SampleLaw.{SampleInputLaw}
use Rattle.serve_session.specs.ServedLaws.{WithinLimitLaw, TooLongLaw, StartLaw, SampleRunLaw}

pub within_limit : WithinLimitLaw
within_limit before after input read =
    let same = ap length read.all.0 in
    let within = read.within in
    omega arith

pub too_long : TooLongLaw
too_long before now after input gave read =
    let most = within_limit before after input read in
    let over = longer before now gave in
    omega arith
  where
    longer : (before : List ℕ) (now : Option (List ℕ)) → Gave (Some before) now (IsOver most_input_bytes) → most_input_bytes < length before
    longer before (Some now) gave =
        let all = ap length gave.read in
        let both = length-append gave.bytes now in
        let over = gave.count.0 in
        omega arith
    longer before None gave = absurd gave.read

pub start : StartLaw
start before now text taken = (
  drop taken.count text,
  ap (λ (bytes : List ℕ). before ++ bytes) (sym (take-append-drop taken.count text))
      ∙ sym (append_assoc before (take taken.count text) (drop taken.count text))
      ∙ ap (λ (bytes : List ℕ). bytes ++ drop taken.count text) (sym taken.taken),
)

pub sample_run : SampleInputLaw → SampleRunLaw
sample_run law requests old new replied few holds =
    let text = holds.text in
    let run = text.holds.run in (
      run,
      (
        text.holds.holds,
        law (sample_text requests) requests holds.session text.dir run (text_read requests (Ok (sample_session requests)) few) holds.of_input text.names
            text.holds.legal,
      ),
    )
