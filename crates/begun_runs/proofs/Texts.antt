-- The text of a run begins with the lines of the first client's replies.
use Rattle.std.proofs.Common.{ℕ, ◌<◌, List, [], ◌∷◌, ◌++◌, length, get_or, ap, ◌∙◌, arith, append_assoc}
use Rattle.std.proofs.lemmas.Grind.{flat_map-append}
use Rattle.std.specs.List.{flat_map}
use Rattle.bucket_terms.specs.PassView.{Extends}
use Rattle.bucket_terms.specs.declared.record.Record.{Record}
use Rattle.bucket_terms.specs.declared.reply.Placed.{Placed}
use Rattle.answer_text.specs.Lines.{line_of, reply_data, journal_lines, counting_line}
use Rattle.answer_text.specs.Shown.{reply_lines}
use Rattle.begun_runs.specs.Begun.{BegunTextLaw}

first_list : (dir : List (List ℕ)) (records : List Record) (lists : List (List Placed)) (rest : List ℕ) → 0 < length lists
    → Extends (reply_lines dir records (get_or lists 0 [])) (flat_map (reply_lines dir records) lists ++ rest)
first_list dir records [] rest some = absurd (omega arith)
first_list dir records (replies ∷ lists) rest some =
    (flat_map (reply_lines dir records) lists ++ rest, append_assoc (reply_lines dir records replies) (flat_map (reply_lines dir records) lists) rest)

pub begun_text_law : BegunTextLaw
begun_text_law dir records begun whole some on =
    let lines = reply_lines dir records in
    let journal = journal_lines dir 1 whole.updates in
    let last = counting_line (length whole.updates) in
    let more = on.replies 0 some in
    let first = first_list dir records whole.replies (journal ++ last) (omega (arith, some, on.clients)) in
    let longer = ap lines more.1 ∙ flat_map-append (λ (p : Placed). line_of (reply_data dir records p)) (get_or begun.replies 0 []) more.0 in (
      lines more.0 ++ first.0,
      append_assoc (flat_map lines whole.replies) journal last ∙ first.1 ∙ ap (λ (text : List ℕ). text ++ first.0) longer
          ∙ append_assoc (lines (get_or begun.replies 0 [])) (lines more.0) first.0,
    )
