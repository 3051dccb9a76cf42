-- Helper: the headline does not rest on this file.
-- The texts of entries that one thread has made.
use Rattle.std.specs.Prelude.{◌≡◌, ℕ, List, Option, Result, IfOk}
use Rattle.bucket_terms.specs.declared.record.Record.{Record}
use Rattle.answer_text.specs.declared.entry_texts.EntryText.{EntryText}
use Rattle.answer_text.specs.EntryTexts.{AreRight, WantedView}

-- if memory sufficed, each text is right
abbrev pub IsPartRight : {E : Type 0} → List (List ℕ) → List Record → Result (List (Option EntryText)) E → Type 0
IsPartRight dir records part = IfOk part (AreRight dir records)

-- the texts that are wanted are those of entries of these names and records
pub record IsWantedOf (dir : List (List ℕ)) (records : List Record) (w : WantedView) : Type 0 where
  pub dir_is : w.dir ≡ dir
  pub records_is : w.records ≡ records
