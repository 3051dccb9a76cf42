-- Helper: the headline does not rest on this file.
-- The sheets on which the texts of pieces are put together, and what is written of them.
use Rattle.std.specs.Prelude.{◌≡◌, ℕ, ◌<◌, ◌≤◌, List, length, All, Option, Result, Ok, OnOk, IsErrOf, slice_index_or, string_bytes}
use Rattle.bucket_terms.specs.declared.record.Record.{Record}
use Rattle.answer_text.specs.declared.entry_texts.EntryText.{EntryText}
use Rattle.answer_text.specs.EntryTexts.{AreRight}
use Rattle.run_text.specs.declared.pieces.Piece.{Piece}
use Rattle.run_text.specs.declared.sheets.Sheet.{Sheet}
use Rattle.run_text.specs.declared.stop.Stop.{Stop}
use Rattle.run_text.specs.declared.stop.Stop.TheVariants.{Fault}
use Rattle.run_text.specs.Pieces.{part_text, IsPieceOf}
use Rattle.outside_io.specs.Streams.{one_more, IsTaken, TakesStart}

-- if memory sufficed, the sheet has the text of the piece
abbrev pub IsFilled : List (List ℕ) → List Record → Piece → Sheet → Type 0
IsFilled dir records piece sheet = sheet.filled ≡ Ok tt → string_bytes sheet.text ≡ part_text dir records piece.part

-- there is a piece at this place, and each has lines; the texts of entries are right
pub record CanFill (dir : List (List ℕ)) (records : List Record) (texts : List (Option EntryText)) (pieces : List Piece) (place : ℕ) : Type 0 where
  pub there : place < length pieces
  pub right : AreRight dir records texts
  pub fine : All (IsPieceOf dir records) pieces

-- the sheet is that of the piece at this place
abbrev pub IsFilledAt : List (List ℕ) → List Record → List Piece → ℕ → Sheet → Type 0
IsFilledAt dir records pieces place sheet = (d : Piece) → IsFilled dir records (slice_index_or pieces place d) sheet

-- there is a sheet for each piece, and each piece has lines; the texts of entries are right
pub record CanFillAll (dir : List (List ℕ)) (records : List Record) (texts : List (Option EntryText)) (pieces : List Piece) (sheets : List Sheet) : Type 0 where
  pub enough : length pieces ≤ length sheets
  pub right : AreRight dir records texts
  pub fine : All (IsPieceOf dir records) pieces

-- for each piece there is a sheet, the one at its place
pub record AreFilled (dir : List (List ℕ)) (records : List Record) (pieces : List Piece) (sheets : List Sheet) : Type 0 where
  pub enough : length pieces ≤ length sheets
  pub each : (place : ℕ) (d : Sheet) → place < length pieces → IsFilledAt dir records pieces place (slice_index_or sheets place d)

-- a text was written whole, or a start of it: there was a fault exactly if one was counted
pub record Writes (text : List ℕ) (before now : Option (List ℕ)) (faults_before faults_now : ℕ) (result : Result (Unit {0}) Stop) : Type 0 where
  pub taken : OnOk result (IsTaken before now text)
  pub start : (stop : Stop) → IsErrOf result stop → TakesStart before now text
  pub fault : IsErrOf result Fault → faults_now ≡ one_more faults_before
  pub quiet : ¬ (IsErrOf result Fault) → faults_now ≡ faults_before
