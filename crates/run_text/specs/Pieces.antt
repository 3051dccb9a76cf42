-- Helper: the headline does not rest on this file.
-- The pieces from which a run's text is put together, and their texts.
use Rattle.std.specs.Prelude.{◌≡◌, ℕ, ◌+◌, ◌<◌, ◌^◌, List, ◌++◌, length, All}
use Rattle.std.specs.List.{flat_map}
use Rattle.key_map.specs.declared.update.Update.{Update}
use Rattle.bucket_terms.specs.declared.record.Record.{Record}
use Rattle.bucket_terms.specs.declared.reply.Placed.{Placed}
use Rattle.answer_text.specs.Lines.{journal_lines}
use Rattle.answer_text.specs.Shown.{reply_lines}
use Rattle.answer_text.specs.InRange.{IsReplyOf}
use Rattle.run_text.specs.declared.pieces.Part.{Part}
use Rattle.run_text.specs.declared.pieces.Part.TheVariants.{Replies, Updates}
use Rattle.run_text.specs.declared.pieces.Piece.{Piece}

-- the lines of a part: of replies, or of updates with this many before them
abbrev pub part_text : List (List ℕ) → List Record → Part → List ℕ
part_text dir records (Replies replies) = reply_lines dir records replies.now
part_text dir records (Updates before updates) = journal_lines dir (before + 1) updates.now

-- the text of the pieces, one after another
abbrev pub pieces_text : List (List ℕ) → List Record → List Piece → List ℕ
pieces_text dir records pieces = flat_map (λ (p : Piece). part_text dir records p.part) pieces

-- the updates have keys of the directory, and places
pub record AreUpdatesOf (dir : List (List ℕ)) (before : ℕ) (updates : List Update) : Type 0 where
  pub keys : All (λ (u : Update). u.key < length dir) updates
  pub places : before + length updates < 2 ^ 64

-- each reply and each update has a line
abbrev pub IsPartOf : List (List ℕ) → List Record → Part → Type 0
IsPartOf dir records (Replies replies) = All (λ (p : Placed). IsReplyOf dir records p.reply) replies.now
IsPartOf dir records (Updates before updates) = AreUpdatesOf dir before updates.now

abbrev pub IsPieceOf : List (List ℕ) → List Record → Piece → Type 0
IsPieceOf dir records piece = IsPartOf dir records piece.part

-- these replies come after the pieces
pub record AddsReplies (old : List Piece) (replies : List Placed) (new : List Piece) : Type 0 where
  pub text : (dir : List (List ℕ)) (records : List Record) → pieces_text dir records new ≡ pieces_text dir records old ++ reply_lines dir records replies
  pub in_range : (dir : List (List ℕ)) (records : List Record) → All (IsPieceOf dir records) old
      → All (λ (p : Placed). IsReplyOf dir records p.reply) replies → All (IsPieceOf dir records) new

-- this journal comes after the pieces
pub record AddsJournal (old : List Piece) (updates : List Update) (new : List Piece) : Type 0 where
  pub text : (dir : List (List ℕ)) (records : List Record) → pieces_text dir records new ≡ pieces_text dir records old ++ journal_lines dir 1 updates
  pub in_range : (dir : List (List ℕ)) (records : List Record) → All (IsPieceOf dir records) old
      → All (λ (u : Update). u.key < length dir) updates → All (IsPieceOf dir records) new
