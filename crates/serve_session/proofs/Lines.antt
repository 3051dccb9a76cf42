-- The text of a run: the pieces of its replies and its journal, and its last line.
use Rattle.std.proofs.Common.{◌≡◌, ℕ, ◌+◌, ◌≤◌, ◌<◌, length, get_or, take, List, [], ◌∷◌, ◌++◌, All, Option, sym, ap, ◌∙◌, subst, append_assoc, append-nil}
use Rattle.std.proofs.lemmas.List.{take_all, take_more}
use Rattle.std.proofs.lemmas.List.Elements.{All-nil, All-get_or}
use Rattle.std.proofs.lemmas.Grind.{flat_map-append}
use Rattle.outside_io.specs.Streams.{IsTaken, TakesStart}
use Rattle.outside_io.proofs.Pieces.{taken_both}
use Rattle.key_map.specs.declared.update.Update.{Update}
use Rattle.bucket_terms.specs.declared.record.Record.{Record}
use Rattle.bucket_terms.specs.declared.reply.Placed.{Placed}
use Rattle.answer_text.specs.InRange.{IsReplyOf}
use Rattle.answer_text.specs.Lines.{line_of, journal_lines, session_text}
use Rattle.answer_text.specs.Shown.{last_data, reply_lines}
use Rattle.run_text.specs.declared.pieces.Piece.{Piece}
use Rattle.run_text.specs.Pieces.{pieces_text, IsPieceOf, AddsReplies, AddsJournal}
use Rattle.run_text.proofs.Starts.{taken_nothing, start_behind, start_of_more, all_started}
use Rattle.serve_session.specs.Texts.{all_reply_lines, AddsClients}

-- ---- the replies of the clients

-- the replies of the first clients come after the pieces
pub record AddsFirst (old : List Piece) (lists : List (List Placed)) (count : ℕ) (new : List Piece) : Type 0 where
  pub text : (dir : List (List ℕ)) (records : List Record) → pieces_text dir records new ≡ pieces_text dir records old ++ all_reply_lines dir records (take count lists)
  pub in_range : (dir : List (List ℕ)) (records : List Record) → All (IsPieceOf dir records) old
      → All (All (λ (p : Placed). IsReplyOf dir records p.reply)) lists → All (IsPieceOf dir records) new

pub no_client_yet : (old : List Piece) (lists : List (List Placed)) → AddsFirst old lists 0 old
no_client_yet old lists = record { text = λ dir records. sym (append-nil (pieces_text dir records old)); in_range = λ dir records fine all. fine }

pub one_client_more : (old : List Piece) (lists : List (List Placed)) (count : ℕ) (replies : List Placed) (now new : List Piece) → count < length lists → replies ≡ get_or lists count []
    → AddsFirst old lists count now → AddsReplies now replies new → AddsFirst old lists (count + 1) new
one_client_more old lists count replies now new lt is first adds = record {
  text = λ dir records.
      let each = reply_lines dir records in
      let more : all_reply_lines dir records (take (count + 1) lists) ≡ all_reply_lines dir records (take count lists) ++ each replies =
      ap (all_reply_lines dir records) (take_more lists count [] lt)
      ∙ flat_map-append each (take count lists) (get_or lists count [] ∷ [])
      ∙ ap (λ (l : List ℕ). all_reply_lines dir records (take count lists) ++ l) (append-nil (each (get_or lists count [])) ∙ ap each (sym is)) in
      adds.text dir records ∙ ap (λ (l : List ℕ). l ++ each replies) (first.text dir records)
      ∙ append_assoc (pieces_text dir records old) (all_reply_lines dir records (take count lists)) (each replies)
      ∙ ap (λ (l : List ℕ). pieces_text dir records old ++ l) (sym more);
  in_range = λ dir records fine all.
      let P = All (λ (p : Placed). IsReplyOf dir records p.reply) in
      adds.in_range dir records (first.in_range dir records fine all) (subst P (sym is) (All-get_or P lists count [] lt all));
}

pub all_clients : (old : List Piece) (lists : List (List Placed)) (count : ℕ) (new : List Piece) → length lists ≤ count → AddsFirst old lists count new → AddsClients old lists new
all_clients old lists count new all adds = record {
  text = λ dir records. adds.text dir records ∙ ap (λ (l : List (List Placed)). pieces_text dir records old ++ all_reply_lines dir records l) (take_all count lists all);
  in_range = adds.in_range;
}

-- ---- the whole text

module _ (dir : List (List ℕ)) (records : List Record) (lists : List (List Placed)) (updates : List Update) where
  abbrev text : List ℕ
  text = session_text dir records (record { updates = updates; replies = lists })

  module _ (replied pieces : List Piece) (clients : AddsClients [] lists replied) (journal : AddsJournal replied updates pieces) where
    pub all_in_range : All (All (λ (p : Placed). IsReplyOf dir records p.reply)) lists → All (λ (u : Update). u.key < length dir) updates → All (IsPieceOf dir records) pieces
    all_in_range replies keys = journal.in_range dir records (clients.in_range dir records (All-nil (IsPieceOf dir records)) replies) keys

    text_parts : pieces_text dir records pieces ++ line_of (last_data (length updates)) ≡ text
    text_parts =
        ap (λ (l : List ℕ). l ++ line_of (last_data (length updates)))
        (journal.text dir records ∙ ap (λ (l : List ℕ). l ++ journal_lines dir 1 updates) (clients.text dir records))

    pub started_in_pieces : (o₀ o₁ : Option (List ℕ)) → TakesStart o₀ o₁ (pieces_text dir records pieces) → TakesStart o₀ o₁ text
    started_in_pieces o₀ o₁ start = subst (TakesStart o₀ o₁) text_parts (start_of_more o₀ o₁ (pieces_text dir records pieces) (line_of (last_data (length updates))) start)

    module _ (o₀ o₁ o₂ : Option (List ℕ)) (first : IsTaken o₀ o₁ (pieces_text dir records pieces)) where
      pub text_taken : IsTaken o₁ o₂ (line_of (last_data (length updates))) → IsTaken o₀ o₂ text
      text_taken last = subst (IsTaken o₀ o₂) text_parts (taken_both o₀ o₁ o₂ (pieces_text dir records pieces) (line_of (last_data (length updates))) first last)

      pub started_in_last : TakesStart o₁ o₂ (line_of (last_data (length updates))) → TakesStart o₀ o₂ text
      started_in_last last = subst (TakesStart o₀ o₂) text_parts (start_behind o₀ o₁ o₂ (pieces_text dir records pieces) (line_of (last_data (length updates))) first last)

-- nothing was taken
pub nothing_started : (o : Option (List ℕ)) (bytes : List ℕ) → TakesStart o o bytes
nothing_started o bytes = start_of_more o o [] bytes (all_started o o [] (taken_nothing o))
