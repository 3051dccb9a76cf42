-- Pieces that are cut from the front of what is left.
use Rattle.std.proofs.Common.{◌≡◌, ℕ, ◌+◌, ◌<◌, ◌≤◌, ◌^◌, length, take, drop, List, [], ◌∷◌, ◌++◌, All, sym, ap, ap₂, ◌∙◌, subst, arith, append_assoc, append-nil, length-take-le, length-drop}
use Rattle.std.proofs.lemmas.List.{take-append-drop}
use Rattle.std.proofs.lemmas.List.Elements.{All-push, All-take, All-drop}
use Rattle.std.proofs.lemmas.Grind.{flat_map-append}
use Rattle.key_map.specs.declared.update.Update.{Update}
use Rattle.bucket_terms.specs.declared.record.Record.{Record}
use Rattle.bucket_terms.specs.declared.reply.Placed.{Placed}
use Rattle.answer_text.specs.Lines.{line_of, reply_data, journal_data, journal_lines}
use Rattle.answer_text.specs.Shown.{reply_lines}
use Rattle.answer_text.specs.InRange.{IsReplyOf}
use Rattle.run_text.specs.declared.pieces.Piece.{Piece}
use Rattle.run_text.specs.Pieces.{pieces_text, part_text, IsPieceOf, AreUpdatesOf}

-- the journal of two parts
pub journal-both : (dir : List (List ℕ)) (place : ℕ) (us vs : List Update)
    → journal_lines dir place (us ++ vs) ≡ journal_lines dir place us ++ journal_lines dir (place + length us) vs
journal-both dir place [] vs = ap (λ (n : ℕ). journal_lines dir n vs) (omega arith)
journal-both dir place (u ∷ us) vs =
    ap (λ (l : List ℕ). line_of (journal_data dir place u) ++ l)
    (journal-both dir (place + 1) us vs ∙ ap (λ (n : ℕ). journal_lines dir (place + 1) us ++ journal_lines dir n vs) (omega arith))
    ∙ sym (append_assoc (line_of (journal_data dir place u)) (journal_lines dir (place + 1) us) (journal_lines dir (place + length (u ∷ us)) vs))

pieces_more : (dir : List (List ℕ)) (records : List Record) (pieces : List Piece) (piece : Piece)
    → pieces_text dir records (pieces ++ piece ∷ []) ≡ pieces_text dir records pieces ++ part_text dir records piece.part
pieces_more dir records pieces piece =
    flat_map-append (λ (p : Piece). part_text dir records p.part) pieces (piece ∷ [])
    ∙ ap (λ (l : List ℕ). pieces_text dir records pieces ++ l) (append-nil (part_text dir records piece.part))

-- ---- replies

-- of the replies these are left, and the pieces have all before them
pub record LeavesReplies (old : List Piece) (replies : List Placed) (now : List Piece) (left : List Placed) : Type 0 where
  pub text : (dir : List (List ℕ)) (records : List Record) → pieces_text dir records now ++ reply_lines dir records left ≡ pieces_text dir records old ++ reply_lines dir records replies
  pub in_range : (dir : List (List ℕ)) (records : List Record) → All (IsPieceOf dir records) old
      → All (λ (p : Placed). IsReplyOf dir records p.reply) replies → All (IsPieceOf dir records) now × All (λ (p : Placed). IsReplyOf dir records p.reply) left

-- a piece of the first replies that were left
pub one_cut : (old : List Piece) (replies : List Placed) (now : List Piece) (left front rest : List Placed) (n : ℕ) (piece : Piece)
    → front ≡ take n left → rest ≡ drop n left
    → ((dir : List (List ℕ)) (records : List Record) → part_text dir records piece.part ≡ reply_lines dir records front)
    → ((dir : List (List ℕ)) (records : List Record) → All (λ (p : Placed). IsReplyOf dir records p.reply) front → IsPieceOf dir records piece)
    → LeavesReplies old replies now left → LeavesReplies old replies (now ++ piece ∷ []) rest
one_cut old replies now left front rest n piece is_front is_rest its_text its_range leaves = record {
  text = λ dir records.
      let each = λ (p : Placed). line_of (reply_data dir records p) in
      let cut : reply_lines dir records front ++ reply_lines dir records rest ≡ reply_lines dir records left =
      ap₂ (λ (xs ys : List Placed). reply_lines dir records xs ++ reply_lines dir records ys) is_front is_rest
      ∙ sym (flat_map-append each (take n left) (drop n left)) ∙ ap (reply_lines dir records) (take-append-drop n left) in
      ap (λ (l : List ℕ). l ++ reply_lines dir records rest) (pieces_more dir records now piece ∙ ap (λ (l : List ℕ). pieces_text dir records now ++ l) (its_text dir records))
      ∙ append_assoc (pieces_text dir records now) (reply_lines dir records front) (reply_lines dir records rest)
      ∙ ap (λ (l : List ℕ). pieces_text dir records now ++ l) cut ∙ leaves.text dir records;
  in_range = λ dir records fine all.
      let so_far = leaves.in_range dir records fine all in
      let P = λ (p : Placed). IsReplyOf dir records p.reply in (
        All-push (IsPieceOf dir records) now piece so_far.0 (its_range dir records (subst (All P) (sym is_front) (All-take P n left so_far.1))),
        subst (All P) (sym is_rest) (All-drop P n left so_far.1),
      );
}

-- ---- the journal

-- of the journal these updates are left, with this many before them, and the pieces have all of those
pub record LeavesJournal (old : List Piece) (updates : List Update) (now : List Piece) (before : ℕ) (left : List Update) : Type 0 where
  pub counted : before + length left ≡ length updates
  pub text : (dir : List (List ℕ)) (records : List Record) → pieces_text dir records now ++ journal_lines dir (before + 1) left ≡ pieces_text dir records old ++ journal_lines dir 1 updates
  pub in_range : (dir : List (List ℕ)) (records : List Record) → All (IsPieceOf dir records) old
      → All (λ (u : Update). u.key < length dir) updates → All (IsPieceOf dir records) now × All (λ (u : Update). u.key < length dir) left

-- a piece of the first updates that were left
pub one_journal_cut : (old : List Piece) (updates : List Update) (now : List Piece) (before : ℕ) (left front rest : List Update) (n : ℕ) (piece : Piece)
    → front ≡ take n left → rest ≡ drop n left → n ≤ length left → length updates < 2 ^ 64
    → ((dir : List (List ℕ)) (records : List Record) → part_text dir records piece.part ≡ journal_lines dir (before + 1) front)
    → ((dir : List (List ℕ)) (records : List Record) → AreUpdatesOf dir before front → IsPieceOf dir records piece)
    → LeavesJournal old updates now before left → LeavesJournal old updates (now ++ piece ∷ []) (before + n) rest
one_journal_cut old updates now before left front rest n piece is_front is_rest within few its_text its_range leaves = record {
  counted = omega (arith, leaves.counted, long, ap length is_rest, length-drop n left);
  text = λ dir records.
      let cut : journal_lines dir (before + 1) front ++ journal_lines dir (before + n + 1) rest ≡ journal_lines dir (before + 1) left =
      ap₂ (λ (xs ys : List Update). journal_lines dir (before + 1) xs ++ journal_lines dir (before + n + 1) ys) is_front is_rest
      ∙ ap (λ (m : ℕ). journal_lines dir (before + 1) (take n left) ++ journal_lines dir m (drop n left)) (omega (arith, long_front))
      ∙ sym (journal-both dir (before + 1) (take n left) (drop n left)) ∙ ap (journal_lines dir (before + 1)) (take-append-drop n left) in
      ap (λ (l : List ℕ). l ++ journal_lines dir (before + n + 1) rest) (pieces_more dir records now piece ∙ ap (λ (l : List ℕ). pieces_text dir records now ++ l) (its_text dir records))
      ∙ append_assoc (pieces_text dir records now) (journal_lines dir (before + 1) front) (journal_lines dir (before + n + 1) rest)
      ∙ ap (λ (l : List ℕ). pieces_text dir records now ++ l) cut ∙ leaves.text dir records;
  in_range = λ dir records fine all.
      let so_far = leaves.in_range dir records fine all in
      let P = λ (u : Update). u.key < length dir in (
        All-push (IsPieceOf dir records) now piece so_far.0
            (its_range dir records (record { keys = subst (All P) (sym is_front) (All-take P n left so_far.1); places = omega (arith, leaves.counted, few, within, long) })),
        subst (All P) (sym is_rest) (All-drop P n left so_far.1),
      );
}
  where
    long_front : length (take n left) ≡ n
    long_front = length-take-le n left within

    long : length front ≡ n
    long = ap length is_front ∙ long_front
