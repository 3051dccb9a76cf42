-- The texts of pieces: their lines, and what is on the sheets.
use Rattle.std.proofs.Common.{◌≡◌, ℕ, zero, suc, ◌+◌, ◌<◌, length, take, drop, get_or, List, [], ◌∷◌, ◌++◌, Option, Ok, string_bytes, inl, inr, ◌⊎◌, refl, sym, ap, ◌∙◌, subst, arith, append_assoc, append-nil, length-take}
use Rattle.std.proofs.lemmas.List.{take_more}
use Rattle.outside_io.specs.Streams.{IsTaken, TakesStart}
use Rattle.key_map.specs.declared.update.Update.{Update}
use Rattle.bucket_terms.specs.declared.record.Record.{Record}
use Rattle.answer_text.specs.Lines.{line_of, journal_data, journal_lines}
use Rattle.run_text.specs.declared.pieces.Piece.{Piece}
use Rattle.run_text.specs.declared.sheets.Sheet.{Sheet}
use Rattle.run_text.specs.Pieces.{pieces_text, part_text}
use Rattle.run_text.specs.Sheets.{AreFilled, IsFilledAt}
use Rattle.run_text.proofs.Starts.{first_started, next_taken, next_started}
use Rattle.run_text.proofs.Cuts.{journal-both}

-- the line of one more update
pub update_pushed : (dir : List (List ℕ)) (first : ℕ) (updates : List Update) (i place : ℕ) (d u : Update) (front now next : List ℕ)
    → i < length updates → u ≡ get_or updates i d → place ≡ first + i → now ≡ front ++ journal_lines dir first (take i updates) → next ≡ now ++ line_of (journal_data dir place u)
    → next ≡ front ++ journal_lines dir first (take (i + 1) updates)
update_pushed dir first updates i place d u front now next lt here at so_far pushed =
    let line = line_of (journal_data dir place u) in
    let long : first + length (take i updates) ≡ place = omega (arith, at, length-take i updates) in
    let more : journal_lines dir first (take (i + 1) updates) ≡ journal_lines dir first (take i updates) ++ line =
    ap (journal_lines dir first) (take_more updates i d lt)
    ∙ journal-both dir first (take i updates) (get_or updates i d ∷ [])
    ∙ ap (λ (n : ℕ). journal_lines dir first (take i updates) ++ journal_lines dir n (get_or updates i d ∷ [])) long
    ∙ ap (λ (l : List ℕ). journal_lines dir first (take i updates) ++ l) (append-nil (line_of (journal_data dir place (get_or updates i d))) ∙ ap (λ (v : Update). line_of (journal_data dir place v)) (sym here)) in
    pushed ∙ ap (λ (l : List ℕ). l ++ line) so_far ∙ append_assoc front (journal_lines dir first (take i updates)) line ∙ ap (λ (l : List ℕ). front ++ l) (sym more)

-- ---- what is on the sheets

here_is : {X : Type 0} (xs : List X) (i : ℕ) → i < length xs → (x : X) × ((get_or xs i x ≡ x) × (take 1 (drop i xs) ≡ x ∷ []))
here_is [] i lt = absurd (omega arith)
here_is (x ∷ xs) zero lt = (x, (refl, refl))
here_is (x ∷ xs) (suc i) lt = here_is xs i (omega arith)

module _ (dir : List (List ℕ)) (records : List Record) (pieces : List Piece) (sheets : List Sheet) (are : AreFilled dir records pieces sheets)
    (i : ℕ) (sheet : Sheet) (within : i < length pieces) (here : sheet ≡ get_or sheets i sheet) where
  -- the text is that of the piece at its place
  one_text : sheet.filled ≡ Ok tt → pieces_text dir records (take 1 (drop i pieces)) ≡ string_bytes sheet.text
  one_text filled =
      let at = here_is pieces i within in
      let piece = at.0 in
      let is : IsFilledAt dir records pieces i sheet = subst (IsFilledAt dir records pieces i) (sym here) (are.each i sheet within) in
      ap (pieces_text dir records) at.1.1
      ∙ append-nil (part_text dir records piece.part)
      ∙ ap (λ (p : Piece). part_text dir records p.part) (sym at.1.0)
      ∙ sym (is piece filled)

  module _ (before between now : Option (List ℕ)) (first : IsTaken before between (pieces_text dir records (take i pieces))) where
    pub sheet_taken : sheet.filled ≡ Ok tt → IsTaken between now (string_bytes sheet.text) → IsTaken before now (pieces_text dir records (take (i + 1) pieces))
    sheet_taken filled second =
        next_taken (λ (p : Piece). part_text dir records p.part) pieces i 1 before between now first (subst (IsTaken between now) (sym (one_text filled)) second)

    -- nothing was taken of a sheet that was not filled
    pub sheet_started : (now ≡ between) ⊎ ((sheet.filled ≡ Ok tt) × TakesStart between now (string_bytes sheet.text)) → TakesStart before now (pieces_text dir records pieces)
    sheet_started (inl same) =
        first_started (λ (p : Piece). part_text dir records p.part) pieces i before now
        (subst (λ (o : Option (List ℕ)). IsTaken before o (pieces_text dir records (take i pieces))) (sym same) first)
    sheet_started (inr (filled, second)) =
        next_started (λ (p : Piece). part_text dir records p.part) pieces i 1 before between now first (subst (TakesStart between now) (sym (one_text filled)) second)

-- ---- a batch of pieces

module _ (dir : List (List ℕ)) (records : List Record) (pieces batch : List Piece) (done n : ℕ) (is : batch ≡ take n (drop done pieces)) (before between now : Option (List ℕ))
    (first : IsTaken before between (pieces_text dir records (take done pieces))) where
  pub batch_taken : IsTaken between now (pieces_text dir records batch) → IsTaken before now (pieces_text dir records (take (done + n) pieces))
  batch_taken second =
      next_taken (λ (p : Piece). part_text dir records p.part) pieces done n before between now first
      (subst (λ (ps : List Piece). IsTaken between now (pieces_text dir records ps)) is second)

  pub batch_started : TakesStart between now (pieces_text dir records batch) → TakesStart before now (pieces_text dir records pieces)
  batch_started second =
      next_started (λ (p : Piece). part_text dir records p.part) pieces done n before between now first
      (subst (λ (ps : List Piece). TakesStart between now (pieces_text dir records ps)) is second)
