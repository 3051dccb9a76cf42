-- If lines are right, the first of them are those of the same updates and replies, and the next one is right after
-- them.
use Rattle.std.proofs.Common.{◌≡◌, ℕ, zero, suc, ◌+◌, ◌^◌, ◌<◌, List, [], ◌∷◌, ◌++◌, length, take, Some, refl, sym, ap, ◌∙◌, subst, arith, append_assoc, append-nil}
use Rattle.std.specs.List.{slice_get}
use Rattle.std.proofs.lemmas.Option.{same_Some}
use Rattle.std.proofs.lemmas.List.{length_push}
use Rattle.key_names.specs.Names.{Rises}
use Rattle.key_map.specs.declared.update.Update.{Update}
use Rattle.bucket_terms.specs.declared.reply.Placed.{Placed}
use Rattle.bucket_terms.specs.LegalRun.{RequestLine, Answered, answered_lines}
use Rattle.text_laws.specs.WrongLine.{Checked, IsJournalLine, AreJournal, IsReplyLine, AreReplies}
use Rattle.text_laws.specs.WrongParts.{text_at}
use Rattle.text_laws.specs.TextLaws.{IsCheckable}
use Rattle.text_laws.proofs.OneReply.{one_reply}
use Rattle.text_laws.proofs.OneUpdate.{one_update}

-- ---- the journal

pub journal_length : (c : Checked) (earlier : List Update) (texts : List (List ℕ)) (us : List Update) → AreJournal c earlier texts us → length us ≡ length texts
journal_length c earlier [] [] right = refl
journal_length c earlier [] (u ∷ us) right = absurd right
journal_length c earlier (t ∷ texts) [] right = absurd right
journal_length c earlier (t ∷ texts) (u ∷ us) right = ap suc (journal_length c (earlier ++ u ∷ []) texts us right.1)

module _ (c : Checked) (all : List (List ℕ)) (fine : IsCheckable c all) where
  pub one_journal : (earlier : List Update) (texts : List (List ℕ)) (us vs : List Update) → length earlier + length texts < 2 ^ 64
      → AreJournal c earlier texts us → AreJournal c earlier texts vs → us ≡ vs
  one_journal earlier [] [] [] short h k = refl
  one_journal earlier [] [] (v ∷ vs) short h k = absurd k
  one_journal earlier [] (u ∷ us) vs short h k = absurd h
  one_journal earlier (t ∷ texts) [] vs short h k = absurd h
  one_journal earlier (t ∷ texts) (u ∷ us) [] short h k = absurd k
  one_journal earlier (t ∷ texts) (u ∷ us) (v ∷ vs) short h k =
      let same : u ≡ v = one_update c all fine earlier t u v (omega arith) h.0 k.0 in
      let rest : AreJournal c (earlier ++ u ∷ []) texts vs = subst (λ (w : Update). AreJournal c (earlier ++ w ∷ []) texts vs) (sym same) k.1 in
      ap (λ (w : Update). w ∷ us) same
      ∙ ap (λ (ws : List Update). v ∷ ws) (one_journal (earlier ++ u ∷ []) texts us vs (omega (arith, length_push earlier u)) h.1 rest)

  pub journal_goes_on : (n : ℕ) (earlier : List Update) (texts : List (List ℕ)) (us vs : List Update) → length earlier + length texts < 2 ^ 64 → n < length texts
      → AreJournal c earlier (take n texts) us → AreJournal c earlier texts vs → (v : Update) × IsJournalLine c (earlier ++ us) (text_at texts n) v
  journal_goes_on n earlier [] us vs short inside h k = absurd (omega arith)
  journal_goes_on n earlier (t ∷ texts) us [] short inside h k = absurd k
  journal_goes_on zero earlier (t ∷ texts) [] (v ∷ vs) short inside h k = (v, subst (λ (ws : List Update). IsJournalLine c ws t v) (sym (append-nil earlier)) k.0)
  journal_goes_on zero earlier (t ∷ texts) (u ∷ us) (v ∷ vs) short inside h k = absurd h
  journal_goes_on (suc n) earlier (t ∷ texts) [] (v ∷ vs) short inside h k = absurd h
  journal_goes_on (suc n) earlier (t ∷ texts) (u ∷ us) (v ∷ vs) short inside h k =
      let same : u ≡ v = one_update c all fine earlier t u v (omega arith) h.0 k.0 in
      let rest : AreJournal c (earlier ++ u ∷ []) texts vs = subst (λ (w : Update). AreJournal c (earlier ++ w ∷ []) texts vs) (sym same) k.1 in
      let next = journal_goes_on n (earlier ++ u ∷ []) texts us vs (omega (arith, length_push earlier u)) (omega arith) h.1 rest in
      (next.0, subst (λ (ws : List Update). IsJournalLine c ws (text_at texts n) next.0) (append_assoc earlier (u ∷ []) us) next.1)

-- ---- the replies of a client

module _ (c : Checked) (updates : List Update) (client : ℕ) (rising : Rises c.dir) (short : length updates < 2 ^ 64) where
  pub replies_go_on : (n : ℕ) (earlier : List Answered) (lines : List RequestLine) (texts : List (List ℕ)) (ps qs : List Placed) (asked : RequestLine)
      → slice_get lines n ≡ Some asked → AreReplies c updates client earlier (take n lines) (take n texts) ps → AreReplies c updates client earlier lines texts qs
      → (q : Placed) × IsReplyLine c updates client (earlier ++ answered_lines (take n lines) ps) asked (text_at texts n) q
  replies_go_on n earlier [] texts ps qs asked there h k = cc
  replies_go_on n earlier (l ∷ lines) [] ps qs asked there h k = absurd k
  replies_go_on n earlier (l ∷ lines) (t ∷ texts) ps [] asked there h k = absurd k
  replies_go_on zero earlier (l ∷ lines) (t ∷ texts) [] (q ∷ qs) asked there h k = (
    q,
    subst (λ (m : RequestLine). IsReplyLine c updates client (earlier ++ []) m t q) (same_Some l asked there)
        (subst (λ (before : List Answered). IsReplyLine c updates client before l t q) (sym (append-nil earlier)) k.0),
  )
  replies_go_on zero earlier (l ∷ lines) (t ∷ texts) (p ∷ ps) (q ∷ qs) asked there h k = absurd h
  replies_go_on (suc n) earlier (l ∷ lines) (t ∷ texts) [] (q ∷ qs) asked there h k = absurd h
  replies_go_on (suc n) earlier (l ∷ lines) (t ∷ texts) (p ∷ ps) (q ∷ qs) asked there h k =
      let same : p ≡ q = one_reply c updates client earlier l t p q rising short h.0 k.0 in
      let a : Answered = record { asked = l; placed = p } in
      let rest : AreReplies c updates client (earlier ++ a ∷ []) lines texts qs =
      subst (λ (r : Placed). AreReplies c updates client (earlier ++ record { asked = l; placed = r } ∷ []) lines texts qs) (sym same) k.1 in
      let next = replies_go_on n (earlier ++ a ∷ []) lines texts ps qs asked there h.1 rest in (
        next.0,
        subst (λ (before : List Answered). IsReplyLine c updates client before asked (text_at texts n) next.0)
            (append_assoc earlier (a ∷ []) (answered_lines (take n lines) ps)) next.1,
      )
