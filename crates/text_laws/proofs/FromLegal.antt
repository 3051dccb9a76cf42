-- The lines of the text of a legal run are right.
use Rattle.std.proofs.Common.{◌≡◌, ℕ, zero, suc, ◌+◌, ◌-◌, ◌<◌, ◌≤◌, List, [], ◌∷◌, ◌++◌, length, take, drop, get_or, Some, All, Any, refl, sym, ap, ◌∙◌, subst, arith, append_assoc}
use Rattle.std.specs.List.{slice_get}
use Rattle.std.proofs.lemmas.List.{length-append, length_push, take_at, drop_at, get_or_push, get_or_default, get_or_append_left, get_or-append-add}
use Rattle.std.proofs.lemmas.Option.{same_Some, slice_get_read}
use Rattle.key_map.specs.declared.update.Update.{Update}
use Rattle.bucket_terms.specs.declared.reply.Placed.{Placed}
use Rattle.bucket_terms.specs.LegalRun.{RequestLine, Run, Answered, IsLegal, IsMadeBy, AreAnswered, IsOf, answered_lines, lines_of, replies_of}
use Rattle.request_lines.specs.SessionLaws.{Rise}
use Rattle.answer_text.specs.Lines.{line_of, journal_data}
use Rattle.answer_text.specs.Shown.{last_data}
use Rattle.request_lines.specs.CheckInput.{text_lines}
use Rattle.text_laws.specs.WrongLine.{Checked, IsJournalLine, AreJournal, AreReplies, setting, requests_of, journal_texts}
use Rattle.text_laws.specs.WrongParts.{AreAllRight, Makes, last_text}
use Rattle.text_laws.specs.TextLaws.{IsLegalText}
use Rattle.text_laws.proofs.OneUpdate.{one_place}
use Rattle.text_laws.proofs.Lined.{reply_list, reply_lists, journal_list, run_cut, lists_length, list_of_client}

-- ---- answered lines

pub answered_length : (s : _) (earlier : List Answered) (lines : List RequestLine) (ps : List Placed) → AreAnswered s earlier lines ps → length ps ≡ length lines
answered_length s earlier [] [] h = refl
answered_length s earlier [] (p ∷ ps) h = absurd h
answered_length s earlier (l ∷ lines) [] h = absurd h
answered_length s earlier (l ∷ lines) (p ∷ ps) h = ap suc (answered_length s (earlier ++ record { asked = l; placed = p } ∷ []) lines ps h.1)

pub asked_within : (lines : List RequestLine) (ps : List Placed) → length (answered_lines lines ps) ≤ length lines
asked_within [] ps = omega arith
asked_within (l ∷ lines) [] = omega arith
asked_within (l ∷ lines) (p ∷ ps) = let rest = asked_within lines ps in omega arith

pub asked_at : (lines : List RequestLine) (ps : List Placed) (k : ℕ) (d : Answered) → k < length (answered_lines lines ps)
    → (get_or (answered_lines lines ps) k d).asked ≡ get_or lines k d.asked
asked_at [] ps k d inside = absurd (omega arith)
asked_at (l ∷ lines) [] k d inside = absurd (omega arith)
asked_at (l ∷ lines) (p ∷ ps) zero d inside = refl
asked_at (l ∷ lines) (p ∷ ps) (suc k) d inside = asked_at lines ps k d (omega arith)

-- answered lines with one number are one
one_answered : (lines : List RequestLine) (ps : List Placed) (i j : ℕ) (a b : Answered) → Rise lines
    → i < length (answered_lines lines ps) → j < length (answered_lines lines ps)
    → get_or (answered_lines lines ps) i a ≡ a → get_or (answered_lines lines ps) j b ≡ b → a.asked.line ≡ b.asked.line → a ≡ b
one_answered lines ps i j a b rising in_i in_j is_a is_b same =
    let within = asked_within lines ps in
    let first : get_or lines i a.asked ≡ a.asked = sym (asked_at lines ps i a in_i) ∙ ap (λ (x : Answered). x.asked) is_a in
    let second : get_or lines j b.asked ≡ b.asked = sym (asked_at lines ps j b in_j) ∙ ap (λ (x : Answered). x.asked) is_b in
    let place : i ≡ j = one_place lines i j a.asked b.asked rising (omega arith) (omega arith) first second same in
    sym is_a ∙ ap (λ (k : ℕ). get_or (answered_lines lines ps) k a) place ∙ get_or_default (answered_lines lines ps) j a b in_j ∙ is_b

module _ (c : Checked) (run : Run) (legal : IsLegal c.dir c.parts c.slots run) (rising : All Rise c.parts) where
  abbrev us : List Update
  us = run.updates

  abbrev Made : ℕ → Update → Type 0
  Made place u = Any (IsMadeBy c.dir u place) (answered_lines (lines_of c.parts u.client) (replies_of run u.client))

  -- the updates at two places are not of one request line
  one_made : (i j : ℕ) (u v : Update) → slice_get us i ≡ Some u → slice_get us j ≡ Some v → u.client ≡ v.client → u.line ≡ v.line → i ≡ j
  one_made i j u v at_i at_j client line =
      let first = legal.made i u at_i in
      let second = legal.made j v at_j in
      let made : Any (IsMadeBy c.dir v (j + 1)) (answered_lines (lines_of c.parts u.client) (replies_of run u.client)) =
      subst (λ (n : ℕ). Any (IsMadeBy c.dir v (j + 1)) (answered_lines (lines_of c.parts n) (replies_of run n))) (sym client) second.1 in
      let a = first.1.1 in
      let b = made.1 in
      let same : a ≡ b =
      one_answered (lines_of c.parts u.client) (replies_of run u.client) first.1.0 made.0 a b (rising u.client [] first.0) first.1.2 made.2 first.1.3 made.3
      (first.1.4.line ∙ line ∙ sym made.4.line) in
      let places : Some (i + 1) ≡ Some (j + 1) = sym first.1.4.place ∙ ap (λ (x : Answered). x.placed.at) same ∙ made.4.place in
      let numbers = same_Some (i + 1) (j + 1) places in
      omega arith

  -- ---- the journal

  makes_of : (i : ℕ) (u : Update) → Made (i + 1) u → Any (Makes c.dir u) (lines_of c.parts u.client)
  makes_of i u made =
      let lines = lines_of c.parts u.client in
      let ps = replies_of run u.client in
      let within = asked_within lines ps in
      let inside = made.2 in
      let a = made.1 in
      (made.0, a.asked, omega arith, sym (asked_at lines ps made.0 a inside) ∙ ap (λ (x : Answered). x.asked) made.3, (made.4.line, made.4.change))

  journal_right : (earlier rest : List Update) (place : ℕ) → us ≡ earlier ++ rest → place ≡ length earlier + 1 → AreJournal c earlier (journal_list c.dir c.records place rest) rest
  journal_right earlier [] place is at = tt
  journal_right earlier (u ∷ rest) place is at =
      let whole = length-append earlier (u ∷ rest) in
      let here : slice_get us (length earlier) ≡ Some u =
      ap (λ (l : List Update). slice_get l (length earlier)) is
      ∙ slice_get_read (earlier ++ u ∷ rest) (length (earlier ++ u ∷ rest)) (length earlier) u refl (omega arith) (sym (ap (λ (n : ℕ). get_or (earlier ++ u ∷ rest) n u) (omega arith) ∙ get_or-append-add earlier (u ∷ rest) 0 u)) in
      let made = legal.made (length earlier) u here in
      let one : IsJournalLine c earlier (line_of (journal_data c.dir place u)) u =
      record {
        client = made.0;
        made = makes_of (length earlier) u made.1;
        first = λ k d below both.
            let v = get_or earlier k d in
            let there : slice_get us k ≡ Some v =
            ap (λ (l : List Update). slice_get l k) is
            ∙ slice_get_read (earlier ++ u ∷ rest) (length (earlier ++ u ∷ rest)) k v refl (omega arith)
            (sym (get_or_append_left earlier (u ∷ rest) v k below ∙ get_or_default earlier k v d below)) in
            let same = one_made k (length earlier) v u there here both.0 both.1 in
            omega arith;
        text_is = ap (λ (n : ℕ). line_of (journal_data c.dir n u)) at;
      } in
      (one, journal_right (earlier ++ u ∷ []) rest (place + 1) (is ∙ sym (append_assoc earlier (u ∷ []) rest)) (omega (arith, length_push earlier u)))

  -- ---- the replies of a client

  abbrev Own : ℕ → Answered → Type 0
  Own client a = (i : ℕ) (u : Update) → slice_get us i ≡ Some u → IsOf (setting c us client) a.asked.line u → a.placed.at ≡ Some (i + 1)

  replies_right : (client : ℕ) (earlier : List Answered) (lines : List RequestLine) (ps : List Placed) → AreAnswered (setting c us client) earlier lines ps
      → All (Own client) (answered_lines lines ps) → AreReplies c us client earlier lines (reply_list c.dir c.records ps) ps
  replies_right client earlier [] [] h own = tt
  replies_right client earlier [] (p ∷ ps) h own = absurd h
  replies_right client earlier (l ∷ lines) [] h own = absurd h
  replies_right client earlier (l ∷ lines) (p ∷ ps) h own =
      let a : Answered = record { asked = l; placed = p } in (
        record { answered = h.0; own = own 0 a (omega arith); text_is = refl },
        replies_right client (earlier ++ a ∷ []) lines ps h.1 (λ k d below. own (suc k) d (omega arith)),
      )

  own_of : (client : ℕ) → client < length c.parts → All (Own client) (answered_lines (lines_of c.parts client) (replies_of run client))
  own_of client inside = λ k d below i u at of.
      let lines = lines_of c.parts client in
      let ps = replies_of run client in
      let a = get_or (answered_lines lines ps) k d in
      let made = legal.made i u at in
      let mine : Any (IsMadeBy c.dir u (i + 1)) (answered_lines lines ps) =
      subst (λ (n : ℕ). Any (IsMadeBy c.dir u (i + 1)) (answered_lines (lines_of c.parts n) (replies_of run n))) of.by made.1 in
      let same : mine.1 ≡ a =
      one_answered lines ps mine.0 k mine.1 a (rising client [] inside) mine.2 below mine.3 (get_or_default (answered_lines lines ps) k a d below)
      (mine.4.line ∙ of.for_line) in
      ap (λ (x : Answered). x.placed.at) (sym same) ∙ mine.4.place

  -- ---- the whole text

  client_length : (client : ℕ) → client < length c.parts → length (get_or run.replies client []) ≡ length (get_or c.parts client [])
  client_length client inside = answered_length (setting c us client) [] (lines_of c.parts client) (replies_of run client) (legal.answered client inside)

  abbrev J : List (List ℕ)
  J = journal_list c.dir c.records 1 us

  abbrev last : List ℕ
  last = line_of (last_data (length us))

  abbrev R : List (List ℕ)
  R = reply_lists c.dir c.records run.replies

  lines_right : AreAllRight c (R ++ (J ++ last ∷ []))
  lines_right =
      let texts : List (List ℕ) = R ++ (J ++ last ∷ []) in
      let asked : length R ≡ requests_of c.parts = lists_length c.dir c.records run.replies c.parts legal.clients client_length in
      let all : length texts ≡ length R + (length J + 1) = length-append R (J ++ last ∷ []) ∙ ap (λ (n : ℕ). length R + n) (length_push J last) in
      let behind : drop (requests_of c.parts) texts ≡ J ++ last ∷ [] = drop_at R (J ++ last ∷ []) (requests_of c.parts) asked in
      let journal : journal_texts c texts ≡ J =
      ap (take (length texts - requests_of c.parts - 1)) behind ∙ take_at J (last ∷ []) (length texts - requests_of c.parts - 1) (omega arith) in
      let end : last_text texts ≡ last =
      ap (λ (l : List (List ℕ)). get_or l (length texts - 1) []) (sym (append_assoc R J (last ∷ [])))
      ∙ get_or_push (R ++ J) last [] (length texts - 1) (omega (arith, all, length-append R J)) in
      record {
        long = omega arith;
        updates = us;
        journal = subst (λ (l : List (List ℕ)). AreJournal c [] l us) (sym journal) (journal_right [] us 1 refl refl);
        last = end;
        replies = run.replies;
        replied = record {
          count = legal.clients;
          each = λ client inside.
              subst (λ (l : List (List ℕ)). AreReplies c us client [] (lines_of c.parts client) l (get_or run.replies client []))
              (sym (list_of_client c.dir c.records run.replies c.parts client (J ++ last ∷ []) legal.clients inside client_length))
              (replies_right client [] (lines_of c.parts client) (replies_of run client) (legal.answered client inside) (own_of client inside));
        };
      }

pub from_legal : (c : Checked) (text : List ℕ) → All Rise c.parts → IsLegalText c text → AreAllRight c (text_lines text)
from_legal c text rising h =
    subst (AreAllRight c) (sym (ap text_lines h.text_is ∙ run_cut c.dir c.records h.run)) (lines_right c h.run h.legal rising)
