-- A text whose lines are right is that of a legal run.
use Rattle.std.proofs.Common.{◌≡◌, ℕ, zero, suc, ◌+◌, ◌-◌, ◌<◌, List, [], ◌∷◌, ◌++◌, length, take, drop, get_or, Some, Any, refl, sym, ap, ◌∙◌, subst, arith}
use Rattle.std.specs.List.{slice_get}
use Rattle.std.proofs.lemmas.List.{length_push, take-append-drop, length-drop, get_or-drop}
use Rattle.std.proofs.lemmas.Option.{same_Some, none-some}
use Rattle.key_map.specs.declared.update.Update.{Update}
use Rattle.bucket_terms.specs.declared.reply.Placed.{Placed}
use Rattle.bucket_terms.specs.LegalRun.{RequestLine, Run, Answered, IsLegal, IsMadeBy, IsChangeOf, AreAnswered, answered_lines, lines_of}
use Rattle.answer_text.specs.Lines.{line_of, journal_data, session_text}
use Rattle.answer_text.specs.Shown.{last_data}
use Rattle.request_lines.specs.CheckInput.{text_lines}
use Rattle.text_laws.specs.WrongLine.{Checked, AreJournal, AreReplies, setting, requests_of, journal_texts, reply_texts}
use Rattle.text_laws.specs.WrongParts.{AreAllRight, Makes, last_text}
use Rattle.text_laws.specs.TextLaws.{IsLegalText}
use Rattle.text_laws.proofs.Lined.{joined, joined_lines, reply_text, reply_list, reply_lists, journal_list, run_lines, run_cut, lists_of_slices}

module _ (c : Checked) (us : List Update) where
  -- ---- the journal

  journal_is : (earlier : List Update) (texts : List (List ℕ)) (rest : List Update) (place : ℕ) → place ≡ length earlier + 1 → AreJournal c earlier texts rest
      → texts ≡ journal_list c.dir c.records place rest
  journal_is earlier [] [] place at h = refl
  journal_is earlier [] (u ∷ rest) place at h = absurd h
  journal_is earlier (t ∷ texts) [] place at h = absurd h
  journal_is earlier (t ∷ texts) (u ∷ rest) place at h =
      ap (λ (l : List ℕ). l ∷ texts) (h.0.text_is ∙ ap (λ (n : ℕ). line_of (journal_data c.dir n u)) (sym at))
      ∙ ap (λ (l : List (List ℕ)). line_of (journal_data c.dir place u) ∷ l) (journal_is (earlier ++ u ∷ []) texts rest (place + 1) (omega (arith, length_push earlier u)) h.1)

  -- the request line of an update of the journal
  record IsAskedFor (u : Update) : Type 0 where
    client : u.client < length c.parts
    made : Any (Makes c.dir u) (lines_of c.parts u.client)

  asked_for : (earlier : List Update) (texts : List (List ℕ)) (rest : List Update) (i : ℕ) (u : Update) → AreJournal c earlier texts rest → slice_get rest i ≡ Some u → IsAskedFor u
  asked_for earlier [] [] i u h at = absurd (none-some u at)
  asked_for earlier [] (v ∷ rest) i u h at = absurd h
  asked_for earlier (t ∷ texts) [] i u h at = absurd h
  asked_for earlier (t ∷ texts) (v ∷ rest) zero u h at =
      subst IsAskedFor (same_Some v u at) (record { client = h.0.client; made = h.0.made })
  asked_for earlier (t ∷ texts) (v ∷ rest) (suc i) u h at = asked_for (earlier ++ v ∷ []) texts rest i u h.1 at

  -- ---- the replies of a client

  answered : (client : ℕ) (earlier : List Answered) (lines : List RequestLine) (texts : List (List ℕ)) (ps : List Placed) → AreReplies c us client earlier lines texts ps
      → AreAnswered (setting c us client) earlier lines ps
  answered client earlier [] [] [] h = tt
  answered client earlier (l ∷ lines) (t ∷ texts) (p ∷ ps) h = (h.0.answered, answered client (earlier ++ record { asked = l; placed = p } ∷ []) lines texts ps h.1)
  answered client earlier lines texts ps h = absurd h

  replies_are : (client : ℕ) (earlier : List Answered) (lines : List RequestLine) (texts : List (List ℕ)) (ps : List Placed) → AreReplies c us client earlier lines texts ps
      → texts ≡ reply_list c.dir c.records ps
  replies_are client earlier [] [] [] h = refl
  replies_are client earlier (l ∷ lines) (t ∷ texts) (p ∷ ps) h =
      ap (λ (x : List ℕ). x ∷ texts) h.0.text_is
      ∙ ap (λ (xs : List (List ℕ)). reply_text c.dir c.records p ∷ xs) (replies_are client (earlier ++ record { asked = l; placed = p } ∷ []) lines texts ps h.1)
  replies_are client earlier lines texts ps h = absurd h

  Any-behind : {X : Type 0} (P : X → Type 0) (x : X) (xs : List X) → Any P xs → Any P (x ∷ xs)
  Any-behind P x xs any = let inside = any.2 in (suc any.0, any.1, omega arith, any.3, any.4)

  -- an update of a client's line stands at the place of the line's reply
  made_by : (client i : ℕ) (u : Update) (k : ℕ) (l : RequestLine) (earlier : List Answered) (lines : List RequestLine) (texts : List (List ℕ)) (ps : List Placed)
      → slice_get us i ≡ Some u → u.client ≡ client → l.line ≡ u.line → IsChangeOf c.dir u l.request → k < length lines → get_or lines k l ≡ l
      → AreReplies c us client earlier lines texts ps → Any (IsMadeBy c.dir u (i + 1)) (answered_lines lines ps)
  made_by client i u k l earlier [] texts ps at by line change inside is h = absurd (omega arith)
  made_by client i u k l earlier (m ∷ lines) [] ps at by line change inside is h = absurd h
  made_by client i u k l earlier (m ∷ lines) (t ∷ texts) [] at by line change inside is h = absurd h
  made_by client i u zero l earlier (m ∷ lines) (t ∷ texts) (p ∷ ps) at by line change inside is h =
      let number : m.line ≡ u.line = ap (λ (x : RequestLine). x.line) is ∙ line in (
        0,
        record { asked = m; placed = p },
        omega arith,
        refl,
        record {
          line = number;
          place = h.0.own i u at (record { by = by; for_line = sym number });
          change = subst (λ (x : RequestLine). IsChangeOf c.dir u x.request) (sym is) change;
        },
      )
  made_by client i u (suc k) l earlier (m ∷ lines) (t ∷ texts) (p ∷ ps) at by line change inside is h =
      Any-behind (IsMadeBy c.dir u (i + 1)) (record { asked = m; placed = p }) (answered_lines lines ps)
      (made_by client i u k l (earlier ++ record { asked = m; placed = p } ∷ []) lines texts ps at by line change (omega arith) is h.1)

one_left : (xs : List (List ℕ)) → length xs ≡ 1 → xs ≡ get_or xs 0 [] ∷ []
one_left [] one = absurd (omega arith)
one_left (x ∷ []) one = refl
one_left (x ∷ y ∷ xs) one = absurd (omega arith)

module _ (c : Checked) (texts : List (List ℕ)) (right : AreAllRight c texts) where
  abbrev run : Run
  run = record { updates = right.updates; replies = right.replies }

  legal : IsLegal c.dir c.parts c.slots run
  legal = record {
    clients = right.replied.count;
    answered = λ client inside.
        answered c right.updates client [] (lines_of c.parts client) (reply_texts c texts client) (get_or right.replies client []) (right.replied.each client inside);
    made = λ i u at.
        let asked = asked_for c right.updates [] (journal_texts c texts) right.updates i u right.journal at in
        let m = asked.made in (
          asked.client,
          made_by c right.updates u.client i u m.0 m.1 [] (lines_of c.parts u.client) (reply_texts c texts u.client) (get_or right.replies u.client [])
              at refl m.4.0 m.4.1 m.2 m.3 (right.replied.each u.client asked.client),
        );
  }

  lines_are : texts ≡ run_lines c.dir c.records run
  lines_are =
      let q = requests_of c.parts in
      let long = right.long in
      let rest = length texts - q - 1 in
      let front : take q texts ≡ reply_lists c.dir c.records right.replies =
      lists_of_slices c.dir c.records c.parts right.replies texts right.replied.count
      (λ client inside.
      replies_are c right.updates client [] (lines_of c.parts client) (reply_texts c texts client) (get_or right.replies client []) (right.replied.each client inside)) in
      let journal : take rest (drop q texts) ≡ journal_list c.dir c.records 1 right.updates = journal_is c right.updates [] (journal_texts c texts) right.updates 1 refl right.journal in
      let behind = drop rest (drop q texts) in
      let one : length behind ≡ 1 = omega (arith, length-drop rest (drop q texts), length-drop q texts) in
      let at : get_or behind 0 [] ≡ last_text texts =
      get_or-drop rest (drop q texts) 0 [] ∙ get_or-drop q texts (rest + 0) [] ∙ ap (λ (n : ℕ). get_or texts n []) (omega arith) in
      let end : behind ≡ line_of (last_data (length right.updates)) ∷ [] =
      one_left behind one ∙ ap (λ (x : List ℕ). x ∷ []) (at ∙ right.last) in
      sym (take-append-drop q texts)
      ∙ ap (λ (l : List (List ℕ)). l ++ drop q texts) front
      ∙ ap (λ (l : List (List ℕ)). reply_lists c.dir c.records right.replies ++ l)
      (sym (take-append-drop rest (drop q texts))
      ∙ ap (λ (l : List (List ℕ)). l ++ behind) journal
      ∙ ap (λ (l : List (List ℕ)). journal_list c.dir c.records 1 right.updates ++ l) end)

pub to_legal : (c : Checked) (text : List ℕ) → AreAllRight c (text_lines text) → IsLegalText c text
to_legal c text right = record {
  run = run c (text_lines text) right;
  legal = legal c (text_lines text) right;
  text_is =
      sym (joined_lines text)
      ∙ ap joined (lines_are c (text_lines text) right ∙ sym (run_cut c.dir c.records (run c (text_lines text) right)))
      ∙ joined_lines (session_text c.dir c.records (run c (text_lines text) right));
}
