-- A text has at most one first wrong line, and none if each line is right.
use Rattle.std.proofs.Common.{◌≡◌, ℕ, zero, suc, ◌+◌, ◌-◌, ◌<◌, ◌≤◌, List, [], ◌∷◌, ◌++◌, length, take, drop, get_or, inl, inr, refl, sym, ap, ◌∙◌, subst, arith}
use Rattle.std.proofs.lemmas.Bool.{cases_lt}
use Rattle.std.proofs.lemmas.List.{take-take, take_all, length-take, length-drop}
use Rattle.key_map.specs.declared.update.Update.{Update}
use Rattle.bucket_terms.specs.declared.reply.Placed.{Placed}
use Rattle.bucket_terms.specs.LegalRun.{RequestLine, Answered, lines_of}
use Rattle.text_laws.specs.WrongLine.{Checked, AreJournal, AreReplies, FirstReplies, AreRight, IsWrongLine, journal_texts, looked_at, reply_texts, requests_of, first_reply}
use Rattle.text_laws.specs.WrongParts.{HasAllParts, AreAllRight}
use Rattle.text_laws.specs.TextLaws.{OneWrongLineLaw, NoneWrongLaw, IsRightText}
use Rattle.text_laws.proofs.Collected.{collected}
use Rattle.text_laws.proofs.ReplyPlaces.{first_within}

-- ---- the first of right lines are right

journal_front : (c : Checked) (n : ℕ) (earlier : List Update) (texts : List (List ℕ)) (us : List Update) → AreJournal c earlier texts us → AreJournal c earlier (take n texts) (take n us)
journal_front c zero earlier texts us h = tt
journal_front c (suc n) earlier [] [] h = tt
journal_front c (suc n) earlier [] (u ∷ us) h = absurd h
journal_front c (suc n) earlier (t ∷ texts) [] h = absurd h
journal_front c (suc n) earlier (t ∷ texts) (u ∷ us) h = (h.0, journal_front c n (earlier ++ u ∷ []) texts us h.1)

replies_front : (c : Checked) (us : List Update) (client n : ℕ) (earlier : List Answered) (lines : List RequestLine) (texts : List (List ℕ)) (ps : List Placed)
    → AreReplies c us client earlier lines texts ps → AreReplies c us client earlier (take n lines) (take n texts) (take n ps)
replies_front c us client zero earlier lines texts ps h = tt
replies_front c us client (suc n) earlier [] [] [] h = tt
replies_front c us client (suc n) earlier (l ∷ lines) (t ∷ texts) (p ∷ ps) h =
    (h.0, replies_front c us client n (earlier ++ record { asked = l; placed = p } ∷ []) lines texts ps h.1)
replies_front c us client (suc n) earlier lines texts ps h = absurd h

module _ (c : Checked) (texts : List (List ℕ)) where
  abbrev journal : List (List ℕ)
  journal = journal_texts c texts

  pub few_in_journal : length journal ≤ length texts
  few_in_journal =
      let cut = length-take (length texts - requests_of c.parts - 1) (drop (requests_of c.parts) texts) in
      let rest = length-drop (requests_of c.parts) texts in
      omega (arith, cut, rest)

  pub journal_count : HasAllParts c texts → length journal ≡ length texts - requests_of c.parts - 1
  journal_count long =
      let cut = length-take (length texts - requests_of c.parts - 1) (drop (requests_of c.parts) texts) in
      let rest = length-drop (requests_of c.parts) texts in
      omega (arith, cut, rest)

  pub no_reply_yet : (us : List Update) (client count : ℕ) → count ≡ 0 → FirstReplies c us texts client count
  no_reply_yet us client count none = subst (FirstReplies c us texts client) (sym none) ([], tt)

  pub of_all_replies : (us : List Update) (client count : ℕ) (ps : List Placed) → AreReplies c us client [] (lines_of c.parts client) (reply_texts c texts client) ps
      → FirstReplies c us texts client count
  of_all_replies us client count ps h = (take count ps, replies_front c us client count [] (lines_of c.parts client) (reply_texts c texts client) ps h)

  fewer_replies : (us : List Update) (client m n : ℕ) → m ≤ n → FirstReplies c us texts client n → FirstReplies c us texts client m
  fewer_replies us client m n less h =
      let lines = lines_of c.parts client in
      let own = reply_texts c texts client in (
        take m h.0,
        subst (λ (ls : List RequestLine). AreReplies c us client [] ls (take m own) (take m h.0)) (take-take m n lines less)
            (subst (λ (ts : List (List ℕ)). AreReplies c us client [] (take m (take n lines)) ts (take m h.0)) (take-take m n own less)
            (replies_front c us client m [] (take n lines) (take n own) h.0 h.1)),
      )

  fewer : (m n : ℕ) → m ≤ n → AreRight c texts n → AreRight c texts m
  fewer m n less right = elim (cases_lt (length journal) m) [
    | inl more ↦
        record {
          updates = right.updates;
          journal = subst (λ (ts : List (List ℕ)). AreJournal c [] ts right.updates)
              (take_all n journal (omega arith) ∙ sym (take_all m journal (omega arith))) right.journal;
          last = λ late. right.last (omega arith);
          replied = λ client inside. fewer_replies right.updates client _ _ (omega arith) (right.replied client inside);
        }
    | inr most ↦
        record {
          updates = take m right.updates;
          journal = subst (λ (ts : List (List ℕ)). AreJournal c [] ts (take m right.updates)) (take-take m n journal less)
              (journal_front c m [] (take n journal) right.updates right.journal);
          last = λ late. absurd (omega arith);
          replied = λ client inside. no_reply_yet (take m right.updates) client _ (omega arith);
        }
  ]

  -- ---- the laws

  one_wrong : (m n : ℕ) → IsWrongLine c texts m → IsWrongLine c texts n → m ≡ n
  one_wrong m n (inl h) (inl k) = h.1 ∙ sym k.1
  one_wrong m n (inl h) (inr k) = let s = h.0 in let l = k.long in absurd (omega arith)
  one_wrong m n (inr h) (inl k) = let s = k.0 in let l = h.long in absurd (omega arith)
  one_wrong m n (inr h) (inr k) =
      elim (cases_lt h.before k.before) [
        | inl less ↦ absurd (h.wrong (fewer (h.before + 1) k.before (omega arith) k.right))
        | inr most ↦
            elim (cases_lt k.before h.before) [
              | inl less ↦ absurd (k.wrong (fewer (k.before + 1) h.before (omega arith) h.right))
              | inr least ↦
                  let same : h.before ≡ k.before = omega arith in
                  h.line_is ∙ ap (looked_at c texts) same ∙ sym k.line_is
            ]
      ]

  none_wrong : (n : ℕ) → IsRightText c texts → ¬ (IsWrongLine c texts n)
  none_wrong n right (inl k) = let s = k.0 in let l = right.long in absurd (omega arith)
  none_wrong n right (inr k) = let inside = k.inside in k.wrong (fewer (k.before + 1) (length texts) (omega arith) right.right)

  -- ---- all lines are right

  pub right_text : AreAllRight c texts → IsRightText c texts
  right_text right = record {
    long = right.long;
    right = record {
      updates = right.updates;
      journal = let few = few_in_journal in subst (λ (ts : List (List ℕ)). AreJournal c [] ts right.updates) (sym (take_all (length texts) journal few)) right.journal;
      last = λ late. right.last;
      replied = λ client inside. of_all_replies right.updates client _ (get_or right.replies client []) (right.replied.each client inside);
    };
  }

  pub all_right : IsRightText c texts → AreAllRight c texts
  all_right text =
      let right = text.right in
      let long = text.long in
      let count = journal_count long in
      let us = right.updates in
      let lists = collected (length c.parts) (λ (k : ℕ) (ps : List Placed). AreReplies c us k [] (lines_of c.parts k) (reply_texts c texts k) ps) (λ k inside.
      all_replies us k _ (let most = first_within c.parts k inside in omega arith) (right.replied k inside)) in
      record {
        long = long;
        updates = us;
        journal = subst (λ (ts : List (List ℕ)). AreJournal c [] ts us) (take_all (length texts) journal (omega arith)) right.journal;
        last = right.last (omega arith);
        replies = lists.0;
        replied = record { count = lists.1.0; each = lists.1.1 };
      }
    where
      all_replies : (us : List Update) (client count : ℕ) → length (lines_of c.parts client) ≤ count → FirstReplies c us texts client count
          → (ps : List Placed) × AreReplies c us client [] (lines_of c.parts client) (reply_texts c texts client) ps
      all_replies us client count most h =
          let lines = lines_of c.parts client in
          let own = reply_texts c texts client in
          let few : length own ≤ count = omega (arith, length-take (length lines) (drop (first_reply c client) texts)) in (
            h.0,
            subst (λ (ls : List RequestLine). AreReplies c us client [] ls own h.0) (take_all count lines most)
                (subst (λ (ts : List (List ℕ)). AreReplies c us client [] (take count lines) ts h.0) (take_all count own few) h.1),
          )

pub one_wrong_line : OneWrongLineLaw
one_wrong_line c texts m n h k = one_wrong c texts m n h k

pub none_wrong_law : NoneWrongLaw
none_wrong_law c texts n right = none_wrong c texts n right
