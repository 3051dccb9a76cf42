-- A line that is the first wrong one in its part of a text is the first wrong line of the text.
use Rattle.std.proofs.Common.{◌≡◌, ℕ, ◌+◌, ◌-◌, ◌^◌, ◌<◌, ◌≤◌, ◌==◌, true, false, nat_lt, List, [], length, take, Some, inl, inr, refl, sym, ap, ◌∙◌, subst, arith}
use Rattle.std.specs.Prelude.{if◌then◌else◌}
use Rattle.std.specs.List.{slice_get}
use Rattle.std.proofs.lemmas.Bool.{cases_lt}
use Rattle.std.proofs.lemmas.Bool.Decides.{nat_tests}
use Rattle.std.proofs.lemmas.List.{take-take, take_all, get_or-take, length-take-le, length-take}
use Rattle.std.proofs.lemmas.Option.{slice_get_within, slice_get_read, get_or_from_slice_get}
use Rattle.key_names.specs.Names.{Rises}
use Rattle.key_map.specs.declared.update.Update.{Update}
use Rattle.bucket_terms.specs.declared.reply.Placed.{Placed}
use Rattle.bucket_terms.specs.LegalRun.{RequestLine, answered_lines, lines_of}
use Rattle.answer_text.specs.Lines.{counting_line}
use Rattle.text_laws.specs.WrongLine.{Checked, IsJournalLine, AreJournal, IsReplyLine, AreReplies, FirstReplies, AreRight, IsWrongLine, journal_texts, reply_texts, first_reply, requests_of}
use Rattle.text_laws.specs.WrongParts.{IsWrongReply, IsWrongInJournal, IsWrongAtLast, IsWrongInReplies, IsWrongInPart, text_at}
use Rattle.text_laws.specs.TextLaws.{IsCheckable}
use Rattle.text_laws.proofs.GoesOn.{journal_length, one_journal, journal_goes_on, replies_go_on}
use Rattle.text_laws.proofs.OneWrong.{few_in_journal, journal_count, no_reply_yet, of_all_replies}
use Rattle.text_laws.proofs.ReplyPlaces.{first_within, first_later}

-- ---- which line is looked at after others

module _ (count asked all : ℕ) where
  abbrev line_at : ℕ → ℕ
  line_at n = if nat_lt n count then asked + n + 1 else if n == count then all else n - count

  in_front : (n : ℕ) → n < count → line_at n ≡ asked + n + 1
  in_front n less = let yes : nat_lt n count ≡ true = grind (arith, nat_tests) in rw yes refl

  at_end : line_at count ≡ all
  at_end =
      let no : nat_lt count count ≡ false = grind (arith, nat_tests) in
      let same : (count == count) ≡ true = grind (arith, nat_tests) in
      rw (no, same) refl

  after_end : (n : ℕ) → line_at (count + 1 + n) ≡ n + 1
  after_end n =
      let no : nat_lt (count + 1 + n) count ≡ false = grind (arith, nat_tests) in
      let other : (count + 1 + n == count) ≡ false = grind (arith, nat_tests) in
      rw (no, other) (omega arith)

-- ---- two lists of right replies

slice_get-take : (lines : List RequestLine) (n m : ℕ) (l : RequestLine) → m < n → slice_get lines m ≡ Some l → slice_get (take n lines) m ≡ Some l
slice_get-take lines n m l less there =
    let inside : m < length lines = slice_get_within lines m l there in
    slice_get_read (take n lines) (length (take n lines)) m l refl (omega (arith, length-take n lines))
    (sym (get_or-take n lines m l less ∙ get_or_from_slice_get lines m l l there))

module _ (c : Checked) (updates : List Update) (texts : List (List ℕ)) (rising : Rises c.dir) (short : length updates < 2 ^ 64) where
  not_earlier : (client m n : ℕ) (asked : RequestLine) (ps qs : List Placed) → slice_get (lines_of c.parts client) m ≡ Some asked
      → AreReplies c updates client [] (take m (lines_of c.parts client)) (take m (reply_texts c texts client)) ps
      → ((p : Placed) → ¬ (IsReplyLine c updates client (answered_lines (take m (lines_of c.parts client)) ps) asked (text_at (reply_texts c texts client) m) p))
      → AreReplies c updates client [] (take n (lines_of c.parts client)) (take n (reply_texts c texts client)) qs
      → ¬ (m < n)
  not_earlier client m n asked ps qs there right here later less =
      let lines = lines_of c.parts client in
      let own = reply_texts c texts client in
      let front : List RequestLine = take n lines in
      let own_front : List (List ℕ) = take n own in
      let same_lines : take m front ≡ take m lines = take-take m n lines (omega arith) in
      let same_texts : take m own_front ≡ take m own = take-take m n own (omega arith) in
      let before : AreReplies c updates client [] (take m front) (take m own_front) ps =
      subst (λ (ls : List RequestLine). AreReplies c updates client [] ls (take m own_front) ps) (sym same_lines)
      (subst (λ (ts : List (List ℕ)). AreReplies c updates client [] (take m lines) ts ps) (sym same_texts) right) in
      let next = replies_go_on c updates client rising short m [] front own_front ps qs asked (slice_get-take lines n m asked less there) before later in
      here next.0
      (subst (λ (ls : List RequestLine). IsReplyLine c updates client (answered_lines ls ps) asked (text_at own m) next.0) same_lines
      (subst (λ (t : List ℕ). IsReplyLine c updates client (answered_lines (take m front) ps) asked t next.0) (get_or-take n own m [] less) next.1))

-- ---- the parts

module _ (c : Checked) (texts : List (List ℕ)) (fine : IsCheckable c texts) where
  abbrev journal : List (List ℕ)
  journal = journal_texts c texts

  journal_short : length journal < 2 ^ 64
  journal_short = let all = fine.lines in let few = few_in_journal c texts in omega arith

  few_updates : (us : List Update) → AreJournal c [] journal us → length us < 2 ^ 64
  few_updates us right = let same = journal_length c [] journal us right in let short = journal_short in omega arith

  whole_journal : (n : ℕ) (us : List Update) → length journal ≤ n → AreJournal c [] (take n journal) us → AreJournal c [] journal us
  whole_journal n us most = subst (λ (ts : List (List ℕ)). AreJournal c [] ts us) (take_all n journal most)

  front_journal : (n : ℕ) (us : List Update) → length journal ≤ n → AreJournal c [] journal us → AreJournal c [] (take n journal) us
  front_journal n us most = subst (λ (ts : List (List ℕ)). AreJournal c [] ts us) (sym (take_all n journal most))

  same_updates : (us vs : List Update) → AreJournal c [] journal us → AreJournal c [] journal vs → us ≡ vs
  same_updates us vs h k = let short = journal_short in one_journal c texts fine [] journal us vs (omega arith) h k

  in_journal : (line : ℕ) → IsWrongInJournal c texts line → IsWrongLine c texts line
  in_journal line h =
      let place = h.place in
      let first = h.wrong in
      let inside = first.inside in
      let few = few_in_journal c texts in
      let short = journal_short in
      inr (record {
        long = h.long;
        before = place;
        inside = omega arith;
        right = record {
          updates = first.updates;
          journal = first.right;
          last = λ late. absurd (omega arith);
          replied = λ client within. no_reply_yet c texts first.updates client _ (omega arith);
        };
        wrong = λ right.
            let front : List (List ℕ) = take (place + 1) journal in
            let long : length front ≡ place + 1 = length-take-le (place + 1) journal (omega arith) in
            let same : take place front ≡ take place journal = take-take place (place + 1) journal (omega arith) in
            let next = journal_goes_on c texts fine place [] front first.updates right.updates (omega arith) (omega arith)
            (subst (λ (ts : List (List ℕ)). AreJournal c [] ts first.updates) (sym same) first.right) right.journal in
            first.here next.0 (subst (λ (t : List ℕ). IsJournalLine c first.updates t next.0) (get_or-take (place + 1) journal place [] (omega arith)) next.1);
        line_is = h.line_is ∙ sym (in_front (length journal) (requests_of c.parts) (length texts) place inside);
      })

  at_last : (line : ℕ) → IsWrongAtLast c texts line → IsWrongLine c texts line
  at_last line h =
      let us = h.updates in
      let long = h.long in
      let count = journal_count c texts long in
      inr (record {
        long = long;
        before = length journal;
        inside = omega arith;
        right = record {
          updates = us;
          journal = front_journal (length journal) us (omega arith) h.journal;
          last = λ late. absurd (omega arith);
          replied = λ client within. no_reply_yet c texts us client _ (omega arith);
        };
        wrong = λ right.
            let same = same_updates right.updates us (whole_journal (length journal + 1) right.updates (omega arith) right.journal) h.journal in
            h.wrong (right.last (omega arith) ∙ ap (λ (vs : List Update). counting_line (length vs)) same);
        line_is = h.line_is ∙ sym (at_end (length journal) (requests_of c.parts) (length texts));
      })

  module _ (us : List Update) (place : ℕ) (wrong : IsWrongReply c us texts place) where
    abbrev asked_lines : List RequestLine
    asked_lines = lines_of c.parts wrong.client

    inside_lines : wrong.number < length asked_lines
    inside_lines = slice_get_within asked_lines wrong.number wrong.asked wrong.asked_is

    few_before : place < requests_of c.parts
    few_before =
        let is = wrong.place_is in
        let less = inside_lines in
        let most = first_within c.parts wrong.client wrong.within in
        omega arith

    replied_before : (count : ℕ) → count ≡ place → (client : ℕ) → client < length c.parts → FirstReplies c us texts client (count - first_reply c client)
    replied_before count same client inside =
        let is = wrong.place_is in
        elim (cases_lt client wrong.client) [
          | inl earlier ↦ of_all_replies c texts us client _ _ (wrong.before.each client earlier)
          | inr most ↦
              elim (cases_lt wrong.client client) [
                | inl later ↦
                    let less = inside_lines in
                    let first = first_later c.parts wrong.client client later inside in
                    no_reply_yet c texts us client _ (omega arith)
                | inr least ↦
                    let one : wrong.client ≡ client = omega arith in
                    let number : count - first_reply c wrong.client ≡ wrong.number = omega arith in
                    subst (λ (k : ℕ). FirstReplies c us texts k (count - first_reply c k)) one
                    (subst (FirstReplies c us texts wrong.client) (sym number) (wrong.replies, wrong.right))
              ]
        ]

    not_replied : (count : ℕ) → count ≡ place + 1 → length us < 2 ^ 64 → ¬ (FirstReplies c us texts wrong.client (count - first_reply c wrong.client))
    not_replied count same short replied =
        let is = wrong.place_is in
        let number : count - first_reply c wrong.client ≡ wrong.number + 1 = omega arith in
        let more : FirstReplies c us texts wrong.client (wrong.number + 1) = subst (FirstReplies c us texts wrong.client) number replied in
        not_earlier c us texts fine.names short wrong.client wrong.number (wrong.number + 1) wrong.asked wrong.replies more.0 wrong.asked_is wrong.right wrong.here more.1 (omega arith)

  in_replies : (line : ℕ) → IsWrongInReplies c texts line → IsWrongLine c texts line
  in_replies line h =
      let us = h.updates in
      let place = h.place in
      let first = h.wrong in
      let long = h.long in
      let count = journal_count c texts long in
      let few = few_before us place first in
      inr (record {
        long = long;
        before = length journal + 1 + place;
        inside = omega arith;
        right = record {
          updates = us;
          journal = front_journal (length journal + 1 + place) us (omega arith) h.journal;
          last = λ late. h.last;
          replied = λ client within. replied_before us place first _ (omega arith) client within;
        };
        wrong = λ right.
            let same = same_updates right.updates us (whole_journal (length journal + 1 + place + 1) right.updates (omega arith) right.journal) h.journal in
            not_replied us place first _ (omega arith) (few_updates us h.journal)
            (subst (λ (vs : List Update). FirstReplies c vs texts first.client (length journal + 1 + place + 1 - length journal - 1 - first_reply c first.client)) same (right.replied first.client first.within));
        line_is = h.line_is ∙ sym (after_end (length journal) (requests_of c.parts) (length texts) place);
      })

  pub in_part : (line : ℕ) → IsWrongInPart c texts line → IsWrongLine c texts line
  in_part line (inl h) = inl h
  in_part line (inr (inl h)) = in_journal line h
  in_part line (inr (inr (inl h))) = at_last line h
  in_part line (inr (inr (inr h))) = in_replies line h
