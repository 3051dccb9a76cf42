-- The first wrong line, when no line is due any more.
use Rattle.std.proofs.Common.{◌≡◌, ℕ, zero, suc, ◌+◌, ◌<◌, ◌≤◌, List, [], ◌∷◌, ◌++◌, length, take, get_or, Option, Some, None, IfSome, inl, inr, refl, sym, ap, ◌∙◌, subst, arith}
use Rattle.std.specs.List.{slice_get}
use Rattle.std.specs.Option.{unwrap_or}
use Rattle.std.proofs.lemmas.Bool.{cases_lt}
use Rattle.std.proofs.lemmas.Option.{slice_get-get_or, IfSome_then}
use Rattle.std.proofs.lemmas.List.{take_all}
use Rattle.key_map.specs.declared.update.Update.{Update}
use Rattle.bucket_terms.specs.declared.reply.Placed.{Placed}
use Rattle.bucket_terms.specs.LegalRun.{RequestLine, lines_of}
use Rattle.text_laws.specs.WrongLine.{Checked, IsReplyLine, AreReplies, reply_texts}
use Rattle.text_laws.specs.WrongParts.{AreAllReplies, IsWrongReply, text_at}
use Rattle.text_laws.proofs.Collected.{collected}
use Rattle.replay_check.specs.declared.turns.Client.{Client}
use Rattle.replay_check.specs.Looking.{IsReadyAt, AreReady, answers_of}
use Rattle.replay_check.proofs.TextPlaces.{few_replies}

-- all lines of the first clients were found right
abbrev pub Finished : Checked → List Client → ℕ → Type 0
Finished c clients n = (k : ℕ) (client : Client) → k < n → slice_get clients k ≡ Some client → length (lines_of c.parts k) ≤ client.next

at_most : (o : Option ℕ) (seen most : ℕ) → IfSome o (λ at. at ≤ most) → seen ≤ most → unwrap_or o seen ≤ most
at_most None seen most h k = k
at_most (Some at) seen most h k = h

module _ (c : Checked) (updates : List Update) (texts : List (List ℕ)) (clients : List Client) (ready : AreReady c updates texts (length updates + 1) clients) where
  -- a right line would be due at a place of the history
  not_right : (number : ℕ) (client : Client) (asked : RequestLine) (all : IsReadyAt c updates texts number (length updates + 1) client)
      → slice_get (lines_of c.parts number) client.next ≡ Some asked → client.next < length (lines_of c.parts number)
      → (placed : Placed) → ¬ (IsReplyLine c updates number (answers_of all.come) asked (text_at (reply_texts c texts number) client.next) placed)
  not_right number client asked all there inside placed line =
      let late : length updates + 1 ≤ client.due = all.later inside in
      let due : client.due ≡ unwrap_or placed.at client.seen = all.come.due asked there placed line in
      let most : unwrap_or placed.at client.seen ≤ length updates =
      at_most placed.at client.seen (length updates) (IfSome_then placed.at line.answered.order (λ at order. order.within)) all.come.below in
      absurd (omega arith)

  -- all lines of the client are right
  all_right : (number : ℕ) (client : Client) → IsReadyAt c updates texts number (length updates + 1) client → length (lines_of c.parts number) ≤ client.next
      → (ps : List Placed) × AreReplies c updates number [] (lines_of c.parts number) (reply_texts c texts number) ps
  all_right number client all most =
      let few = few_replies c texts number in (
        all.come.replies,
        subst (λ (ls : List RequestLine). AreReplies c updates number [] ls (reply_texts c texts number) all.come.replies) (take_all client.next (lines_of c.parts number) most)
            (subst (λ (ts : List (List ℕ)). AreReplies c updates number [] (take client.next (lines_of c.parts number)) ts all.come.replies) (take_all client.next (reply_texts c texts number) (omega arith))
            all.come.right),
      )

  all_finished : (n : ℕ) → n ≤ length clients → Finished c clients n → (d : Client) → (lists : List (List Placed)) × AreAllReplies c updates texts n lists
  all_finished n within done d =
      let lists = collected n (λ (k : ℕ) (ps : List Placed). AreReplies c updates k [] (lines_of c.parts k) (reply_texts c texts k) ps) (λ k less.
      let there : slice_get clients k ≡ Some (get_or clients k d) = slice_get-get_or clients k d (omega arith) in
      all_right k (get_or clients k d) (ready.each k (get_or clients k d) there) (done k (get_or clients k d) less there)) in
      (lists.0, record { count = lists.1.0; each = lists.1.1 })

  pub none_wrong : Finished c clients (length clients) → (lists : List (List Placed)) × AreAllReplies c updates texts (length c.parts) lists
  none_wrong done = by_length clients refl
    where
      by_length : (cs : List Client) → cs ≡ clients → (lists : List (List Placed)) × AreAllReplies c updates texts (length c.parts) lists
      by_length [] is =
          let count = ready.count in
          let none : length clients ≡ 0 = ap length (sym is) in
          ([], record { count = omega arith; each = λ k less. absurd (omega arith) })
      by_length (d ∷ cs) is =
          let all = all_finished (length clients) (omega arith) done d in
          subst (λ (n : ℕ). (lists : List (List Placed)) × AreAllReplies c updates texts n lists) ready.count all

  pub here_wrong : (number : ℕ) (client : Client) → slice_get clients number ≡ Some client → number < length clients → Finished c clients number
      → client.next < length (lines_of c.parts number) → (place : ℕ) → place ≡ client.first + client.next → IsWrongReply c updates texts place
  here_wrong number client there inside done less place is =
      let all = ready.each number client there in
      let before = all_finished number (omega arith) done client in
      let lines = lines_of c.parts number in
      let count = ready.count in
      let asked = by_place lines client.next less in
      record {
        client = number;
        within = omega arith;
        others = before.0;
        before = before.1;
        number = client.next;
        asked = asked.0;
        asked_is = asked.1;
        place_is = is ∙ ap (λ (k : ℕ). k + client.next) all.come.first;
        replies = all.come.replies;
        right = all.come.right;
        here = not_right number client asked.0 all asked.1 less;
      }
    where
      by_place : (lines : List RequestLine) (n : ℕ) → n < length lines → (l : RequestLine) × (slice_get lines n ≡ Some l)
      by_place [] n inside = absurd (omega arith)
      by_place (l ∷ lines) zero inside = (l, refl)
      by_place (l ∷ lines) (suc n) inside = by_place lines n (omega arith)
