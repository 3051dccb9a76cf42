-- A client whose first lines are right: at its first line, after one more line, and before a wrong line.
use Rattle.std.proofs.Common.{◌≡◌, ℕ, suc, ◌+◌, ◌^◌, ◌<◌, ◌≤◌, Bool, true, false, cond, Any, List, [], ◌∷◌, ◌++◌, length, take, Option, Some, None, IfSome, is_some, if◌then◌else◌, sym, ap, ◌∙◌, subst, arith}
use Rattle.std.specs.List.{slice_get}
use Rattle.std.specs.Option.{unwrap_or, ForSome}
use Rattle.std.proofs.lemmas.Option.{same_Some, none-some, slice_get_within, IfSome_then}
use Rattle.key_names.specs.Names.{Rises}
use Rattle.key_map.specs.declared.update.Update.{Update}
use Rattle.bucket_terms.specs.declared.reply.Reply.{Reply}
use Rattle.bucket_terms.specs.declared.reply.Placed.{Placed}
use Rattle.bucket_terms.specs.LegalRun.{RequestLine, Answered, IsOf, IsChangeOf, answered_lines, is_listing, last_listing, lines_of}
use Rattle.bucket_terms.proofs.LastListing.{last_listing-push}
use Rattle.client_run.specs.Listing.{HasPageInRange}
use Rattle.request_lines.specs.SessionLaws.{Rise}
use Rattle.text_laws.specs.WrongLine.{Checked, IsReplyLine, setting, reply_texts, first_reply}
use Rattle.text_laws.specs.WrongParts.{HasAllParts, text_at, Makes}
use Rattle.text_laws.proofs.Spelled.{line_begins}
use Rattle.text_laws.proofs.OneReply.{small_place}
use Rattle.replay_check.specs.declared.replay.Replay.{Replay}
use Rattle.replay_check.specs.declared.turns.Client.{Client}
use Rattle.replay_check.specs.Own.{history_of}
use Rattle.replay_check.specs.Replaying.{IsReplayed}
use Rattle.replay_check.specs.Turns.{HasSeen, IsOwnPlace, KnowsTurn, used_before}
use Rattle.replay_check.specs.Looking.{AreMade, HasCome, GoesOn, IsDue, IsDueAt, answers_of}
use Rattle.replay_check.proofs.Coming.{seen_more, right_more, answered_more}
use Rattle.replay_check.proofs.Order.{seen_nothing}
use Rattle.replay_check.proofs.UsedBefore.{used_first, used_next, line_of_update, same_place}
use Rattle.replay_check.proofs.TextPlaces.{text_is, line_within, reply_within}

abbrev one : RequestLine → Placed → Answered
one l p = record { asked = l; placed = p }

-- what is answered in a setting does not depend on its names and slots
own_in : (c : Checked) (updates : List Update) (number line : ℕ) (own : Option ℕ) → IsOwnPlace (history_of updates number) line own → IsOwnPlace (setting c updates number) line own
own_in c updates number line None none = λ k d inside of. none k d inside (record { by = of.by; for_line = of.for_line })
own_in c updates number line (Some place) is =
    (is.0, (is.1.0, (is.1.1.0, (is.1.1.1.0, record { by = is.1.1.1.1.by; for_line = is.1.1.1.1.for_line }))))

not_above : (o : Option ℕ) (seen most : ℕ) → IfSome o (λ at. at ≤ most) → seen ≤ most → unwrap_or o seen ≤ most
not_above None seen most h k = k
not_above (Some at) seen most h k = h

page_if : (b : Bool) (dir : List (List ℕ)) (reply : Reply) (last : Option Reply) → HasPageInRange dir reply → ForSome last (HasPageInRange dir)
    → ForSome (if b then Some reply else last) (HasPageInRange dir)
page_if true dir reply last here before = λ r is. subst (HasPageInRange dir) (same_Some reply r is) here
page_if false dir reply last here before = before

module _ (c : Checked) (updates : List Update) (texts : List (List ℕ)) (number : ℕ) (short : length updates < 2 ^ 64) (made : AreMade c updates)
    (rising : Rise (lines_of c.parts number)) (long : HasAllParts c texts) (within : number < length c.parts) where
  -- the line of an update of the client, by its number
  change_of : (n : ℕ) (asked : RequestLine) → slice_get (lines_of c.parts number) n ≡ Some asked
      → (i : ℕ) (u : Update) → slice_get updates i ≡ Some u → IsOf (setting c updates number) asked.line u → IsChangeOf c.dir u asked.request
  change_of n asked there i u here of =
      let lines = lines_of c.parts number in
      let own = line_of_update c.dir u lines (subst (λ (k : ℕ). Any (Makes c.dir u) (lines_of c.parts k)) of.by (made.made i u here).1) in
      let l = own.1.0 in
      let at : own.0 ≡ n = same_place lines own.0 n l asked rising own.1.1.0 there (own.1.1.1.0 ∙ of.for_line) in
      let same : l ≡ asked = same_Some l asked (sym own.1.1.0 ∙ ap (slice_get lines) at ∙ there) in
      subst (λ (m : RequestLine). IsChangeOf c.dir u m.request) same own.1.1.1.1

  pub knows_turn : (client : Client) (come : HasCome c updates texts number client) (asked : RequestLine) (own : Option ℕ) (replay : Replay) → Rises c.dir
      → slice_get (lines_of c.parts number) client.next ≡ Some asked → IsOwnPlace (history_of updates number) asked.line own → IsReplayed replay updates replay.at
      → KnowsTurn (setting c updates number) (answers_of come) asked replay own client
  knows_turn client come asked own replay names there is replayed = record {
    rising = names;
    own_is = own_in c updates number asked.line own is;
    one = λ i j u v here_i here_j of_u of_v. made.one i j u v here_i here_j (of_u.by ∙ sym of_v.by, of_u.for_line ∙ sym of_v.for_line);
    change = change_of client.next asked there;
    slots_is = come.slots;
    used_is = come.used asked there;
    seen = come.seen;
    last_is = come.last;
    replayed = replayed;
  }

  -- a right line is due at its place
  due_line : (client : Client) (n : ℕ) (earlier : List Answered) (asked : RequestLine) → HasSeen earlier client.seen → slice_get (lines_of c.parts number) n ≡ Some asked
      → IsDueAt texts (first_reply c number + n) client.seen client.due → IsDue c updates number earlier asked (text_at (reply_texts c texts number) n) client
  due_line client n earlier asked seen there due = λ placed line.
      let begins = line_begins c.dir c.records placed in
      let inside = slice_get_within (lines_of c.parts number) n asked there in
      due placed.at begins.0 (small_place (setting c updates number) earlier asked.line placed.at short line.answered.order)
      (IfSome_then placed.at line.answered.order (λ at order. seen.least at order.not_below))
      (line_within c texts number long within n inside)
      (sym (text_is c texts number n inside) ∙ line.text_is ∙ begins.1)

  -- before the first line
  pub come_first : (client : Client) → client.first ≡ first_reply c number → client.slots ≡ c.slots number → client.next ≡ 0 → client.seen ≡ 0 → client.used ≡ 0 → client.last ≡ None
      → IsDueAt texts client.first client.seen client.due → HasCome c updates texts number client
  come_first client first slots next seen used last due =
      subst (HasCome c updates texts number) (ap (λ (k : ℕ). record client { next = k }) (sym next)) (record {
        first = first;
        slots = slots;
        within = omega arith;
        replies = [];
        right = tt;
        seen = has_seen;
        below = omega (arith, seen);
        last = last;
        pages = subst (λ (o : Option Reply). ForSome o (HasPageInRange c.dir)) (sym last) (λ r is. absurd (none-some r is));
        used = λ asked there. used ∙ sym (used_first c updates made number rising asked there);
        due = λ asked there. due_line (record client { next = 0 }) 0 [] asked has_seen there (subst (λ (k : ℕ). IsDueAt texts k client.seen client.due) (first ∙ zero_more (first_reply c number)) due);
      })
    where
      has_seen : HasSeen [] client.seen
      has_seen = subst (HasSeen []) (sym seen) seen_nothing

      zero_more : (n : ℕ) → n ≡ n + 0
      zero_more n = omega arith

  module _ (old new : Client) (asked : RequestLine) (own : Option ℕ) (placed : Placed) (come : HasCome c updates texts number old)
      (there : slice_get (lines_of c.parts number) old.next ≡ Some asked) (is : IsOwnPlace (history_of updates number) asked.line own)
      (line : IsReplyLine c updates number (answers_of come) asked (text_at (reply_texts c texts number) old.next) placed)
      (page : HasPageInRange c.dir placed.reply) (go : GoesOn texts asked.request own placed old new) where
    abbrev n : ℕ
    n = old.next

    abbrev more : List Answered
    more = answers_of come ++ one asked placed ∷ []

    inside : n < length (lines_of c.parts number)
    inside = slice_get_within (lines_of c.parts number) n asked there

    answers : answered_lines (take (suc n) (lines_of c.parts number)) (come.replies ++ placed ∷ []) ≡ more
    answers = answered_more c updates number n [] (lines_of c.parts number) (reply_texts c texts number) come.replies asked placed there come.right

    seen_now : HasSeen (answered_lines (take (suc n) (lines_of c.parts number)) (come.replies ++ placed ∷ [])) new.seen
    seen_now =
        let most : IfSome placed.at (λ at. old.seen ≤ at) = IfSome_then placed.at line.answered.order (λ at order. come.seen.least at order.not_below) in
        subst (λ (earlier : List Answered). HasSeen earlier new.seen) (sym answers)
        (subst (HasSeen more) (sym go.seen) (seen_more (answers_of come) (one asked placed) old.seen come.seen most))

    below_now : new.seen ≤ length updates
    below_now =
        let place : unwrap_or placed.at old.seen ≤ length updates =
        not_above placed.at old.seen (length updates) (IfSome_then placed.at line.answered.order (λ at order. order.within)) come.below in
        let same = go.seen in
        omega arith

    last_now : new.last ≡ last_listing (answered_lines (take (suc n) (lines_of c.parts number)) (come.replies ++ placed ∷ []))
    last_now =
        go.last
        ∙ ap (λ (o : Option Reply). if is_listing asked.request then Some placed.reply else o) come.last
        ∙ sym (last_listing-push (answers_of come) (one asked placed))
        ∙ ap last_listing (sym answers)

    used_now : (next : RequestLine) → slice_get (lines_of c.parts number) (suc n) ≡ Some next → new.used ≡ used_before updates number next
    used_now next follows =
        let counted = used_next c updates made number rising n asked next there follows own is in
        let before = come.used asked there in
        go.used ∙ ap (λ (k : ℕ). k + cond (is_some own) 1 0) before ∙ sym counted

    due_now : (next : RequestLine) → slice_get (lines_of c.parts number) (suc n) ≡ Some next
        → IsDue c updates number (answered_lines (take (suc n) (lines_of c.parts number)) (come.replies ++ placed ∷ [])) next (text_at (reply_texts c texts number) (suc n)) (record new { next = suc n })
    due_now next follows =
        let sum : new.first + new.next ≡ first_reply c number + suc n = let first = go.first in let at = come.first in let step = go.next in omega arith in
        due_line (record new { next = suc n }) (suc n) _ next seen_now follows (subst (λ (k : ℕ). IsDueAt texts k new.seen new.due) sum go.due)

    -- after one more right line
    pub come_more : HasCome c updates texts number new
    come_more =
        let step : suc n ≡ new.next = let next = go.next in omega arith in
        subst (HasCome c updates texts number) (ap (λ (k : ℕ). record new { next = k }) step) (record {
          first = go.first ∙ come.first;
          slots = go.slots ∙ come.slots;
          within = let less = inside in omega arith;
          replies = come.replies ++ placed ∷ [];
          right = right_more c updates number n [] (lines_of c.parts number) (reply_texts c texts number) come.replies asked placed there
              (reply_within c texts number long within n inside) come.right line;
          seen = seen_now;
          below = below_now;
          last = last_now;
          pages = subst (λ (o : Option Reply). ForSome o (HasPageInRange c.dir)) (sym go.last) (page_if (is_listing asked.request) c.dir placed.reply old.last page come.pages);
          used = used_now;
          due = due_now;
        })

  -- before a wrong line nothing more is known
  pub come_no_more : (client : Client) (due : ℕ) (come : HasCome c updates texts number client)
      → ((asked : RequestLine) → slice_get (lines_of c.parts number) client.next ≡ Some asked → (placed : Placed)
      → ¬ (IsReplyLine c updates number (answers_of come) asked (text_at (reply_texts c texts number) client.next) placed))
      → HasCome c updates texts number (record client { due = due })
  come_no_more client due come wrong = record {
    first = come.first;
    slots = come.slots;
    within = come.within;
    replies = come.replies;
    right = come.right;
    seen = come.seen;
    below = come.below;
    last = come.last;
    pages = come.pages;
    used = come.used;
    due = λ asked there placed line. absurd (wrong asked there placed line);
  }
