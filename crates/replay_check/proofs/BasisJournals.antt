-- What follows from a right journal for the basis of the reply lines, and for the verdict.
use Rattle.std.proofs.Common.{◌≡◌, ℕ, ◌+◌, ◌-◌, ◌<◌, ◌≤◌, List, [], length, get_or, inl, inr, refl, sym, ap, ◌∙◌, arith}
use Rattle.std.specs.Borrow.{Bor}
use Rattle.std.proofs.lemmas.List.{length-map, length-take, length-drop}
use Rattle.std.proofs.lemmas.Option.{slice_get_within}
use Rattle.bucket_terms.specs.LegalRun.{lines_of}
use Rattle.bucket_terms.specs.declared.reply.Placed.{Placed}
use Rattle.request_lines.specs.SessionLaws.{all_requests}
use Rattle.answer_text.specs.Lines.{line_of}
use Rattle.answer_text.specs.Shown.{last_data}
use Rattle.text_laws.specs.WrongLine.{journal_texts, requests_of}
use Rattle.text_laws.specs.WrongParts.{AreAllReplies, IsWrongReply, text_at, last_text}
use Rattle.replay_check.specs.declared.basis.Basis.{Basis}
use Rattle.replay_check.specs.declared.verdict.Verdict.TheVariants.{Legal, Wrong}
use Rattle.replay_check.specs.Judging.{IsVerdict}
use Rattle.replay_check.specs.Looking.{AreMade, HasJournal, IsBasis, against, texts_in}
use Rattle.replay_check.proofs.BasisLaws.{requests_are}
use Rattle.replay_check.proofs.MadeUpdates.{are_made, few_updates}
use Rattle.text_laws.proofs.ReplyPlaces.{first_within}
use Rattle.replay_check.proofs.TextPlaces.{text_there}
use Rattle.text_laws.proofs.GoesOn.{journal_length}

module _ (b : Basis) (j : HasJournal b) where
  few_requests : requests_of (against b).parts ≤ 200000
  few_requests =
      let same = requests_are b.session.now.clients in
      let read = j.read in
      let small = read.small in
      let few : length (all_requests b.session.now.clients) ≤ 200000 = small.requests in
      omega arith

  made : AreMade (against b) b.updates.now
  made = are_made (against b) (journal_texts (against b) (texts_in b)) b.updates.now j.journal

  pub few_told : length b.updates.now ≤ 200000
  few_told = let few = few_updates (against b) b.updates.now made in let all = few_requests in omega arith

  pub basis_is : IsBasis b
  basis_is = record { read = j.read; short = let few = few_told in omega arith; made = made; own = j.own; long = j.long }

  count : length (texts_in b) ≡ length b.lines.now
  count = length-map b.lines.now (λ (line : Bor (List ℕ)). line.now)

  -- the last line, and how many lines there are
  pub last_is : (d : Bor (List ℕ)) → last_text (texts_in b) ≡ (get_or b.lines.now (length b.lines.now - 1) d).now
  last_is d =
      let same = count in
      let long = j.long in
      ap (λ (n : ℕ). text_at (texts_in b) (n - 1)) same ∙ text_there b.lines.now (length b.lines.now - 1) d (omega arith)

  pub lines_are : length b.lines.now ≡ requests_of (against b).parts + length b.updates.now + 1
  lines_are =
      let same = count in
      let long = j.long in
      let journal = journal_length (against b) [] (journal_texts (against b) (texts_in b)) b.updates.now j.journal in
      let cut = journal_count in
      omega arith
    where
      journal_count : length (journal_texts (against b) (texts_in b)) ≡ length (texts_in b) - requests_of (against b).parts - 1
      journal_count = simp (length-take, length-drop) (omega arith)

  pub few_lines : length b.lines.now ≤ 400001
  few_lines = let same = lines_are in let few = few_requests in let told = few_told in omega arith

  pub wrong_few : (place : ℕ) → IsWrongReply (against b) b.updates.now (texts_in b) place → place < 200000
  wrong_few place wrong =
      let is = wrong.place_is in
      let less = slice_get_within (lines_of (against b).parts wrong.client) wrong.number wrong.asked wrong.asked_is in
      let most = first_within (against b).parts wrong.client wrong.within in
      let few = few_requests in
      omega arith

  -- the verdicts
  pub wrong_last : (line : ℕ) → line ≡ length b.lines.now → ¬ (last_text (texts_in b) ≡ line_of (last_data (length b.updates.now))) → IsVerdict (against b) (texts_in b) (Wrong line)
  wrong_last line is wrong = inr (inr (inl (record { long = j.long; updates = b.updates.now; journal = j.journal; wrong = wrong; line_is = is ∙ sym count })))

  module _ (last : last_text (texts_in b) ≡ line_of (last_data (length b.updates.now))) where
    pub wrong_reply : (place : ℕ) → IsWrongReply (against b) b.updates.now (texts_in b) place → IsVerdict (against b) (texts_in b) (Wrong (place + 1))
    wrong_reply place wrong = inr (inr (inr (record { long = j.long; updates = b.updates.now; journal = j.journal; last = last; place = place; wrong = wrong; line_is = refl })))

    pub all_right : (replies : List (List Placed)) → AreAllReplies (against b) b.updates.now (texts_in b) (length (against b).parts) replies → IsVerdict (against b) (texts_in b) Legal
    all_right replies right = record { long = j.long; updates = b.updates.now; journal = j.journal; last = last; replies = replies; replied = right }
