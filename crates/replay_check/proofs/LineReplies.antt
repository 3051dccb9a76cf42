-- What a reply line says, and which reply is found for it.
use Rattle.std.proofs.Common.{◌≡◌, ℕ, ◌^◌, ◌<◌, List, ◌∷◌, ◌++◌, length, Option, Some, None, IfSome, refl, sym, ap, ◌∙◌, subst}
use Rattle.std.specs.Option.{unwrap_or, IsSome}
use Rattle.std.proofs.lemmas.Bool.{false≢true}
use Rattle.key_names.specs.Names.{Rises}
use Rattle.key_map.specs.declared.update.Update.{Update}
use Rattle.bucket_terms.specs.declared.record.Record.{Record}
use Rattle.bucket_terms.specs.declared.reply.Reply.{Reply}
use Rattle.bucket_terms.specs.declared.reply.Placed.{Placed}
use Rattle.bucket_terms.specs.LegalRun.{RequestLine, Answered}
use Rattle.answer_text.specs.Lines.{line_of, reply_data}
use Rattle.answer_text.specs.Pieces.{place_text}
use Rattle.text_laws.specs.WrongLine.{Checked, IsReplyLine, setting}
use Rattle.text_laws.proofs.Spelled.{line_begins}
use Rattle.text_laws.proofs.OneReply.{one_answer, small_place}
use Rattle.replay_check.specs.declared.turns.Client.{Client}
use Rattle.replay_check.specs.Turns.{IsFound, placed_at}
use Rattle.replay_check.specs.Looking.{IsLookedAt, IsDue}

-- what a text shows as its place
abbrev pub Shows : List ℕ → Option ℕ → Type 0
Shows text at = (o : Option ℕ) (rest : List ℕ) → IfSome o (λ n. n < 2 ^ 64) → text ≡ place_text o ++ 44 ∷ rest → at ≡ o

apart : (o : Option ℕ) (seen place : ℕ) → IsSome o → IfSome o (λ n. ¬ (place ≡ n)) → ¬ (place ≡ unwrap_or o seen)
apart None seen place some other = absurd (false≢true some)
apart (Some n) seen place some other = other

module _ (c : Checked) (updates : List Update) (number : ℕ) (earlier : List Answered) (asked : RequestLine) (text : List ℕ) (short : length updates < 2 ^ 64)
    (at : Option ℕ) (shows : Shows text at) where
  -- a right line shows the place of its reply
  read_place : (placed : Placed) → IsReplyLine c updates number earlier asked text placed → at ≡ placed.at
  read_place placed line =
      let begins = line_begins c.dir c.records placed in
      shows placed.at begins.0 (small_place (setting c updates number) earlier asked.line placed.at short line.answered.order) (line.text_is ∙ begins.1)

  -- it shows another place than the one at which it is due
  pub shown_elsewhere : (client : Client) (place : ℕ) → IsDue c updates number earlier asked text client → client.due ≡ place
      → IsSome at → IfSome at (λ n. ¬ (place ≡ n)) → IsLookedAt c updates number earlier asked text None
  shown_elsewhere client place due here some other = λ placed line.
      apart at client.seen place some other (sym here ∙ due placed line ∙ ap (λ (o : Option ℕ). unwrap_or o client.seen) (sym (read_place placed line)))

  -- no reply is fit at the place
  pub none_fit : IsFound (setting c updates number) earlier asked at None → IsLookedAt c updates number earlier asked text None
  none_fit none = λ placed line. none placed (sym (read_place placed line)) (record { answered = line.answered; own = line.own })

  module _ (rising : Rises c.dir) (reply : Reply) (fit : IsFound (setting c updates number) earlier asked at (Some reply)) where
    abbrev the_reply : Placed
    the_reply = placed_at (setting c updates number) asked at reply

    -- the text is the line of the fit reply, or of none
    module _ (dir : List (List ℕ)) (records : List Record) (dir_is : c.dir ≡ dir) (records_is : c.records ≡ records) where
      line_is : line_of (reply_data c.dir c.records the_reply) ≡ line_of (reply_data dir records the_reply)
      line_is =
          ap (λ (d : List (List ℕ)). line_of (reply_data d c.records the_reply)) dir_is
          ∙ ap (λ (r : List Record). line_of (reply_data dir r the_reply)) records_is

      pub told_is : (found : Option Placed) → IfSome found (λ same. (same ≡ the_reply) × (text ≡ line_of (reply_data dir records the_reply)))
          → (found ≡ None → ¬ (text ≡ line_of (reply_data dir records the_reply))) → IsLookedAt c updates number earlier asked text found
      told_is None some none = λ placed line.
          let same : placed ≡ the_reply =
          one_answer (setting c updates number) earlier asked placed the_reply rising line.answered fit.answered (sym (read_place placed line)) in
          none refl (line.text_is ∙ ap (λ (p : Placed). line_of (reply_data c.dir c.records p)) same ∙ line_is)
      told_is (Some same) some none =
          subst (IsReplyLine c updates number earlier asked text) (sym some.0) (record { answered = fit.answered; own = fit.own; text_is = some.1 ∙ sym line_is })
