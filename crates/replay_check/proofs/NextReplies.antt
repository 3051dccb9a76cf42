-- What is found of a client's next line.
use Rattle.std.proofs.Common.{◌≡◌, ℕ, ◌^◌, ◌<◌, List, length, Option, Some, refl, sym, ◌∙◌, subst}
use Rattle.std.specs.List.{slice_get}
use Rattle.std.proofs.lemmas.Option.{same_Some}
use Rattle.key_map.specs.declared.update.Update.{Update}
use Rattle.bucket_terms.specs.declared.record.Record.{Record}
use Rattle.bucket_terms.specs.declared.reply.Placed.{Placed}
use Rattle.bucket_terms.specs.LegalRun.{RequestLine, Answered, lines_of}
use Rattle.text_laws.specs.WrongLine.{Checked, setting, reply_texts}
use Rattle.text_laws.specs.WrongParts.{text_at}
use Rattle.replay_check.specs.declared.basis.Basis.{Basis}
use Rattle.replay_check.specs.declared.replay.Replay.{Replay}
use Rattle.replay_check.specs.declared.turns.Client.{Client}
use Rattle.replay_check.specs.Replaying.{IsReplayed}
use Rattle.replay_check.specs.Own.{history_of}
use Rattle.replay_check.specs.Turns.{KnowsTurn, IsOwnPlace}
use Rattle.replay_check.specs.Looking.{IsBasis, IsLookedAt, IsDue, IsNextFound, against, answers_of, texts_in}
use Rattle.replay_check.proofs.NextLines.{knows_turn}
use Rattle.replay_check.proofs.BasisLaws.{names_rise, short_64, inside, lines_rise}

module _ (b : Basis) (basis : IsBasis b) (number : ℕ) (within : number < length b.session.now.clients) (client : Client) (replay : Replay) (asked : RequestLine) (own : Option ℕ) (text : List ℕ)
    (there : slice_get (lines_of (against b).parts number) client.next ≡ Some asked) (text_is : text_at (reply_texts (against b) (texts_in b) number) client.next ≡ text)
    (is : IsOwnPlace (history_of b.updates.now number) asked.line own) (replayed : IsReplayed replay b.updates.now replay.at) (here : client.due ≡ replay.at) where
  -- what one look finds is what is found of the client's next line
  pub found_next : (records : List Record) (found : Option Placed) → b.session.now.records ≡ records
      → ((c : Checked) (updates : List Update) (earlier : List Answered) → c.dir ≡ b.dir.now → c.records ≡ records → client.due ≡ replay.at
      → IsDue c updates number earlier asked text client → length updates < 2 ^ 64 → KnowsTurn (setting c updates number) earlier asked replay own client
      → IsLookedAt c updates number earlier asked text found)
      → IsNextFound b number client found
  found_next records found records_is looked = λ other come asks.
      let c = against b in
      let updates = b.updates.now in
      let same : asked ≡ other = same_Some asked other (sym there ∙ asks) in
      let due : IsDue c updates number (answers_of come) asked text client =
      subst (λ (t : List ℕ). IsDue c updates number (answers_of come) asked t client) text_is (come.due asked there) in
      let knows : KnowsTurn (setting c updates number) (answers_of come) asked replay own client =
      knows_turn c updates (texts_in b) number (short_64 b basis) basis.made (lines_rise b basis number within) basis.long (inside b basis number within)
      client come asked own replay (names_rise b basis) there is replayed in
      let found_here : IsLookedAt c updates number (answers_of come) asked text found = looked c updates (answers_of come) refl records_is here due (short_64 b basis) knows in
      subst (λ (l : RequestLine). IsLookedAt c updates number (answers_of come) l (text_at (reply_texts c (texts_in b) number) client.next) found) same
      (subst (λ (t : List ℕ). IsLookedAt c updates number (answers_of come) asked t found) (sym text_is) found_here)
