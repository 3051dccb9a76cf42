-- Helper: the headline does not rest on this file.
-- What is known of a client while its reply lines are looked at.
use Rattle.std.specs.Prelude.{◌≡◌, ℕ, ◌+◌, ◌≤◌, ◌==◌, ◌&&◌, nat_lt, List, All, Option, Some, None, IfSome, MatchOption, slice_get}
use Rattle.std.specs.List.{count_by}
use Rattle.key_map.specs.declared.update.Update.{Update}
use Rattle.bucket_terms.specs.declared.reply.Reply.{Reply}
use Rattle.bucket_terms.specs.declared.reply.Placed.{Placed}
use Rattle.bucket_terms.specs.LegalRun.{RequestLine, Setting, Answered, IsOf, IsChangeOf, IsAnswered, MakesNone, last_listing}
use Rattle.key_names.specs.Names.{Rises}
use Rattle.replay_check.specs.declared.replay.Replay.{Replay}
use Rattle.replay_check.specs.declared.turns.Client.{Client}
use Rattle.replay_check.specs.Replaying.{IsReplayed}

-- the place of the line's update in the history, counted from 1, or None if it has none
abbrev pub IsOwnPlace : Setting → ℕ → Option ℕ → Type 0
IsOwnPlace s line None = MakesNone s line
IsOwnPlace s line (Some place) = (i : ℕ) × ((u : Update) × ((place ≡ i + 1) × ((slice_get s.updates i ≡ Some u) × IsOf s line u)))

-- how many updates the client's lines before this one have
abbrev pub used_before : List Update → ℕ → RequestLine → ℕ
used_before updates client l = count_by (λ (u : Update). (u.client == client) && nat_lt u.line l.line) updates

-- the greatest place of these answers, or 0: a number is at least all of their places exactly if it is at least this
-- one
pub record HasSeen (earlier : List Answered) (seen : ℕ) : Type 0 where
  pub upto : All (λ (a : Answered). IfSome a.placed.at (λ place. place ≤ seen)) earlier
  pub least : (at : ℕ) → All (λ (a : Answered). IfSome a.placed.at (λ place. place ≤ at)) earlier → seen ≤ at

-- the reply is right for the request after these answers, and stands at the place of the line's update, if it has
-- one
pub record IsFit (s : Setting) (earlier : List Answered) (asked : RequestLine) (placed : Placed) : Type 0 where
  pub answered : IsAnswered s earlier asked placed
  pub own : (i : ℕ) (u : Update) → slice_get s.updates i ≡ Some u → IsOf s asked.line u → placed.at ≡ Some (i + 1)

abbrev pub placed_at : Setting → RequestLine → Option ℕ → Reply → Placed
placed_at s asked at reply = record { client = s.client; line = asked.line; at = at; reply = reply }

-- what is found at a place, or without one, is fit, and where nothing is found no reply there is fit
abbrev pub IsFound : Setting → List Answered → RequestLine → Option ℕ → Option Reply → Type 0
IsFound s earlier asked at found =
    MatchOption found ((placed : Placed) → placed.at ≡ at → ¬ (IsFit s earlier asked placed)) (λ reply. IsFit s earlier asked (placed_at s asked at reply))

-- what is known of a request line when its reply is looked for: its update, how many updates its client's earlier lines
-- have, the greatest place of the client's answers, the reply of its last listing, and the map at the place
pub record KnowsTurn (s : Setting) (earlier : List Answered) (asked : RequestLine) (replay : Replay) (own : Option ℕ) (client : Client) : Type 0 where
  pub rising : Rises s.dir
  pub own_is : IsOwnPlace s asked.line own
  pub one : (i j : ℕ) (u v : Update) → slice_get s.updates i ≡ Some u → slice_get s.updates j ≡ Some v → IsOf s asked.line u → IsOf s asked.line v → i ≡ j
  pub change : (i : ℕ) (u : Update) → slice_get s.updates i ≡ Some u → IsOf s asked.line u → IsChangeOf s.dir u asked.request
  pub slots_is : client.slots ≡ s.slots
  pub used_is : client.used ≡ used_before s.updates s.client asked
  pub seen : HasSeen earlier client.seen
  pub last_is : client.last ≡ last_listing earlier
  pub replayed : IsReplayed replay s.updates replay.at
