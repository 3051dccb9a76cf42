-- What is found for a request line, by what is known of it.
use Rattle.std.proofs.Common.{◌≡◌, ℕ, suc, ◌+◌, ◌-◌, ◌<◌, ◌≤◌, List, length, Option, Some, None, inl, inr, sym, ap, ◌∙◌, subst, arith}
use Rattle.std.specs.List.{slice_get}
use Rattle.std.proofs.lemmas.Option.{same_Some, none-some}
use Rattle.std.proofs.lemmas.Bool.{cases_lt}
use Rattle.key_map.specs.declared.pair.Pair.{Pair}
use Rattle.key_map.specs.KeyMap.{map_has, after}
use Rattle.bucket_terms.specs.declared.reply.Reply.{Reply}
use Rattle.bucket_terms.specs.LegalRun.{RequestLine, Setting, Answered, IsOf, last_listing}
use Rattle.replay_check.specs.declared.replay.Replay.{Replay}
use Rattle.replay_check.specs.declared.turns.Client.{Client}
use Rattle.replay_check.specs.Answering.{IsOwn, own_reply, IsLook, IsRefusal, IsTheReply}
use Rattle.replay_check.specs.Turns.{KnowsTurn, IsFound, used_before}
use Rattle.replay_check.proofs.Candidates.{own_is, look_is, refusal_is}
use Rattle.replay_check.proofs.Order.{refused_found, elsewhere, too_low, not_above, looked_found, own_found}

module _ (s : Setting) (earlier : List Answered) (asked : RequestLine) (replay : Replay) (client : Client) where
  -- a line with an update is not refused
  pub has_update : (place : ℕ) → KnowsTurn s earlier asked replay (Some place) client → IsFound s earlier asked None None
  has_update place knows =
      elsewhere s knows.rising earlier asked None knows.own_is.0 knows.own_is.1.0 knows.own_is.1.1.1.0 knows.own_is.1.1.1.1 (λ e. none-some _ e)

  pub was_refused : (found : Option Reply) → KnowsTurn s earlier asked replay None client
      → IsRefusal s.dir client.slots client.used client.last asked.request found → IsFound s earlier asked None found
  was_refused found knows refusal =
      let slots : IsRefusal s.dir s.slots client.used client.last asked.request found = subst (λ (n : ℕ). IsRefusal s.dir n client.used client.last asked.request found) knows.slots_is refusal in
      let used = subst (λ (n : ℕ). IsRefusal s.dir s.slots n client.last asked.request found) knows.used_is slots in
      let last = subst (λ (o : Option Reply). IsRefusal s.dir s.slots (used_before s.updates s.client asked) o asked.request found) knows.last_is used in
      refused_found s knows.rising earlier asked found knows.own_is (refusal_is s knows.rising (last_listing earlier) asked.line asked.request found last)

  module _ (at : ℕ) where
    pub below_seen : (own : Option ℕ) → KnowsTurn s earlier asked replay own client → at < client.seen → IsFound s earlier asked (Some at) None
    below_seen own knows low = too_low s knows.rising earlier asked client.seen knows.seen at low

    -- the map is that at the place
    pub was_looked : (found : Option Reply) → KnowsTurn s earlier asked replay None client → client.seen ≤ at → replay.at ≡ at
        → IsLook s.dir replay.map client.last asked.request found → IsFound s earlier asked (Some at) found
    was_looked found knows most here look =
        let within : replay.at ≤ length s.updates = knows.replayed.within in
        let map : replay.map ≡ after s.updates at = knows.replayed.map_is ∙ ap (after s.updates) here in
        let on_map : IsLook s.dir (after s.updates at) client.last asked.request found = subst (λ (m : List Pair). IsLook s.dir m client.last asked.request found) map look in
        let last = subst (λ (o : Option Reply). IsLook s.dir (after s.updates at) o asked.request found) knows.last_is on_map in
        looked_found s knows.rising earlier asked client.seen knows.seen at found (omega arith) most knows.own_is
        (look_is s knows.rising (last_listing earlier) asked.line at knows.own_is asked.request found last)

    -- the line's update stands at the place
    pub was_made : KnowsTurn s earlier asked replay (Some at) client → client.seen < at → replay.at ≡ at
        → IsFound s earlier asked (Some at) (own_reply asked.request replay.was)
    was_made knows less here =
        let i = knows.own_is.0 in
        let u = knows.own_is.1.0 in
        let place : at ≡ i + 1 = knows.own_is.1.1.0 in
        let there : slice_get s.updates i ≡ Some u = knows.own_is.1.1.1.0 in
        let is_of : IsOf s asked.line u = knows.own_is.1.1.1.1 in
        let within : replay.at ≤ length s.updates = knows.replayed.within in
        let before : i ≡ replay.at - 1 = omega arith in
        let was : replay.was ≡ map_has u.key (after s.updates (replay.at - 1)) =
        knows.replayed.was_is u (omega arith) (ap (slice_get s.updates) (sym before) ∙ there) in
        let same_place : replay.at - 1 ≡ suc i - 1 = omega arith in
        let own : IsOwn s asked.line asked.request (suc i) replay.was = record {
          update = u;
          here = there;
          is_of = is_of;
          change = knows.change i u there is_of;
          before = was ∙ ap (λ (k : ℕ). map_has u.key (after s.updates k)) same_place;
        } in
        let next : suc i ≡ at = omega arith in
        own_found s knows.rising earlier asked client.seen knows.seen at (own_reply asked.request replay.was) (omega arith) less
        (λ j v here_v is_v. ap Some (place ∙ ap (λ (k : ℕ). k + 1) (knows.one i j u v there here_v is_of is_v)))
        (subst (λ (k : ℕ). IsTheReply s (last_listing earlier) asked (Some k) (own_reply asked.request replay.was)) next (own_is s knows.rising (last_listing earlier) asked.line asked.request (suc i) replay.was own))

    -- it stands elsewhere, or an answer was seen at the place already
    pub was_not_made : (place : ℕ) → KnowsTurn s earlier asked replay (Some place) client → client.seen ≤ at → (place ≡ at → ¬ (client.seen < at)) → IsFound s earlier asked (Some at) None
    was_not_made place knows most not_it =
        let i = knows.own_is.0 in
        let u = knows.own_is.1.0 in
        let place_is : place ≡ i + 1 = knows.own_is.1.1.0 in
        let there : slice_get s.updates i ≡ Some u = knows.own_is.1.1.1.0 in
        let is_of : IsOf s asked.line u = knows.own_is.1.1.1.1 in
        elim (cases_lt at place) [
          | inl less ↦ elsewhere s knows.rising earlier asked (Some at) i u there is_of (λ e. let same : at ≡ i + 1 = same_Some _ _ e in absurd (omega arith))
          | inr more ↦
              elim (cases_lt place at) [
                | inl less ↦ elsewhere s knows.rising earlier asked (Some at) i u there is_of (λ e. let same : at ≡ i + 1 = same_Some _ _ e in absurd (omega arith))
                | inr least ↦
                    let next : suc i ≡ at = omega arith in
                    elim (cases_lt client.seen at) [
                      | inl below ↦ absurd (not_it (omega arith) below)
                      | inr high ↦
                          subst (λ (k : ℕ). IsFound s earlier asked (Some k) None) next
                          (not_above s knows.rising earlier asked client.seen knows.seen (suc i) u there is_of (omega arith))
                    ]
              ]
        ]
