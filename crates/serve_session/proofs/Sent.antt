-- Members that were sent one after the other make the object.
use Rattle.std.proofs.Common.{◌≡◌, ℕ, List, [], ◌∷◌, Option, Some, None, subst}
use Rattle.serde.specs.Event.{Log, Logs, map_begins, map_ends}
use Rattle.serde_json.specs.Events.{members_len, SendsValue, SendsMembers}
use Rattle.answer_text.specs.Lines.{Member, members_there, object_of}
use Rattle.serve_session.specs.Sending.{SendsAll}

pub members_sent : (ms : List (Option Member)) (old last new : Log) → SendsAll ms old last → Logs last new map_ends → SendsMembers (members_there ms) old new
members_sent [] old last new sent ended = subst (λ l. Logs l new map_ends) sent ended
members_sent (Some m ∷ ms) old last new sent ended =
    (sent.1.0, sent.0, sent.1.1, sent.1.2, members_sent ms sent.0 last new sent.2 ended)
members_sent (None ∷ ms) old last new sent ended =
    subst (λ l. SendsMembers (members_there ms) l new) sent.1 (members_sent ms sent.0 last new sent.2 ended)

-- the members between the two ends, with their true number
pub object_sent : (ms : List (Option Member)) (n : ℕ) (old first last new : Log) → n ≡ members_len (members_there ms)
    → Logs old first (map_begins (Some n)) → SendsAll ms first last → Logs last new map_ends → SendsValue (object_of ms) old new
object_sent ms n old first last new count begun sent ended =
    (first, subst (λ k. Logs old first (map_begins (Some k))) count begun, members_sent ms first last new sent ended)
