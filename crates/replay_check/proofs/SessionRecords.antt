-- The records of a session's updates, and of the maps of its history.
use Rattle.std.proofs.Common.{◌≡◌, ℕ, ◌<◌, All, Any, IfSome, List, length, Some, sym, subst}
use Rattle.std.specs.List.{slice_get}
use Rattle.std.proofs.lemmas.Option.{slice_get-get_or}
use Rattle.std.proofs.lemmas.List.Elements.{All-map, All-weaker}
use Rattle.key_map.specs.declared.pair.Pair.{Pair}
use Rattle.key_map.specs.declared.update.Update.{Update}
use Rattle.bucket_terms.specs.declared.request.Request.{Request}
use Rattle.bucket_terms.specs.declared.request.Request.TheVariants.{Put, PutNew, Delete, Head, List as ListRequest, ListV1, Next}
use Rattle.bucket_terms.specs.LegalRun.{RequestLine, IsChangeOf}
use Rattle.request_lines.specs.declared.session.Asked.{Asked}
use Rattle.request_lines.specs.declared.session.ClientPart.{ClientPart}
use Rattle.request_lines.specs.declared.session.Session.{Session}
use Rattle.request_lines.specs.Session.{request_line, request_lines}
use Rattle.request_lines.specs.SessionLaws.{HasRecordBelow, IsServed, record_place}
use Rattle.text_laws.specs.WrongLine.{Checked}
use Rattle.text_laws.specs.WrongParts.{Makes}
use Rattle.replay_check.specs.declared.replay.Replay.{Replay}
use Rattle.replay_check.specs.Replaying.{IsReplayed}
use Rattle.replay_check.specs.Telling.{IsRead, IsOfSession}
use Rattle.replay_check.specs.Looking.{AreMade}
use Rattle.replay_check.proofs.Recorded.{PutsBelow, below_after}
use Rattle.replay_check.proofs.SessionLines.{each_at, part_of, lines_of_part}
use Rattle.replay_check.proofs.UsedBefore.{line_of_update}

puts_below : (count : ℕ) (dir : List (List ℕ)) (u : Update) (request : Request) → IfSome (record_place request) (λ place. place < count) → IsChangeOf dir u request → PutsBelow count u.change
puts_below count dir u (Put name val) below change = subst (PutsBelow count) (sym change.1) below
puts_below count dir u (PutNew name val) below change = subst (PutsBelow count) (sym change.1) below
puts_below count dir u (Delete name) below change = subst (PutsBelow count) (sym change.1) tt
puts_below count dir u (Head name) below change = absurd change
puts_below count dir u (ListRequest query) below change = absurd change
puts_below count dir u (ListV1 query) below change = absurd change
puts_below count dir u Next below change = absurd change

module _ (session : Session) (dir : List (List ℕ)) (read : IsRead session dir) (c : Checked) (of : IsOfSession c session dir) (updates : List Update) (made : AreMade c updates) where
  recorded_line : (client : ℕ) (part : ClientPart) → slice_get session.clients client ≡ Some part → All (HasRecordBelow (length session.records)) (request_lines part)
  recorded_line client part is =
      All-map (HasRecordBelow (length session.records)) request_line part.requests
      (All-weaker (IsServed session.names (length session.records)) (λ (a : Asked). HasRecordBelow (length session.records) (request_line a)) (λ a served. served.place) part.requests
      (each_at (λ (p : ClientPart). All (IsServed session.names (length session.records)) p.requests) session.clients client part read.requests.served is))

  puts : (i : ℕ) (u : Update) → slice_get updates i ≡ Some u → PutsBelow (length session.records) u.change
  puts i u here =
      let m = made.made i u here in
      let found = part_of session dir read c of u.client m.0 in
      let lines = lines_of_part session dir read c of u.client found.0 found.1 in
      let own = line_of_update c.dir u (request_lines found.0) (subst (λ (ls : List RequestLine). Any (Makes c.dir u) ls) lines m.1) in
      let below : HasRecordBelow (length session.records) own.1.0 =
      each_at (HasRecordBelow (length session.records)) (request_lines found.0) own.0 own.1.0 (recorded_line u.client found.0 found.1) own.1.1.0 in
      puts_below (length session.records) c.dir u own.1.0.request below own.1.1.1.1

  all_puts : All (λ (u : Update). PutsBelow (length session.records) u.change) updates
  all_puts i d inside = puts i _ (slice_get-get_or updates i d inside)

  pub recorded_map : (replay : Replay) (at : ℕ) → IsReplayed replay updates at → All (λ (p : Pair). p.val < length session.records) replay.map
  recorded_map replay at replayed =
      subst (λ (m : List Pair). All (λ (p : Pair). p.val < length session.records) m) (sym replayed.map_is) (below_after (length session.records) updates at all_puts)
