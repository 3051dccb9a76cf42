-- What a session gives for the run of its clients.
use Rattle.std.proofs.Common.{◌≡◌, ℕ, ◌<◌, ◌==◌, All, length, map, List, [], ◌∷◌, false, sym, subst, arith}
use Rattle.std.specs.List.{slice_index_or}
use Rattle.std.proofs.lemmas.Bool.Decides.{nat_tests}
use Rattle.std.proofs.lemmas.List.Elements.{All-map, All-weaker}
use Rattle.key_names.specs.Names.{HoldsEachOnce}
use Rattle.request_lines.specs.declared.session.Asked.{Asked}
use Rattle.request_lines.specs.declared.session.ClientPart.{ClientPart}
use Rattle.request_lines.specs.declared.session.Session.{Session}
use Rattle.request_lines.specs.Session.{request_line}
use Rattle.request_lines.specs.SessionLaws.{IsServed, HasRecordBelow, HasRequests, HasLines, IsSmall}
use Rattle.client_run.proofs.Sessions.{askable}
use Rattle.client_threads.specs.Sizes.{CanServe}

recorded_below : (names : List (List ℕ)) (count : ℕ) (asked : List Asked) → All (IsServed names count) asked → All (HasRecordBelow count) (map request_line asked)
recorded_below names count asked served =
    All-map (HasRecordBelow count) request_line asked (All-weaker (IsServed names count) (λ (a : Asked). HasRecordBelow count (request_line a)) (λ a is. is.place) asked served)

-- the session can be run once its names are taken out, which are the directory's
pub can_serve : (session taken : Session) (dir : List (List ℕ)) → taken ≡ record session { names = [] } → 0 < length session.clients → HoldsEachOnce session.names dir
    → HasRequests session → HasLines session → IsSmall session → CanServe dir taken
can_serve session taken dir is some holds requests lines small = subst (CanServe dir) (sym is) (record {
  few = record { some = some; few = small.clients; requests = small.requests };
  askable = λ c d lt. askable dir session.names (length session.records) (slice_index_or session.clients c d).requests holds (requests.served c d lt);
  rising = lines.rising;
  recorded = λ c d lt. recorded_below session.names (length session.records) (slice_index_or session.clients c d).requests (requests.served c d lt);
})

pub some_client : (clients : List ClientPart) → (length clients == 0) ≡ false → 0 < length clients
some_client [] is = absurd (grind (arith, nat_tests))
some_client (p ∷ ps) is = omega arith
