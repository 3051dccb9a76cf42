-- What a session that was read gives for the run of its clients.
use Rattle.std.proofs.Common.{◌≡◌, ℕ, All, Contains, IfSome, map, List, Some, subst}
use Rattle.std.specs.List.{slice_get}
use Rattle.std.proofs.lemmas.Option.{slice_get_within, get_or_from_slice_get}
use Rattle.std.proofs.lemmas.List.Elements.{All-map, All-weaker}
use Rattle.key_names.specs.Names.{HoldsEachOnce}
use Rattle.bucket_terms.specs.declared.request.Request.{Request}
use Rattle.bucket_terms.specs.declared.request.Request.TheVariants.{Put, PutNew, Delete, Head, List as ListRequest, ListV1, Next}
use Rattle.request_lines.specs.declared.session.Asked.{Asked}
use Rattle.request_lines.specs.declared.session.ClientPart.{ClientPart}
use Rattle.request_lines.specs.Session.{request_line}
use Rattle.request_lines.specs.SessionLaws.{IsServed, requested_name, IsAskable}

askable_by : (dir names : List (List ℕ)) (request : Request) (line : ℕ) → HoldsEachOnce names dir → IfSome (requested_name request) (Contains names)
    → IsAskable dir (record { line = line; request = request })
askable_by dir names (Put name val) line holds is = holds.all name is
askable_by dir names (PutNew name val) line holds is = holds.all name is
askable_by dir names (Delete name) line holds is = holds.all name is
askable_by dir names (Head name) line holds is = holds.all name is
askable_by dir names (ListRequest query) line holds is = tt
askable_by dir names (ListV1 query) line holds is = tt
askable_by dir names Next line holds is = tt

pub askable : (dir names : List (List ℕ)) (count : ℕ) (asked : List Asked) → HoldsEachOnce names dir → All (IsServed names count) asked → All (IsAskable dir) (map request_line asked)
askable dir names count asked holds served =
    All-map (IsAskable dir) request_line asked
    (All-weaker (IsServed names count) (λ (a : Asked). IsAskable dir (request_line a)) (λ a is. askable_by dir names a.request a.line holds is.name) asked served)

pub served_first : (names : List (List ℕ)) (count : ℕ) (clients : List ClientPart) (part : ClientPart) → slice_get clients 0 ≡ Some part
    → All (λ (p : ClientPart). All (IsServed names count) p.requests) clients → All (IsServed names count) part.requests
served_first names count clients part is served =
    subst (λ (p : ClientPart). All (IsServed names count) p.requests) (get_or_from_slice_get clients 0 part part is) (served 0 part (slice_get_within clients 0 part is))
