-- A session's sizes fit a table.
use Rattle.std.proofs.Common.{◌≡◌, ℕ, ◌+◌, ◌*◌, ◌≤◌, All, length, List, [], ◌∷◌, Option, Some, None, ap, ◌∙◌, arith, length-append}
use Rattle.std.proofs.lemmas.List.{length-map}
use Rattle.std.proofs.lemmas.List.Concat.{flat_map-cons}
use Rattle.std.proofs.lemmas.List.Elements.{All-cons, All-map}
use Rattle.std.proofs.lemmas.List.Sums.{sum_by-cons, count_by-le-length}
use Rattle.key_map.specs.declared.pass.PassSize.{PassSize}
use Rattle.index_words.specs.Sizes.{FitTable, IsPassSize, all_nodes, all_entries, all_calls}
use Rattle.bucket_terms.specs.LegalRun.{RequestLine, is_update}
use Rattle.bucket_terms.specs.RunParts.{updates_in}
use Rattle.request_lines.specs.declared.session.ClientPart.{ClientPart}
use Rattle.request_lines.specs.Session.{request_line, request_lines}
use Rattle.request_lines.specs.SessionLaws.{all_requests}
use Rattle.client_threads.specs.ClientSlots.{IsNamable}
use Rattle.client_threads.specs.Sizes.{AreFew, size_of, sizes_of}

-- a client has at most as many PUT, PUTNEW and DELETE lines as requests
updates_few : (part : ClientPart) → updates_in (request_lines part) ≤ length part.requests
updates_few part = omega (arith, count_by-le-length (λ (l : RequestLine). is_update l.request) (request_lines part), length-map part.requests request_line)

requests_cons : (part : ClientPart) (clients : List ClientPart) → length (all_requests (part ∷ clients)) ≡ length part.requests + length (all_requests clients)
requests_cons part clients = ap length (flat_map-cons (λ (p : ClientPart). p.requests) part clients) ∙ length-append part.requests (all_requests clients)

-- each part's requests are among all
pub part_few : (limit : ℕ) (clients : List ClientPart) → length (all_requests clients) ≤ limit → All (λ (part : ClientPart). length part.requests ≤ limit) clients
part_few limit [] few = λ k d below. absurd (omega arith)
part_few limit (part ∷ clients) few =
    let both = requests_cons part clients in
    All-cons (λ (p : ClientPart). length p.requests ≤ limit) part clients (omega arith) (part_few limit clients (omega arith))

nodes_few : (clients : List ClientPart) → all_nodes (sizes_of None clients) ≤ length (all_requests clients) + length clients
nodes_few [] = omega arith
nodes_few (part ∷ clients) =
    omega (arith, nodes_few clients, updates_few part, requests_cons part clients, sum_by-cons (λ (s : PassSize). s.nodes) (size_of None part) (sizes_of None clients))

entries_few : (clients : List ClientPart) → all_entries (sizes_of None clients) ≤ 4 * (length (all_requests clients) + length clients)
entries_few [] = omega arith
entries_few (part ∷ clients) =
    omega (arith, entries_few clients, updates_few part, requests_cons part clients, sum_by-cons (λ (s : PassSize). s.entries) (size_of None part) (sizes_of None clients))

-- with a named number each client has as many
nodes_named : (n : ℕ) (clients : List ClientPart) → n ≤ 8192 → all_nodes (sizes_of (Some n) clients) ≤ 8192 * length clients
nodes_named n [] most = omega arith
nodes_named n (part ∷ clients) most =
    omega (arith, nodes_named n clients most, most, sum_by-cons (λ (s : PassSize). s.nodes) (size_of (Some n) part) (sizes_of (Some n) clients))

entries_named : (n : ℕ) (clients : List ClientPart) → n ≤ 8192 → all_entries (sizes_of (Some n) clients) ≤ 32768 * length clients
entries_named n [] most = omega arith
entries_named n (part ∷ clients) most =
    omega (arith, entries_named n clients most, most, sum_by-cons (λ (s : PassSize). s.entries) (size_of (Some n) part) (sizes_of (Some n) clients))

calls_few : (named : Option ℕ) (clients : List ClientPart) → all_calls (sizes_of named clients) ≤ length (all_requests clients)
calls_few named [] = omega arith
calls_few named (part ∷ clients) =
    omega (
      arith,
      calls_few named clients,
      updates_few part,
      requests_cons part clients,
      sum_by-cons (λ (s : PassSize). s.calls) (size_of named part) (sizes_of named clients),
    )

sizes_each : (named : Option ℕ) (clients : List ClientPart) → IsNamable named → All IsPassSize (sizes_of named clients)
sizes_each None clients may = All-map IsPassSize (size_of None) clients (λ k d below. (omega arith, omega arith))
sizes_each (Some n) clients may = All-map IsPassSize (size_of (Some n)) clients (λ k d below. (omega (arith, may), omega (arith, may)))

fit_within : (named : Option ℕ) (clients : List ClientPart) → IsNamable named → AreFew clients → all_nodes (sizes_of named clients) ≤ 262144 → all_entries (sizes_of named clients) ≤ 1048576
    → FitTable (sizes_of named clients)
fit_within named clients may few nodes entries =
    let count = length-map clients (size_of named) in
    let requests : length (all_requests clients) ≤ 200000 = few.requests in
    let clients_few : length clients ≤ 32 = few.few in
    let calls = calls_few named clients in
    record {
      some = omega (arith, few.some);
      few = omega arith;
      each = sizes_each named clients may;
      nodes = nodes;
      entries = entries;
      calls = omega arith;
    }

pub fit : (named : Option ℕ) (clients : List ClientPart) → IsNamable named → AreFew clients → FitTable (sizes_of named clients)
fit None clients may few =
    let requests : length (all_requests clients) ≤ 200000 = few.requests in
    let clients_few : length clients ≤ 32 = few.few in
    let nodes = nodes_few clients in
    let entries = entries_few clients in
    fit_within None clients may few (omega arith) (omega arith)
fit (Some n) clients may few =
    let clients_few : length clients ≤ 32 = few.few in
    let nodes = nodes_named n clients may.1 in
    let entries = entries_named n clients may.1 in
    fit_within (Some n) clients may few (omega arith) (omega arith)
