-- The generated session: how many names and records its first requests have, the names by their places, and what
-- holds of the whole.
use Rattle.std.proofs.Common.{◌≡◌, ℕ, zero, suc, ◌+◌, ◌*◌, ◌%◌, ◌<◌, ◌≤◌, List, [], ◌∷◌, ◌++◌, length, get_or, codes, Result, Ok, Err, refl, ap, ap₂, sym, subst, ◌∙◌, arith, inl, inr, append_assoc, length-append, add-one}
use Rattle.std.specs.Prelude.{◌==◌, IfOk, OnOk}
use Rattle.std.specs.Fmt.{decimal}
use Rattle.std.proofs.lemmas.Bool.{cases_Bool}
use Rattle.std.proofs.lemmas.Bool.Decides.{nat_tests}
use Rattle.std.proofs.lemmas.List.{get_or_append_left, get_or_default, get_or_push, length_push}
use Rattle.bucket_terms.specs.declared.record.Record.{Record}
use Rattle.key_names.specs.Names.{name_at}
use Rattle.key_names.specs.declared.no_memory.NoMemory.{NoMemory}
use Rattle.bucket_terms.specs.declared.request.Request.{Request}
use Rattle.request_lines.specs.declared.session.Asked.{Asked}
use Rattle.request_lines.specs.declared.session.ClientPart.{ClientPart}
use Rattle.request_lines.specs.declared.session.Session.{Session}
use Rattle.request_lines.specs.Generated.{first_names}
use Rattle.request_lines.specs.Input.{IsSessionOf}
use Rattle.request_lines.specs.Sample.{four_digits, sample_name, sample_text}
use Rattle.request_lines.specs.SampleSession.{one_if_put, sample_puts, sample_request, sample_requests, sample_named, sample_recorded, sample_names, sample_records, sample_clients_parts, sample_clients_names, sample_clients_records, sample_session}
use Rattle.request_lines.proofs.SampleWalk.{sample_read, sample_sound}
use Rattle.request_lines.proofs.Sound.{IsSoundSession}

-- ---- counts

recorded_count : (i : ℕ) → length (sample_recorded i) ≡ one_if_put i
unfolding sample_recorded one_if_put
recorded_count i = elim (cases_Bool (i % 4 == 2)) [
  | inl two ↦ rw two refl
  | inr other ↦ elim (cases_Bool (i % 4 == 3)) [ inl three ↦ rw (other, three) refl | inr neither ↦ rw (other, neither) refl ]
]

pub records_count : (i : ℕ) → length (sample_records i) ≡ sample_puts i
records_count zero = refl
records_count (suc i) = omega (arith, length-append (sample_records i) (sample_recorded i), records_count i, recorded_count i)

next_times : (client x : ℕ) → client < 4 → suc client * x ≡ client * x + x
next_times zero x below = omega arith
next_times (suc zero) x below = omega arith
next_times (suc (suc zero)) x below = omega arith
next_times (suc (suc (suc zero))) x below = omega arith
next_times (suc (suc (suc (suc client)))) x below = absurd (omega arith)

pub clients_records_count : (n client : ℕ) → client ≤ 4 → length (sample_clients_records n client) ≡ client * sample_puts n
clients_records_count n zero few = omega arith
clients_records_count n (suc client) few =
    omega (arith, length-append (sample_clients_records n client) (sample_records n), clients_records_count n client (omega arith), records_count n, next_times client (sample_puts n) (omega arith))

named_few : (client i : ℕ) → length (sample_named client i) ≤ 1
unfolding sample_named
named_few client i = elim (cases_Bool (i % 4 == 2)) [
  | inl two ↦ rw two (omega arith)
  | inr other ↦ elim (cases_Bool (i % 4 == 3)) [ inl three ↦ rw (other, three) (omega arith) | inr neither ↦ rw (other, neither) (omega arith) ]
]

names_few : (client i : ℕ) → length (sample_names client i) ≤ i
names_few client zero = omega arith
names_few client (suc i) = omega (arith, length-append (sample_names client i) (sample_named client i), names_few client i, named_few client i)

pub clients_names_few : (n : ℕ) → n ≤ 40000 → length (sample_clients_names n 4) ≤ 160000
clients_names_few n most =
    let one = length-append (sample_clients_names n 0) (sample_names 0 n) in
    let two = length-append (sample_clients_names n 1) (sample_names 1 n) in
    let three = length-append (sample_clients_names n 2) (sample_names 2 n) in
    let four = length-append (sample_clients_names n 3) (sample_names 3 n) in
    omega (arith, one, two, three, four, names_few 0 n, names_few 1 n, names_few 2 n, names_few 3 n)

-- ---- one more request

pub requests_more : (n client i : ℕ) (front : List Asked) (request : Request) → front ≡ sample_requests n client i
    → request ≡ sample_request (client * sample_puts n + sample_puts i) client i
    → front ++ record { line = client * (n + 1) + 2 + i; request = request } ∷ [] ≡ sample_requests n client (i + 1)
requests_more n client i front request before is =
    let next : suc i ≡ i + 1 = omega arith in
    ap₂ (λ (asked : List Asked) (r : Request). asked ++ record { line = client * (n + 1) + 2 + i; request = r } ∷ []) before is ∙ ap (sample_requests n client) next

pub names_more : (client i : ℕ) (old front : List (List ℕ)) → front ≡ old ++ sample_names client i → front ++ sample_named client i ≡ old ++ sample_names client (i + 1)
names_more client i old front before =
    ap (λ (names : List (List ℕ)). names ++ sample_named client i) before ∙ append_assoc old (sample_names client i) (sample_named client i) ∙ rw add-one refl

pub records_more : (i : ℕ) (old front : List Record) → front ≡ old ++ sample_records i → front ++ sample_recorded i ≡ old ++ sample_records (i + 1)
records_more i old front before =
    ap (λ (records : List Record). records ++ sample_recorded i) before ∙ append_assoc old (sample_records i) (sample_recorded i) ∙ rw add-one refl

-- the place of the next record
pub place_is : (n client i : ℕ) (old front : List Record) → length old ≡ client * sample_puts n → front ≡ old ++ sample_records i
    → length front ≡ client * sample_puts n + sample_puts i
place_is n client i old front before is = ap length is ∙ length-append old (sample_records i) ∙ ap₂ (λ (a b : ℕ). a + b) before (records_count i)

-- ---- names

length-first_names : (client count : ℕ) → length (first_names client count) ≡ count
length-first_names client zero = refl
length-first_names client (suc i) = omega (arith, length_push (first_names client i) (sample_name client i), length-first_names client i)

pub first_count : (client i : ℕ) (names : List (List ℕ)) → names ≡ first_names client i → length names ≡ i
first_count client i names are = ap length are ∙ length-first_names client i

pub first_by_count : (client i : ℕ) (names : List (List ℕ)) → names ≡ first_names client i → names ≡ first_names client (length names)
first_by_count client i names are = are ∙ ap (first_names client) (sym (first_count client i names are))

name_there : (client count place : ℕ) → place < count → name_at (first_names client count) place ≡ sample_name client place
name_there client zero place below = absurd (omega arith)
name_there client (suc i) place below =
    elim (cases_Bool (place == i)) [
      | inl last ↦
          let is : i ≡ place = grind (arith, nat_tests) in
          subst (λ k. name_at (first_names client (suc i)) k ≡ sample_name client k) is
          (get_or_push (first_names client i) (sample_name client i) [] i (length-first_names client i))
      | inr other ↦
          let before : place < i = grind (arith, nat_tests) in
          get_or_append_left (first_names client i) (sample_name client i ∷ []) [] place (omega (arith, length-first_names client i, before))
          ∙ name_there client i place before
    ]

-- names come again
again : (client i : ℕ) → sample_name client (i % 1001) ≡ sample_name client i
again client i =
    let same : 389 * (i % 1001) % 1001 ≡ 389 * i % 1001 = omega arith in
    ap (λ x. codes "s" ++ decimal client ++ codes "/" ++ four_digits x) same

pub drawn : (client i : ℕ) (names : List (List ℕ)) (d : List ℕ) → names ≡ first_names client (length names) → i % 1001 < length names
    → get_or names (i % 1001) d ≡ sample_name client i
drawn client i names d are below =
    get_or_default names (i % 1001) d [] below ∙ ap (λ (ns : List (List ℕ)). name_at ns (i % 1001)) are ∙ name_there client (length names) (i % 1001) below ∙ again client i

-- ---- the session

-- a session of these parts, names and records of all clients
pub sound_parts : (n client : ℕ) (r : Result Session NoMemory) (parts : List ClientPart) (names : List (List ℕ)) (records : List Record) → n ≤ 40000 → client ≡ 4
    → IfOk r (λ s. s.clients ≡ parts) → parts ≡ sample_clients_parts n client → IfOk r (λ s. s.names ≡ names) → names ≡ sample_clients_names n client
    → IfOk r (λ s. s.records ≡ records) → records ≡ sample_clients_records n client → IfOk r IsSoundSession
sound_parts n client (Ok s) parts names records most all are_parts of_parts are_names of_names are_records of_records =
    let clients : s.clients ≡ sample_clients_parts n 4 = are_parts ∙ of_parts ∙ ap (sample_clients_parts n) all in
    let named : s.names ≡ sample_clients_names n 4 = are_names ∙ of_names ∙ ap (sample_clients_names n) all in
    let stored : s.records ≡ sample_clients_records n 4 = are_records ∙ of_records ∙ ap (sample_clients_records n) all in
    let is : s ≡ sample_session n =
    ap (λ (x : List ClientPart). record { clients = x; names = s.names; records = s.records }) clients
    ∙ ap (λ (x : List (List ℕ)). record { clients = sample_clients_parts n 4; names = x; records = s.records }) named
    ∙ ap (λ (x : List Record). record { clients = sample_clients_parts n 4; names = sample_clients_names n 4; records = x }) stored in
    subst IsSoundSession (sym is) (sample_sound n most)
sound_parts n client (Err e) parts names records most all are_parts of_parts are_names of_names are_records of_records = tt

-- and it is that of the text
pub text_read : (n : ℕ) (r : Result Session NoMemory) → n ≤ 40000 → OnOk r (IsSessionOf (sample_text n) (sample_session n))
text_read n (Ok s) most = sample_read n (sample_text n) most refl
text_read n (Err e) most = tt
