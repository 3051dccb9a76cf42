-- What holds of what is kept of the lines so far, at the start and at the end.
use Rattle.std.proofs.Common.{◌≡◌, ℕ, ◌+◌, ◌^◌, ◌<◌, ◌≤◌, Bool, true, false, List, [], ◌∷◌, ◌++◌, length, map, Option, Some, None, Result, Ok, Err, refl, ap, sym, ◌∙◌, inl, inr, arith, length-append}
use Rattle.std.specs.Prelude.{All, Contains, IfSome, IfOk, ◌==◌, if◌then◌else◌}
use Rattle.std.specs.List.{filter_map, cons_option, range_with_len}
use Rattle.std.proofs.lemmas.Bool.{cases_Bool}
use Rattle.std.proofs.lemmas.Bool.Decides.{nat_tests}
use Rattle.std.proofs.lemmas.List.{append-nil}
use Rattle.std.proofs.lemmas.Grind.{flat_map-append}
use Rattle.std.proofs.lemmas.List.Elements.{All-nil, All-push, All-weaker, Contains-append_left}
use Rattle.key_names.specs.Names.{IsFine}
use Rattle.bucket_terms.specs.LegalRun.{RequestLine}
use Rattle.bucket_terms.specs.declared.request.Request.{Request}
use Rattle.request_lines.specs.declared.session.Asked.{Asked}
use Rattle.request_lines.specs.declared.session.ClientPart.{ClientPart}
use Rattle.request_lines.specs.declared.session.Session.{Session}
use Rattle.request_lines.specs.declared.session_error.SessionError.{SessionError}
use Rattle.request_lines.specs.Counting.{IsWithin}
use Rattle.request_lines.specs.InputParts.{most_clients, most_requests}
use Rattle.request_lines.specs.Reading.{Progress, no_progress, all_ended}
use Rattle.request_lines.specs.Session.{request_line, request_lines}
use Rattle.request_lines.specs.SessionLaws.{all_requests, asked_name, asked_place, HasNames, HasRecords, IsServed, HasRequests, Rise, HasLineNumber, HasLines, IsSmall}
use Rattle.request_lines.proofs.Rising.{LinesRise, rise_of, numbers_of}

-- what all clients have asked so far
abbrev pub asked_so_far : Progress → List Asked
asked_so_far p = all_requests p.ended ++ p.current

abbrev pub IsPartServed : List (List ℕ) → ℕ → ClientPart → Type 0
IsPartServed names records part = All (IsServed names records) part.requests

abbrev IsPartRising : ClientPart → Type 0
IsPartRising part = LinesRise 0 (2 ^ 32) (request_lines part)

-- what is kept of lines below this number
pub record IsSound (p : Progress) (number : ℕ) : Type 0 where
  pub begun : p.counts.clients ≡ 0 → (p.ended ≡ []) × (p.current ≡ [])
  pub clients : 0 < p.counts.clients → length p.ended + 1 ≡ p.counts.clients
  pub requests : length (asked_so_far p) ≡ p.counts.requests
  pub puts : length p.records ≡ p.counts.puts
  pub names : p.names ≡ filter_map asked_name (asked_so_far p)
  pub fine : All IsFine p.names
  pub places : filter_map asked_place (asked_so_far p) ≡ range_with_len 0 (length p.records)
  pub ended_served : All (IsPartServed p.names (length p.records)) p.ended
  pub served : All (IsServed p.names (length p.records)) p.current
  pub ended_rising : All IsPartRising p.ended
  pub rising : LinesRise 0 number (map request_line p.current)

pub sound_start : IsSound no_progress 1
sound_start = record {
  begun = λ none. (refl, refl);
  clients = λ some. absurd (omega arith);
  requests = refl;
  puts = refl;
  names = refl;
  places = refl;
  fine = All-nil IsFine;
  ended_served = All-nil (IsPartServed [] 0);
  served = All-nil (IsServed [] 0);
  ended_rising = All-nil IsPartRising;
  rising = tt;
}

-- lines that rise below a number rise below a higher one, and with it at their end
pub rises_higher : (low high higher : ℕ) (lines : List RequestLine) → high ≤ higher → LinesRise low high lines → LinesRise low higher lines
rises_higher low high higher [] below rising = tt
rises_higher low high higher (l ∷ lines) below rising = (rising.0, omega (arith, rising.1), rises_higher l.line high higher lines below rising.2)

pub rises_push : (low number : ℕ) (lines : List RequestLine) (request : Request) → low < number → LinesRise low number lines
    → LinesRise low (number + 1) (lines ++ record { line = number; request = request } ∷ [])
rises_push low number [] request below rising = (below, omega arith, tt)
rises_push low number (l ∷ lines) request below rising = (rising.0, omega (arith, rising.1), rises_push l.line number lines request rising.1 rising.2)

-- more names and records serve as well
pub served_more : (names more : List (List ℕ)) (records others : ℕ) (a : Asked) → IsServed names records a → IsServed (names ++ more) (records + others) a
served_more names more records others a served = record {
  name = name_more (asked_name a) served.name;
  place = place_more (asked_place a) served.place;
  query = served.query;
}
  where
    name_more : (o : Option (List ℕ)) → IfSome o (Contains names) → IfSome o (Contains (names ++ more))
    name_more None has = tt
    name_more (Some name) has = Contains-append_left names more name has

    place_more : (o : Option ℕ) → IfSome o (λ place. place < records) → IfSome o (λ place. place < records + others)
    place_more None has = tt
    place_more (Some place) has = omega (arith, has)

all_requests-append : (parts more : List ClientPart) → all_requests (parts ++ more) ≡ all_requests parts ++ all_requests more
all_requests-append parts more = flat_map-append (λ (part : ClientPart). part.requests) parts more

-- where the last client has ended, nothing is lost
ended_requests : (b : Bool) (p : Progress) → (b ≡ true → (p.ended ≡ []) × (p.current ≡ []))
    → all_requests (if b then p.ended else p.ended ++ record { requests = p.current } ∷ []) ≡ all_requests p.ended ++ p.current
ended_requests true p none = let nothing = none refl in rw nothing.1 (sym (append-nil (all_requests p.ended)))
ended_requests false p none = all_requests-append p.ended (record { requests = p.current } ∷ []) ∙ ap (λ (last : List Asked). all_requests p.ended ++ last) (append-nil p.current)

ended_all : (b : Bool) (p : Progress) (P : ClientPart → Type 0) → All P p.ended → P (record { requests = p.current })
    → All P (if b then p.ended else p.ended ++ record { requests = p.current } ∷ [])
ended_all true p P ended last = ended
ended_all false p P ended last = All-push P p.ended (record { requests = p.current }) ended last

pub all_ended_requests : (p : Progress) (number : ℕ) → IsSound p number → all_requests (all_ended p) ≡ asked_so_far p
all_ended_requests p number sound = ended_requests (p.counts.clients == 0) p (λ none. sound.begun (grind (arith, nat_tests)))

pub all_ended_served : (p : Progress) (number : ℕ) → IsSound p number → All (IsPartServed p.names (length p.records)) (all_ended p)
all_ended_served p number sound = ended_all (p.counts.clients == 0) p (IsPartServed p.names (length p.records)) sound.ended_served sound.served

pub all_ended_rising : (p : Progress) (number : ℕ) → number ≤ 2 ^ 32 → IsSound p number → All IsPartRising (all_ended p)
all_ended_rising p number small sound = ended_all (p.counts.clients == 0) p IsPartRising sound.ended_rising (rises_higher 0 number (2 ^ 32) _ small sound.rising)

pub all_ended_length : (p : Progress) (number : ℕ) → IsSound p number → length (all_ended p) ≡ p.counts.clients
all_ended_length p number sound =
    elim (cases_Bool (p.counts.clients == 0)) [
      | inl none ↦ let zero_clients : p.counts.clients ≡ 0 = grind (arith, nat_tests) in rw none (ap length (sound.begun zero_clients).0 ∙ sym zero_clients)
      | inr some ↦ let clients : 0 < p.counts.clients = grind (arith, nat_tests) in
          rw some (length-append p.ended (record { requests = p.current } ∷ []) ∙ sound.clients clients)
    ]

-- ---- at the end

one_fewer : {A B : Type 0} (x : A) (xs : List A) (o : Option B) (ys : List B) → length ys ≤ length xs → length (cons_option o ys) ≤ length (x ∷ xs)
one_fewer x xs None ys fewer = omega (arith, fewer)
one_fewer x xs (Some y) ys fewer = omega (arith, fewer)

filter_map_fewer : {A B : Type 0} (f : A → Option B) (xs : List A) → length (filter_map f xs) ≤ length xs
filter_map_fewer f [] = omega arith
filter_map_fewer f (x ∷ xs) = one_fewer x xs (f x) (filter_map f xs) (filter_map_fewer f xs)

-- no more names than requests
pub few_names : (p : Progress) (number : ℕ) → IsWithin p.counts → IsSound p number → length p.names ≤ most_requests
few_names p number within sound = omega (arith, ap length sound.names, filter_map_fewer asked_name (asked_so_far p), sound.requests, within.requests)

-- what holds of every session
pub record IsSoundSession (s : Session) : Type 0 where
  pub names : HasNames s
  pub records : HasRecords s
  pub requests : HasRequests s
  pub lines : HasLines s
  pub small : IsSmall s

pub sound_session : (p : Progress) (number : ℕ) (s : Session) → number ≤ 2 ^ 32 → p.counts.clients ≤ most_clients → p.counts.requests ≤ most_requests → IsSound p number
    → s.clients ≡ all_ended p → s.names ≡ p.names → s.records ≡ p.records → IsSoundSession s
sound_session p number s below few_clients few_requests sound clients names records =
    let all : all_requests s.clients ≡ asked_so_far p = ap all_requests clients ∙ all_ended_requests p number sound in
    let rising : All IsPartRising (all_ended p) = all_ended_rising p number below sound in
    let count : length s.clients ≡ p.counts.clients = ap length clients ∙ all_ended_length p number sound in
    record {
      names = record { in_order = rw (all, names) sound.names; fine = rw names sound.fine };
      records = record { in_order = rw (all, records) sound.places };
      requests = record { served = rw (clients, names, records) (all_ended_served p number sound) };
      lines = record {
        rising = rw clients (All-weaker IsPartRising (λ (part : ClientPart). Rise (request_lines part)) (λ part rise. rise_of 0 (2 ^ 32) (request_lines part) rise) (all_ended p) rising);
        numbers = rw clients (All-weaker IsPartRising (λ (part : ClientPart). All HasLineNumber (request_lines part)) (λ part rise. numbers_of 0 (request_lines part) rise) (all_ended p) rising);
      };
      small = record { clients = omega arith; requests = rw (all, sound.requests) (omega arith) };
    }

pub sound_answer : (p : Progress) (number : ℕ) (r : Result Session SessionError) → number ≤ 2 ^ 32 → IsWithin p.counts → IsSound p number
    → IfOk r (λ s. s.clients ≡ all_ended p) → IfOk r (λ s. s.names ≡ p.names) → IfOk r (λ s. s.records ≡ p.records) → IfOk r IsSoundSession
sound_answer p number (Ok s) below within sound clients names records = sound_session p number s below within.clients within.requests sound clients names records
sound_answer p number (Err e) below within sound clients names records = tt
