-- What holds of what is kept of the lines so far holds after each further line that is taken.
use Rattle.std.proofs.Common.{◌≡◌, ℕ, zero, suc, ◌+◌, ◌^◌, ◌<◌, ◌≤◌, Bool, true, false, List, [], ◌∷◌, ◌++◌, length, map, Option, Some, None, Result, Ok, Err, refl, ap, sym, subst, ◌∙◌, append_assoc, inl, inr, arith, length-append, add-zero, add-one, zero-add}
use Rattle.std.specs.Prelude.{All, Contains, IfSome, ◌==◌, if◌then◌else◌}
use Rattle.std.specs.List.{filter_map, cons_option, range_with_len}
use Rattle.std.specs.Option.{option_to_list}
use Rattle.std.proofs.lemmas.Bool.{cases_Bool}
use Rattle.std.proofs.lemmas.Bool.Decides.{nat_tests}
use Rattle.std.proofs.lemmas.List.{append-nil, map-append}
use Rattle.std.proofs.lemmas.List.Elements.{All-nil, All-push, All-weaker, All-append, filter_map-append, Contains-push}
use Rattle.key_names.specs.Names.{IsFine}
use Rattle.bucket_terms.specs.declared.record.Record.{Record}
use Rattle.bucket_terms.specs.declared.request.Request.{Request}
use Rattle.bucket_terms.specs.declared.request.Request.TheVariants as asks
use Rattle.line_grammar.specs.declared.cause.Cause.{Cause}
use Rattle.line_grammar.specs.declared.command.Command.{Command}
use Rattle.line_grammar.specs.declared.command.Command.TheVariants as says
use Rattle.request_lines.specs.declared.counts.Counts.{Counts}
use Rattle.request_lines.specs.declared.session.Asked.{Asked}
use Rattle.line_grammar.specs.declared.cause.Cause.TheVariants.{NoClient}
use Rattle.line_grammar.specs.declared.verb.PutWhen.{PutWhen}
use Rattle.line_grammar.specs.declared.verb.PutWhen.TheVariants.{Always, IfAbsent}
use Rattle.request_lines.specs.Input.{is_client, put_request}
use Rattle.line_grammar.specs.Line.{reading_of}
use Rattle.line_grammar.specs.Fine.{IsFineCommand}
use Rattle.request_lines.specs.Counting.{counted, limit_by_counts, cause_by_counts}
use Rattle.request_lines.specs.InputParts.{error_at, texts_of}
use Rattle.request_lines.specs.Reading.{Progress, no_progress, all_ended, kept, taken, error_of_text, Reaches, HasTaken}
use Rattle.request_lines.specs.Session.{request_line}
use Rattle.request_lines.specs.SessionLaws.{all_requests, requested_name, record_place, asked_name, asked_place, IsFineRequest, IsServed}
use Rattle.line_grammar.proofs.Fine.{IsFineReading, reading_fine}
use Rattle.request_lines.proofs.BlockLaws.{texts_small}
use Rattle.request_lines.proofs.Sound.{asked_so_far, IsPartServed, IsSound, sound_start, rises_higher, rises_push, served_more, all_ended_requests, all_ended_served, all_ended_rising, all_ended_length}

-- a line that begins a client
sound_client : (p : Progress) (number : ℕ) → number ≤ 2 ^ 32 → IsSound p number → IsSound (kept p number (Ok says.Client)) (number + 1)
unfolding kept
sound_client p number small sound =
    let all : all_requests (all_ended p) ++ [] ≡ asked_so_far p = append-nil (all_requests (all_ended p)) ∙ all_ended_requests p number sound in
    let names : p.names ++ [] ≡ p.names = append-nil p.names in
    let records : p.records ++ [] ≡ p.records = append-nil p.records in
    record {
      begun = λ none. absurd (omega arith);
      clients = λ some. ap (λ n. n + 1) (all_ended_length p number sound);
      requests = rw all sound.requests;
      puts = rw records sound.puts;
      names = rw (names, all) sound.names;
      fine = rw names sound.fine;
      places = rw (records, all) sound.places;
      ended_served = rw (names, records) (all_ended_served p number sound);
      served = All-nil (IsServed (p.names ++ []) (length (p.records ++ [])));
      ended_rising = all_ended_rising p number small sound;
      rising = tt;
    }

-- what a line asks that begins no client
record IsAskedBy (before after : Counts) (name : Option (List ℕ)) (stored : Option Record) (request : Request) : Type 0 where
  begun : 0 < before.clients
  clients : after.clients ≡ before.clients
  requests : after.requests ≡ before.requests + 1
  puts : after.puts ≡ before.puts + length (option_to_list stored)
  named : requested_name request ≡ name
  fine : All IsFine (option_to_list name)
  placed : option_to_list (record_place request) ≡ range_with_len before.puts (length (option_to_list stored))
  query : IsFineRequest request

alone : {B : Type 0} (o : Option B) → cons_option o [] ≡ option_to_list o
alone None = refl
alone (Some y) = refl

filter_map_push : {A B : Type 0} (f : A → Option B) (xs : List A) (x : A) → filter_map f (xs ++ x ∷ []) ≡ filter_map f xs ++ option_to_list (f x)
filter_map_push f xs x = filter_map-append f xs (x ∷ []) ∙ ap (λ last. filter_map f xs ++ last) (alone (f x))

range_push : (a n : ℕ) → range_with_len a (suc n) ≡ range_with_len a n ++ (a + n) ∷ []
range_push a zero = rw add-zero
range_push a (suc n) = ap (λ more. a ∷ more) (range_push (a + 1) n ∙ ap (λ k. range_with_len (a + 1) n ++ k ∷ []) (omega arith))

places_more : (xs : List ℕ) (n : ℕ) (o : Option ℕ) (stored : Option Record) → xs ≡ range_with_len 0 n
    → option_to_list o ≡ range_with_len n (length (option_to_list stored)) → xs ++ option_to_list o ≡ range_with_len 0 (n + length (option_to_list stored))
places_more xs n o None before placed = rw (placed, add-zero) (append-nil xs ∙ before)
places_more xs n o (Some fields) before placed = rw (placed, add-one, before, range_push 0 n, zero-add)

asks_named : (names : List (List ℕ)) (o : Option (List ℕ)) → IfSome o (Contains (names ++ option_to_list o))
asks_named names None = tt
asks_named names (Some name) = Contains-push names name

asks_placed : (o : Option ℕ) (puts : ℕ) (stored : Option Record) → option_to_list o ≡ range_with_len puts (length (option_to_list stored))
    → IfSome o (λ place. place < puts + length (option_to_list stored))
asks_placed None puts stored is = tt
asks_placed (Some place) puts None is = cc
asks_placed (Some place) puts (Some fields) is = let same : place ≡ puts = cc in omega arith

sound_asked : (p : Progress) (number : ℕ) (after : Counts) (name : Option (List ℕ)) (stored : Option Record) (request : Request)
    → IsAskedBy p.counts after name stored request → 0 < number → IsSound p number
    → IsSound (record {
      counts = after;
      ended = p.ended;
      current = p.current ++ record { line = number; request = request } ∷ [];
      names = p.names ++ option_to_list name;
      records = p.records ++ option_to_list stored;
    }) (number + 1)
sound_asked p number after name stored request by positive sound =
    let asked : Asked = record { line = number; request = request } in
    let all : all_requests p.ended ++ (p.current ++ asked ∷ []) ≡ asked_so_far p ++ asked ∷ [] = sym (append_assoc (all_requests p.ended) p.current (asked ∷ [])) in
    let count : length (p.records ++ option_to_list stored) ≡ length p.records + length (option_to_list stored) = length-append p.records (option_to_list stored) in
    let new : IsServed (p.names ++ option_to_list name) (length p.records + length (option_to_list stored)) asked = record {
      name = rw (sym by.named) (asks_named p.names (requested_name request));
      place = rw sound.puts (asks_placed (record_place request) p.counts.puts stored by.placed);
      query = by.query;
    } in
    let more = served_more p.names (option_to_list name) (length p.records) (length (option_to_list stored)) in
    record {
      begun = λ none. absurd (omega (arith, by.begun, by.clients));
      clients = λ some. omega (arith, sound.clients by.begun, by.clients);
      requests = rw (all, by.requests) (length-append (asked_so_far p) (asked ∷ []) ∙ ap (λ n. n + 1) sound.requests);
      puts = rw (count, by.puts) (ap (λ n. n + length (option_to_list stored)) sound.puts);
      names = rw (all, filter_map_push asked_name (asked_so_far p) asked, by.named) (ap (λ names. names ++ option_to_list name) sound.names);
      fine = All-append IsFine p.names (option_to_list name) sound.fine by.fine;
      places = rw (all, filter_map_push asked_place (asked_so_far p) asked, count)
          (places_more (filter_map asked_place (asked_so_far p)) (length p.records) (record_place request) stored sound.places (rw sound.puts by.placed));
      ended_served = rw count (All-weaker (IsPartServed p.names (length p.records)) _ (λ part. All-weaker (IsServed p.names (length p.records)) _ more part.requests) p.ended sound.ended_served);
      served = rw count (All-push (IsServed (p.names ++ option_to_list name) (length p.records + length (option_to_list stored))) p.current asked
          (All-weaker (IsServed p.names (length p.records)) _ more p.current sound.served) new);
      ended_rising = sound.ended_rising;
      rising = rw (map-append request_line p.current (asked ∷ [])) (rises_push 0 number (map request_line p.current) request positive sound.rising);
    }

-- a line that begins no client has one before it
begun_before : (so_far : Counts) (command : Command) → is_client command ≡ false → limit_by_counts so_far command ≡ None → 0 < so_far.clients
unfolding limit_by_counts
begun_before so_far command other none = by_test (so_far.clients == 0) refl _ (rw other at none)
  where
    by_test : (b : Bool) → so_far.clients == 0 ≡ b → (rest : Option Cause) → (if b then Some NoClient else rest) ≡ None → 0 < so_far.clients
    by_test true is rest none = cc
    by_test false is rest none = grind (arith, nat_tests)

fine_name : (name : List ℕ) → IsFine name → All IsFine (name ∷ [])
fine_name name fine = All-push IsFine [] name (All-nil IsFine) fine

-- a put asks of its name and its record, whenever it is made
put_named : (when : PutWhen) (name : List ℕ) (val : ℕ) → requested_name (put_request when name val) ≡ Some name
put_named Always name val = refl
put_named IfAbsent name val = refl

put_placed : (when : PutWhen) (name : List ℕ) (val : ℕ) → record_place (put_request when name val) ≡ Some val
put_placed Always name val = refl
put_placed IfAbsent name val = refl

put_query : (when : PutWhen) (name : List ℕ) (val : ℕ) → IsFineRequest (put_request when name val)
put_query Always name val = tt
put_query IfAbsent name val = tt

sound_kept : (p : Progress) (number : ℕ) (command : Command) → IsFineCommand command → limit_by_counts (counted p.counts command) command ≡ None → 0 < number → number ≤ 2 ^ 32
    → IsSound p number → IsSound (kept p number (Ok command)) (number + 1)
unfolding kept
sound_kept p number says.Client fine right positive small sound = sound_client p number small sound
sound_kept p number (says.Put when name fields) fine right positive small sound =
    sound_asked p number (counted p.counts (says.Put when name fields)) (Some name) (Some fields) (put_request when name p.counts.puts)
    (record {
      begun = begun_before (counted p.counts (says.Put when name fields)) (says.Put when name fields) refl right;
      clients = refl;
      requests = refl;
      puts = refl;
      named = put_named when name p.counts.puts;
      fine = fine_name name fine;
      placed = ap option_to_list (put_placed when name p.counts.puts);
      query = put_query when name p.counts.puts;
    }) positive sound
sound_kept p number (says.Delete name) fine right positive small sound =
    sound_asked p number (counted p.counts (says.Delete name)) (Some name) None (asks.Delete name)
    (record {
      begun = begun_before (counted p.counts (says.Delete name)) (says.Delete name) refl right;
      clients = refl;
      requests = refl;
      puts = omega arith;
      named = refl;
      fine = fine_name name fine;
      placed = refl;
      query = tt;
    }) positive sound
sound_kept p number (says.Head name) fine right positive small sound =
    sound_asked p number (counted p.counts (says.Head name)) (Some name) None (asks.Head name)
    (record {
      begun = begun_before (counted p.counts (says.Head name)) (says.Head name) refl right;
      clients = refl;
      requests = refl;
      puts = omega arith;
      named = refl;
      fine = fine_name name fine;
      placed = refl;
      query = tt;
    }) positive sound
sound_kept p number (says.List query) fine right positive small sound =
    sound_asked p number (counted p.counts (says.List query)) None None (asks.List query)
    (record {
      begun = begun_before (counted p.counts (says.List query)) (says.List query) refl right;
      clients = refl;
      requests = refl;
      puts = omega arith;
      named = refl;
      fine = All-nil IsFine;
      placed = refl;
      query = fine;
    }) positive sound
sound_kept p number (says.ListV1 query) fine right positive small sound =
    sound_asked p number (counted p.counts (says.ListV1 query)) None None (asks.ListV1 query)
    (record {
      begun = begun_before (counted p.counts (says.ListV1 query)) (says.ListV1 query) refl right;
      clients = refl;
      requests = refl;
      puts = omega arith;
      named = refl;
      fine = All-nil IsFine;
      placed = refl;
      query = fine;
    }) positive sound
sound_kept p number says.Next fine right positive small sound =
    sound_asked p number (counted p.counts says.Next) None None asks.Next
    (record {
      begun = begun_before (counted p.counts says.Next) says.Next refl right;
      clients = refl;
      requests = refl;
      puts = omega arith;
      named = refl;
      fine = All-nil IsFine;
      placed = refl;
      query = tt;
    }) positive sound

-- a line that was taken
sound_read : (p : Progress) (number : ℕ) (reading : Result Command Cause) → IsFineReading reading → error_at number (cause_by_counts p.counts reading) ≡ None → 0 < number → number ≤ 2 ^ 32
    → IsSound p number → IsSound (kept p number reading) (number + 1)
sound_read p number (Ok command) fine right positive small sound = sound_kept p number command fine (no_error number _ right) positive small sound
  where
    no_error : (number : ℕ) (cause : Option Cause) → error_at number cause ≡ None → cause ≡ None
    no_error number None none = refl
    no_error number (Some cause) none = cc
sound_read p number (Err cause) fine right positive small sound = cc

sound_later : (p : Progress) (number : ℕ) → IsSound p number → IsSound p (number + 1)
sound_later p number sound = record {
  begun = sound.begun;
  clients = sound.clients;
  requests = sound.requests;
  puts = sound.puts;
  names = sound.names;
  fine = sound.fine;
  places = sound.places;
  ended_served = sound.ended_served;
  served = sound.served;
  ended_rising = sound.ended_rising;
  rising = rises_higher 0 number (number + 1) _ (omega arith) sound.rising;
}

pub sound_more : (p : Progress) (number : ℕ) (text : List ℕ) → error_of_text p number text ≡ None → 0 < number → number ≤ 2 ^ 32 → IsSound p number → IsSound (taken p number text) (number + 1)
unfolding taken error_of_text
sound_more p number text right positive small sound =
    elim (cases_Bool (length text == 0)) [
      | inl empty ↦ rw empty (sound_later p number sound)
      | inr full ↦ rw full (sound_read p number (reading_of text) (reading_fine text) (rw full at right) positive small sound)
    ]

-- several lines that were taken
sound_all : (p after : Progress) (number : ℕ) (texts : List (List ℕ)) → Reaches p number texts after → 0 < number → number + length texts ≤ 2 ^ 32 → IsSound p number
    → IsSound after (number + length texts)
sound_all p after number [] reached positive small sound =
    let same : number ≡ number + length {A = List ℕ} [] = omega arith in
    subst (λ (n : ℕ). IsSound after n) same (subst (λ (q : Progress). IsSound q number) (sym reached) sound)
sound_all p after number (text ∷ texts) reached positive small sound =
    let next : number + 1 + length texts ≡ number + length (text ∷ texts) = omega arith in
    subst (λ (n : ℕ). IsSound after n) next
    (sound_all (taken p number text) after (number + 1) texts reached.1 (omega arith) (omega (arith, next, small))
    (sound_more p number text reached.0 positive (omega (arith, next, small)) sound))

pub sound_whole : (bytes : List ℕ) (after : Progress) → HasTaken bytes after → IsSound after (1 + length (texts_of bytes))
sound_whole bytes after taken = sound_all no_progress after 1 (texts_of bytes) taken.reached (omega arith) (texts_small bytes taken.small) sound_start
