-- The generated input, read line by line: what is kept of its lines so far, and at its end its session.
use Rattle.std.proofs.Common.{◌≡◌, ℕ, ◌+◌, ◌*◌, ◌/◌, ◌%◌, ◌^◌, ◌<◌, ◌≤◌, Bool, true, false, List, [], ◌∷◌, ◌++◌, length, map, codes, refl, ap, ap₂, sym, subst, ◌∙◌, ◌&&◌, Option, Some, None, Ok, arith, inl, inr, append_assoc, append-nil, length-append, zero, suc}
use Rattle.std.specs.Prelude.{◌==◌, nat_lt, not, if◌then◌else◌}
use Rattle.std.specs.Fmt.{decimal}
use Rattle.std.specs.Str.Lines.{strip_carriage_return}
use Rattle.std.proofs.lemmas.Bool.{cases_Bool}
use Rattle.std.proofs.lemmas.Bool.Decides.{nat_tests}
use Rattle.std.proofs.lemmas.Fmt.{length-decimal-le}
use Rattle.std.proofs.lemmas.List.Splits.{slice_split_at}
use Rattle.line_grammar.specs.declared.cause.Cause.{Cause}
use Rattle.line_grammar.specs.declared.cause.Cause.TheVariants.{NoClient, TooManyClients, TooManyLines, TooManyEntries}
use Rattle.line_grammar.specs.declared.command.Command.{Command}
use Rattle.line_grammar.specs.declared.command.Command.TheVariants as says
use Rattle.request_lines.specs.declared.counts.Counts.{Counts}
use Rattle.bucket_terms.specs.declared.record.Record.{Record}
use Rattle.request_lines.specs.declared.session.Asked.{Asked}
use Rattle.request_lines.specs.declared.session.ClientPart.{ClientPart}
use Rattle.line_grammar.specs.declared.verb.PutWhen.TheVariants.{Always}
use Rattle.request_lines.specs.InputParts.{texts_of}
use Rattle.line_grammar.specs.Line.{reading_of, read_line, read_fields}
use Rattle.request_lines.specs.Input.{is_client, IsSessionOf}
use Rattle.request_lines.specs.Counting.{counted, limit_by_counts}
use Rattle.request_lines.specs.Reading.{Progress, no_progress, all_ended, kept, taken, error_of_text}
use Rattle.request_lines.specs.Sample.{sample_name, sample_line, sample_lines, sample_text}
use Rattle.request_lines.specs.SampleSession.{sample_query, sample_record, one_if_put, sample_puts, sample_request, sample_requests, sample_named, sample_recorded, sample_names, sample_records, sample_clients_parts, sample_clients_names, sample_clients_records, sample_session}
use Rattle.request_lines.proofs.LineCounts.{session_is}
use Rattle.request_lines.proofs.InputLaws.{IsHalfway, halfway_start, halfway_more, halfway_end}
use Rattle.request_lines.proofs.Sound.{IsSound, IsSoundSession, sound_start, sound_session}
use Rattle.request_lines.proofs.SoundLines.{sound_more}
use Rattle.request_lines.proofs.SampleLines.{IsInside, read_by_fields, inside_no_feeds, strip_plain, put_line, delete_line, inside_put, inside_delete, inside_list, name_length, put_reading, delete_reading}
use Rattle.request_lines.proofs.SampleQueries.{list_line, list_reading}

-- ---- one line

texts_first : (text more : List ℕ) → IsInside text → 0 < length text → texts_of (text ++ 10 ∷ more) ≡ text ∷ texts_of more
texts_first text more inside some =
    ap (map strip_carriage_return) (slice_split_at (λ b. b == 10) text 10 more (inside_no_feeds text inside) refl)
    ∙ ap (λ first. first ∷ texts_of more) (strip_plain text inside some)

-- what was kept so far is the beginning of the input's session, and what holds of every session that is read holds of
-- it
record IsRead (bytes : List ℕ) (p : Progress) (number : ℕ) (texts : List (List ℕ)) : Type 0 where
  half : IsHalfway bytes p number texts
  sound : IsSound p number

-- a line that has no cause is kept
line_kept : (bytes text : List ℕ) (texts : List (List ℕ)) (p : Progress) (number : ℕ) (command : Command) → 0 < length text
    → reading_of text ≡ Ok command → limit_by_counts (counted p.counts command) command ≡ None → 0 < number → number ≤ 2 ^ 32
    → IsRead bytes p number (text ∷ texts) → IsRead bytes (kept p number (Ok command)) (number + 1) texts
unfolding taken error_of_text
line_kept bytes text texts p number command some reading within positive small read =
    let full : (length text == 0) ≡ false = grind (arith, nat_tests) in
    let right : error_of_text p number text ≡ None = rw (full, reading, within) refl in
    let is : taken p number text ≡ kept p number (Ok command) = rw (full, reading) refl in
    subst (λ (q : Progress). IsRead bytes q (number + 1) texts) is
    (record { half = halfway_more bytes p number text texts right read.half; sound = sound_more p number text right positive small read.sound })

line_taken : (bytes text more : List ℕ) (p : Progress) (number next : ℕ) (command : Command) → IsInside text → 0 < length text
    → reading_of text ≡ Ok command → limit_by_counts (counted p.counts command) command ≡ None → 0 < number → number ≤ 2 ^ 32 → number + 1 ≡ next
    → IsRead bytes p number (texts_of (text ++ 10 ∷ more)) → IsRead bytes (kept p number (Ok command)) next (texts_of more)
line_taken bytes text more p number next command inside some reading within positive small is read =
    let first : IsRead bytes p number (text ∷ texts_of more) = subst (IsRead bytes p number) (texts_first text more inside some) read in
    subst (λ k. IsRead bytes (kept p number (Ok command)) k (texts_of more)) is (line_kept bytes text (texts_of more) p number command some reading within positive small first)

-- ---- limits

abbrev no_cause : Option Cause
no_cause = None

limits_kept : (client none clients lines entries : Bool) → none ≡ false → clients ≡ false → lines ≡ false → entries ≡ false
    → (if not client && none then Some NoClient else if client && clients then Some TooManyClients else if lines then Some TooManyLines else if entries then Some TooManyEntries else None) ≡ no_cause
limits_kept true none clients lines entries a b c d = rw (b, c, d) refl
limits_kept false none clients lines entries a b c d = rw (a, c, d) refl

within_limits : (so_far : Counts) (command : Command) → 0 < so_far.clients → so_far.clients ≤ 32 → so_far.requests ≤ 200000 → so_far.entries ≤ 4000000
    → limit_by_counts so_far command ≡ None
unfolding limit_by_counts
within_limits so_far command some clients requests entries =
    limits_kept (is_client command) (so_far.clients == 0) (nat_lt 32 so_far.clients) (nat_lt 200000 so_far.requests) (nat_lt 4000000 so_far.entries)
    (grind (arith, nat_tests)) (grind (arith, nat_tests)) (grind (arith, nat_tests)) (grind (arith, nat_tests))

-- the entries that a client's first requests ask for
unfoldable entries_at : ℕ → ℕ
entries_at i = if i % 4 == 2 then 0 else if i % 4 == 3 then 100 else 0

abbrev sample_entries : ℕ → ℕ
sample_entries zero = 0
sample_entries (suc i) = sample_entries i + entries_at i

-- which request it is
data Kind (i : ℕ) : Type 0 where
  put : (i % 4 == 2) ≡ false → (i % 4 == 3) ≡ false → Kind i
  removal : (i % 4 == 2) ≡ true → Kind i
  listing : (i % 4 == 2) ≡ false → (i % 4 == 3) ≡ true → Kind i

kind_of : (i : ℕ) → Kind i
kind_of i = elim (cases_Bool (i % 4 == 2)) [
  | inl two ↦ removal two
  | inr other ↦ elim (cases_Bool (i % 4 == 3)) [ inl three ↦ listing other three | inr neither ↦ put other neither ]
]

entries_more : (i : ℕ) → Kind i → sample_entries i ≡ 100 * (i / 4) → sample_entries i + entries_at i ≡ 100 * (suc i / 4)
unfolding entries_at
entries_more i (put a b) before =
    let here : ¬ (i % 4 ≡ 3) = (λ is. let bad : (3 == 3) ≡ false = rw is at b in cc) in
    rw (a, b) (omega arith)
entries_more i (removal a) before =
    let here : i % 4 ≡ 2 = grind (arith, nat_tests) in
    rw a (omega arith)
entries_more i (listing a b) before =
    let here : i % 4 ≡ 3 = grind (arith, nat_tests) in
    rw (a, b) (omega arith)

entries_bound : (i : ℕ) → sample_entries i ≡ 100 * (i / 4)
entries_bound zero = refl
entries_bound (suc i) = entries_more i (kind_of i) (entries_bound i)

times : (client n : ℕ) → client < 4 → client * n ≤ 3 * n
times zero n below = omega arith
times (suc zero) n below = omega arith
times (suc (suc zero)) n below = omega arith
times (suc (suc (suc zero))) n below = omega arith
times (suc (suc (suc (suc client)))) n below = absurd (omega arith)

-- ---- what is kept before a client's request

record IsAt (n client i : ℕ) (p : Progress) : Type 0 where
  clients : p.counts.clients ≡ client + 1
  requests : p.counts.requests ≡ client * n + i
  puts : p.counts.puts ≡ client * sample_puts n + sample_puts i
  entries : p.counts.entries ≡ client * sample_entries n + sample_entries i
  ended : p.ended ≡ sample_clients_parts n client
  current : p.current ≡ sample_requests n client i
  names : p.names ≡ sample_clients_names n client ++ sample_names client i
  records : p.records ≡ sample_clients_records n client ++ sample_records i

abbrev number_at : ℕ → ℕ → ℕ → ℕ
number_at n client i = client * (n + 1) + 2 + i

-- there is such a progress, and so many lines are left
record Reaches (bytes : List ℕ) (n client i : ℕ) (more : List ℕ) : Type 0 where
  p : Progress
  at : IsAt n client i p
  read : IsRead bytes p (number_at n client i) (texts_of more)

request_within : (n client i : ℕ) (so_far : Counts) (command : Command) → client < 4 → i < n → n ≤ 40000 → so_far.clients ≡ client + 1
    → so_far.requests ≡ client * n + i + 1 → so_far.entries ≡ client * sample_entries n + sample_entries (suc i) → limit_by_counts so_far command ≡ None
request_within n client i so_far command few before most clients requests entries =
    let lines = times client n few in
    let asked = times client (sample_entries n) few in
    let each = entries_bound n in
    let now = entries_bound (suc i) in
    within_limits so_far command (omega arith) (omega arith) (omega arith) (omega arith)

-- a line with this command is the next request of the client, where the counts, the request, its name and its record
-- that the command adds are those of this request
step_by : (bytes text : List ℕ) (n client i : ℕ) (more : List ℕ) (p : Progress) (command : Command) → client < 4 → i < n → n ≤ 40000 → IsInside text → 0 < length text
    → reading_of text ≡ Ok command → IsAt n client i p → (counted p.counts command).clients ≡ p.counts.clients
    → (counted p.counts command).requests ≡ p.counts.requests + 1
    → (counted p.counts command).puts ≡ p.counts.puts + one_if_put i
    → (counted p.counts command).entries ≡ p.counts.entries + entries_at i
    → (kept p (number_at n client i) (Ok command)).ended ≡ p.ended
    → (kept p (number_at n client i) (Ok command)).current ≡ p.current ++ record { line = number_at n client i; request = sample_request p.counts.puts client i } ∷ []
    → (kept p (number_at n client i) (Ok command)).names ≡ p.names ++ sample_named client i
    → (kept p (number_at n client i) (Ok command)).records ≡ p.records ++ sample_recorded i
    → IsRead bytes p (number_at n client i) (texts_of (text ++ 10 ∷ more)) → Reaches bytes n client (suc i) more
unfolding kept
step_by bytes text n client i more p command few before most inside some reading at clients requests puts entries ended current names records read =
    let lines = times client (n + 1) few in
    let within = request_within n client i (counted p.counts command) command few before most (clients ∙ at.clients) (omega (arith, requests, at.requests)) (omega (arith, entries, at.entries)) in
    record {
      p = kept p (number_at n client i) (Ok command);
      at = record {
        clients = clients ∙ at.clients;
        requests = omega (arith, requests, at.requests);
        puts = omega (arith, puts, at.puts);
        entries = omega (arith, entries, at.entries);
        ended = ended ∙ at.ended;
        current = current ∙ ap₂ (λ (asked : List Asked) (k : ℕ). asked ++ record { line = number_at n client i; request = sample_request k client i } ∷ []) at.current at.puts;
        names = names ∙ ap (λ (front : List (List ℕ)). front ++ sample_named client i) at.names ∙ append_assoc (sample_clients_names n client) (sample_names client i) (sample_named client i);
        records = records ∙ ap (λ (front : List Record). front ++ sample_recorded i) at.records ∙ append_assoc (sample_clients_records n client) (sample_records i) (sample_recorded i);
      };
      read = line_taken bytes text more p (number_at n client i) (number_at n client (suc i)) command inside some reading within (omega arith) (omega arith) (omega arith) read;
    }

-- the lines of the text, cut at their ends
put_cut : (name d more : List ℕ) → codes "PUT " ++ name ++ codes " " ++ d ++ codes " e " ++ d ++ codes "\n" ++ more ≡ (codes "PUT" ++ 32 ∷ (name ++ 32 ∷ (d ++ 32 ∷ (codes "e" ++ 32 ∷ d)))) ++ 10 ∷ more
put_cut name d more =
    let whole : List ℕ = codes "PUT " ++ (name ++ 32 ∷ (d ++ codes " e " ++ (d ++ 10 ∷ more))) in
    let left : codes "PUT " ++ name ++ codes " " ++ d ++ codes " e " ++ d ++ codes "\n" ++ more ≡ whole = simp append_assoc in
    let numbers : (d ++ 32 ∷ (codes "e" ++ 32 ∷ d)) ++ 10 ∷ more ≡ d ++ codes " e " ++ (d ++ 10 ∷ more) =
    append_assoc d (32 ∷ (codes "e" ++ 32 ∷ d)) (10 ∷ more) ∙ sym (append_assoc d (codes " e ") (d ++ 10 ∷ more)) in
    let key : (name ++ 32 ∷ (d ++ 32 ∷ (codes "e" ++ 32 ∷ d))) ++ 10 ∷ more ≡ name ++ 32 ∷ (d ++ codes " e " ++ (d ++ 10 ∷ more)) =
    append_assoc name (32 ∷ (d ++ 32 ∷ (codes "e" ++ 32 ∷ d))) (10 ∷ more) ∙ ap (λ (text : List ℕ). name ++ 32 ∷ text) numbers in
    left ∙ sym (ap (λ (text : List ℕ). codes "PUT " ++ text) key)

delete_cut : (name more : List ℕ) → codes "DELETE " ++ name ++ codes "\n" ++ more ≡ (codes "DELETE" ++ 32 ∷ name) ++ 10 ∷ more
delete_cut name more = simp append_assoc

list_cut : (d more : List ℕ) → codes "LIST prefix=s" ++ d ++ codes "/&max-keys=100\n" ++ more ≡ (codes "LIST" ++ 32 ∷ (codes "prefix=s" ++ d ++ codes "/&max-keys=100")) ++ 10 ∷ more
list_cut d more =
    let whole : List ℕ = codes "LIST prefix=s" ++ (d ++ codes "/&max-keys=100\n" ++ more) in
    let left : codes "LIST prefix=s" ++ d ++ codes "/&max-keys=100\n" ++ more ≡ whole = simp append_assoc in
    let end : (d ++ codes "/&max-keys=100") ++ 10 ∷ more ≡ d ++ codes "/&max-keys=100\n" ++ more =
    append_assoc d (codes "/&max-keys=100") (10 ∷ more) ∙ sym (append_assoc d (codes "/&max-keys=100\n") more) in
    left ∙ sym (ap (λ (text : List ℕ). codes "LIST prefix=s" ++ text) end)

request_step : (bytes : List ℕ) (n client i : ℕ) (more : List ℕ) (p : Progress) → client < 4 → i < n → n ≤ 40000 → Kind i
    → IsAt n client i p → IsRead bytes p (number_at n client i) (texts_of (sample_line client i ++ more)) → Reaches bytes n client (suc i) more
unfolding kept one_if_put sample_request sample_named sample_recorded entries_at sample_line
request_step bytes n client i more p few before most (put a b) at read =
    let is : sample_line client i ++ more ≡ put_line client i ++ 10 ∷ more = rw (a, b) (put_cut (sample_name client i) (decimal i) more) in
    step_by bytes (put_line client i) n client i more p (says.Put Always (sample_name client i) (sample_record i)) few before most
    (inside_put client i (omega arith) (omega arith)) (omega arith) (put_reading client i (omega arith) (omega arith)) at
    refl refl (rw (a, b) refl) (rw (a, b) (omega arith)) refl (rw (a, b) refl) (rw (a, b) refl) (rw (a, b) refl)
    (subst (λ (text : List ℕ). IsRead bytes p (number_at n client i) (texts_of text)) is read)
request_step bytes n client i more p few before most (removal a) at read =
    let is : sample_line client i ++ more ≡ delete_line client i ++ 10 ∷ more = rw a (delete_cut (sample_name client i) more) in
    step_by bytes (delete_line client i) n client i more p (says.Delete (sample_name client i)) few before most
    (inside_delete client i (omega arith)) (omega arith) (delete_reading client i (omega arith)) at
    refl refl (rw a (omega arith)) (rw a (omega arith)) refl (rw a refl) (rw a refl) (rw a refl)
    (subst (λ (text : List ℕ). IsRead bytes p (number_at n client i) (texts_of text)) is read)
request_step bytes n client i more p few before most (listing a b) at read =
    let is : sample_line client i ++ more ≡ list_line client ++ 10 ∷ more = rw (a, b) (list_cut (decimal client) more) in
    step_by bytes (list_line client) n client i more p (says.List (sample_query client)) few before most
    (inside_list client (omega arith)) (omega arith) (list_reading client few) at
    refl refl (rw (a, b) (omega arith)) (rw (a, b) refl) refl (rw (a, b) refl) (rw (a, b) refl) (rw (a, b) refl)
    (subst (λ (text : List ℕ). IsRead bytes p (number_at n client i) (texts_of text)) is read)

-- ---- the lines of a client, and of all clients

-- the lines of a client's `count` requests from a request on
abbrev lines_on : ℕ → ℕ → ℕ → List ℕ
lines_on client i zero = []
lines_on client i (suc count) = sample_line client i ++ lines_on client (suc i) count

all_lines : (client i count : ℕ) → sample_lines client i ++ lines_on client i count ≡ sample_lines client (i + count)
all_lines client i zero = let is : i ≡ i + zero = omega arith in append-nil (sample_lines client i) ∙ ap (sample_lines client) is
all_lines client i (suc count) =
    let is : suc i + count ≡ i + suc count = omega arith in
    sym (append_assoc (sample_lines client i) (sample_line client i) (lines_on client (suc i) count)) ∙ all_lines client (suc i) count ∙ ap (sample_lines client) is

client_walk : (bytes : List ℕ) (n client i count : ℕ) (more : List ℕ) → client < 4 → i + count ≡ n → n ≤ 40000
    → Reaches bytes n client i (lines_on client i count ++ more) → Reaches bytes n client n more
client_walk bytes n client i zero more few all most reached =
    subst (λ k. Reaches bytes n client k more) (omega (arith, all)) reached
client_walk bytes n client i (suc count) more few all most reached =
    let is : lines_on client i (suc count) ++ more ≡ sample_line client i ++ (lines_on client (suc i) count ++ more) = append_assoc (sample_line client i) (lines_on client (suc i) count) more in
    let read = subst (λ (text : List ℕ). IsRead bytes reached.p (number_at n client i) (texts_of text)) is reached.read in
    client_walk bytes n client (suc i) count more few (omega (arith, all)) most
    (request_step bytes n client i (lines_on client (suc i) count ++ more) reached.p few (omega (arith, all)) most (kind_of i) reached.at read)

lines_walk : (bytes : List ℕ) (n client : ℕ) (more : List ℕ) → client < 4 → n ≤ 40000
    → Reaches bytes n client 0 (sample_lines client n ++ more) → Reaches bytes n client n more
lines_walk bytes n client more few most reached =
    let same : 0 + n ≡ n = omega arith in
    let is : sample_lines client n ≡ lines_on client 0 n = sym (all_lines client 0 n ∙ ap (sample_lines client) same) in
    client_walk bytes n client 0 n more few (omega arith) most (subst (λ (text : List ℕ). Reaches bytes n client 0 (text ++ more)) is reached)

-- ---- the whole input

client_within : (n client : ℕ) (p : Progress) → client < 3 → n ≤ 40000 → IsAt n client n p → limit_by_counts (counted p.counts says.Client) says.Client ≡ no_cause
client_within n client p few most at =
    let lines = times client n (omega arith) in
    let asked = times client (sample_entries n) (omega arith) in
    let each = entries_bound n in
    within_limits (counted p.counts says.Client) says.Client (omega (arith, at.clients)) (omega (arith, at.clients)) (omega (arith, at.requests)) (omega (arith, at.entries))

client_reading : reading_of (codes "CLIENT") ≡ Ok says.Client
unfolding read_line read_fields
client_reading = read_by_fields (codes "CLIENT") (codes "CLIENT" ∷ []) refl refl

first_client : (bytes : List ℕ) (n : ℕ) (more : List ℕ) → n ≤ 40000 → IsRead bytes no_progress 1 (texts_of (codes "CLIENT\n" ++ more)) → Reaches bytes n 0 0 more
unfolding kept
first_client bytes n more most read = record {
  p = kept no_progress 1 (Ok says.Client);
  at = record { clients = refl; requests = omega arith; puts = omega arith; entries = omega arith; ended = refl; current = refl; names = refl; records = refl };
  read = line_taken bytes (codes "CLIENT") more no_progress 1 (number_at n 0 0) says.Client refl (omega arith) client_reading
      (within_limits (counted no_progress.counts says.Client) says.Client (omega arith) (omega arith) (omega arith) (omega arith)) (omega arith) (omega arith) (omega arith) read;
}

next_times : (client n : ℕ) → client < 3 → suc client * n ≡ client * n + n
next_times zero n below = omega arith
next_times (suc zero) n below = omega arith
next_times (suc (suc zero)) n below = omega arith
next_times (suc (suc (suc client))) n below = absurd (omega arith)

next_client : (bytes : List ℕ) (n client : ℕ) (more : List ℕ) → client < 3 → n ≤ 40000 → Reaches bytes n client n (codes "CLIENT\n" ++ more) → Reaches bytes n (suc client) 0 more
unfolding kept
next_client bytes n client more few most reached =
    let p = reached.p in
    let at = reached.at in
    let some : (p.counts.clients == 0) ≡ false = grind (arith, nat_tests, at.clients) in
    let within : limit_by_counts (counted p.counts says.Client) says.Client ≡ no_cause = client_within n client p few most at in
    let lines = times client (n + 1) (omega arith) in
    record {
      p = kept p (number_at n client n) (Ok says.Client);
      at = record {
        clients = omega (arith, at.clients);
        requests = omega (arith, at.requests, next_times client n few);
        puts = omega (arith, at.puts, next_times client (sample_puts n) few);
        entries = omega (arith, at.entries, next_times client (sample_entries n) few);
        ended = rw some (ap₂ (λ (front : List ClientPart) (asked : List Asked). front ++ record { requests = asked } ∷ []) at.ended at.current);
        current = refl;
        names = append-nil p.names ∙ at.names ∙ sym (append-nil (sample_clients_names n (suc client)));
        records = append-nil p.records ∙ at.records ∙ sym (append-nil (sample_clients_records n (suc client)));
      };
      read = line_taken bytes (codes "CLIENT") more p (number_at n client n) (number_at n (suc client) 0) says.Client refl (omega arith) client_reading within
          (omega arith) (omega arith) (omega (arith, next_times client (n + 1) few)) reached.read;
    }

-- one client after another
text_cut : (c i j k l : List ℕ) → [] ++ c ++ i ++ c ++ j ++ c ++ k ++ c ++ l ≡ c ++ (i ++ (c ++ (j ++ (c ++ (k ++ (c ++ (l ++ [])))))))
text_cut c i j k l = simp (append_assoc, append-nil)

four_clients : (n : ℕ) → n ≤ 40000 → Reaches (sample_text n) n 3 n []
four_clients n most =
    let bytes = sample_text n in
    let c = codes "CLIENT\n" in
    let start : IsRead bytes no_progress 1 (texts_of (c ++ (sample_lines 0 n ++ (c ++ (sample_lines 1 n ++ (c ++ (sample_lines 2 n ++ (c ++ (sample_lines 3 n ++ []))))))))) =
    subst (λ (text : List ℕ). IsRead bytes no_progress 1 (texts_of text)) (text_cut c (sample_lines 0 n) (sample_lines 1 n) (sample_lines 2 n) (sample_lines 3 n))
    (record { half = halfway_start bytes; sound = sound_start }) in
    let two = c ++ (sample_lines 3 n ++ []) in
    let one = c ++ (sample_lines 2 n ++ two) in
    let none = c ++ (sample_lines 1 n ++ one) in
    let first = lines_walk bytes n 0 none (omega arith) most (first_client bytes n (sample_lines 0 n ++ none) most start) in
    let second = lines_walk bytes n 1 one (omega arith) most (next_client bytes n 0 (sample_lines 1 n ++ one) (omega arith) most first) in
    let third = lines_walk bytes n 2 two (omega arith) most (next_client bytes n 1 (sample_lines 2 n ++ two) (omega arith) most second) in
    lines_walk bytes n 3 [] (omega arith) most (next_client bytes n 2 (sample_lines 3 n ++ []) (omega arith) most third)

-- after the last line all clients have ended
all_parts : (n : ℕ) (p : Progress) → IsAt n 3 n p → all_ended p ≡ sample_clients_parts n 4
all_parts n p at =
    let some : (p.counts.clients == 0) ≡ false = grind (arith, nat_tests, at.clients) in
    rw some (ap₂ (λ (front : List ClientPart) (asked : List Asked). front ++ record { requests = asked } ∷ []) at.ended at.current)

session_read : (n : ℕ) → n ≤ 40000 → Reaches (sample_text n) n 3 n [] → IsSessionOf (sample_text n) (sample_session n)
unfolding taken error_of_text
session_read n most reached =
    let p = reached.p in
    let at = reached.at in
    let half : IsHalfway (sample_text n) p (number_at n 3 n + 1) [] = halfway_more (sample_text n) p (number_at n 3 n) [] [] refl reached.read.half in
    session_is (sample_text n) (sample_session n) (halfway_end (sample_text n) p (number_at n 3 n + 1) (sample_session n) half (sym (all_parts n p at)) (sym at.names) (sym at.records))

session_sound : (n : ℕ) → n ≤ 40000 → Reaches (sample_text n) n 3 n [] → IsSoundSession (sample_session n)
session_sound n most reached =
    let p = reached.p in
    let at = reached.at in
    sound_session p (number_at n 3 n) (sample_session n) (omega arith) (omega (arith, at.clients)) (omega (arith, at.requests)) reached.read.sound
    (sym (all_parts n p at)) (sym at.names) (sym at.records)

pub sample_read : (n : ℕ) (bytes : List ℕ) → n ≤ 40000 → bytes ≡ sample_text n → IsSessionOf bytes (sample_session n)
sample_read n bytes most is = subst (λ (text : List ℕ). IsSessionOf text (sample_session n)) (sym is) (session_read n most (four_clients n most))

pub sample_sound : (n : ℕ) → n ≤ 40000 → IsSoundSession (sample_session n)
sample_sound n most = session_sound n most (four_clients n most)

-- ---- its length

put_length : (name d : List ℕ) → length (codes "PUT " ++ name ++ codes " " ++ d ++ codes " e " ++ d ++ codes "\n") ≡ length name + 2 * length d + 9
put_length name d = simp length-append (omega arith)

delete_length : (name : List ℕ) → length (codes "DELETE " ++ name ++ codes "\n") ≡ length name + 8
delete_length name = simp length-append (omega arith)

list_length : (d : List ℕ) → length (codes "LIST prefix=s" ++ d ++ codes "/&max-keys=100\n") ≡ length d + 28
list_length d = simp length-append (omega arith)

line_length : (client i : ℕ) → client < 4 → i < 40000 → Kind i → length (sample_line client i) ≤ 40
unfolding sample_line
line_length client i few before (put a b) =
    let name = name_length client i (omega arith) in
    let number = length-decimal-le 5 i (omega arith) (omega arith) (omega arith) in
    let all = put_length (sample_name client i) (decimal i) in
    rw (a, b, all) (omega arith)
line_length client i few before (removal a) =
    let name = name_length client i (omega arith) in
    let all = delete_length (sample_name client i) in
    rw (a, all) (omega arith)
line_length client i few before (listing a b) =
    let number = length-decimal-le 1 client (omega arith) (omega arith) (omega arith) in
    let all = list_length (decimal client) in
    rw (a, b, all) (omega arith)

lines_length : (client i : ℕ) → client < 4 → i ≤ 40000 → length (sample_lines client i) ≤ 40 * i
lines_length client zero few most = omega arith
lines_length client (suc i) few most =
    let before = lines_length client i few (omega arith) in
    let here = line_length client i few (omega arith) (kind_of i) in
    omega (arith, length-append (sample_lines client i) (sample_line client i))

text_length : (c i j k l : List ℕ) → length ([] ++ c ++ i ++ c ++ j ++ c ++ k ++ c ++ l) ≡ 4 * length c + length i + length j + length k + length l
text_length c i j k l = simp length-append (omega arith)

pub sample_length : (n : ℕ) (bytes : List ℕ) → n ≤ 40000 → bytes ≡ sample_text n → length bytes ≤ 67108864
sample_length n bytes most is =
    let whole : length (sample_text n) ≡ 4 * length (codes "CLIENT\n") + length (sample_lines 0 n) + length (sample_lines 1 n) + length (sample_lines 2 n) + length (sample_lines 3 n) =
    text_length (codes "CLIENT\n") (sample_lines 0 n) (sample_lines 1 n) (sample_lines 2 n) (sample_lines 3 n) in
    omega (arith, whole, ap length is, lines_length 0 n (omega arith) most, lines_length 1 n (omega arith) most, lines_length 2 n (omega arith) most, lines_length 3 n (omega arith) most)
