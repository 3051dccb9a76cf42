-- What a reader counts of the lines so far is what these lines say.
use Rattle.std.proofs.Common.{◌≡◌, ℕ, ◌+◌, Bool, true, false, List, [], ◌∷◌, ◌++◌, length, map, drop, Option, Result, Ok, Err, refl, ap, sym, ◌∙◌, append-nil, arith}
use Rattle.std.specs.Prelude.{◌==◌, count_by, not, slice_get, if◌then◌else◌}
use Rattle.std.specs.List.{slice_split, onto_first, filter_map, cons_option}
use Rattle.line_grammar.specs.declared.cause.Cause.{Cause}
use Rattle.line_grammar.specs.declared.command.Command.{Command}
use Rattle.line_grammar.specs.declared.command.Command.TheVariants as says
use Rattle.request_lines.specs.declared.counts.Counts.{Counts}
use Rattle.request_lines.specs.declared.session.Session.{Session}
use Rattle.request_lines.specs.declared.session_error.SessionError.{SessionError}
use Rattle.request_lines.specs.declared.session_error.SessionError.TheVariants as errors
use Rattle.request_lines.specs.InputParts.{texts_of, clients_in, requests_in, puts_in, said, begins_client, error_at}
use Rattle.line_grammar.specs.Line.{reading_of}
use Rattle.request_lines.specs.Input.{is_client, is_put, entries_behind, limit_cause, Line, name_by, record_by}
use Rattle.std.proofs.lemmas.List.{drop-map}
use Rattle.std.proofs.lemmas.List.Sums.{sum_by-append}
use Rattle.request_lines.specs.Counting as k
use Rattle.request_lines.specs.Counting.{counted, counted_with}
use Rattle.request_lines.specs.Input as i
use Rattle.request_lines.specs.InputParts as p
use Rattle.request_lines.specs.Refusal.{IsRefused}
use Rattle.request_lines.proofs.CountedLines as l

-- the most entries of the page of the client's last LIST line
abbrev last_behind : ℕ → List Command → ℕ
last_behind last [] = last
last_behind last (says.List query ∷ commands) = last_behind query.max_keys commands
last_behind last (says.ListV1 query ∷ commands) = last_behind last commands
last_behind last (says.Client ∷ commands) = last_behind 0 commands
last_behind last (says.Next ∷ commands) = last_behind last commands
last_behind last (says.Put when name fields ∷ commands) = last_behind last commands
last_behind last (says.Delete name ∷ commands) = last_behind last commands
last_behind last (says.Head name ∷ commands) = last_behind last commands

abbrev counts_of : List Command → Counts
counts_of commands = record {
  clients = clients_in commands;
  requests = requests_in commands;
  puts = puts_in commands;
  entries = entries_behind 0 commands;
  last = last_behind 0 commands;
}

-- ---- one more command

abbrev one_if : Bool → ℕ
one_if b = if b then 1 else 0

plain_one : (n : ℕ) → 0 + n ≡ n
plain_one n = omega arith

count_more : (test : Command → Bool) (commands : List Command) (command : Command) → count_by test (commands ++ command ∷ []) ≡ count_by test commands + one_if (test command)
count_more test commands command =
    sum_by-append (λ c. if test c then 1 else 0) commands (command ∷ []) ∙ ap (λ n. count_by test commands + n) (plain_one (one_if (test command)))

-- the entries of one more line
abbrev asked_with : ℕ → Command → ℕ
asked_with last (says.List query) = query.max_keys
asked_with last (says.ListV1 query) = query.max_keys
asked_with last says.Next = last
asked_with last command = 0

abbrev last_with : ℕ → Command → ℕ
last_with last (says.List query) = query.max_keys
last_with last says.Client = 0
last_with last command = last

entries_more : (last : ℕ) (commands : List Command) (command : Command)
    → entries_behind last (commands ++ command ∷ []) ≡ entries_behind last commands + asked_with (last_behind last commands) command
entries_more last [] says.Client = refl
entries_more last [] (says.Put when name fields) = refl
entries_more last [] (says.Delete name) = refl
entries_more last [] (says.Head name) = refl
entries_more last [] (says.List query) = omega arith
entries_more last [] (says.ListV1 query) = omega arith
entries_more last [] says.Next = omega arith
entries_more last (says.Client ∷ commands) command = entries_more 0 commands command
entries_more last (says.Put when name fields ∷ commands) command = entries_more last commands command
entries_more last (says.Delete name ∷ commands) command = entries_more last commands command
entries_more last (says.Head name ∷ commands) command = entries_more last commands command
entries_more last (says.List query ∷ commands) command =
    let more = entries_more query.max_keys commands command in
    added query.max_keys (entries_behind query.max_keys (commands ++ command ∷ [])) (entries_behind query.max_keys commands)
    (asked_with (last_behind query.max_keys commands) command) more
  where
    added : (n more few one : ℕ) → more ≡ few + one → n + more ≡ (n + few) + one
    added n more few one is = omega (arith, is)
entries_more last (says.ListV1 query ∷ commands) command =
    let more = entries_more last commands command in
    added query.max_keys (entries_behind last (commands ++ command ∷ [])) (entries_behind last commands) (asked_with (last_behind last commands) command) more
  where
    added : (n more few one : ℕ) → more ≡ few + one → n + more ≡ (n + few) + one
    added n more few one is = omega (arith, is)
entries_more last (says.Next ∷ commands) command =
    let more = entries_more last commands command in
    added last (entries_behind last (commands ++ command ∷ [])) (entries_behind last commands) (asked_with (last_behind last commands) command) more
  where
    added : (n more few one : ℕ) → more ≡ few + one → n + more ≡ (n + few) + one
    added n more few one is = omega (arith, is)

last_more : (last : ℕ) (commands : List Command) (command : Command) → last_behind last (commands ++ command ∷ []) ≡ last_with (last_behind last commands) command
last_more last [] says.Client = refl
last_more last [] (says.Put when name fields) = refl
last_more last [] (says.Delete name) = refl
last_more last [] (says.Head name) = refl
last_more last [] (says.List query) = refl
last_more last [] (says.ListV1 query) = refl
last_more last [] says.Next = refl
last_more last (says.Client ∷ commands) command = last_more 0 commands command
last_more last (says.Put when name fields ∷ commands) command = last_more last commands command
last_more last (says.Delete name ∷ commands) command = last_more last commands command
last_more last (says.Head name ∷ commands) command = last_more last commands command
last_more last (says.List query ∷ commands) command = last_more query.max_keys commands command
last_more last (says.ListV1 query ∷ commands) command = last_more last commands command
last_more last (says.Next ∷ commands) command = last_more last commands command

counts_are : (a b : Counts) → a.clients ≡ b.clients → a.requests ≡ b.requests → a.puts ≡ b.puts → a.entries ≡ b.entries → a.last ≡ b.last → a ≡ b
counts_are a b clients requests puts entries last =
    ap (λ n. record { clients = n; requests = a.requests; puts = a.puts; entries = a.entries; last = a.last }) clients
    ∙ ap (λ n. record { clients = b.clients; requests = n; puts = a.puts; entries = a.entries; last = a.last }) requests
    ∙ ap (λ n. record { clients = b.clients; requests = b.requests; puts = n; entries = a.entries; last = a.last }) puts
    ∙ ap (λ n. record { clients = b.clients; requests = b.requests; puts = b.puts; entries = n; last = a.last }) entries
    ∙ ap (λ n. record { clients = b.clients; requests = b.requests; puts = b.puts; entries = b.entries; last = n }) last

plus_none : (n : ℕ) → n + 0 ≡ n
plus_none n = omega arith

counts_more : (commands : List Command) (command : Command) → counts_of (commands ++ command ∷ []) ≡ counted (counts_of commands) command
counts_more commands command = by_command command
  where
    clients : (c : Command) → clients_in (commands ++ c ∷ []) ≡ clients_in commands + one_if (is_client c)
    clients c = count_more is_client commands c

    requests : (c : Command) → requests_in (commands ++ c ∷ []) ≡ requests_in commands + one_if (not (is_client c))
    requests c = count_more (λ d. not (is_client d)) commands c

    puts : (c : Command) → puts_in (commands ++ c ∷ []) ≡ puts_in commands + one_if (is_put c)
    puts c = count_more is_put commands c

    last : ℕ
    last = last_behind 0 commands

    by_command : (c : Command) → counts_of (commands ++ c ∷ []) ≡ counted (counts_of commands) c
    by_command says.Client =
        counts_are _ _ (clients says.Client) (requests says.Client ∙ plus_none _) (puts says.Client ∙ plus_none _)
        (entries_more 0 commands says.Client ∙ plus_none _) (last_more 0 commands says.Client)
    by_command (says.Put when name fields) =
        counts_are _ _ (clients (says.Put when name fields) ∙ plus_none _) (requests (says.Put when name fields)) (puts (says.Put when name fields))
        (entries_more 0 commands (says.Put when name fields) ∙ plus_none _) (last_more 0 commands (says.Put when name fields))
    by_command (says.Delete name) =
        counts_are _ _ (clients (says.Delete name) ∙ plus_none _) (requests (says.Delete name)) (puts (says.Delete name) ∙ plus_none _)
        (entries_more 0 commands (says.Delete name) ∙ plus_none _) (last_more 0 commands (says.Delete name))
    by_command (says.Head name) =
        counts_are _ _ (clients (says.Head name) ∙ plus_none _) (requests (says.Head name)) (puts (says.Head name) ∙ plus_none _)
        (entries_more 0 commands (says.Head name) ∙ plus_none _) (last_more 0 commands (says.Head name))
    by_command (says.List query) =
        counts_are _ _ (clients (says.List query) ∙ plus_none _) (requests (says.List query)) (puts (says.List query) ∙ plus_none _)
        (entries_more 0 commands (says.List query)) (last_more 0 commands (says.List query))
    by_command (says.ListV1 query) =
        counts_are _ _ (clients (says.ListV1 query) ∙ plus_none _) (requests (says.ListV1 query)) (puts (says.ListV1 query) ∙ plus_none _)
        (entries_more 0 commands (says.ListV1 query)) (last_more 0 commands (says.ListV1 query))
    by_command says.Next =
        counts_are _ _ (clients says.Next ∙ plus_none _) (requests says.Next) (puts says.Next ∙ plus_none _)
        (entries_more 0 commands says.Next) (last_more 0 commands says.Next)

-- ---- lines

-- the line, with what is counted before it
abbrev with_counts : Line → l.Line
with_counts line = record { number = line.number; reading = line.reading; before = counts_of line.before }

counts_with : (before : List Command) (reading : Result Command Cause) → counts_of (before ++ said reading) ≡ counted_with (counts_of before) reading
counts_with before (Ok command) = counts_more before command
counts_with before (Err cause) = ap counts_of (append-nil before)

lines_counted : (number : ℕ) (before : List Command) (texts : List (List ℕ)) → map with_counts (i.lines_from number before texts) ≡ l.lines_from number (counts_of before) texts
unfolding i.lines_from l.lines_from
lines_counted number before [] = refl
lines_counted number before (text ∷ texts) =
    by_test (length text == 0) (lines_counted (number + 1) before texts)
    (lines_counted (number + 1) (before ++ said (reading_of text)) texts ∙ ap (λ c. l.lines_from (number + 1) c texts) (counts_with before (reading_of text)))
  where
    by_test : (b : Bool) → map with_counts (i.lines_from (number + 1) before texts) ≡ l.lines_from (number + 1) (counts_of before) texts
        → map with_counts (i.lines_from (number + 1) (before ++ said (reading_of text)) texts) ≡ l.lines_from (number + 1) (counted_with (counts_of before) (reading_of text)) texts
        → map with_counts (if b then i.lines_from (number + 1) before texts else record { number = number; reading = reading_of text; before = before } ∷ i.lines_from (number + 1) (before ++ said (reading_of text)) texts)
        ≡ (if b then l.lines_from (number + 1) (counts_of before) texts else with_counts (record { number = number; reading = reading_of text; before = before }) ∷ l.lines_from (number + 1) (counted_with (counts_of before) (reading_of text)) texts)
    by_test true skipped kept = skipped
    by_test false skipped kept = ap (λ ls. with_counts (record { number = number; reading = reading_of text; before = before }) ∷ ls) kept

all_counted : (bytes : List ℕ) → map with_counts (i.input_lines bytes) ≡ l.input_lines bytes
unfolding i.input_lines l.input_lines
all_counted bytes = lines_counted 1 [] (texts_of bytes)

-- ---- what is taken from the lines

chosen_same : {A : Type 0} (f : Line → Option A) (g : l.Line → Option A) (lines : List Line) → ((line : Line) → g (with_counts line) ≡ f line)
    → filter_map g (map with_counts lines) ≡ filter_map f lines
chosen_same f g [] same = refl
chosen_same f g (line ∷ lines) same = ap (λ o. cons_option o (filter_map g (map with_counts lines))) (same line) ∙ ap (cons_option (f line)) (chosen_same f g lines same)

limit_same : (commands : List Command) (last : Command) → k.limit_by_counts (counts_of commands) last ≡ limit_cause commands last
unfolding k.limit_by_counts limit_cause
limit_same commands last = refl

cause_same : (before : List Command) (reading : Result Command Cause) → k.cause_by_counts (counts_of before) reading ≡ i.cause_after before reading
cause_same before (Err cause) = refl
cause_same before (Ok command) = ap (λ c. k.limit_by_counts c command) (sym (counts_more before command)) ∙ limit_same (before ++ command ∷ []) command

request_same : (before : List Command) (reading : Result Command Cause) → k.request_by_counts (counts_of before) reading ≡ i.request_by before reading
request_same before (Ok says.Client) = refl
request_same before (Ok (says.Put when name fields)) = refl
request_same before (Ok (says.Delete name)) = refl
request_same before (Ok (says.Head name)) = refl
request_same before (Ok (says.List query)) = refl
request_same before (Ok (says.ListV1 query)) = refl
request_same before (Ok says.Next) = refl
request_same before (Err cause) = refl

refusal_same : (bytes : List ℕ) → l.refusal_of bytes ≡ i.refusal_of bytes
unfolding l.refusal_of i.refusal_of
refusal_same bytes =
    ap (λ ls. slice_get (filter_map l.error_of ls) 0) (sym (all_counted bytes))
    ∙ ap (λ es. slice_get es 0) (chosen_same i.error_of l.error_of (i.input_lines bytes) (λ line. ap (error_at line.number) (cause_same line.before line.reading)))

part_same : (lines : List Line) → l.part_of (map with_counts lines) ≡ p.part_of lines
part_same lines =
    ap (λ asked. record { requests = asked }) (chosen_same i.asked_of l.asked_of lines (λ line. ap (p.asked_at line.number) (request_same line.before line.reading)))

all_parts : (pieces : List (List Line)) → map l.part_of (map (map with_counts) pieces) ≡ map p.part_of pieces
all_parts [] = refl
all_parts (piece ∷ pieces) = ap (λ p. p ∷ map l.part_of (map (map with_counts) pieces)) (part_same piece) ∙ ap (λ ps. p.part_of piece ∷ ps) (all_parts pieces)

abbrev begins : Line → Bool
begins line = begins_client line.reading

abbrev counted_begins : l.Line → Bool
counted_begins line = begins_client line.reading

onto_mapped : (line : Line) (pieces : List (List Line)) → onto_first (with_counts line) (map (map with_counts) pieces) ≡ map (map with_counts) (onto_first line pieces)
onto_mapped line [] = refl
onto_mapped line (piece ∷ pieces) = refl

split_mapped : (lines : List Line) → slice_split counted_begins (map with_counts lines) ≡ map (map with_counts) (slice_split begins lines)
split_mapped [] = refl
split_mapped (line ∷ lines) = by_test (begins line) (split_mapped lines)
  where
    by_test : (b : Bool) → slice_split counted_begins (map with_counts lines) ≡ map (map with_counts) (slice_split begins lines)
        → (if b then [] ∷ slice_split counted_begins (map with_counts lines) else onto_first (with_counts line) (slice_split counted_begins (map with_counts lines)))
        ≡ map (map with_counts) (if b then [] ∷ slice_split begins lines else onto_first line (slice_split begins lines))
    by_test true is = ap (λ pieces. [] ∷ pieces) is
    by_test false is = ap (onto_first (with_counts line)) is ∙ onto_mapped line (slice_split begins lines)

parts_same : (lines : List Line) → l.parts_of (map with_counts lines) ≡ p.parts_of lines
unfolding l.parts_of p.parts_of
parts_same lines =
    ap (λ pieces. map l.part_of (drop 1 pieces)) (split_mapped lines)
    ∙ ap (map l.part_of) (drop-map (map with_counts) 1 (slice_split begins lines))
    ∙ all_parts (drop 1 (slice_split begins lines))

names_same : (lines : List Line) → l.names_of (map with_counts lines) ≡ p.names_of lines
unfolding l.names_of p.names_of
names_same lines = chosen_same (λ (line : Line). name_by line.reading) (λ (line : l.Line). name_by line.reading) lines (λ line. refl)

records_same : (lines : List Line) → l.records_of (map with_counts lines) ≡ p.records_of lines
unfolding l.records_of p.records_of
records_same lines = chosen_same (λ (line : Line). record_by line.reading) (λ (line : l.Line). record_by line.reading) lines (λ line. refl)

-- ---- the session

pub session_is : (bytes : List ℕ) (session : Session) → l.IsSessionOf bytes session → i.IsSessionOf bytes session
unfolding p.parts_of p.names_of p.records_of
session_is bytes session is = record {
  faultless = sym (refusal_same bytes) ∙ is.faultless;
  clients = is.clients ∙ ap l.parts_of (sym (all_counted bytes)) ∙ parts_same (i.input_lines bytes);
  names = is.names ∙ ap l.names_of (sym (all_counted bytes)) ∙ names_same (i.input_lines bytes);
  records = is.records ∙ ap l.records_of (sym (all_counted bytes)) ∙ records_same (i.input_lines bytes);
}

pub refused_is : (bytes : List ℕ) (r : Result Session SessionError) → l.IsRefused bytes r → IsRefused bytes r
refused_is bytes (Ok session) is = sym (refusal_same bytes) ∙ is
refused_is bytes (Err (errors.Input e)) is = sym (refusal_same bytes) ∙ is
refused_is bytes (Err errors.NoMemory) is = tt
