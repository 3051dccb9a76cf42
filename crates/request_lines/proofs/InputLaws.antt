-- What is kept of the lines so far, and what is left, make up the session of the whole input.
use Rattle.std.proofs.Common.{◌≡◌, ℕ, ◌+◌, ◌≤◌, Bool, true, false, List, [], ◌∷◌, ◌++◌, length, map, drop, Option, Some, None, Result, Ok, Err, refl, ap, sym, subst, ◌∙◌, append_assoc, inl, inr, arith}
use Rattle.request_lines.specs.declared.session_error.SessionError.{SessionError}
use Rattle.request_lines.specs.declared.session_error.SessionError.TheVariants as errors
use Rattle.std.specs.Prelude.{slice_get, IfOk, IsOkUnless, ◌==◌, if◌then◌else◌}
use Rattle.std.specs.List.{slice_split, onto_first, filter_map, cons_option}
use Rattle.std.specs.Option.{option_to_list}
use Rattle.std.proofs.lemmas.Bool.{cases_Bool}
use Rattle.std.proofs.lemmas.Bool.Decides.{nat_tests}
use Rattle.std.proofs.lemmas.List.{append-nil}
use Rattle.std.proofs.lemmas.List.Splits.{slice_split-cons_yes, slice_split-cons_no}
use Rattle.line_grammar.specs.declared.cause.Cause.{Cause}
use Rattle.line_grammar.specs.declared.command.Command.{Command}
use Rattle.line_grammar.specs.declared.command.Command.TheVariants as says
use Rattle.request_lines.specs.declared.counts.Counts.{Counts}
use Rattle.request_lines.specs.declared.session.Asked.{Asked}
use Rattle.request_lines.specs.declared.session.ClientPart.{ClientPart}
use Rattle.request_lines.specs.declared.session.Session.{Session}
use Rattle.request_lines.specs.declared.session_error.InputError.{InputError}
use Rattle.request_lines.specs.InputParts.{texts_of, error_at, begins_client}
use Rattle.line_grammar.specs.Line.{reading_of}
use Rattle.request_lines.specs.Input.{most_input_bytes, name_by, record_by}
use Rattle.request_lines.specs.Counting.{counted_with, cause_by_counts}
use Rattle.request_lines.proofs.CountedLines.{Line, lines_from, input_lines, error_of, refusal_of, asked_of, part_of, parts_of, names_of, records_of, IsSessionOf, IsRefused}
use Rattle.request_lines.specs.Reading.{Progress, no_progress, all_ended, ended_by, current_by, kept, taken, error_of_text, Reaches, Meets, TakesAll, HasTaken}

-- the parts of all clients, with the lines that are left, cut at each line that begins a client
abbrev with_pieces : Bool → List ClientPart → List Asked → List (List Line) → List ClientPart
with_pieces true ended current pieces = ended ++ map part_of (drop 1 pieces)
with_pieces false ended current [] = ended ++ record { requests = current } ∷ []
with_pieces false ended current (piece ∷ pieces) = ended ++ record { requests = current ++ filter_map asked_of piece } ∷ map part_of pieces

abbrev begins : Line → Bool
begins l = begins_client l.reading

abbrev with_lines : Progress → List Line → List ClientPart
with_lines p lines = with_pieces (p.counts.clients == 0) p.ended p.current (slice_split begins lines)

-- the lines that are left, of these texts
abbrev left_lines : Progress → ℕ → List (List ℕ) → List Line
left_lines p number texts = lines_from number p.counts texts

-- what is kept of the lines so far and what is left make up the whole
pub record IsHalfway (bytes : List ℕ) (p : Progress) (number : ℕ) (texts : List (List ℕ)) : Type 0 where
  pub refusal : slice_get (filter_map error_of (left_lines p number texts)) 0 ≡ refusal_of bytes
  pub parts : with_lines p (left_lines p number texts) ≡ parts_of (input_lines bytes)
  pub names : p.names ++ names_of (left_lines p number texts) ≡ names_of (input_lines bytes)
  pub records : p.records ++ records_of (left_lines p number texts) ≡ records_of (input_lines bytes)

-- there are always pieces
split_pieces : (lines : List Line) → (piece : List Line) × (pieces : List (List Line)) × (slice_split begins lines ≡ piece ∷ pieces)
split_pieces [] = ([], [], refl)
split_pieces (l ∷ lines) = by_test (begins l) (split_pieces lines)
  where
    by_test : (b : Bool) → (piece : List Line) × (pieces : List (List Line)) × (slice_split begins lines ≡ piece ∷ pieces)
        → (piece : List Line) × (pieces : List (List Line)) × ((if b then [] ∷ slice_split begins lines else onto_first l (slice_split begins lines)) ≡ piece ∷ pieces)
    by_test true more = ([], slice_split begins lines, refl)
    by_test false more = (l ∷ more.0, more.1, ap (onto_first l) more.2)

-- at the start nothing is kept
pub halfway_start : (bytes : List ℕ) → IsHalfway bytes no_progress 1 (texts_of bytes)
unfolding input_lines refusal_of parts_of
halfway_start bytes = record { refusal = refl; parts = refl; names = refl; records = refl }

-- an empty line is skipped
skips : (bytes : List ℕ) (p : Progress) (number : ℕ) (text : List ℕ) (texts : List (List ℕ)) → (length text == 0) ≡ true
    → IsHalfway bytes p number (text ∷ texts) → IsHalfway bytes p (number + 1) texts
unfolding lines_from
skips bytes p number text texts none half =
    record { refusal = rw none at half.refusal; parts = rw none at half.parts; names = rw none at half.names; records = rw none at half.records }

-- where no line is left the session is what was kept
pub halfway_end : (bytes : List ℕ) (p : Progress) (number : ℕ) (session : Session) → IsHalfway bytes p number []
    → session.clients ≡ all_ended p → session.names ≡ p.names → session.records ≡ p.records → IsSessionOf bytes session
unfolding lines_from names_of records_of
halfway_end bytes p number session half clients names records = record {
  faultless = sym half.refusal;
  clients = clients ∙ ended_with (p.counts.clients == 0) p.ended p.current ∙ half.parts;
  names = names ∙ sym (append-nil p.names) ∙ half.names;
  records = records ∙ sym (append-nil p.records) ∙ half.records;
}
  where
    ended_with : (b : Bool) (ended : List ClientPart) (current : List Asked)
        → (if b then ended else ended ++ record { requests = current } ∷ []) ≡ with_pieces b ended current ([] ∷ [])
    ended_with true ended current = sym (append-nil ended)
    ended_with false ended current = ap (λ (asked : List Asked). ended ++ record { requests = asked } ∷ []) (sym (append-nil current))

-- one more at the end, where there is one
keeps_option : {A : Type 0} (xs : List A) (o : Option A) (ys : List A) → (xs ++ option_to_list o) ++ ys ≡ xs ++ cons_option o ys
keeps_option xs None ys = ap (λ front. front ++ ys) (append-nil xs)
keeps_option xs (Some x) ys = append_assoc xs (x ∷ []) ys

-- a line that begins a client ends the one before it
parts_end : (b : Bool) (ended : List ClientPart) (current : List Asked) (piece : List Line) (pieces : List (List Line))
    → with_pieces false (if b then ended else ended ++ record { requests = current } ∷ []) [] (piece ∷ pieces) ≡ with_pieces b ended current ([] ∷ piece ∷ pieces)
parts_end true ended current piece pieces = refl
parts_end false ended current piece pieces = append_assoc ended (record { requests = current } ∷ []) (part_of piece ∷ map part_of pieces)
    ∙ ap (λ (asked : List Asked). ended ++ record { requests = asked } ∷ part_of piece ∷ map part_of pieces) (sym (append-nil current))

-- any other line is one of the client that was begun last
parts_more : (b : Bool) (ended : List ClientPart) (current : List Asked) (l : Line) (piece : List Line) (pieces : List (List Line))
    → with_pieces b ended (current ++ option_to_list (asked_of l)) (piece ∷ pieces) ≡ with_pieces b ended current ((l ∷ piece) ∷ pieces)
parts_more true ended current l piece pieces = refl
parts_more false ended current l piece pieces =
    ap (λ (asked : List Asked). ended ++ record { requests = asked } ∷ map part_of pieces) (keeps_option current (asked_of l) (filter_map asked_of piece))

-- the parts after one more line
parts_kept : (c : Bool) (p : Progress) (l : Line) (lines : List Line) → begins l ≡ c
    → with_pieces (if c then false else (p.counts.clients == 0)) (ended_by c p) (current_by c p (asked_of l)) (slice_split begins lines)
    ≡ with_pieces (p.counts.clients == 0) p.ended p.current (slice_split begins (l ∷ lines))
parts_kept true p l lines is =
    let some = split_pieces lines in
    let cut : slice_split begins (l ∷ lines) ≡ [] ∷ some.0 ∷ some.1 = slice_split-cons_yes begins l lines is ∙ ap (λ (more : List (List Line)). [] ∷ more) some.2 in
    rw (cut, some.2) (parts_end (p.counts.clients == 0) p.ended p.current some.0 some.1)
parts_kept false p l lines is =
    let some = split_pieces lines in
    let cut : slice_split begins (l ∷ lines) ≡ (l ∷ some.0) ∷ some.1 = slice_split-cons_no begins l lines is ∙ ap (onto_first l) some.2 in
    rw (cut, some.2) (parts_more (p.counts.clients == 0) p.ended p.current l some.0 some.1)

-- whether a client was begun before or by this line
clients_counted : (before : Counts) (reading : Result Command Cause) → ((counted_with before reading).clients == 0) ≡ (if begins_client reading then false else (before.clients == 0))
clients_counted before (Ok says.Client) = grind (arith, nat_tests)
clients_counted before (Ok (says.Put when name fields)) = refl
clients_counted before (Ok (says.Delete name)) = refl
clients_counted before (Ok (says.Head name)) = refl
clients_counted before (Ok (says.List query)) = refl
clients_counted before (Ok (says.ListV1 query)) = refl
clients_counted before (Ok says.Next) = refl
clients_counted before (Err cause) = refl

-- a line that is not empty
keeps : (bytes : List ℕ) (p : Progress) (number : ℕ) (text : List ℕ) (texts : List (List ℕ)) → (length text == 0) ≡ false
    → error_at number (cause_by_counts p.counts (reading_of text)) ≡ None
    → IsHalfway bytes p number (text ∷ texts) → IsHalfway bytes (kept p number (reading_of text)) (number + 1) texts
unfolding lines_from kept names_of records_of
keeps bytes p number text texts full right half =
    let reading = reading_of text in
    let l : Line = record { number = number; reading = reading; before = p.counts } in
    let rest : List Line = lines_from (number + 1) (counted_with p.counts reading) texts in
    let refusal : slice_get (filter_map error_of (l ∷ rest)) 0 ≡ refusal_of bytes = rw full at half.refusal in
    let parts : with_lines p (l ∷ rest) ≡ parts_of (input_lines bytes) = rw full at half.parts in
    let names : p.names ++ names_of (l ∷ rest) ≡ names_of (input_lines bytes) = rw full at half.names in
    let records : p.records ++ records_of (l ∷ rest) ≡ records_of (input_lines bytes) = rw full at half.records in
    record {
      refusal = rw right at refusal;
      parts = ap (λ none. with_pieces none (ended_by (begins_client reading) p) (current_by (begins_client reading) p (asked_of l)) (slice_split begins rest)) (clients_counted p.counts reading)
          ∙ parts_kept (begins_client reading) p l rest refl ∙ parts;
      names = keeps_option p.names (name_by reading) (names_of rest) ∙ names;
      records = keeps_option p.records (record_by reading) (records_of rest) ∙ records;
    }

-- the next line is taken where it has no cause
pub halfway_more : (bytes : List ℕ) (p : Progress) (number : ℕ) (text : List ℕ) (texts : List (List ℕ)) → error_of_text p number text ≡ None
    → IsHalfway bytes p number (text ∷ texts) → IsHalfway bytes (taken p number text) (number + 1) texts
unfolding taken error_of_text
halfway_more bytes p number text texts right half =
    elim (cases_Bool (length text == 0)) [
      | inl empty ↦ rw empty (skips bytes p number text texts empty half)
      | inr full ↦ rw full (keeps bytes p number text texts full (rw full at right) half)
    ]

-- and else it is the refusal
halfway_refused : (bytes : List ℕ) (p : Progress) (number : ℕ) (text : List ℕ) (texts : List (List ℕ)) (e : InputError) → error_of_text p number text ≡ Some e
    → IsHalfway bytes p number (text ∷ texts) → refusal_of bytes ≡ Some e
unfolding error_of_text lines_from
halfway_refused bytes p number text texts e wrong half =
    elim (cases_Bool (length text == 0)) [
      | inl empty ↦ let none = rw empty at wrong in cc
      | inr full ↦
          let cause : error_at number (cause_by_counts p.counts (reading_of text)) ≡ Some e = rw full at wrong in
          let refusal = rw full at half.refusal in
          sym (rw cause at refusal)
    ]

-- what a reader answers where no line is left
pub session_at : (bytes : List ℕ) (p : Progress) (number : ℕ) (r : Result Session SessionError) → IsHalfway bytes p number []
    → IfOk r (λ s. s.clients ≡ all_ended p) → IfOk r (λ s. s.names ≡ p.names) → IfOk r (λ s. s.records ≡ p.records) → IfOk r (IsSessionOf bytes)
session_at bytes p number (Ok s) half clients names records = halfway_end bytes p number s half clients names records
session_at bytes p number (Err e) half clients names records = tt

pub answer_at : (bytes : List ℕ) (r : Result Session SessionError) → IfOk r (IsSessionOf bytes) → IsOkUnless r errors.NoMemory → IsRefused bytes r
answer_at bytes (Ok s) right memory = right.faultless
answer_at bytes (Err errors.NoMemory) right memory = tt
answer_at bytes (Err (errors.Input e)) right memory = cc

-- ---- several lines

-- the next lines are taken where none has a cause
halfway_all : (bytes : List ℕ) (p after : Progress) (number : ℕ) (texts behind : List (List ℕ)) → Reaches p number texts after
    → IsHalfway bytes p number (texts ++ behind) → IsHalfway bytes after (number + length texts) behind
halfway_all bytes p after number [] behind reached half =
    let same : number ≡ number + length {A = List ℕ} [] = omega arith in
    subst (λ (n : ℕ). IsHalfway bytes after n behind) same (subst (λ (q : Progress). IsHalfway bytes q number behind) (sym reached) half)
halfway_all bytes p after number (text ∷ texts) behind reached half =
    let next : number + 1 + length texts ≡ number + length (text ∷ texts) = omega arith in
    subst (λ (n : ℕ). IsHalfway bytes after n behind) next
    (halfway_all bytes (taken p number text) after (number + 1) texts behind reached.1 (halfway_more bytes p number text (texts ++ behind) reached.0 half))

-- and else the first cause is the refusal
halfway_meets : (bytes : List ℕ) (p : Progress) (number : ℕ) (texts behind : List (List ℕ)) (e : InputError) → Meets p number texts e
    → IsHalfway bytes p number (texts ++ behind) → refusal_of bytes ≡ Some e
halfway_meets bytes p number [] behind e met half = elim met [ ]
halfway_meets bytes p number (text ∷ texts) behind e met half =
    elim met [
      | inl here ↦ halfway_refused bytes p number text (texts ++ behind) e here half
      | inr later ↦ halfway_meets bytes (taken p number text) (number + 1) texts behind e later.1 (halfway_more bytes p number text (texts ++ behind) later.0 half)
    ]

-- lines that are not all taken are the refusal
refused_among : (bytes : List ℕ) (p after : Progress) (before : ℕ) (texts behind : List (List ℕ)) (e : SessionError) → TakesAll p before texts after (Err e)
    → IsHalfway bytes p (before + 1) (texts ++ behind) → IsRefused bytes (Err e)
refused_among bytes p after before texts behind (errors.Input e) met half = halfway_meets bytes p (before + 1) texts behind e met half
refused_among bytes p after before texts behind errors.NoMemory met half = tt

-- ---- all lines of the input

whole_start : (bytes : List ℕ) → IsHalfway bytes no_progress 1 (texts_of bytes ++ [])
whole_start bytes = subst (IsHalfway bytes no_progress 1) (sym (append-nil (texts_of bytes))) (halfway_start bytes)

pub halfway_whole : (bytes : List ℕ) (after : Progress) → HasTaken bytes after → IsHalfway bytes after (1 + length (texts_of bytes)) []
halfway_whole bytes after taken = halfway_all bytes no_progress after 1 (texts_of bytes) [] taken.reached (whole_start bytes)

-- a reader that started before the first line has taken all lines of the input, or refused one
from_start : (bytes : List ℕ) (p after : Progress) (texts : List (List ℕ)) (r : Result ℕ SessionError) → p ≡ no_progress → texts ≡ texts_of bytes → TakesAll p 0 texts after r
    → TakesAll no_progress 0 (texts_of bytes) after r
from_start bytes p after texts r start same takes =
    subst (λ (q : Progress). TakesAll q 0 (texts_of bytes) after r) start (subst (λ (ts : List (List ℕ)). TakesAll p 0 ts after r) same takes)

pub taken_whole : (bytes : List ℕ) (p after : Progress) (texts : List (List ℕ)) (number : ℕ) → p ≡ no_progress → texts ≡ texts_of bytes → length bytes ≤ most_input_bytes
    → TakesAll p 0 texts after (Ok number) → HasTaken bytes after
taken_whole bytes p after texts number start same small took = record { small = small; reached = (from_start bytes p after texts (Ok number) start same took).1 }

pub refused_whole : (bytes : List ℕ) (p after : Progress) (texts : List (List ℕ)) (e : SessionError) → p ≡ no_progress → texts ≡ texts_of bytes → TakesAll p 0 texts after (Err e)
    → IsRefused bytes (Err e)
refused_whole bytes p after texts e start same refused =
    refused_among bytes no_progress after 0 (texts_of bytes) [] e (from_start bytes p after texts (Err e) start same refused) (whole_start bytes)
