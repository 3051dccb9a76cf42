-- What is read has a name that an object may have, or a query that a listing takes.
use Rattle.std.proofs.Common.{◌≤◌, ◌≡◌, ℕ, Bool, true, false, ◌&&◌, List, [], ◌∷◌, length, Option, Some, None, Result, Ok, Err, IfOk, subst, refl, arith, rules, min, sym}
use Rattle.std.specs.Prelude.{not, if◌then◌else◌, ◌==◌, nat_lt, nat_le}
use Rattle.std.specs.Option.{option_or, option_map_or}
use Rattle.std.specs.Str.{IsUtf8, is_utf8}
use Rattle.std.proofs.lemmas.Str.{IsUtf8-from_is_utf8, IsUtf8-nil}
use Rattle.std.proofs.lemmas.Bool.Decides.{nat_tests}
use Rattle.percent_encoding.specs.Percent.{percent_decode}
use Rattle.key_names.specs.Names.{IsFine, most_name_bytes}
use Rattle.line_grammar.specs.declared.parameter.Version.{Version}
use Rattle.line_grammar.specs.declared.parameter.Version.TheVariants.{V1, V2}
use Rattle.line_grammar.specs.declared.values.Values.{Values}
use Rattle.line_grammar.specs.declared.cause.Cause.{Cause}
use Rattle.line_grammar.specs.declared.command.Command.{Command}
use Rattle.line_grammar.specs.declared.command.Command.TheVariants as says
use Rattle.line_grammar.specs.declared.line_error.LineError.{LineError}
use Rattle.line_grammar.specs.declared.parameter.Name.{Name}
use Rattle.line_grammar.specs.declared.parameter.Name.TheVariants as names
use Rattle.line_grammar.specs.declared.verb.PutWhen.{PutWhen}
use Rattle.line_grammar.specs.declared.verb.Verb.{Verb}
use Rattle.line_grammar.specs.declared.verb.Verb.TheVariants as verbs
use Rattle.line_grammar.specs.Left.{fields_of}
use Rattle.line_grammar.specs.Texts.{◌>>=◌, unescaped, escapes_are_whole, key_read, numbers_read, etag_read}
use Rattle.line_grammar.specs.ReadAnswers.{Reads}
use Rattle.line_grammar.specs.Causes.{earliest, place_of}
use Rattle.line_grammar.specs.declared.cause.Cause.TheVariants.{EmptyKey, KeyTooLong, UnknownVerb, UnknownParameter}
use Rattle.line_grammar.specs.Line.{is_max_keys, most_keys, put_read, read_fields, verb_of, read_line, reading_of}
use Rattle.line_grammar.specs.QueryValues.{no_values, query_read, listing_of}
use Rattle.line_grammar.specs.NamedQueries as q
use Rattle.std.specs.Str.Parse.{digits_value}
use Rattle.line_grammar.specs.Asking as k
use Rattle.line_grammar.proofs.AskedAll.{nothing_asked, values_by}
use Rattle.line_grammar.specs.Asking.{asking_with, with_parameter, name_cause, parameter_cause, is_long_for}
use Rattle.line_grammar.specs.NamedQueries.{parameter_read, parameters_read}
use Rattle.line_grammar.proofs.QueryLaws.{query_read_by}
use Rattle.line_grammar.proofs.QueryListings.{no_query, listing_read_is}
use Rattle.line_grammar.specs.Fine.{IsFineCommand}

-- what is read has this property
abbrev Gives : {A : Type 0} → (A → Type 0) → Result A Cause → Type 0
Gives P (Ok x) = P x
Gives P (Err cause) = Unit {0}

abbrev pub IsFineReading : Result Command Cause → Type 0
IsFineReading reading = Gives IsFineCommand reading

-- a choice of two readings has what each has
if_gives : {A : Type 0} (P : A → Type 0) (b : Bool) (x y : Result A Cause) → (b ≡ true → Gives P x) → (b ≡ false → Gives P y) → Gives P (if b then x else y)
if_gives P true x y chosen other = chosen refl
if_gives P false x y chosen other = other refl

-- one reading after another has what the second has
then_gives : {A B : Type 0} (P : A → Type 0) (Q : B → Type 0) (x : Result A Cause) (f : A → Result B Cause) → Gives P x → ((y : A) → P y → Gives Q (f y)) → Gives Q (x >>= f)
then_gives P Q (Ok x) f first next = next x first
then_gives P Q (Err cause) f first next = tt

any : {A : Type 0} (r : Result A Cause) → Gives (λ _. Unit {0}) r
any (Ok x) = tt
any (Err cause) = tt

unescaped_text : (text : List ℕ) → Gives IsUtf8 (unescaped text)
unfolding unescaped
unescaped_text text = if_gives IsUtf8 (escapes_are_whole text && is_utf8 (percent_decode text)) _ _ (λ whole. IsUtf8-from_is_utf8 (percent_decode text) (search rules)) (λ _. tt)

name_fine : (name : List ℕ) → IsUtf8 name → Gives IsFine (if length name == 0 then Err EmptyKey else if nat_lt most_name_bytes (length name) then Err KeyTooLong else Ok name)
name_fine name utf8 = if_gives IsFine (length name == 0) _ _ (λ _. tt) (λ some.
    if_gives IsFine (nat_lt 1024 (length name)) _ _ (λ _. tt) (λ short. record { not_empty = grind (arith, nat_tests); short = grind (arith, nat_tests); text = utf8 }))

key_fine : (key : List ℕ) → Gives IsFine (key_read key)
unfolding key_read
key_fine key = then_gives IsUtf8 IsFine (unescaped key) _ (unescaped_text key) name_fine

put_fine : (when : PutWhen) (key size etag modified : List ℕ) → IsFineReading (put_read when key size etag modified)
unfolding put_read
put_fine when key size etag modified =
    then_gives IsFine IsFineCommand (key_read key) _ (key_fine key) (λ name fine.
    then_gives (λ _. Unit {0}) IsFineCommand (numbers_read size modified) _ (any _) (λ _ _.
    then_gives (λ _. Unit {0}) IsFineCommand (etag_read etag) _ (any _) (λ _ _. fine)))

delete_fine : (key : List ℕ) → IsFineReading (key_read key >>= (λ name. Ok (says.Delete name)))
delete_fine key = then_gives IsFine IsFineCommand (key_read key) _ (key_fine key) (λ name fine. fine)

head_fine : (key : List ℕ) → IsFineReading (key_read key >>= (λ name. Ok (says.Head name)))
head_fine key = then_gives IsFine IsFineCommand (key_read key) _ (key_fine key) (λ name fine. fine)

-- ---- queries

-- values that either listing takes: texts of UTF-8, four of them of at most 1,024 bytes, and at most 1,000 entries
record AreFine (v : Values) : Type 0 where
  short_prefix : length v.prefix ≤ most_name_bytes
  short_delimiter : length v.delimiter ≤ most_name_bytes
  short_start_after : length v.start_after ≤ most_name_bytes
  short_marker : length v.marker ≤ most_name_bytes
  prefix : IsUtf8 v.prefix
  delimiter : IsUtf8 v.delimiter
  start_after : IsUtf8 v.start_after
  token : IsUtf8 v.token
  marker : IsUtf8 v.marker
  entries : v.max_keys ≤ most_keys

none_fine : AreFine no_values
none_fine = record {
  short_prefix = omega arith;
  short_delimiter = omega arith;
  short_start_after = omega arith;
  short_marker = omega arith;
  prefix = IsUtf8-nil;
  delimiter = IsUtf8-nil;
  start_after = IsUtf8-nil;
  token = IsUtf8-nil;
  marker = IsUtf8-nil;
  entries = omega arith;
}

listing_fine : (version : Version) (v : Values) → AreFine v → IsFineCommand (listing_of version v)
listing_fine V1 v fine = record {
  short_prefix = fine.short_prefix;
  short_delimiter = fine.short_delimiter;
  short_marker = fine.short_marker;
  prefix = fine.prefix;
  delimiter = fine.delimiter;
  marker = fine.marker;
  entries = fine.entries;
}
listing_fine V2 v fine = record {
  short_prefix = fine.short_prefix;
  short_delimiter = fine.short_delimiter;
  short_start_after = fine.short_start_after;
  prefix = fine.prefix;
  delimiter = fine.delimiter;
  start_after = fine.start_after;
  token = fine.token;
  entries = fine.entries;
}

-- where no cause has come the values so far are fine
abbrev IsFineAsking : k.Asking → Type 0
IsFineAsking a = a.cause ≡ None → AreFine a.values

no_earlier : (cause other : Option Cause) → earliest cause other ≡ None → (cause ≡ None) × (other ≡ None)
unfolding earliest
no_earlier None other none = (refl, none)
no_earlier (Some cause) None none = cc
no_earlier (Some cause) (Some other) none = absurd (one (nat_le (place_of cause) (place_of other)) none)
  where
    chosen : Bool → Option Cause
    chosen b = if b then Some cause else Some other

    one : (b : Bool) → chosen b ≡ None → ⊥
    one true is = cc
    one false is = cc

not_long : (version : Version) (seen : List Name) (name : Name) (value : List ℕ) → parameter_cause version seen (Some name) value ≡ None
    → (q.is_compared version name && nat_lt 1024 (length value)) ≡ false
unfolding parameter_cause name_cause is_long_for
not_long version seen name value none = by_test (q.is_compared version name && nat_lt 1024 (length value)) _ _ none
  where
    by_test : (b : Bool) (other of_value : Option Cause) → option_or (if b then Some KeyTooLong else other) of_value ≡ None → b ≡ false
    by_test true other of_value is = cc
    by_test false other of_value is = refl

is_known : (version : Version) (seen : List Name) (name : Name) (value : List ℕ) → parameter_cause version seen (Some name) value ≡ None → q.is_taken version name ≡ true
unfolding parameter_cause name_cause is_long_for
is_known version seen name value none = by_tests (q.is_compared version name && nat_lt 1024 (length value)) (q.is_taken version name) _ _ none
  where
    by_tests : (long taken : Bool) (other of_value : Option Cause)
        → option_or (if long then Some KeyTooLong else if not taken then Some UnknownParameter else other) of_value ≡ None → taken ≡ true
    by_tests true taken other of_value is = cc
    by_tests false true other of_value is = refl
    by_tests false false other of_value is = cc

most_small : (b : Bool) (n : ℕ) → (if b then min n 1000 else 1000) ≤ 1000
most_small true n = omega arith
most_small false n = omega arith

fine_with : (version : Version) (v : Values) (seen : List Name) (name : Option Name) (value : List ℕ) → IsUtf8 value → parameter_cause version seen name value ≡ None
    → AreFine v → AreFine (with_parameter v name value)
unfolding with_parameter
fine_with version v seen None value utf8 none fine = fine
fine_with version v seen (Some names.ListType) value utf8 none fine = fine
fine_with version v seen (Some names.FetchOwner) value utf8 none fine = fine
fine_with version v seen (Some names.Prefix) value utf8 none fine =
    let short : nat_lt 1024 (length value) ≡ false = not_long version seen names.Prefix value none in
    record {
      short_prefix = grind (arith, nat_tests);
      short_delimiter = fine.short_delimiter;
      short_start_after = fine.short_start_after;
      short_marker = fine.short_marker;
      prefix = utf8;
      delimiter = fine.delimiter;
      start_after = fine.start_after;
      token = fine.token;
      marker = fine.marker;
      entries = fine.entries;
    }
fine_with version v seen (Some names.Delimiter) value utf8 none fine =
    let short : nat_lt 1024 (length value) ≡ false = not_long version seen names.Delimiter value none in
    record {
      short_prefix = fine.short_prefix;
      short_delimiter = grind (arith, nat_tests);
      short_start_after = fine.short_start_after;
      short_marker = fine.short_marker;
      prefix = fine.prefix;
      delimiter = utf8;
      start_after = fine.start_after;
      token = fine.token;
      marker = fine.marker;
      entries = fine.entries;
    }
fine_with version v seen (Some names.StartAfter) value utf8 none fine =
    let short : nat_lt 1024 (length value) ≡ false = not_long version seen names.StartAfter value none in
    record {
      short_prefix = fine.short_prefix;
      short_delimiter = fine.short_delimiter;
      short_start_after = grind (arith, nat_tests);
      short_marker = fine.short_marker;
      prefix = fine.prefix;
      delimiter = fine.delimiter;
      start_after = utf8;
      token = fine.token;
      marker = fine.marker;
      entries = fine.entries;
    }
fine_with V1 v seen (Some names.Marker) value utf8 none fine =
    let short : nat_lt 1024 (length value) ≡ false = not_long V1 seen names.Marker value none in
    record {
      short_prefix = fine.short_prefix;
      short_delimiter = fine.short_delimiter;
      short_start_after = fine.short_start_after;
      short_marker = grind (arith, nat_tests);
      prefix = fine.prefix;
      delimiter = fine.delimiter;
      start_after = fine.start_after;
      token = fine.token;
      marker = utf8;
      entries = fine.entries;
    }
fine_with V2 v seen (Some names.Marker) value utf8 none fine = let known : false ≡ true = is_known V2 seen names.Marker value none in cc
fine_with version v seen (Some names.ContinuationToken) value utf8 none fine =
    record {
      short_prefix = fine.short_prefix;
      short_delimiter = fine.short_delimiter;
      short_start_after = fine.short_start_after;
      short_marker = fine.short_marker;
      prefix = fine.prefix;
      delimiter = fine.delimiter;
      start_after = fine.start_after;
      token = utf8;
      marker = fine.marker;
      entries = fine.entries;
    }
fine_with version v seen (Some names.EncodingType) value utf8 none fine =
    record {
      short_prefix = fine.short_prefix;
      short_delimiter = fine.short_delimiter;
      short_start_after = fine.short_start_after;
      short_marker = fine.short_marker;
      prefix = fine.prefix;
      delimiter = fine.delimiter;
      start_after = fine.start_after;
      token = fine.token;
      marker = fine.marker;
      entries = fine.entries;
    }
fine_with version v seen (Some names.MaxKeys) value utf8 none fine =
    record {
      short_prefix = fine.short_prefix;
      short_delimiter = fine.short_delimiter;
      short_start_after = fine.short_start_after;
      short_marker = fine.short_marker;
      prefix = fine.prefix;
      delimiter = fine.delimiter;
      start_after = fine.start_after;
      token = fine.token;
      marker = fine.marker;
      entries = most_small (is_max_keys value) (digits_value 10 value);
    }

asking_fine : (a : k.Asking) (p : q.Parameter) → IsUtf8 p.value → IsFineAsking a → IsFineAsking (asking_with a p)
unfolding asking_with
asking_fine a p utf8 fine none =
    let each = no_earlier a.cause (parameter_cause a.version a.names p.name p.value) none in
    fine_with a.version a.values a.names p.name p.value utf8 each.1 (fine each.0)

abbrev AreTexts : List q.Parameter → Type 0
AreTexts [] = Unit {0}
AreTexts (p ∷ ps) = IsUtf8 p.value × AreTexts ps

parameters_texts : (pieces : List (List ℕ)) → Gives AreTexts (q.parameters_read pieces)
unfolding parameters_read parameter_read
parameters_texts [] = tt
parameters_texts (piece ∷ pieces) = if_gives AreTexts (length piece == 0) _ _ (λ _. parameters_texts pieces) (λ _.
    then_gives (λ (p : q.Parameter). IsUtf8 p.value) AreTexts (q.parameter_read piece) _
    (then_gives IsUtf8 (λ (p : q.Parameter). IsUtf8 p.value) (unescaped (q.value_of_piece piece)) _ (unescaped_text (q.value_of_piece piece)) (λ value utf8. utf8))
    (λ p utf8. then_gives AreTexts AreTexts (q.parameters_read pieces) _ (parameters_texts pieces) (λ ps texts. (utf8, texts))))

values_or_fine : (cause : Option Cause) (v : Values) → (cause ≡ None → AreFine v) → Gives AreFine (q.values_or cause v)
values_or_fine None v fine = fine refl
values_or_fine (Some cause) v fine = tt

values_by_fine : (a : k.Asking) (ps : List q.Parameter) → AreTexts ps → IsFineAsking a → Gives AreFine (values_by a ps)
values_by_fine a [] texts fine = values_or_fine a.cause a.values fine
values_by_fine a (p ∷ ps) texts fine = values_by_fine (asking_with a p) ps texts.1 (asking_fine a p texts.0 fine)

query_fine : (version : Version) (text : List ℕ) → Gives AreFine (query_read version text)
query_fine version text = subst (Gives AreFine) (sym (query_read_by version text)) (then_gives AreTexts AreFine (q.parameters_read (q.pieces_of text)) _ (parameters_texts (q.pieces_of text))
    (λ ps texts. values_by_fine (nothing_asked version) ps texts (λ none. none_fine)))

list_fine : (version : Version) (text : List ℕ) → IsFineReading (query_read version text >>= (λ values. Ok (listing_of version values)))
list_fine version text = then_gives AreFine IsFineCommand (query_read version text) _ (query_fine version text) (λ v fine. listing_fine version v fine)

-- ---- lines

fields_fine : (verb : Verb) (fields : List (List ℕ)) → IsFineReading (read_fields verb fields)
unfolding read_fields
fields_fine verbs.Client [] = tt
fields_fine (verbs.Put when) (key ∷ size ∷ etag ∷ modified ∷ []) = put_fine when key size etag modified
fields_fine verbs.Delete (key ∷ []) = delete_fine key
fields_fine verbs.Head (key ∷ []) = head_fine key
fields_fine (verbs.List version) [] = subst IsFineReading (sym (no_query version)) (listing_fine version no_values none_fine)
fields_fine (verbs.List version) (query ∷ []) = subst IsFineReading (sym (listing_read_is version query)) (list_fine version query)
fields_fine verbs.Next [] = tt
fields_fine verb fields = tt

verb_fine : (verb : Option Verb) (fields : List (List ℕ)) → IsFineReading (option_map_or (λ (v : Verb). read_fields v fields) verb (Err UnknownVerb))
verb_fine None fields = tt
verb_fine (Some verb) fields = fields_fine verb fields

line_fine : (fields : List (List ℕ)) → IsFineReading (read_line fields)
unfolding read_line
line_fine [] = tt
line_fine (verb ∷ fields) = verb_fine (verb_of verb) fields

pub reading_fine : (text : List ℕ) → IsFineReading (reading_of text)
unfolding reading_of
reading_fine text = if_gives IsFineCommand (is_utf8 text) _ _ (λ _. line_fine (fields_of text)) (λ _. tt)

-- so is what a function that reads returns
pub fine_answer : (answer : Result Command LineError) (read : Result Command Cause) → IsFineReading read → Reads answer read → IfOk answer IsFineCommand
fine_answer (Ok command) read fine is = let P : Result Command Cause → Type 0 = IsFineReading in subst P is fine
fine_answer (Err e) read fine is = tt
