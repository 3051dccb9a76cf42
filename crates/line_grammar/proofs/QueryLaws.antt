-- What a reader of a query keeps is what its parameters ask.
use Rattle.std.proofs.Common.{◌≡◌, ℕ, Bool, true, false, List, [], ◌∷◌, Option, Some, None, Result, Ok, Err, refl, ap, sym, ◌∙◌, arith}
use Rattle.std.proofs.lemmas.Bool.Decides.{nat_tests}
use Rattle.std.specs.Prelude.{◌==◌, ◌||◌, if◌then◌else◌}
use Rattle.std.specs.List.{list_any, find}
use Rattle.std.specs.Option.{option_map_or}
use Rattle.line_grammar.specs.declared.cause.Cause.{Cause}
use Rattle.line_grammar.specs.declared.cause.Cause.TheVariants.{KeyTooLong, UnknownParameter, RepeatedParameter, BadListType, BadMaxKeys, BadEncoding, BadFetchOwner}
use Rattle.line_grammar.specs.declared.cause.Cause.TheVariants as causes
use Rattle.line_grammar.specs.declared.parameter.Name.{Name}
use Rattle.line_grammar.specs.declared.parameter.Name.TheVariants as names
use Rattle.line_grammar.specs.declared.parameter.Version.{Version}
use Rattle.line_grammar.specs.declared.values.Values.{Values}
use Rattle.line_grammar.specs.Asking.{Asking, asking_with, with_name, with_parameter, parameter_cause}
use Rattle.line_grammar.proofs.AskedAll.{nothing_asked, values_by, given, with_all}
use Rattle.line_grammar.specs.Causes.{earliest}
use Rattle.line_grammar.specs.NamedQueries.{Parameter, place_of_name, is_name, is_same_name, is_unknown, is_too_long, repeats, have, parameters_read, pieces_of, values_or, values_of, values_said, query_by_names, value_of, as_it_is, is_url}
use Rattle.line_grammar.specs.Line.{parameter_causes, most_entries}
use Rattle.line_grammar.specs.QueryValues.{no_values, query_read}
use Rattle.line_grammar.proofs.ByNames.{query_same}
use Rattle.line_grammar.specs.Texts.{◌>>=◌}
use Rattle.line_grammar.proofs.QueryCauses.{any_same, or_false, neither, any_none, behind, holds_behind, own, holds_more, holds_none, parameter_cause_is, earliest_first, first_same, in_order}

-- ---- the values

asked_step : (values : Values) (name : Option Name) (value : List ℕ) (ps : List Parameter)
    → with_all (with_parameter values name value) ps ≡ with_all values (record { name = name; value = value } ∷ ps)
unfolding with_parameter
asked_step values None value ps = refl
asked_step values (Some names.ListType) value ps = refl
asked_step values (Some names.Prefix) value ps = refl
asked_step values (Some names.Delimiter) value ps = refl
asked_step values (Some names.MaxKeys) value ps = refl
asked_step values (Some names.StartAfter) value ps = refl
asked_step values (Some names.ContinuationToken) value ps = refl
asked_step values (Some names.EncodingType) value ps = refl
asked_step values (Some names.FetchOwner) value ps = refl
asked_step values (Some names.Marker) value ps = refl

or_thrice : (a b c : Bool) → ((a || b) || c) ≡ (a || (b || c))
or_thrice true b c = refl
or_thrice false b c = refl

kept_values : (a : Asking) (held : Cause → Bool) (ps : List Parameter) → a.cause ≡ find held parameter_causes
    → values_by a ps ≡ values_or (find (λ c. held c || holds_behind a.version a.names ps c) parameter_causes) (with_all a.values ps)
unfolding asking_with
kept_values a held [] is =
    ap (λ o. values_or o a.values)
    (is ∙ first_same held (λ c. held c || holds_behind a.version a.names [] c) parameter_causes
    (λ c. sym (ap (λ b. held c || b) (holds_none a.version a.names c) ∙ or_false (held c))))
kept_values a held (p ∷ ps) is =
    let more : Cause → Bool = λ c. held c || own a.version a.names p c in
    let cause : earliest a.cause (parameter_cause a.version a.names p.name p.value) ≡ find more parameter_causes =
    ap (λ o. earliest o (parameter_cause a.version a.names p.name p.value)) is
    ∙ ap (earliest (find held parameter_causes)) (parameter_cause_is a.version a.names p.name p.value)
    ∙ earliest_first 0 held (own a.version a.names p) parameter_causes in_order in
    kept_values (asking_with a p) more ps cause
    ∙ ap (λ o. values_or o (with_all (with_parameter a.values p.name p.value) ps))
    (first_same (λ c. more c || holds_behind a.version (with_name a.names p.name) ps c) (λ c. held c || holds_behind a.version a.names (p ∷ ps) c) parameter_causes
    (λ c. or_thrice (held c) (own a.version a.names p c) (holds_behind a.version (with_name a.names p.name) ps c) ∙ ap (λ b. held c || b) (sym (holds_more a.version a.names p ps c))))
    ∙ ap (values_or (find (λ c. held c || holds_behind a.version a.names (p ∷ ps) c) parameter_causes)) (asked_step a.values p.name p.value ps)

-- after no name
have_is : (version : Version) (ps : List Parameter) (c : Cause) → holds_behind version [] ps c ≡ have version ps c
have_is version ps RepeatedParameter = ap (λ b. b || repeats ps) (any_same (λ (q : Parameter). behind [] q.name) (λ q. false) ps (λ q. no_name q.name) ∙ any_none ps)
  where
    no_name : (name : Option Name) → behind [] name ≡ false
    no_name None = refl
    no_name (Some name) = refl
have_is version ps causes.NotUtf8 = refl
have_is version ps causes.UnknownVerb = refl
have_is version ps causes.WrongFields = refl
have_is version ps causes.BadEscape = refl
have_is version ps causes.EmptyKey = refl
have_is version ps causes.KeyTooLong = refl
have_is version ps causes.BadNumber = refl
have_is version ps causes.NumberTooLarge = refl
have_is version ps causes.BadEtag = refl
have_is version ps causes.UnknownParameter = refl
have_is version ps causes.BadListType = refl
have_is version ps causes.BadMaxKeys = refl
have_is version ps causes.BadEncoding = refl
have_is version ps causes.BadFetchOwner = refl
have_is version ps causes.NoClient = refl
have_is version ps causes.TooManyClients = refl
have_is version ps causes.TooManyLines = refl
have_is version ps causes.TooManyEntries = refl
have_is version ps causes.NoText = refl

-- ---- where no name stands twice

given_none : {A : Type 0} (name : Name) (says : List ℕ → A) (other : A) (ps : List Parameter) → list_any (λ (p : Parameter). is_name name p.name) ps ≡ false → given name says other ps ≡ other
given_none name says other [] none = refl
given_none name says other (p ∷ ps) none =
    let each = neither (is_name name p.name) (list_any (λ (q : Parameter). is_name name q.name) ps) none in
    given_none name says (if is_name name p.name then says p.value else other) ps each.1 ∙ ap (λ b. if b then says p.value else other) each.0

-- a name is the one of a parameter, so no parameter after it has that name
others_none : (name : Name) (first : Option Name) (ps : List Parameter) → is_name name first ≡ true → list_any (λ (q : Parameter). is_same_name first q.name) ps ≡ false
    → list_any (λ (q : Parameter). is_name name q.name) ps ≡ false
others_none name None ps is none = cc
others_none name (Some n) ps is none = any_same (λ (q : Parameter). is_name name q.name) (λ (q : Parameter). is_name n q.name) ps (λ q. same_test q.name) ∙ none
  where
    places : place_of_name n ≡ place_of_name name
    places = grind (arith, nat_tests)

    same_test : (other : Option Name) → is_name name other ≡ is_name n other
    same_test None = refl
    same_test (Some other) = ap (λ k. place_of_name other == k) (sym places)

first_given : {A : Type 0} (name : Name) (says : List ℕ → A) (other : A) (ps : List Parameter) → repeats ps ≡ false → given name says other ps ≡ option_map_or says (value_of name ps) other
first_given name says other [] none = refl
first_given name says other (p ∷ ps) none =
    let each = neither (list_any (λ (q : Parameter). is_same_name p.name q.name) ps) (repeats ps) none in
    by_test (λ is. given_none name says (says p.value) ps (others_none name p.name ps is each.0)) (first_given name says other ps each.1) (is_name name p.name) refl
  where
    by_test : (is_name name p.name ≡ true → given name says (says p.value) ps ≡ says p.value) → given name says other ps ≡ option_map_or says (value_of name ps) other
        → (b : Bool) → is_name name p.name ≡ b
        → given name says (if b then says p.value else other) ps ≡ option_map_or says (if b then Some p.value else value_of name ps) other
    by_test here behind true is = here is
    by_test here behind false is = behind

values_are : (a b : Values) → a.prefix ≡ b.prefix → a.delimiter ≡ b.delimiter → a.start_after ≡ b.start_after → a.token ≡ b.token → a.marker ≡ b.marker → a.max_keys ≡ b.max_keys → a.url ≡ b.url → a ≡ b
values_are a b prefix delimiter start_after token marker max_keys url =
    ap (λ x. record { prefix = x; delimiter = a.delimiter; start_after = a.start_after; token = a.token; marker = a.marker; max_keys = a.max_keys; url = a.url }) prefix
    ∙ ap (λ x. record { prefix = b.prefix; delimiter = x; start_after = a.start_after; token = a.token; marker = a.marker; max_keys = a.max_keys; url = a.url }) delimiter
    ∙ ap (λ x. record { prefix = b.prefix; delimiter = b.delimiter; start_after = x; token = a.token; marker = a.marker; max_keys = a.max_keys; url = a.url }) start_after
    ∙ ap (λ x. record { prefix = b.prefix; delimiter = b.delimiter; start_after = b.start_after; token = x; marker = a.marker; max_keys = a.max_keys; url = a.url }) token
    ∙ ap (λ x. record { prefix = b.prefix; delimiter = b.delimiter; start_after = b.start_after; token = b.token; marker = x; max_keys = a.max_keys; url = a.url }) marker
    ∙ ap (λ x. record { prefix = b.prefix; delimiter = b.delimiter; start_after = b.start_after; token = b.token; marker = b.marker; max_keys = x; url = a.url }) max_keys
    ∙ ap (λ x. record { prefix = b.prefix; delimiter = b.delimiter; start_after = b.start_after; token = b.token; marker = b.marker; max_keys = b.max_keys; url = x }) url

asked_is : (ps : List Parameter) → repeats ps ≡ false → with_all no_values ps ≡ values_said ps
asked_is ps none =
    values_are (with_all no_values ps) (values_said ps) (first_given names.Prefix as_it_is [] ps none) (first_given names.Delimiter as_it_is [] ps none) (first_given names.StartAfter as_it_is [] ps none)
    (first_given names.ContinuationToken as_it_is [] ps none) (first_given names.Marker as_it_is [] ps none) (first_given names.MaxKeys most_entries 1000 ps none) (first_given names.EncodingType is_url false ps none)

none_repeats : (version : Version) (ps : List Parameter) → find (have version ps) parameter_causes ≡ None → repeats ps ≡ false
none_repeats version ps none = third (list_any (is_too_long version) ps) (list_any (λ p. is_unknown version p.name) ps) (repeats ps) _ none
  where
    third : (a b c : Bool) (rest : Option Cause) → (if a then Some KeyTooLong else if b then Some UnknownParameter else if c then Some RepeatedParameter else rest) ≡ None → c ≡ false
    third true b c rest none = cc
    third false true c rest none = cc
    third false false true rest none = cc
    third false false false rest none = refl

or_same : (o : Option Cause) (a b : Values) → (o ≡ None → a ≡ b) → values_or o a ≡ values_or o b
or_same None a b same = ap Ok (same refl)
or_same (Some cause) a b same = refl

values_by_is : (version : Version) (ps : List Parameter) → values_by (nothing_asked version) ps ≡ values_of version ps
values_by_is version ps =
    kept_values (nothing_asked version) (λ c. false) ps refl
    ∙ ap (λ o. values_or o (with_all no_values ps)) (first_same (holds_behind version [] ps) (have version ps) parameter_causes (have_is version ps))
    ∙ or_same (find (have version ps) parameter_causes) (with_all no_values ps) (values_said ps) (λ none. asked_is ps (none_repeats version ps none))

-- reading a query gives what a reader keeps of its parameters
pub query_read_by : (version : Version) (text : List ℕ) → query_read version text ≡ (parameters_read (pieces_of text) >>= values_by (nothing_asked version))
unfolding query_by_names
query_read_by version text = query_same version text ∙ by_parameters (parameters_read (pieces_of text))
  where
    by_parameters : (read : Result (List Parameter) Cause) → (read >>= values_of version) ≡ (read >>= values_by (nothing_asked version))
    by_parameters (Ok ps) = sym (values_by_is version ps)
    by_parameters (Err cause) = refl
