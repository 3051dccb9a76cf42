-- A query is read alike by the texts of its parameters' names and by the names that there are.
use Rattle.std.proofs.Common.{◌≡◌, ℕ, Bool, true, false, not, ◌||◌, ◌&&◌, cond, List, [], ◌∷◌, map, Option, Some, None, Result, Ok, Err, codes, refl, ap, sym, ◌∙◌, subst, inl, inr}
use Rattle.std.proofs.lemmas.Bool.{cases_Bool}
use Rattle.std.proofs.lemmas.Slice.Eq.{bytes_eq-Decides}
use Rattle.std.specs.Prelude.{◌==◌, if◌then◌else◌, length, nat_lt}
use Rattle.std.specs.List.{list_any, find, before_first, after_first}
use Rattle.std.specs.Option.{option_map_or}
use Rattle.std.specs.Str.{bytes_eq}
use Rattle.key_names.specs.Names.{most_name_bytes}
use Rattle.line_grammar.specs.declared.cause.Cause.{Cause}
use Rattle.line_grammar.specs.declared.cause.Cause.TheVariants.{KeyTooLong, UnknownParameter, RepeatedParameter, BadListType, BadMaxKeys, BadEncoding, BadFetchOwner}
use Rattle.line_grammar.specs.declared.parameter.Name.{Name}
use Rattle.line_grammar.specs.declared.parameter.Name.TheVariants.{ListType, Prefix, Delimiter, MaxKeys, StartAfter, ContinuationToken, EncodingType, FetchOwner, Marker}
use Rattle.line_grammar.specs.declared.parameter.Version.{Version}
use Rattle.line_grammar.specs.declared.parameter.Version.TheVariants.{V1, V2}
use Rattle.line_grammar.specs.declared.values.Values.{Values}
use Rattle.line_grammar.specs.Texts.{◌>>=◌, unescaped, is_number}
use Rattle.line_grammar.specs.Line as q
use Rattle.line_grammar.specs.QueryValues as v
use Rattle.line_grammar.specs.NamedQueries as n

-- ---- one name

abbrev text_of : Name → List ℕ
text_of ListType = codes "list-type"
text_of Prefix = codes "prefix"
text_of Delimiter = codes "delimiter"
text_of MaxKeys = codes "max-keys"
text_of StartAfter = codes "start-after"
text_of ContinuationToken = codes "continuation-token"
text_of EncodingType = codes "encoding-type"
text_of FetchOwner = codes "fetch-owner"
text_of Marker = codes "marker"

-- what is true of each name's text, and of any text that is no name's, is true of every text
by_name : (P : List ℕ → Type 0) → ((name : Name) → P (text_of name)) → ((text : List ℕ) → ((name : Name) → bytes_eq text (text_of name) ≡ false) → P text) → (text : List ℕ) → P text
by_name P each other text =
    try ListType (λ n₁. try Prefix (λ n₂. try Delimiter (λ n₃. try MaxKeys (λ n₄. try StartAfter (λ n₅. try ContinuationToken (λ n₆. try EncodingType (λ n₇. try FetchOwner (λ n₈. try Marker (λ n₉.
    other text (none n₁ n₂ n₃ n₄ n₅ n₆ n₇ n₈ n₉))))))))))
  where
    try : (name : Name) → (bytes_eq text (text_of name) ≡ false → P text) → P text
    try name next =
        elim (cases_Bool (bytes_eq text (text_of name))) [
          | inl is ↦ subst P (sym ((bytes_eq-Decides text (text_of name)).0 is)) (each name)
          | inr differs ↦ next differs
        ]

    none : bytes_eq text (text_of ListType) ≡ false → bytes_eq text (text_of Prefix) ≡ false → bytes_eq text (text_of Delimiter) ≡ false → bytes_eq text (text_of MaxKeys) ≡ false
        → bytes_eq text (text_of StartAfter) ≡ false → bytes_eq text (text_of ContinuationToken) ≡ false → bytes_eq text (text_of EncodingType) ≡ false → bytes_eq text (text_of FetchOwner) ≡ false → bytes_eq text (text_of Marker) ≡ false
        → (name : Name) → bytes_eq text (text_of name) ≡ false
    none n₁ n₂ n₃ n₄ n₅ n₆ n₇ n₈ n₉ ListType = n₁
    none n₁ n₂ n₃ n₄ n₅ n₆ n₇ n₈ n₉ Prefix = n₂
    none n₁ n₂ n₃ n₄ n₅ n₆ n₇ n₈ n₉ Delimiter = n₃
    none n₁ n₂ n₃ n₄ n₅ n₆ n₇ n₈ n₉ MaxKeys = n₄
    none n₁ n₂ n₃ n₄ n₅ n₆ n₇ n₈ n₉ StartAfter = n₅
    none n₁ n₂ n₃ n₄ n₅ n₆ n₇ n₈ n₉ ContinuationToken = n₆
    none n₁ n₂ n₃ n₄ n₅ n₆ n₇ n₈ n₉ EncodingType = n₇
    none n₁ n₂ n₃ n₄ n₅ n₆ n₇ n₈ n₉ FetchOwner = n₈
    none n₁ n₂ n₃ n₄ n₅ n₆ n₇ n₈ n₉ Marker = n₉

-- a text that is no name's is no name
unwritten : (text : List ℕ) → ((name : Name) → bytes_eq text (text_of name) ≡ false) → n.name_written text ≡ None
unwritten text none =
    rw (none ListType, none Prefix, none Delimiter, none MaxKeys, none StartAfter, none ContinuationToken, none EncodingType, none FetchOwner, none Marker)

unlisted : (version : Version) (text : List ℕ) → ((name : Name) → bytes_eq text (text_of name) ≡ false) → q.is_one_of text (q.known version) ≡ false
unlisted V1 text none = rw (none Prefix, none Delimiter, none MaxKeys, none EncodingType, none Marker)
unlisted V2 text none =
    rw (none Prefix, none Delimiter, none MaxKeys, none EncodingType, none StartAfter, none ContinuationToken, none ListType, none FetchOwner)

uncompared : (version : Version) (text : List ℕ) → ((name : Name) → bytes_eq text (text_of name) ≡ false) → q.is_one_of text (q.compared version) ≡ false
uncompared V1 text none = rw (none Prefix, none Delimiter, none StartAfter, none Marker)
uncompared V2 text none = rw (none Prefix, none Delimiter, none StartAfter)

written : (name : Name) → n.name_written (text_of name) ≡ Some name
written ListType = refl
written Prefix = refl
written Delimiter = refl
written MaxKeys = refl
written StartAfter = refl
written ContinuationToken = refl
written EncodingType = refl
written FetchOwner = refl
written Marker = refl

-- whether a name is the one of a text
same_place : (name other : Name) → n.is_name name (Some other) ≡ bytes_eq (text_of other) (text_of name)
same_place ListType ListType = refl
same_place ListType Prefix = refl
same_place ListType Delimiter = refl
same_place ListType MaxKeys = refl
same_place ListType StartAfter = refl
same_place ListType ContinuationToken = refl
same_place ListType EncodingType = refl
same_place ListType FetchOwner = refl
same_place ListType Marker = refl
same_place Prefix ListType = refl
same_place Prefix Prefix = refl
same_place Prefix Delimiter = refl
same_place Prefix MaxKeys = refl
same_place Prefix StartAfter = refl
same_place Prefix ContinuationToken = refl
same_place Prefix EncodingType = refl
same_place Prefix FetchOwner = refl
same_place Prefix Marker = refl
same_place Delimiter ListType = refl
same_place Delimiter Prefix = refl
same_place Delimiter Delimiter = refl
same_place Delimiter MaxKeys = refl
same_place Delimiter StartAfter = refl
same_place Delimiter ContinuationToken = refl
same_place Delimiter EncodingType = refl
same_place Delimiter FetchOwner = refl
same_place Delimiter Marker = refl
same_place MaxKeys ListType = refl
same_place MaxKeys Prefix = refl
same_place MaxKeys Delimiter = refl
same_place MaxKeys MaxKeys = refl
same_place MaxKeys StartAfter = refl
same_place MaxKeys ContinuationToken = refl
same_place MaxKeys EncodingType = refl
same_place MaxKeys FetchOwner = refl
same_place MaxKeys Marker = refl
same_place StartAfter ListType = refl
same_place StartAfter Prefix = refl
same_place StartAfter Delimiter = refl
same_place StartAfter MaxKeys = refl
same_place StartAfter StartAfter = refl
same_place StartAfter ContinuationToken = refl
same_place StartAfter EncodingType = refl
same_place StartAfter FetchOwner = refl
same_place StartAfter Marker = refl
same_place ContinuationToken ListType = refl
same_place ContinuationToken Prefix = refl
same_place ContinuationToken Delimiter = refl
same_place ContinuationToken MaxKeys = refl
same_place ContinuationToken StartAfter = refl
same_place ContinuationToken ContinuationToken = refl
same_place ContinuationToken EncodingType = refl
same_place ContinuationToken FetchOwner = refl
same_place ContinuationToken Marker = refl
same_place EncodingType ListType = refl
same_place EncodingType Prefix = refl
same_place EncodingType Delimiter = refl
same_place EncodingType MaxKeys = refl
same_place EncodingType StartAfter = refl
same_place EncodingType ContinuationToken = refl
same_place EncodingType EncodingType = refl
same_place EncodingType FetchOwner = refl
same_place EncodingType Marker = refl
same_place FetchOwner ListType = refl
same_place FetchOwner Prefix = refl
same_place FetchOwner Delimiter = refl
same_place FetchOwner MaxKeys = refl
same_place FetchOwner StartAfter = refl
same_place FetchOwner ContinuationToken = refl
same_place FetchOwner EncodingType = refl
same_place FetchOwner FetchOwner = refl
same_place FetchOwner Marker = refl
same_place Marker ListType = refl
same_place Marker Prefix = refl
same_place Marker Delimiter = refl
same_place Marker MaxKeys = refl
same_place Marker StartAfter = refl
same_place Marker ContinuationToken = refl
same_place Marker EncodingType = refl
same_place Marker FetchOwner = refl
same_place Marker Marker = refl

is_name-written : (name : Name) (text : List ℕ) → n.is_name name (n.name_written text) ≡ bytes_eq text (text_of name)
is_name-written name =
    by_name (λ text. n.is_name name (n.name_written text) ≡ bytes_eq text (text_of name))
    (λ other. ap (n.is_name name) (written other) ∙ same_place name other)
    (λ text none. ap (n.is_name name) (unwritten text none) ∙ sym (none name))

is_unknown-written : (version : Version) (text : List ℕ) → n.is_unknown version (n.name_written text) ≡ not (q.is_one_of text (q.known version))
is_unknown-written version =
    by_name (λ text. n.is_unknown version (n.name_written text) ≡ not (q.is_one_of text (q.known version))) (listed version)
    (λ text none. ap (n.is_unknown version) (unwritten text none) ∙ sym (ap not (unlisted version text none)))
  where
    listed : (version : Version) (name : Name) → n.is_unknown version (n.name_written (text_of name)) ≡ not (q.is_one_of (text_of name) (q.known version))
    listed V1 ListType = refl
    listed V1 Prefix = refl
    listed V1 Delimiter = refl
    listed V1 MaxKeys = refl
    listed V1 StartAfter = refl
    listed V1 ContinuationToken = refl
    listed V1 EncodingType = refl
    listed V1 FetchOwner = refl
    listed V1 Marker = refl
    listed V2 ListType = refl
    listed V2 Prefix = refl
    listed V2 Delimiter = refl
    listed V2 MaxKeys = refl
    listed V2 StartAfter = refl
    listed V2 ContinuationToken = refl
    listed V2 EncodingType = refl
    listed V2 FetchOwner = refl
    listed V2 Marker = refl

is_compared-written : (version : Version) (text : List ℕ) → option_map_or (n.is_compared version) (n.name_written text) false ≡ q.is_one_of text (q.compared version)
is_compared-written version =
    by_name (λ text. option_map_or (n.is_compared version) (n.name_written text) false ≡ q.is_one_of text (q.compared version)) (kept version)
    (λ text none. ap (λ o. option_map_or (n.is_compared version) o false) (unwritten text none) ∙ sym (uncompared version text none))
  where
    kept : (version : Version) (name : Name) → option_map_or (n.is_compared version) (n.name_written (text_of name)) false ≡ q.is_one_of (text_of name) (q.compared version)
    kept V1 ListType = refl
    kept V1 Prefix = refl
    kept V1 Delimiter = refl
    kept V1 MaxKeys = refl
    kept V1 StartAfter = refl
    kept V1 ContinuationToken = refl
    kept V1 EncodingType = refl
    kept V1 FetchOwner = refl
    kept V1 Marker = refl
    kept V2 ListType = refl
    kept V2 Prefix = refl
    kept V2 Delimiter = refl
    kept V2 MaxKeys = refl
    kept V2 StartAfter = refl
    kept V2 ContinuationToken = refl
    kept V2 EncodingType = refl
    kept V2 FetchOwner = refl
    kept V2 Marker = refl

-- the test of one of two names, where the first is one that there is
is_same_name-written : (version : Version) (text other : List ℕ) → q.is_one_of text (q.known version) ≡ true
    → n.is_same_name (n.name_written text) (n.name_written other) ≡ bytes_eq other text
is_same_name-written version text other =
    by_name (λ t. q.is_one_of t (q.known version) ≡ true → n.is_same_name (n.name_written t) (n.name_written other) ≡ bytes_eq other t)
    (λ name known. ap (λ (o : Option Name). n.is_same_name o (n.name_written other)) (written name) ∙ is_name-written name other)
    (λ t none known. cc (sym (unlisted version t none) ∙ known)) text

-- ---- lists of parameters

abbrev named : q.Parameter → n.Parameter
named p = record { name = n.name_written p.name; value = p.value }

any_named : (f : n.Parameter → Bool) (g : q.Parameter → Bool) (ps : List q.Parameter) → ((p : q.Parameter) → f (named p) ≡ g p) → list_any f (map named ps) ≡ list_any g ps
any_named f g [] same = refl
any_named f g (p ∷ ps) same = ap (λ b. b || list_any f (map named ps)) (same p) ∙ ap (λ b. g p || b) (any_named f g ps same)

other_same : (name : Name) (is_value : List ℕ → Bool) (ps : List q.Parameter) → n.has_other name is_value (map named ps) ≡ q.has_other (text_of name) is_value ps
other_same name is_value ps =
    any_named (λ p. n.is_name name p.name && not (is_value p.value)) (λ p. bytes_eq p.name (text_of name) && not (is_value p.value)) ps
    (λ p. ap (λ b. b && not (is_value p.value)) (is_name-written name p.name))

long_same : (version : Version) (ps : List q.Parameter) → n.have version (map named ps) KeyTooLong ≡ q.have version ps KeyTooLong
long_same version ps =
    any_named (n.is_too_long version) (λ p. q.is_one_of p.name (q.compared version) && nat_lt most_name_bytes (length p.value)) ps
    (λ p. ap (λ b. b && nat_lt most_name_bytes (length p.value)) (is_compared-written version p.name))

unknown_same : (version : Version) (ps : List q.Parameter) → n.have version (map named ps) UnknownParameter ≡ q.have version ps UnknownParameter
unknown_same version ps = any_named (λ p. n.is_unknown version p.name) (λ p. not (q.is_one_of p.name (q.known version))) ps (λ p. is_unknown-written version p.name)

either : (a b : Bool) → (a || b) ≡ false → (a ≡ false) × (b ≡ false)
either true b none = cc
either false b none = (refl, none)

known_of : (b : Bool) → not b ≡ false → b ≡ true
known_of true none = refl
known_of false none = cc

repeats_same : (version : Version) (ps : List q.Parameter) → q.have version ps UnknownParameter ≡ false → n.repeats (map named ps) ≡ q.repeats ps
repeats_same version [] known = refl
repeats_same version (p ∷ ps) known =
    let parts = either (not (q.is_one_of p.name (q.known version))) (q.have version ps UnknownParameter) known in
    ap (λ b. b || n.repeats (map named ps))
    (any_named (λ o. n.is_same_name (n.name_written p.name) o.name) (λ o. bytes_eq o.name p.name) ps (λ o. is_same_name-written version p.name o.name (known_of _ parts.0)))
    ∙ ap (λ b. list_any (λ o. bytes_eq o.name p.name) ps || b) (repeats_same version ps parts.1)

-- ---- the first cause

-- the first of seven that holds
abbrev first : Bool → Bool → Bool → Bool → Bool → Bool → Bool → Option Cause
first long unknown repeated list_type max_keys encoding owner =
    if long then Some KeyTooLong else if unknown then Some UnknownParameter else if repeated then Some RepeatedParameter else if list_type then Some BadListType
    else if max_keys then Some BadMaxKeys else if encoding then Some BadEncoding else if owner then Some BadFetchOwner else None

first_same : (long unknown repeated repeated' list_type max_keys encoding owner : Bool) → (unknown ≡ false → repeated ≡ repeated')
    → first long unknown repeated list_type max_keys encoding owner ≡ first long unknown repeated' list_type max_keys encoding owner
first_same true unknown repeated repeated' list_type max_keys encoding owner same = refl
first_same false true repeated repeated' list_type max_keys encoding owner same = refl
first_same false false repeated repeated' list_type max_keys encoding owner same = ap (λ b. first false false b list_type max_keys encoding owner) (same refl)

cause_same : (version : Version) (ps : List q.Parameter) → find (n.have version (map named ps)) q.parameter_causes ≡ find (q.have version ps) q.parameter_causes
cause_same version ps =
    let ns = map named ps in
    ap (λ b. first b (n.have version ns UnknownParameter) (n.repeats ns) (n.have version ns BadListType) (n.have version ns BadMaxKeys) (n.have version ns BadEncoding) (n.have version ns BadFetchOwner)) (long_same version ps)
    ∙ ap (λ b. first (q.have version ps KeyTooLong) b (n.repeats ns) (n.have version ns BadListType) (n.have version ns BadMaxKeys) (n.have version ns BadEncoding) (n.have version ns BadFetchOwner)) (unknown_same version ps)
    ∙ first_same (q.have version ps KeyTooLong) (q.have version ps UnknownParameter) (n.repeats ns) (q.repeats ps) (n.have version ns BadListType) (n.have version ns BadMaxKeys) (n.have version ns BadEncoding) (n.have version ns BadFetchOwner) (repeats_same version ps)
    ∙ ap (λ b. first (q.have version ps KeyTooLong) (q.have version ps UnknownParameter) (q.repeats ps) b (n.have version ns BadMaxKeys) (n.have version ns BadEncoding) (n.have version ns BadFetchOwner)) (other_same ListType n.is_list_type ps)
    ∙ ap (λ b. first (q.have version ps KeyTooLong) (q.have version ps UnknownParameter) (q.repeats ps) (q.have version ps BadListType) b (n.have version ns BadEncoding) (n.have version ns BadFetchOwner)) (other_same MaxKeys q.is_max_keys ps)
    ∙ ap (λ b. first (q.have version ps KeyTooLong) (q.have version ps UnknownParameter) (q.repeats ps) (q.have version ps BadListType) (q.have version ps BadMaxKeys) b (n.have version ns BadFetchOwner)) (other_same EncodingType n.is_encoding ps)
    ∙ ap (λ b. first (q.have version ps KeyTooLong) (q.have version ps UnknownParameter) (q.repeats ps) (q.have version ps BadListType) (q.have version ps BadMaxKeys) (q.have version ps BadEncoding) b) (other_same FetchOwner n.is_fetch_owner ps)

-- ---- what is asked

value_same : {A : Type 0} (name : Name) (says : List ℕ → A) (ps : List q.Parameter) → option_map_or says (n.value_of name (map named ps)) (says []) ≡ says (q.value_of (text_of name) ps)
value_same name says [] = refl
value_same name says (p ∷ ps) =
    ap (λ b. option_map_or says (if b then Some p.value else n.value_of name (map named ps)) (says [])) (is_name-written name p.name)
    ∙ by_test (value_same name says ps) (bytes_eq p.name (text_of name))
  where
    by_test : option_map_or says (n.value_of name (map named ps)) (says []) ≡ says (q.value_of (text_of name) ps) → (b : Bool)
        → option_map_or says (if b then Some p.value else n.value_of name (map named ps)) (says [])
        ≡ says (option_map_or (λ (o : q.Parameter). o.value) (cond b (Some p) (find (λ (o : q.Parameter). bytes_eq o.name (text_of name)) ps)) [])
    by_test behind true = refl
    by_test behind false = behind

values_are : (a b : Values) → a.prefix ≡ b.prefix → a.delimiter ≡ b.delimiter → a.start_after ≡ b.start_after → a.token ≡ b.token → a.marker ≡ b.marker → a.max_keys ≡ b.max_keys → a.url ≡ b.url → a ≡ b
values_are a b prefix delimiter start_after token marker max_keys url =
    ap (λ x. record a { prefix = x }) prefix
    ∙ ap (λ x. record a { prefix = b.prefix; delimiter = x }) delimiter
    ∙ ap (λ x. record a { prefix = b.prefix; delimiter = b.delimiter; start_after = x }) start_after
    ∙ ap (λ x. record a { prefix = b.prefix; delimiter = b.delimiter; start_after = b.start_after; token = x }) token
    ∙ ap (λ x. record a { prefix = b.prefix; delimiter = b.delimiter; start_after = b.start_after; token = b.token; marker = x }) marker
    ∙ ap (λ x. record a { prefix = b.prefix; delimiter = b.delimiter; start_after = b.start_after; token = b.token; marker = b.marker; max_keys = x }) max_keys
    ∙ ap (λ x. record b { url = x }) url

asked_same : (ps : List q.Parameter) → n.values_said (map named ps) ≡ v.values_said ps
unfolding q.is_max_keys is_number
asked_same ps =
    values_are (n.values_said (map named ps)) (v.values_said ps) (value_same Prefix n.as_it_is ps) (value_same Delimiter n.as_it_is ps) (value_same StartAfter n.as_it_is ps)
    (value_same ContinuationToken n.as_it_is ps) (value_same Marker n.as_it_is ps) (value_same MaxKeys q.most_entries ps) (value_same EncodingType n.is_url ps)

-- ---- the whole query

or_cause : (found : Option Cause) (values : Values) → n.values_or found values ≡ option_map_or Err found (Ok values)
or_cause None values = refl
or_cause (Some cause) values = refl

values_of_same : (version : Version) (ps : List q.Parameter) → n.values_of version (map named ps) ≡ option_map_or Err (find (q.have version ps) q.parameter_causes) (Ok (v.values_said ps))
values_of_same version ps =
    ap (λ o. n.values_or o (n.values_said (map named ps))) (cause_same version ps)
    ∙ ap (n.values_or (find (q.have version ps) q.parameter_causes)) (asked_same ps)
    ∙ or_cause (find (q.have version ps) q.parameter_causes) (v.values_said ps)

read_same : (pieces : List (List ℕ)) → n.parameters_read pieces ≡ (q.parameters_read pieces >>= (λ ps. Ok (map named ps)))
unfolding n.parameters_read q.parameters_read n.parameter_read
read_same [] = refl
read_same (piece ∷ pieces) = by_test (read_same pieces) (length piece == 0)
  where
    name : List ℕ
    name = before_first (λ b. b == 61) piece

    with_others : (value : List ℕ) (others : Result (List q.Parameter) Cause)
        → ((others >>= (λ ps. Ok (map named ps))) >>= (λ ns. Ok (record { name = n.name_written name; value = value } ∷ ns)))
        ≡ ((others >>= (λ ps. Ok (record { name = name; value = value } ∷ ps))) >>= (λ ps. Ok (map named ps)))
    with_others value (Ok ps) = refl
    with_others value (Err cause) = refl

    with_value : n.parameters_read pieces ≡ (q.parameters_read pieces >>= (λ ps. Ok (map named ps))) → (read : Result (List ℕ) Cause)
        → ((read >>= (λ value. Ok (record { name = n.name_written name; value = value }))) >>= (λ first. n.parameters_read pieces >>= (λ others. Ok (first ∷ others))))
        ≡ ((read >>= (λ value. q.parameters_read pieces >>= (λ others. Ok (record { name = name; value = value } ∷ others)))) >>= (λ ps. Ok (map named ps)))
    with_value behind (Ok value) = ap (λ read. read >>= (λ others. Ok (record { name = n.name_written name; value = value } ∷ others))) behind ∙ with_others value (q.parameters_read pieces)
    with_value behind (Err cause) = refl

    by_test : n.parameters_read pieces ≡ (q.parameters_read pieces >>= (λ ps. Ok (map named ps))) → (b : Bool)
        → (if b then n.parameters_read pieces
        else ((unescaped (after_first (λ b. b == 61) piece) >>= (λ value. Ok (record { name = n.name_written name; value = value }))) >>= (λ first. n.parameters_read pieces >>= (λ others. Ok (first ∷ others)))))
        ≡ ((if b then q.parameters_read pieces
        else (unescaped (after_first (λ b. b == 61) piece) >>= (λ value. q.parameters_read pieces >>= (λ others. Ok (record { name = name; value = value } ∷ others))))) >>= (λ ps. Ok (map named ps)))
    by_test behind true = behind
    by_test behind false = with_value behind (unescaped (after_first (λ b. b == 61) piece))

-- so a query says the same
pub query_same : (version : Version) (text : List ℕ) → v.query_read version text ≡ n.query_by_names version text
unfolding v.query_read n.query_by_names n.pieces_of
query_same version text = sym (ap (λ read. read >>= n.values_of version) (read_same _) ∙ by_read (q.parameters_read _))
  where
    by_read : (read : Result (List q.Parameter) Cause)
        → ((read >>= (λ ps. Ok (map named ps))) >>= n.values_of version) ≡ (read >>= (λ ps. option_map_or Err (find (q.have version ps) q.parameter_causes) (Ok (v.values_said ps))))
    by_read (Ok ps) = values_of_same version ps
    by_read (Err cause) = refl
