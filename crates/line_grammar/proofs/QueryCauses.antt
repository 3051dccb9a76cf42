-- The first cause by which a query is refused: what a reader keeps of it is that of its parameters.
use Rattle.std.proofs.Common.{◌≡◌, ℕ, Bool, true, false, List, [], ◌∷◌, ◌++◌, Option, Some, None, refl, ap, sym, ◌∙◌, arith}
use Rattle.std.proofs.lemmas.Bool.Decides.{nat_tests}
use Rattle.std.specs.Prelude.{◌==◌, ◌&&◌, ◌||◌, ◌<◌, ◌≤◌, nat_le, nat_lt, length, not, if◌then◌else◌}
use Rattle.std.specs.List.{list_any, find}
use Rattle.std.specs.Option.{option_or}
use Rattle.line_grammar.specs.declared.cause.Cause.{Cause}
use Rattle.line_grammar.specs.declared.cause.Cause.TheVariants.{KeyTooLong, UnknownParameter, RepeatedParameter, BadListType, BadMaxKeys, BadEncoding, BadFetchOwner}
use Rattle.line_grammar.specs.declared.cause.Cause.TheVariants as causes
use Rattle.line_grammar.specs.declared.parameter.Name.{Name}
use Rattle.line_grammar.specs.declared.parameter.Name.TheVariants as names
use Rattle.line_grammar.specs.declared.parameter.Version.{Version}
use Rattle.line_grammar.specs.Asking.{with_name, name_cause, parameter_cause, stands_in, is_long_for, value_cause}
use Rattle.line_grammar.specs.Causes.{place_of, earliest}
use Rattle.line_grammar.specs.NamedQueries.{Parameter, place_of_name, is_name, is_same_name, is_taken, is_compared, is_unknown, is_too_long, is_list_type, is_encoding, is_fetch_owner, repeats, have}
use Rattle.line_grammar.specs.Line.{is_max_keys, parameter_causes}

-- ---- tests of lists

pub any_same : {A : Type 0} (f g : A → Bool) (xs : List A) → ((x : A) → f x ≡ g x) → list_any f xs ≡ list_any g xs
any_same f g [] same = refl
any_same f g (x ∷ xs) same = ap (λ b. b || list_any f xs) (same x) ∙ ap (λ b. g x || b) (any_same f g xs same)

pub or_false : (b : Bool) → (b || false) ≡ b
or_false true = refl
or_false false = refl

pub neither : (a b : Bool) → (a || b) ≡ false → (a ≡ false) × (b ≡ false)
neither true b none = cc
neither false b none = (refl, none)

or_mixed : (a b c d : Bool) → ((a || b) || (c || d)) ≡ ((a || c) || (b || d))
or_mixed true b c d = refl
or_mixed false true true d = refl
or_mixed false true false d = refl
or_mixed false false c d = refl

any_or : {A : Type 0} (f g : A → Bool) (xs : List A) → list_any (λ x. f x || g x) xs ≡ (list_any f xs || list_any g xs)
any_or f g [] = refl
any_or f g (x ∷ xs) = ap (λ b. (f x || g x) || b) (any_or f g xs) ∙ or_mixed (f x) (g x) (list_any f xs) (list_any g xs)

pub any_none : {A : Type 0} (xs : List A) → list_any (λ x. false) xs ≡ false
any_none [] = refl
any_none (x ∷ xs) = any_none xs

any_append : {A : Type 0} (f : A → Bool) (xs : List A) (y : A) → list_any f (xs ++ y ∷ []) ≡ (list_any f xs || f y)
any_append f [] y = or_false (f y)
any_append f (x ∷ xs) y = ap (λ b. f x || b) (any_append f xs y) ∙ or_split (f x) (list_any f xs) (f y)
  where
    or_split : (a b c : Bool) → (a || (b || c)) ≡ ((a || b) || c)
    or_split true b c = refl
    or_split false b c = refl

-- ---- names that stand after others

abbrev pub behind : List Name → Option Name → Bool
behind seen None = false
behind seen (Some name) = stands_in seen name

behind_more : (seen : List Name) (name : Name) (other : Option Name) → behind (seen ++ name ∷ []) other ≡ (behind seen other || is_name name other)
behind_more seen name None = refl
behind_more seen name (Some other) = any_append (λ (n : Name). place_of_name n == place_of_name other) seen name ∙ ap (λ b. stands_in seen other || b) (turned (place_of_name name) (place_of_name other))
  where
    turned : (a b : ℕ) → (a == b) ≡ (b == a)
    turned a b = grind (arith, nat_tests)

or_not : (b : Bool) → b ≡ true → (c : Bool) → (b || c) ≡ true
or_not true is c = refl
or_not false is c = absurd (false-true is)
  where
    false-true : false ≡ true → ⊥
    false-true is = cc

-- a name that stands there already changes no test
behind_known : (seen : List Name) (name : Name) (other : Option Name) → stands_in seen name ≡ true → behind seen other ≡ (behind seen other || is_name name other)
behind_known seen name None is = refl
behind_known seen name (Some other) is = by_test (place_of_name other == place_of_name name) refl
  where
    same : (place_of_name other == place_of_name name) ≡ true → stands_in seen other ≡ true
    same eq = ap (λ k. list_any (λ n. place_of_name n == k) seen) (places eq) ∙ is
      where
        places : (place_of_name other == place_of_name name) ≡ true → place_of_name other ≡ place_of_name name
        places eq = grind (arith, nat_tests)

    by_test : (b : Bool) → (place_of_name other == place_of_name name) ≡ b → stands_in seen other ≡ (stands_in seen other || b)
    by_test true eq = same eq ∙ sym (or_not (stands_in seen other) (same eq) true)
    by_test false eq = sym (or_false (stands_in seen other))

behind_with : (seen : List Name) (name other : Option Name) → behind (with_name seen name) other ≡ (behind seen other || is_same_name name other)
unfolding with_name
behind_with seen None other = sym (or_false (behind seen other))
behind_with seen (Some name) other = by_test (stands_in seen name) refl
  where
    by_test : (b : Bool) → stands_in seen name ≡ b → behind (if b then seen else seen ++ name ∷ []) other ≡ (behind seen other || is_name name other)
    by_test true is = behind_known seen name other is
    by_test false is = behind_more seen name other

-- ---- causes of parameters after some names

abbrev pub holds_behind : Version → List Name → List Parameter → Cause → Bool
holds_behind version seen ps RepeatedParameter = list_any (λ (q : Parameter). behind seen q.name) ps || repeats ps
holds_behind version seen ps cause = have version ps cause

abbrev pub own : Version → List Name → Parameter → Cause → Bool
own version seen p KeyTooLong = is_too_long version p
own version seen p UnknownParameter = is_unknown version p.name
own version seen p RepeatedParameter = behind seen p.name
own version seen p BadListType = is_name names.ListType p.name && not (is_list_type p.value)
own version seen p BadMaxKeys = is_name names.MaxKeys p.name && not (is_max_keys p.value)
own version seen p BadEncoding = is_name names.EncodingType p.name && not (is_encoding p.value)
own version seen p BadFetchOwner = is_name names.FetchOwner p.name && not (is_fetch_owner p.value)
own version seen p cause = false

repeats_behind : (o a s r t : Bool) → t ≡ (a || s) → ((o || a) || (s || r)) ≡ (o || (t || r))
repeats_behind true a s r t is = refl
repeats_behind false true s r t is = ap (λ b. b || r) (sym is)
repeats_behind false false s r t is = ap (λ b. b || r) (sym is)

-- a parameter in front of others
pub holds_more : (version : Version) (seen : List Name) (p : Parameter) (ps : List Parameter) (c : Cause) → holds_behind version seen (p ∷ ps) c ≡ (own version seen p c || holds_behind version (with_name seen p.name) ps c)
holds_more version seen p ps RepeatedParameter =
    repeats_behind (behind seen p.name) (list_any (λ (q : Parameter). behind seen q.name) ps) (list_any (λ (q : Parameter). is_same_name p.name q.name) ps) (repeats ps)
    (list_any (λ (q : Parameter). behind (with_name seen p.name) q.name) ps)
    (any_same (λ (q : Parameter). behind (with_name seen p.name) q.name) (λ (q : Parameter). behind seen q.name || is_same_name p.name q.name) ps
    (λ q. behind_with seen p.name q.name)
    ∙ any_or (λ (q : Parameter). behind seen q.name) (λ (q : Parameter). is_same_name p.name q.name) ps)
holds_more version seen p ps causes.NotUtf8 = refl
holds_more version seen p ps causes.UnknownVerb = refl
holds_more version seen p ps causes.WrongFields = refl
holds_more version seen p ps causes.BadEscape = refl
holds_more version seen p ps causes.EmptyKey = refl
holds_more version seen p ps causes.KeyTooLong = refl
holds_more version seen p ps causes.BadNumber = refl
holds_more version seen p ps causes.NumberTooLarge = refl
holds_more version seen p ps causes.BadEtag = refl
holds_more version seen p ps causes.UnknownParameter = refl
holds_more version seen p ps causes.BadListType = refl
holds_more version seen p ps causes.BadMaxKeys = refl
holds_more version seen p ps causes.BadEncoding = refl
holds_more version seen p ps causes.BadFetchOwner = refl
holds_more version seen p ps causes.NoClient = refl
holds_more version seen p ps causes.TooManyClients = refl
holds_more version seen p ps causes.TooManyLines = refl
holds_more version seen p ps causes.TooManyEntries = refl
holds_more version seen p ps causes.NoText = refl

pub holds_none : (version : Version) (seen : List Name) (c : Cause) → holds_behind version seen [] c ≡ false
holds_none version seen causes.NotUtf8 = refl
holds_none version seen causes.UnknownVerb = refl
holds_none version seen causes.WrongFields = refl
holds_none version seen causes.BadEscape = refl
holds_none version seen causes.EmptyKey = refl
holds_none version seen causes.KeyTooLong = refl
holds_none version seen causes.BadNumber = refl
holds_none version seen causes.NumberTooLarge = refl
holds_none version seen causes.BadEtag = refl
holds_none version seen causes.UnknownParameter = refl
holds_none version seen causes.RepeatedParameter = refl
holds_none version seen causes.BadListType = refl
holds_none version seen causes.BadMaxKeys = refl
holds_none version seen causes.BadEncoding = refl
holds_none version seen causes.BadFetchOwner = refl
holds_none version seen causes.NoClient = refl
holds_none version seen causes.TooManyClients = refl
holds_none version seen causes.TooManyLines = refl
holds_none version seen causes.TooManyEntries = refl
holds_none version seen causes.NoText = refl

turned : (b : Bool) (cause : Cause) → (if b then None else Some cause) ≡ (if not b then Some cause else None)
turned true cause = refl
turned false cause = refl

abbrev behind_repeats : Bool → Option Cause → Option Cause
behind_repeats b other = if b then Some RepeatedParameter else other

-- the causes of one parameter, one after another
abbrev chained_cause : Version → List Name → Name → List ℕ → Option Cause
chained_cause version seen name value =
    if is_compared version name && nat_lt 1024 (length value) then Some KeyTooLong
    else if not (is_taken version name) then Some UnknownParameter
    else behind_repeats (stands_in seen name) (value_cause (Some name) value)

chained : (version : Version) (seen : List Name) (name : Name) (value : List ℕ) → parameter_cause version seen (Some name) value ≡ chained_cause version seen name value
unfolding parameter_cause name_cause is_long_for
chained version seen name value = by_tests (is_compared version name && nat_lt 1024 (length value)) (not (is_taken version name)) (stands_in seen name) (value_cause (Some name) value)
  where
    by_tests : (long unknown repeated : Bool) (of_value : Option Cause)
        → option_or (if long then Some KeyTooLong else if unknown then Some UnknownParameter else if repeated then Some RepeatedParameter else None) of_value
        ≡ (if long then Some KeyTooLong else if unknown then Some UnknownParameter else behind_repeats repeated of_value)
    by_tests true unknown repeated of_value = refl
    by_tests false true repeated of_value = refl
    by_tests false false true of_value = refl
    by_tests false false false of_value = refl

abbrev behind_name : Version → List Name → Name → List ℕ → Option Cause → Option Cause
behind_name version seen name value other =
    if is_compared version name && nat_lt 1024 (length value) then Some KeyTooLong
    else if not (is_taken version name) then Some UnknownParameter
    else behind_repeats (stands_in seen name) other

-- the first cause of one parameter
pub parameter_cause_is : (version : Version) (seen : List Name) (name : Option Name) (value : List ℕ)
    → parameter_cause version seen name value ≡ find (own version seen (record { name = name; value = value })) parameter_causes
unfolding parameter_cause name_cause is_long_for value_cause
parameter_cause_is version seen None value = refl
parameter_cause_is version seen (Some names.Prefix) value = chained version seen names.Prefix value
parameter_cause_is version seen (Some names.Delimiter) value = chained version seen names.Delimiter value
parameter_cause_is version seen (Some names.StartAfter) value = chained version seen names.StartAfter value
parameter_cause_is version seen (Some names.ContinuationToken) value = chained version seen names.ContinuationToken value
parameter_cause_is version seen (Some names.Marker) value = chained version seen names.Marker value
parameter_cause_is version seen (Some names.ListType) value = chained version seen names.ListType value ∙ ap (behind_name version seen names.ListType value) (turned (is_list_type value) BadListType)
parameter_cause_is version seen (Some names.MaxKeys) value = chained version seen names.MaxKeys value ∙ ap (behind_name version seen names.MaxKeys value) (turned (is_max_keys value) BadMaxKeys)
parameter_cause_is version seen (Some names.EncodingType) value = chained version seen names.EncodingType value ∙ ap (behind_name version seen names.EncodingType value) (turned (is_encoding value) BadEncoding)
parameter_cause_is version seen (Some names.FetchOwner) value = chained version seen names.FetchOwner value ∙ ap (behind_name version seen names.FetchOwner value) (turned (is_fetch_owner value) BadFetchOwner)

-- ---- the first of some causes

-- the causes stand in their order, after this place
abbrev Above : ℕ → List Cause → Type 0
Above place [] = Unit {0}
Above place (c ∷ cs) = (place < place_of c) × Above (place_of c) cs

kept_left : (c : Cause) (place : ℕ) (g : Cause → Bool) (cs : List Cause) → place_of c ≤ place → Above place cs → earliest (Some c) (find g cs) ≡ Some c
unfolding earliest
kept_left c place g [] le above = refl
kept_left c place g (d ∷ cs) le above =
    let lt : place < place_of d = above.0 in
    by_test (kept_left c (place_of d) g cs (omega (arith, lt, le)) above.1) (g d)
  where
    first : nat_le (place_of c) (place_of d) ≡ true
    first = let lt : place < place_of d = above.0 in grind (arith, nat_tests)

    by_test : earliest (Some c) (find g cs) ≡ Some c → (b : Bool) → earliest (Some c) (if b then Some d else find g cs) ≡ Some c
    by_test behind true = ap (λ b. if b then Some c else Some d) first
    by_test behind false = behind

kept_right : (c : Cause) (place : ℕ) (f : Cause → Bool) (cs : List Cause) → place_of c ≤ place → Above place cs → earliest (find f cs) (Some c) ≡ Some c
unfolding earliest
kept_right c place f [] le above = refl
kept_right c place f (d ∷ cs) le above =
    let lt : place < place_of d = above.0 in
    by_test (kept_right c (place_of d) f cs (omega (arith, lt, le)) above.1) (f d)
  where
    later : nat_le (place_of d) (place_of c) ≡ false
    later = let lt : place < place_of d = above.0 in grind (arith, nat_tests)

    by_test : earliest (find f cs) (Some c) ≡ Some c → (b : Bool) → earliest (if b then Some d else find f cs) (Some c) ≡ Some c
    by_test behind true = ap (λ b. if b then Some d else Some c) later
    by_test behind false = behind

-- the earlier of two first causes is the first that holds in one way or the other
pub earliest_first : (place : ℕ) (f g : Cause → Bool) (cs : List Cause) → Above place cs → earliest (find f cs) (find g cs) ≡ find (λ c. f c || g c) cs
unfolding earliest
earliest_first place f g [] above = refl
earliest_first place f g (c ∷ cs) above = by_tests (earliest_first (place_of c) f g cs above.1) (f c) (g c)
  where
    either : (b : Bool) → (if b then Some c else Some c) ≡ Some c
    either true = refl
    either false = refl

    by_tests : earliest (find f cs) (find g cs) ≡ find (λ d. f d || g d) cs → (a b : Bool) → earliest (if a then Some c else find f cs) (if b then Some c else find g cs) ≡ (if a || b then Some c else find (λ d. f d || g d) cs)
    by_tests behind true true = either (nat_le (place_of c) (place_of c))
    by_tests behind true false = kept_left c (place_of c) g cs (omega arith) above.1
    by_tests behind false true = kept_right c (place_of c) f cs (omega arith) above.1
    by_tests behind false false = behind

pub first_same : (f g : Cause → Bool) (cs : List Cause) → ((c : Cause) → f c ≡ g c) → find f cs ≡ find g cs
first_same f g [] same = refl
first_same f g (c ∷ cs) same = ap (λ b. if b then Some c else find f cs) (same c) ∙ ap (λ o. if g c then Some c else o) (first_same f g cs same)

pub in_order : Above 0 parameter_causes
unfolding place_of
in_order = (omega arith, (omega arith, (omega arith, (omega arith, (omega arith, (omega arith, (omega arith, tt)))))))
