-- The names of the generated session: those of a client begin with its prefix, and differ exactly if their numbers do.
use Rattle.std.proofs.Common.{◌≡◌, ℕ, zero, suc, ◌+◌, ◌*◌, ◌/◌, ◌%◌, ◌<◌, Bool, true, false, cond, List, [], ◌∷◌, ◌++◌, map, get_or, eqb, ◌==◌, codes, refl, sym, ap, ◌∙◌, subst, arith}
use Rattle.std.specs.Fmt.{decimal}
use Rattle.std.proofs.lemmas.Bool.{and_parts, eqb-true, eq-eqb, false_from_ne_true, false≢true}
use Rattle.std.proofs.lemmas.Fmt.{decimal_digit}
use Rattle.std.proofs.lemmas.List.{map_push}
use Rattle.std.proofs.lemmas.List.Elements.{All-nil, All-push}
use Rattle.key_names.specs.Names.{Rises, IsRank, name_at, begins_with}
use Rattle.bucket_terms.specs.declared.request.Request.{Request}
use Rattle.bucket_terms.specs.declared.request.Request.TheVariants.{Put, Delete, List as ListRequest}
use Rattle.bucket_terms.specs.LegalRun.{RequestLine, lines_of}
use Rattle.request_lines.specs.Sample.{four_digits, sample_name}
use Rattle.sample_laws.specs.Alone.{rank_of}
use Rattle.sample_laws.specs.Own.{IsOwnRequest, AreOwnRequests, AreApart}
use Rattle.request_lines.specs.Session.{request_line}
use Rattle.request_lines.specs.SampleSession.{sample_prefix, sample_query, sample_puts, sample_request, sample_asked, sample_requests}
use Rattle.sample_laws.specs.SampleLaw.{sample_parts}
use Rattle.sample_laws.specs.Sample.{sample_number}

-- ---- prefixes

abbrev spelled_prefix : ℕ → List ℕ
spelled_prefix c = 115 ∷ (48 + c) ∷ 47 ∷ []

prefix_is : (c : ℕ) → c < 10 → sample_prefix c ≡ spelled_prefix c
prefix_is c below = ap (λ (digits : List ℕ). codes "s" ++ digits ++ codes "/") (decimal_digit c below)

name_is : (c i : ℕ) → c < 10 → sample_name c i ≡ 115 ∷ (48 + c) ∷ 47 ∷ four_digits (sample_number i)
name_is c i below = ap (λ (digits : List ℕ). codes "s" ++ digits ++ codes "/" ++ four_digits (sample_number i)) (decimal_digit c below)

begins_spelled : (x : ℕ) (rest : List ℕ) → begins_with (115 ∷ x ∷ 47 ∷ rest) (115 ∷ x ∷ 47 ∷ []) ≡ true
begins_spelled x rest = rw (eq-eqb x x refl) refl

-- the names of a client begin with its prefix
pub name_begins : (c i : ℕ) → c < 10 → begins_with (sample_name c i) (sample_prefix c) ≡ true
name_begins c i below =
    ap (λ (name : List ℕ). begins_with name (sample_prefix c)) (name_is c i below)
    ∙ ap (λ (prefix : List ℕ). begins_with (115 ∷ (48 + c) ∷ 47 ∷ four_digits (sample_number i)) prefix) (prefix_is c below)
    ∙ begins_spelled (48 + c) (four_digits (sample_number i))

second_byte : (name : List ℕ) (x : ℕ) → begins_with name (115 ∷ x ∷ 47 ∷ []) ≡ true → get_or name 1 0 ≡ x
second_byte [] x e = cc
second_byte (a ∷ []) x e = absurd (false≢true (and_parts (eqb 115 a) false e).1)
second_byte (a ∷ b ∷ rest) x e =
    let both = and_parts (eqb 115 a) _ e in
    let here = and_parts (eqb x b) _ both.1 in
    sym (eqb-true x b here.0)

-- no name begins with the prefixes of two clients
pub one_prefix : (c d : ℕ) (name : List ℕ) → c < 10 → d < 10 → begins_with name (sample_prefix c) ≡ true → begins_with name (sample_prefix d) ≡ true → c ≡ d
one_prefix c d name low low' h k =
    let first : get_or name 1 0 ≡ 48 + c = second_byte name (48 + c) (subst (λ (prefix : List ℕ). begins_with name prefix ≡ true) (prefix_is c low) h) in
    let second : get_or name 1 0 ≡ 48 + d = second_byte name (48 + d) (subst (λ (prefix : List ℕ). begins_with name prefix ≡ true) (prefix_is d low') k) in
    omega arith

-- ---- numbers

abbrev four : ℕ → ℕ → ℕ → ℕ → List ℕ
four a b c d = decimal a ++ decimal b ++ decimal c ++ decimal d

four_is : (a b c d : ℕ) → a < 10 → b < 10 → c < 10 → d < 10 → four a b c d ≡ (48 + a) ∷ (48 + b) ∷ (48 + c) ∷ (48 + d) ∷ []
four_is a b c d la lb lc ld =
    ap (λ (x : List ℕ). x ++ decimal b ++ decimal c ++ decimal d) (decimal_digit a la)
    ∙ ap (λ (x : List ℕ). (48 + a) ∷ (x ++ decimal c ++ decimal d)) (decimal_digit b lb)
    ∙ ap (λ (x : List ℕ). (48 + a) ∷ (48 + b) ∷ (x ++ decimal d)) (decimal_digit c lc)
    ∙ ap (λ (x : List ℕ). (48 + a) ∷ (48 + b) ∷ (48 + c) ∷ x) (decimal_digit d ld)

digits_are : (x : ℕ) → x < 10000 → four_digits x ≡ (48 + x / 1000) ∷ (48 + x / 100 % 10) ∷ (48 + x / 10 % 10) ∷ (48 + x % 10) ∷ []
digits_are x below = four_is (x / 1000) (x / 100 % 10) (x / 10 % 10) (x % 10) (omega arith) (omega arith) (omega arith) (omega arith)

one_number : (x y : ℕ) → x < 10000 → y < 10000 → four_digits x ≡ four_digits y → x ≡ y
one_number x y low low' e =
    let same = sym (digits_are x low) ∙ e ∙ digits_are y low' in
    let first : 48 + x / 1000 ≡ 48 + y / 1000 = ap (λ (ds : List ℕ). get_or ds 0 0) same in
    let second : 48 + x / 100 % 10 ≡ 48 + y / 100 % 10 = ap (λ (ds : List ℕ). get_or ds 1 0) same in
    let third : 48 + x / 10 % 10 ≡ 48 + y / 10 % 10 = ap (λ (ds : List ℕ). get_or ds 2 0) same in
    let fourth : 48 + x % 10 ≡ 48 + y % 10 = ap (λ (ds : List ℕ). get_or ds 3 0) same in
    omega arith

-- equal names have equal numbers
pub numbers_from_names : (c i j : ℕ) → c < 10 → sample_name c i ≡ sample_name c j → sample_number i ≡ sample_number j
numbers_from_names c i j below e =
    one_number (sample_number i) (sample_number j) (omega arith) (omega arith)
    (rest_same _ _ _ _ _ (sym (name_is c i below) ∙ e ∙ name_is c j below))
  where
    rest_same : (a b d : ℕ) (xs ys : List ℕ) → a ∷ b ∷ d ∷ xs ≡ a ∷ b ∷ d ∷ ys → xs ≡ ys
    rest_same a b d xs ys e = cc

pub names_from_numbers : (c i j : ℕ) → sample_number i ≡ sample_number j → sample_name c i ≡ sample_name c j
names_from_numbers c i j e = ap (λ (x : ℕ). codes "s" ++ decimal c ++ codes "/" ++ four_digits x) e

-- two names have one rank exactly if they have one number
pub same_ranks : (dir : List (List ℕ)) (c i j : ℕ) → c < 10
    → IsRank dir (sample_name c i) (rank_of dir (sample_name c i)) → IsRank dir (sample_name c j) (rank_of dir (sample_name c j))
    → (rank_of dir (sample_name c i) == rank_of dir (sample_name c j)) ≡ (sample_number i == sample_number j)
same_ranks dir c i j below here there = by_test (sample_number i == sample_number j) refl
  where
    by_test : (b : Bool) → (sample_number i == sample_number j) ≡ b → (rank_of dir (sample_name c i) == rank_of dir (sample_name c j)) ≡ b
    by_test true same = eq-eqb _ _ (ap (rank_of dir) (names_from_numbers c i j (eqb-true _ _ same)))
    by_test false differs = false_from_ne_true _ (λ ranks.
        let rank = eqb-true _ _ ranks in
        let names = sym here.is ∙ ap (name_at dir) rank ∙ there.is in
        false≢true (sym differs ∙ eq-eqb _ _ (numbers_from_names c i j below names)))

-- ---- the clients are on names of their own

pub three : (P : Request → Type 0) (b c : Bool) (x y z : Request) → P x → P y → P z → P (cond b x (cond c y z))
three P true c x y z p q r = p
three P false true x y z p q r = q
three P false false x y z p q r = r

-- a client's first requests, each with its line
abbrev pub sample_line : ℕ → ℕ → ℕ → RequestLine
sample_line c n i = request_line (sample_asked n c i)

abbrev pub first_lines : ℕ → ℕ → ℕ → List RequestLine
first_lines c n zero = []
first_lines c n (suc i) = first_lines c n i ++ sample_line c n i ∷ []

lines_are : (c n i : ℕ) → map request_line (sample_requests n c i) ≡ first_lines c n i
lines_are c n zero = refl
lines_are c n (suc i) =
    map_push request_line (sample_requests n c i) (sample_asked n c i)
    ∙ ap (λ (lines : List RequestLine). lines ++ sample_line c n i ∷ []) (lines_are c n i)

own_request : (c n i : ℕ) → c < 10 → IsOwnRequest (sample_prefix c) (sample_line c n i).request
unfolding sample_request
own_request c n i below =
    three (IsOwnRequest (sample_prefix c)) (i % 4 == 2) (i % 4 == 3)
    (Delete (sample_name c i)) (ListRequest (sample_query c)) (Put (sample_name c i) (c * sample_puts n + sample_puts i))
    (name_begins c i below) (refl, refl) (name_begins c i below)

own_requests : (c n i : ℕ) → c < 10 → AreOwnRequests (sample_prefix c) (first_lines c n i)
own_requests c n zero below = All-nil (λ (l : RequestLine). IsOwnRequest (sample_prefix c) l.request)
own_requests c n (suc i) below =
    All-push (λ (l : RequestLine). IsOwnRequest (sample_prefix c) l.request) (first_lines c n i) (sample_line c n i)
    (own_requests c n i below) (own_request c n i below)

pub part_is : (n c : ℕ) → c < 4 → lines_of (sample_parts n) c ≡ first_lines c n n
part_is n zero below = lines_are 0 n n
part_is n (suc zero) below = lines_are 1 n n
part_is n (suc (suc zero)) below = lines_are 2 n n
part_is n (suc (suc (suc zero))) below = lines_are 3 n n
part_is n (suc (suc (suc (suc c)))) below = absurd (omega arith)

pub sample_apart : (dir : List (List ℕ)) (n : ℕ) → Rises dir → AreApart dir (sample_parts n) sample_prefix
sample_apart dir n rising = record {
  rising = rising;
  own = λ c below. subst (AreOwnRequests (sample_prefix c)) (sym (part_is n c below)) (own_requests c n n (omega arith));
  apart = λ c d key low low' h k. one_prefix c d (name_at dir key) (omega arith) (omega arith) (and_parts _ _ h).1 (and_parts _ _ k).1;
}
