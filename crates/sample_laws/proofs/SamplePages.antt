-- The page of a client's listing in the generated session: its own pairs, at most 100.
use Rattle.std.proofs.Common.{◌≡◌, ℕ, Bool, true, cond, min, List, [], ◌∷◌, length, filter, map, refl, ap, ◌∙◌, None}
use Rattle.std.specs.List.{AllByRecursion, dedup, dedup_from}
use Rattle.std.proofs.lemmas.List.{length-take, length-map}
use Rattle.key_map.specs.declared.pair.Pair.{Pair}
use Rattle.bucket_terms.specs.declared.page.PageEntry.{PageEntry}
use Rattle.bucket_terms.specs.declared.page.PageEntry.TheVariants.{Key}
use Rattle.bucket_terms.specs.Listing.{is_under, is_admitted, entry_of, is_same_group, entries_of, group_len, page_of}
use Rattle.bucket_terms.specs.PageParts.{listing}
use Rattle.key_names.specs.Names.{name_at}
use Rattle.sample_laws.specs.Own.{is_own}
use Rattle.request_lines.specs.SampleSession.{sample_prefix, sample_query}

filter_all : (test : Pair → Bool) (m : List Pair) → AllByRecursion (λ (p : Pair). test p ≡ true) m → filter test m ≡ m
filter_all test [] all = refl
filter_all test (p ∷ ps) all =
    ap (λ (b : Bool). cond b (p ∷ filter test ps) (filter test ps)) all.0 ∙ ap (λ (qs : List Pair). p ∷ qs) (filter_all test ps all.1)

each_admitted : (test : Pair → Bool) (m : List Pair) → ((p : Pair) → test p ≡ true) → AllByRecursion (λ (p : Pair). test p ≡ true) m
each_admitted test [] each = tt
each_admitted test (p ∷ ps) each = (each p, each_admitted test ps each)

-- the keys of a map as entries
abbrev key_entries : List Pair → List PageEntry
key_entries m = map (λ (p : Pair). Key p.key p.val) m

entries_are : (dir : List (List ℕ)) (client : ℕ) (m : List Pair) → map (entry_of dir (sample_query client)) m ≡ key_entries m
unfolding group_len
entries_are dir client [] = refl
entries_are dir client (p ∷ ps) = ap (λ (es : List PageEntry). Key p.key p.val ∷ es) (entries_are dir client ps)

-- keys are no groups, so none is left out
keys_stay : (dir : List (List ℕ)) (p : Pair) (m : List Pair) → dedup_from (is_same_group dir) (Key p.key p.val) (key_entries m) ≡ Key p.key p.val ∷ key_entries m
keys_stay dir p [] = refl
keys_stay dir p (q ∷ qs) = ap (λ (es : List PageEntry). Key p.key p.val ∷ es) (keys_stay dir q qs)

all_stay : (dir : List (List ℕ)) (m : List Pair) → dedup (is_same_group dir) (key_entries m) ≡ key_entries m
all_stay dir [] = refl
all_stay dir (p ∷ ps) = keys_stay dir p ps

listed_entries : (dir : List (List ℕ)) (client : ℕ) (m : List Pair) → AllByRecursion (λ (p : Pair). is_own dir (sample_prefix client) p.key ≡ true) m
    → entries_of dir (sample_query client) None m ≡ key_entries m
unfolding entries_of listing
listed_entries dir client m own =
    let query = sample_query client in
    let admitted = filter_all (λ (p : Pair). is_admitted query None (name_at dir p.key)) m (each_admitted _ m (λ p. refl)) in
    ap (λ (ps : List Pair). dedup (is_same_group dir) (map (entry_of dir query) (filter (is_under dir query) ps))) admitted
    ∙ ap (λ (ps : List Pair). dedup (is_same_group dir) (map (entry_of dir query) ps)) (filter_all (is_under dir query) m own)
    ∙ ap (dedup (is_same_group dir)) (entries_are dir client m)
    ∙ all_stay dir m

pub page-length : (dir : List (List ℕ)) (client : ℕ) (m : List Pair) → AllByRecursion (λ (p : Pair). is_own dir (sample_prefix client) p.key ≡ true) m
    → length (page_of dir (sample_query client) None m).entries ≡ min 100 (length m)
page-length dir client m own =
    length-take 100 (entries_of dir (sample_query client) None m)
    ∙ ap (λ (es : List PageEntry). min 100 (length es)) (listed_entries dir client m own)
    ∙ ap (min 100) (length-map m (λ (p : Pair). Key p.key p.val))
