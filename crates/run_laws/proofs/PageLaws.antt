-- Common prefixes, `start-after` and truncated pages.
use Rattle.std.proofs.Common.{◌≡◌, ℕ, zero, suc, ◌+◌, ◌<◌, Bool, true, false, if◌then◌else◌, List, [], ◌∷◌, ◌++◌, length, drop, map, refl, sym, ap, ◌∙◌, arith, Some, None}
use Rattle.std.specs.Prelude.{◌==◌, filter}
use Rattle.std.specs.List.{dedup}
use Rattle.std.proofs.lemmas.Bool.{and_parts, ltb-true}
use Rattle.std.proofs.lemmas.Bool.Decides.{nat_tests}
use Rattle.std.proofs.lemmas.List.{length-take-le, append-nil}
use Rattle.key_names.specs.Names.{name_at, begins_with}
use Rattle.key_map.specs.declared.pair.Pair.{Pair}
use Rattle.bucket_terms.specs.declared.page.PageEntry.{PageEntry}
use Rattle.bucket_terms.specs.declared.token_point.TokenPoint.TheVariants.{Key as AtKey, Group as AtGroup}
use Rattle.bucket_terms.specs.Listing.{is_above, is_under, entry_of, is_same_group, first_end, group_len, entries_of, page_of}
use Rattle.page_rules.proofs.Law.{page_left}
use Rattle.run_laws.specs.PageLaws.{EndsWithFirst, GroupLaw, NoGroupLaw, StartAfterLaw, NoStartAfterLaw, TruncatedLaw}

-- ---- the first delimiter

record Found (d text : List ℕ) (at len : ℕ) : Type 0 where
  between : ℕ
  ends : len ≡ at + between + length d
  there : begins_with (drop between text) d ≡ true
  first : (k : ℕ) → k < between → begins_with (drop k text) d ≡ false

found : (d text : List ℕ) (at len : ℕ) → first_end d at text ≡ Some len → Found d text at len
unfolding first_end
found d [] at len is = cc
found d (b ∷ bs) at len is = by_test (begins_with (b ∷ bs) d) refl is (λ e. found d bs (at + 1) len e)
  where
    by_test : (t : Bool) → begins_with (b ∷ bs) d ≡ t → (if t then Some (at + length d) else first_end d (at + 1) bs) ≡ Some len
        → (first_end d (at + 1) bs ≡ Some len → Found d bs (at + 1) len) → Found d (b ∷ bs) at len
    by_test true here is next = record {
      between = 0;
      ends = let same : at + length d ≡ len = cc in omega arith;
      there = here;
      first = λ k below. absurd (omega arith);
    }
    by_test false here is next =
        let later = next is in
        record {
          between = suc later.between;
          ends = omega (arith, later.ends);
          there = later.there;
          first = λ k below. by_place k below here later.first;
        }
      where
        by_place : (k : ℕ) → k < suc (next is).between → begins_with (b ∷ bs) d ≡ false → ((j : ℕ) → j < (next is).between → begins_with (drop j bs) d ≡ false)
            → begins_with (drop k (b ∷ bs)) d ≡ false
        by_place zero below here first = here
        by_place (suc j) below here first = first j (omega arith)

none_found : (d text : List ℕ) (at : ℕ) → first_end d at text ≡ None → (k : ℕ) → k < length text → begins_with (drop k text) d ≡ false
unfolding first_end
none_found d [] at is k below = absurd (omega arith)
none_found d (b ∷ bs) at is k below = by_test (begins_with (b ∷ bs) d) refl is (λ e j low. none_found d bs (at + 1) e j low) k below
  where
    by_test : (t : Bool) → begins_with (b ∷ bs) d ≡ t → (if t then Some (at + length d) else first_end d (at + 1) bs) ≡ None
        → (first_end d (at + 1) bs ≡ None → (j : ℕ) → j < length bs → begins_with (drop j bs) d ≡ false)
        → (k : ℕ) → k < suc (length bs) → begins_with (drop k (b ∷ bs)) d ≡ false
    by_test true here is next k below = cc
    by_test false here is next zero below = here
    by_test false here is next (suc j) below = next is j (omega arith)

given : (n : ℕ) → (n == 0) ≡ false → 0 < n
given n some = grind (arith, nat_tests)

pub group_law : GroupLaw
unfolding group_len
group_law query name len is = by_test (length query.delimiter == 0) refl is
  where
    by_test : (t : Bool) → (length query.delimiter == 0) ≡ t → (if t then None else first_end query.delimiter (length query.prefix) (drop (length query.prefix) name)) ≡ Some len
        → EndsWithFirst query name len
    by_test true none is = cc
    by_test false some is =
        let f = found query.delimiter (drop (length query.prefix) name) (length query.prefix) len is in
        record { given = given (length query.delimiter) some; between = f.between; ends = f.ends; there = f.there; first = f.first }

pub no_group_law : NoGroupLaw
unfolding group_len
no_group_law query name is some = by_test (length query.delimiter == 0) refl is
  where
    by_test : (t : Bool) → (length query.delimiter == 0) ≡ t → (if t then None else first_end query.delimiter (length query.prefix) (drop (length query.prefix) name)) ≡ None
        → (k : ℕ) → k < length (drop (length query.prefix) name) → begins_with (drop k (drop (length query.prefix) name)) query.delimiter ≡ false
    by_test true none is = absurd (let zero_long : length query.delimiter ≡ 0 = grind (arith, nat_tests) in omega arith)
    by_test false given is = none_found query.delimiter (drop (length query.prefix) name) (length query.prefix) is

-- ---- start-after

pub start_after_law : StartAfterLaw
unfolding entries_of
start_after_law dir query m some =
    let there : (length query.start_after == 0) ≡ false = grind (arith, nat_tests) in
    ap (λ (b : Bool). dedup (is_same_group dir) (map (entry_of dir query) (filter (is_under dir query)
    (filter (λ (p : Pair). if b then true else is_above (name_at dir p.key) query.start_after) m)))) there

pub no_start_after_law : NoStartAfterLaw
unfolding entries_of group_len
no_start_after_law dir query (AtKey key) other m = refl
no_start_after_law dir query (AtGroup group) other m = refl

-- ---- truncated pages

pub truncated_law : TruncatedLaw
truncated_law dir query point m rises map truncated none =
    let all = entries_of dir query point m in
    let page = page_of dir query point m in
    let more : query.max_keys < length all = ltb-true _ _ (and_parts _ _ truncated).1 in
    let left = page_left dir query m rises map point page refl truncated in
    let whole : page.entries ≡ all = sym (append-nil page.entries) ∙ ap (λ (rest : List PageEntry). page.entries ++ rest) (sym none) ∙ left in
    let short : length page.entries ≡ query.max_keys = length-take-le query.max_keys all (omega arith) in
    let same : length page.entries ≡ length all = ap (length {A = PageEntry}) whole in
    omega arith
