-- A cursor stays on its way to the page.
use Rattle.std.proofs.Common.{◌≡◌, ℕ, ◌+◌, ◌<◌, ◌≤◌, Bool, true, false, not, cond, ◌&&◌, ◌||◌, nat_lt, nat_le, List, [], ◌∷◌, ◌++◌, length, take, filter, Option, Some, None, refl, sym, ◌∙◌, ap, subst, inl, inr, arith}
use Rattle.std.specs.Option.{IfSome}
use Rattle.std.proofs.lemmas.Bool.{cases_Bool, cases_lt, and_from, and_left, and_right, and_parts, both_ways, false_from_ne_true, lt-ltb, le-ltb, le-leb, lt-leb, leb-true, leb-false}
use Rattle.std.proofs.lemmas.Bool.Decides.{nat_tests}
use Rattle.std.proofs.lemmas.List.{append-nil, take_all, take_at, length-append}
use Rattle.key_names.specs.Names.{Rises, name_at, begins_with}
use Rattle.key_names.specs.Ranks.{is_before}
use Rattle.key_map.specs.declared.pair.Pair.{Pair}
use Rattle.key_map.specs.Map.{IsMap, RisesFrom, first_from}
use Rattle.bucket_terms.specs.declared.list_query.ListQuery.{ListQuery}
use Rattle.bucket_terms.specs.declared.token_point.TokenPoint.{TokenPoint}
use Rattle.bucket_terms.specs.declared.page.PageEntry.{PageEntry}
use Rattle.bucket_terms.specs.Listing.{is_under, entry_of, entries_of, page_of, entry_point}
use Rattle.bucket_terms.specs.PageParts.{listing, cut_at}
use Rattle.page_rules.specs.Cursor.{page_so_far, GoesOnAt, pairs_from}
use Rattle.page_rules.proofs.NameOrder.{begins_not_below}
use Rattle.page_rules.proofs.Admission.{above_by_rank, not_begins_above}
use Rattle.page_rules.proofs.Rolled.{filter-filter}
use Rattle.page_rules.proofs.Listing.{admits, is_behind, rank_below, listing_under}
use Rattle.page_rules.proofs.Places.{listing_congr, listing_skip, not_behind}

-- ---- the pairs from a rank on

from_below : (rank key : ℕ) → nat_le rank key ≡ not (nat_lt key rank)
from_below rank key = grind (arith, nat_tests)

pairs_all : (rank low : ℕ) (m : List Pair) → rank ≤ low → RisesFrom low m → pairs_from rank m ≡ m
pairs_all rank low [] le r = refl
pairs_all rank low (x ∷ m) le r =
    let keeps : nat_le rank x.key ≡ true = le-leb _ _ (omega (arith, r.0)) in
    ap (λ b. cond b (x ∷ pairs_from rank m) (pairs_from rank m)) keeps ∙ ap (λ l. x ∷ l) (pairs_all rank (x.key + 1) m (omega (arith, r.0)) r.1)

pairs_skip : (rank : ℕ) (x : Pair) (m : List Pair) → x.key < rank → pairs_from rank (x ∷ m) ≡ pairs_from rank m
pairs_skip rank x m lt = ap (λ b. cond b (x ∷ pairs_from rank m) (pairs_from rank m)) (lt-leb rank x.key lt)

-- the first pair from a rank on, and those after it
pub record BeginsFrom (rank low : ℕ) (m : List Pair) (p : Pair) : Type 0 where
  pub from : rank ≤ p.key
  pub least : low ≤ p.key
  pub rest : RisesFrom (p.key + 1) (pairs_from (p.key + 1) m)
  pub is : pairs_from rank m ≡ p ∷ pairs_from (p.key + 1) m

pub begins_from : (rank low : ℕ) (m : List Pair) (p : Pair) → RisesFrom low m → first_from rank m ≡ Some p → BeginsFrom rank low m p
begins_from rank low [] p r h = cc
begins_from rank low (x ∷ m) p r h =
    elim (cases_Bool (nat_le rank x.key)) [
      | inl keeps ↦ subst (BeginsFrom rank low (x ∷ m)) (found keeps) (here keeps)
      | inr drops ↦ later (leb-false rank x.key drops) (begins_from rank (x.key + 1) m p r.1 (ap (λ b. cond b (Some x) (first_from rank m)) (sym drops) ∙ h))
    ]
  where
    found : nat_le rank x.key ≡ true → x ≡ p
    found keeps = let is : Some x ≡ Some p = ap (λ b. cond b (Some x) (first_from rank m)) (sym keeps) ∙ h in cc

    here : nat_le rank x.key ≡ true → BeginsFrom rank low (x ∷ m) x
    here keeps =
        let all : pairs_from (x.key + 1) (x ∷ m) ≡ m = pairs_skip (x.key + 1) x m (omega arith) ∙ pairs_all (x.key + 1) (x.key + 1) m (omega arith) r.1 in
        record {
          from = leb-true rank x.key keeps;
          least = r.0;
          rest = subst (RisesFrom (x.key + 1)) (sym all) r.1;
          is = ap (λ b. cond b (x ∷ pairs_from rank m) (pairs_from rank m)) keeps
              ∙ ap (λ l. x ∷ l) (pairs_all rank (x.key + 1) m (omega (arith, leb-true rank x.key keeps)) r.1 ∙ sym all);
        }

    later : x.key < rank → BeginsFrom rank (x.key + 1) m p → BeginsFrom rank low (x ∷ m) p
    later lt begins =
        let skip : pairs_from (p.key + 1) (x ∷ m) ≡ pairs_from (p.key + 1) m = pairs_skip (p.key + 1) x m (omega (arith, begins.from)) in
        record {
          from = begins.from;
          least = omega (arith, r.0, begins.least);
          rest = subst (RisesFrom (p.key + 1)) (sym skip) begins.rest;
          is = pairs_skip rank x m lt ∙ begins.is ∙ ap (λ l. p ∷ l) (sym skip);
        }

pub key_from : (rank : ℕ) (m : List Pair) (p : Pair) → first_from rank m ≡ Some p → rank ≤ p.key
key_from rank [] p h = cc
key_from rank (x ∷ m) p h =
    elim (cases_Bool (nat_le rank x.key)) [
      | inl keeps ↦
          let is : Some x ≡ Some p = ap (λ b. cond b (Some x) (first_from rank m)) (sym keeps) ∙ h in
          let e : x ≡ p = cc in
          subst (λ y. rank ≤ y.key) e (leb-true rank x.key keeps)
      | inr drops ↦ key_from rank m p (ap (λ b. cond b (Some x) (first_from rank m)) (sym drops) ∙ h)
    ]

pub none_from : (rank : ℕ) (m : List Pair) → first_from rank m ≡ None → pairs_from rank m ≡ []
none_from rank [] h = refl
none_from rank (x ∷ m) h =
    elim (cases_Bool (nat_le rank x.key)) [
      | inl keeps ↦ let is : Some x ≡ None = ap (λ b. cond b (Some x) (first_from rank m)) (sym keeps) ∙ h in cc
      | inr drops ↦
          pairs_skip rank x m (leb-false rank x.key drops) ∙ none_from rank m (ap (λ b. cond b (Some x) (first_from rank m)) (sym drops) ∙ h)
    ]

-- a list of pairs none of which is under the prefix has no entries
listing_none : (dir : List (List ℕ)) (query : ListQuery) (low : ℕ) (m : List Pair) → RisesFrom low m → ((x : Pair) → low ≤ x.key → is_under dir query x ≡ false) → listing dir query m ≡ []
unfolding listing
listing_none dir query low [] r none = refl
listing_none dir query low (x ∷ m) r none =
    listing_skip dir query x m (none x r.0) ∙ listing_none dir query (x.key + 1) m r.1 (λ y le. none y (omega (arith, r.0)))

not_not : (b : Bool) → not (not b) ≡ b
not_not true = refl
not_not false = refl

-- a name under the prefix is admitted exactly from the rank at which the listing goes on
admitted_from : (dir : List (List ℕ)) (query : ListQuery) (point : Option TokenPoint) (rank : ℕ) (x : Pair) → GoesOnAt dir query point rank → is_under dir query x ≡ true
    → admits dir query point x ≡ nat_le rank x.key
admitted_from dir query point rank x on under =
    let name = name_at dir x.key in
    let high : is_before name query.prefix ≡ false = begins_not_below name query.prefix (and_parts _ _ under).1 in
    let tells = on.first x.key (rank_below dir query x under) ∙ ap (λ b. b || not (admits dir query point x)) high in
    sym (from_below rank x.key ∙ ap not tells ∙ not_not (admits dir query point x))

-- where the listing from a point goes on at a rank, its entries are those of the pairs from there on
pub entries_from : (dir : List (List ℕ)) (query : ListQuery) (point : Option TokenPoint) (rank : ℕ) (m : List Pair) → GoesOnAt dir query point rank
    → entries_of dir query point m ≡ listing dir query (pairs_from rank m)
unfolding entries_of listing
entries_from dir query point rank m on =
    listing_congr dir query (admits dir query point) (λ x. nat_le rank x.key) m (λ x under. admitted_from dir query point rank x on under)

-- ---- what is left from a rank on

-- from a listed pair on: its entry, and those after it
pub left_first : (dir : List (List ℕ)) (query : ListQuery) (rank : ℕ) (m : List Pair) (p : Pair) → Rises dir → IsMap m → first_from rank m ≡ Some p → is_under dir query p ≡ true
    → listing dir query (pairs_from rank m) ≡ entry_of dir query p ∷ listing dir query (filter (is_behind dir query (entry_of dir query p)) (pairs_from (p.key + 1) m))
left_first dir query rank m p rises map h under =
    let begins = begins_from rank 0 m p map h in
    ap (listing dir query) begins.is ∙ listing_under dir query p (pairs_from (p.key + 1) m) rises under begins.rest

-- the rank at which the listing goes on after a pair's entry is above its key
pub next_above : (dir : List (List ℕ)) (query : ListQuery) (p : Pair) (next : ℕ) → Rises dir → is_under dir query p ≡ true
    → GoesOnAt dir query (Some (entry_point dir (entry_of dir query p))) next → p.key < next
next_above dir query p next rises under on =
    leb-false next p.key (sym (admitted_from dir query (Some (entry_point dir (entry_of dir query p))) next p on under)
    ∙ not_behind dir query p p rises (omega arith) (rank_below dir query p under))

-- after a listed pair: its entry, and the entries from the rank at which the listing goes on after it
pub left_under : (dir : List (List ℕ)) (query : ListQuery) (rank next : ℕ) (m : List Pair) (p : Pair) → Rises dir → IsMap m → first_from rank m ≡ Some p
    → is_under dir query p ≡ true → GoesOnAt dir query (Some (entry_point dir (entry_of dir query p))) next
    → listing dir query (pairs_from rank m) ≡ entry_of dir query p ∷ listing dir query (pairs_from next m)
left_under dir query rank next m p rises map h under on =
    let e = entry_of dir query p in
    let behind = is_behind dir query e in
    let later : Pair → Bool = λ x. nat_le (p.key + 1) x.key in
    let same : (x : Pair) → is_under dir query x ≡ true → (later x && behind x) ≡ nat_le next x.key =
    λ x is. elim (cases_Bool (behind x)) [
      | inl after ↦
          let above : later x ≡ true =
          elim (cases_lt p.key x.key) [
            | inl lt ↦ le-leb _ _ (omega arith)
            | inr ge ↦ absurd (both_ways _ (not_behind dir query p x rises ge (rank_below dir query p under)) after)
          ] in
          and_from _ _ above after ∙ sym after ∙ admitted_from dir query (Some (entry_point dir e)) next x on is
      | inr not_after ↦ and_right _ _ not_after ∙ sym not_after ∙ admitted_from dir query (Some (entry_point dir e)) next x on is
    ] in
    left_first dir query rank m p rises map h under
    ∙ ap (λ l. e ∷ l) (ap (listing dir query) (filter-filter (is_under dir query) later behind m) ∙ listing_congr dir query (λ x. later x && behind x) (λ x. nat_le next x.key) m same)

-- after a pair that is not listed: nothing
pub left_ended : (dir : List (List ℕ)) (query : ListQuery) (rank : ℕ) (m : List Pair) (p : Pair) → Rises dir
    → ((k : ℕ) → k < length dir → rank ≤ k → is_before (name_at dir k) query.prefix ≡ false) → IsMap m → first_from rank m ≡ Some p → is_under dir query p ≡ false
    → listing dir query (pairs_from rank m) ≡ []
left_ended dir query rank m p rises high map h out =
    let begins = begins_from rank 0 m p map h in
    ap (listing dir query) begins.is ∙ listing_none dir query p.key (p ∷ pairs_from (p.key + 1) m) (omega arith, begins.rest) (λ x le. false_from_ne_true _ (λ under. none x le begins.from under))
  where
    none : (x : Pair) → p.key ≤ x.key → rank ≤ p.key → is_under dir query x ≡ true → ⊥
    none x le from under =
        let below = rank_below dir query x under in
        elim (cases_lt p.key x.key) [
          | inl lt ↦
              let own = name_at dir p.key in
              let not_begins : begins_with own query.prefix ≡ false =
              false_from_ne_true _ (λ begins. both_ways _ out (and_from _ _ (lt-ltb p.key (length dir) (omega arith)) begins)) in
              both_ways _ (not_begins_above query.prefix own (name_at dir x.key) (high p.key (omega arith) from) (above_by_rank dir p.key x.key rises lt below) not_begins)
              (and_parts _ _ under).1
          | inr ge ↦
              let e : x.key ≡ p.key = omega arith in
              both_ways _ out (subst (λ k. (nat_lt k (length dir) && begins_with (name_at dir k) query.prefix) ≡ true) e under)
        ]

-- where no pair from the rank on has a rank as its key: nothing
pub left_over : (dir : List (List ℕ)) (query : ListQuery) (rank : ℕ) (m : List Pair) → IsMap m → IfSome (first_from rank m) (λ p. length dir ≤ p.key)
    → listing dir query (pairs_from rank m) ≡ []
unfolding listing
left_over dir query rank m map over = go (first_from rank m) refl over
  where
    go : (o : Option Pair) → first_from rank m ≡ o → IfSome o (λ p. length dir ≤ p.key) → listing dir query (pairs_from rank m) ≡ []
    go None h past = ap (listing dir query) (none_from rank m h)
    go (Some p) h past =
        let begins = begins_from rank 0 m p map h in
        ap (listing dir query) begins.is
        ∙ listing_none dir query p.key (p ∷ pairs_from (p.key + 1) m) (omega arith, begins.rest) (λ x le. and_left _ _ (le-ltb x.key (length dir) (omega arith)))

-- ---- the page

-- these are all entries, and they have room
pub page_ended : (dir : List (List ℕ)) (query : ListQuery) (point : Option TokenPoint) (m : List Pair) (entries left : List PageEntry) → length entries ≤ query.max_keys
    → entries_of dir query point m ≡ entries ++ left → left ≡ [] → page_so_far (record { dir = dir; query = query; entries = entries; next = None; truncated = false }) ≡ page_of dir query point m
page_ended dir query point m entries left room is none =
    let all : entries_of dir query point m ≡ entries = is ∙ ap (λ l. entries ++ l) none ∙ append-nil entries in
    let whole : take query.max_keys entries ≡ entries = take_all query.max_keys entries room in
    let last : (nat_lt 0 query.max_keys && nat_lt query.max_keys (length entries)) ≡ false = and_right _ _ (le-ltb query.max_keys (length entries) room) in
    (λ i. record { entries = sym whole i; truncated = sym last i }) ∙ ap (cut_at query.max_keys) (sym all)

-- the page is full, and an entry is left
pub page_full : (dir : List (List ℕ)) (query : ListQuery) (point : Option TokenPoint) (m : List Pair) (entries left : List PageEntry) (e : PageEntry) → length entries ≡ query.max_keys
    → 0 < query.max_keys → entries_of dir query point m ≡ entries ++ e ∷ left
    → page_so_far (record { dir = dir; query = query; entries = entries; next = None; truncated = true }) ≡ page_of dir query point m
page_full dir query point m entries left e full some is =
    let all = entries ++ e ∷ left in
    let front : take query.max_keys all ≡ entries = take_at entries (e ∷ left) query.max_keys full in
    let more : (nat_lt 0 query.max_keys && nat_lt query.max_keys (length all)) ≡ true =
    and_from _ _ (lt-ltb _ _ some) (lt-ltb _ _ (omega (arith, full, length-append entries (e ∷ left)))) in
    (λ i. record { entries = sym front i; truncated = sym more i }) ∙ ap (cut_at query.max_keys) (sym is)
