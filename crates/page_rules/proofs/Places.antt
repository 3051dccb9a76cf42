-- The entry at each place of a listing, and what is listed after it.
use Rattle.std.proofs.Common.{◌≡◌, ℕ, zero, suc, ◌+◌, ◌<◌, ◌≤◌, ◌⊎◌, Bool, true, false, not, cond, ◌&&◌, List, [], ◌∷◌, length, get_or, drop, map, filter, Option, Some, None, refl, sym, ◌∙◌, ap, subst, inl, inr, arith}
use Rattle.std.specs.List.{dedup}
use Rattle.std.proofs.lemmas.Bool.{cases_Bool, cases_lt, and_from, and_right, and_parts, false_from_ne_true, true_from_ne_false, both_ways, not-true}
use Rattle.key_names.specs.Names.{Rises, name_at}
use Rattle.key_map.specs.declared.pair.Pair.{Pair}
use Rattle.key_map.specs.Map.{IsMap, RisesFrom}
use Rattle.key_map.proofs.MapLaws.{RisesFrom-lower}
use Rattle.bucket_terms.specs.declared.list_query.ListQuery.{ListQuery}
use Rattle.bucket_terms.specs.declared.token_point.TokenPoint.{TokenPoint}
use Rattle.bucket_terms.specs.declared.page.PageEntry.{PageEntry}
use Rattle.key_names.specs.Names.{begins_with}
use Rattle.bucket_terms.specs.Listing.{is_above, is_admitted, is_under, entry_of, group_text, is_same_group, entries_of, entry_point}
use Rattle.bucket_terms.specs.PageParts.{listing, entry_by}
use Rattle.page_rules.proofs.Rolled.{filter_congr, filter-filter}
use Rattle.page_rules.proofs.NameOrder.{above_irreflexive, not_above_back, begins_between, begins_own}
use Rattle.page_rules.proofs.Admission.{above_by_rank, admitted_above}
use Rattle.page_rules.proofs.Listing.{admits, is_behind, rank_below, listing_under}

pub RisesFrom-filter : (p : Pair → Bool) (low : ℕ) (m : List Pair) → RisesFrom low m → RisesFrom low (filter p m)
RisesFrom-filter p low [] r = tt
RisesFrom-filter p low (x ∷ m) r =
    let rest : RisesFrom (x.key + 1) (filter p m) = RisesFrom-filter p (x.key + 1) m r.1 in
    elim (cases_Bool (p x)) [
      | inl keeps ↦ rw keeps (r.0, rest)
      | inr drops ↦ rw drops (RisesFrom-lower low (x.key + 1) (filter p m) (omega (arith, r.0)) rest)
    ]

-- filters that agree on the pairs under the prefix give the same entries
pub listing_congr : (dir : List (List ℕ)) (query : ListQuery) (p q : Pair → Bool) (m : List Pair) → ((x : Pair) → is_under dir query x ≡ true → p x ≡ q x)
    → listing dir query (filter p m) ≡ listing dir query (filter q m)
unfolding listing
listing_congr dir query p q m same =
    ap (λ l. dedup (is_same_group dir) (map (entry_of dir query) l)) (filter_congr (is_under dir query) p q m same)

-- a pair that is not under the prefix gives no entry
pub listing_skip : (dir : List (List ℕ)) (query : ListQuery) (x : Pair) (t : List Pair) → is_under dir query x ≡ false → listing dir query (x ∷ t) ≡ listing dir query t
unfolding listing
listing_skip dir query x t out =
    let rest = filter (is_under dir query) t in
    ap (λ b. dedup (is_same_group dir) (map (entry_of dir query) (cond b (x ∷ rest) rest))) out

-- what is after an entry is above its name
pub behind_above : (dir : List (List ℕ)) (query : ListQuery) (p : Pair) (o : Option ℕ) (name : List ℕ)
    → is_admitted query (Some (entry_point dir (entry_by o p))) name ≡ true → is_above name (name_at dir p.key) ≡ true
behind_above dir query p None name h = h
behind_above dir query p (Some len) name h =
    let own = name_at dir p.key in
    let group = group_text dir p.key len in
    let parts = and_parts (is_above name group) (not (begins_with name group)) h in
    true_from_ne_false _ (λ low. both_ways _ (not-true _ parts.1) (begins_between group name own (not_above_back name group parts.0) low (begins_own len own)))

pub not_behind : (dir : List (List ℕ)) (query : ListQuery) (p x : Pair) → Rises dir → x.key ≤ p.key → p.key < length dir → is_behind dir query (entry_of dir query p) x ≡ false
not_behind dir query p x rises le below =
    let own = name_at dir p.key in
    let name = name_at dir x.key in
    false_from_ne_true _ (λ behind.
    let above = behind_above dir query p _ name behind in
    elim (cases_lt x.key p.key) [
      | inl lt ↦ both_ways _ (not_above_back own name (above_by_rank dir x.key p.key rises lt below)) above
      | inr ge ↦
          let e : x.key ≡ p.key = omega arith in
          both_ways _ (above_irreflexive own) (subst (λ k. is_above (name_at dir k) own ≡ true) e above)
    ])

-- ---- the first entry

-- the first entry is that of `first`, and the others are those from its point on
pub record BeginsWith (dir : List (List ℕ)) (query : ListQuery) (point : Option TokenPoint) (low : ℕ) (m : List Pair) : Type 0 where
  pub first : Pair
  pub from : low ≤ first.key
  pub under : is_under dir query first ≡ true
  pub admitted : admits dir query point first ≡ true
  pub is : entries_of dir query point m ≡ entry_of dir query first ∷ entries_of dir query (Some (entry_point dir (entry_of dir query first))) m

-- a pair that is not listed from either point does not count
entries_skip : (dir : List (List ℕ)) (query : ListQuery) (point : Option TokenPoint) (x : Pair) (t : List Pair) → (is_under dir query x ≡ true → admits dir query point x ≡ false)
    → entries_of dir query point (x ∷ t) ≡ entries_of dir query point t
unfolding entries_of listing
entries_skip dir query point x t none =
    let rest = filter (admits dir query point) t in
    let choice : Bool → List PageEntry = λ b. listing dir query (cond b (x ∷ rest) rest) in
    elim (cases_Bool (admits dir query point x)) [
      | inl keeps ↦
          let out : is_under dir query x ≡ false = false_from_ne_true _ (λ under. both_ways _ (none under) keeps) in
          ap choice keeps ∙ listing_skip dir query x rest out
      | inr drops ↦ ap choice drops
    ]

-- what is after an entry is listed from any point that lists the entry
behind_listed : (dir : List (List ℕ)) (query : ListQuery) (point : Option TokenPoint) (p x : Pair) → admits dir query point p ≡ true → is_behind dir query (entry_of dir query p) x ≡ true
    → admits dir query point x ≡ true
behind_listed dir query point p x h behind =
    admitted_above query point (name_at dir p.key) (name_at dir x.key) (behind_above dir query p _ (name_at dir x.key) behind) h

entries_behind : (dir : List (List ℕ)) (query : ListQuery) (point : Option TokenPoint) (p : Pair) (t : List Pair) → admits dir query point p ≡ true
    → listing dir query (filter (is_behind dir query (entry_of dir query p)) (filter (admits dir query point) t)) ≡ entries_of dir query (Some (entry_point dir (entry_of dir query p))) t
unfolding entries_of listing
entries_behind dir query point p t h =
    let behind = is_behind dir query (entry_of dir query p) in
    let both : (x : Pair) → (admits dir query point x && behind x) ≡ behind x =
    λ x. elim (cases_Bool (behind x)) [
      | inl is ↦ and_from _ _ (behind_listed dir query point p x h is) is ∙ sym is
      | inr is_not ↦ and_right _ _ is_not ∙ sym is_not
    ] in
    ap (listing dir query) (filter-filter (is_under dir query) (admits dir query point) behind t)
    ∙ listing_congr dir query (λ x. admits dir query point x && behind x) behind t (λ x under. both x)

pub first_entry : (dir : List (List ℕ)) (query : ListQuery) (point : Option TokenPoint) (low : ℕ) (m : List Pair) → Rises dir → RisesFrom low m
    → (entries_of dir query point m ≡ []) ⊎ BeginsWith dir query point low m
unfolding entries_of listing
first_entry dir query point low [] rises r = inl refl
first_entry dir query point low (x ∷ t) rises r =
    elim (cases_Bool (is_under dir query x && admits dir query point x)) [
      | inl both ↦ inr (here (and_parts _ _ both).0 (and_parts _ _ both).1)
      | inr not_both ↦
          later (λ under. false_from_ne_true _ (λ keeps. both_ways _ not_both (and_from _ _ under keeps))) (first_entry dir query point (x.key + 1) t rises r.1)
    ]
  where
    here : is_under dir query x ≡ true → admits dir query point x ≡ true → BeginsWith dir query point low (x ∷ t)
    here under keeps =
        let rest = filter (admits dir query point) t in
        let e = entry_of dir query x in
        record {
          first = x;
          from = r.0;
          under = under;
          admitted = keeps;
          is = ap (λ b. listing dir query (cond b (x ∷ rest) rest)) keeps
              ∙ listing_under dir query x rest rises under (RisesFrom-filter (admits dir query point) (x.key + 1) t r.1)
              ∙ ap (λ l. e ∷ l) (entries_behind dir query point x t keeps
              ∙ sym (entries_skip dir query (Some (entry_point dir e)) x t (λ _. not_behind dir query x x rises (omega arith) (rank_below dir query x under))));
        }

    later : (is_under dir query x ≡ true → admits dir query point x ≡ false) → (entries_of dir query point t ≡ []) ⊎ BeginsWith dir query point (x.key + 1) t
        → (entries_of dir query point (x ∷ t) ≡ []) ⊎ BeginsWith dir query point low (x ∷ t)
    later none (inl empty) = inl (entries_skip dir query point x t none ∙ empty)
    later none (inr begins) =
        let first = begins.first in
        let e = entry_of dir query first in
        inr (record {
          first = first;
          from = omega (arith, begins.from, r.0);
          under = begins.under;
          admitted = begins.admitted;
          is = entries_skip dir query point x t none ∙ begins.is
              ∙ ap (λ l. e ∷ l) (sym (entries_skip dir query (Some (entry_point dir e)) x t
              (λ _. not_behind dir query first x rises (omega (arith, begins.from)) (rank_below dir query first begins.under))));
        })

-- ---- the entry at a place

-- the entry at place `k`, and what is left after it
pub record IsEntryAt (dir : List (List ℕ)) (query : ListQuery) (point : Option TokenPoint) (m : List Pair) (k : ℕ) : Type 0 where
  pub pair : Pair
  pub under : is_under dir query pair ≡ true
  pub admitted : admits dir query point pair ≡ true
  pub is : (d : PageEntry) → get_or (entries_of dir query point m) k d ≡ entry_of dir query pair
  pub rest : drop (suc k) (entries_of dir query point m) ≡ entries_of dir query (Some (entry_point dir (entry_of dir query pair))) m

pub entry_at : (dir : List (List ℕ)) (query : ListQuery) (point : Option TokenPoint) (m : List Pair) (k : ℕ) → Rises dir → IsMap m → k < length (entries_of dir query point m)
    → IsEntryAt dir query point m k
entry_at dir query point m zero rises map below =
    elim (first_entry dir query point 0 m rises map) [
      | inl empty ↦ absurd (omega (arith, ap length empty))
      | inr begins ↦ record {
        pair = begins.first;
        under = begins.under;
        admitted = begins.admitted;
        is = λ d. ap (λ l. get_or l 0 d) begins.is;
        rest = ap (drop 1) begins.is;
      }
    ]
entry_at dir query point m (suc k) rises map below =
    elim (first_entry dir query point 0 m rises map) [
      | inl empty ↦ absurd (omega (arith, ap length empty))
      | inr begins ↦
          let point' = Some (entry_point dir (entry_of dir query begins.first)) in
          let at = entry_at dir query point' m k rises map (omega (arith, ap length begins.is)) in
          record {
            pair = at.pair;
            under = at.under;
            admitted = behind_listed dir query point begins.first at.pair begins.admitted at.admitted;
            is = λ d. ap (λ l. get_or l (suc k) d) begins.is ∙ at.is d;
            rest = ap (drop (suc (suc k))) begins.is ∙ at.rest;
          }
    ]
