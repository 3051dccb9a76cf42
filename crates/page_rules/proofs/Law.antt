-- The law of pages.
use Rattle.std.proofs.Common.{◌≡◌, ℕ, zero, suc, ◌+◌, ◌-◌, ◌<◌, ◌&&◌, true, false, not, nat_lt, List, [], ◌∷◌, ◌++◌, length, get_or, take, Option, Some, None, refl, sym, ◌∙◌, ap, subst, inl, inr, arith}
use Rattle.std.proofs.lemmas.Bool.{cases_Bool, cases_lt, and_from, and_parts, MatchBool-at_true, MatchBool-at_false, lt-ltb, ltb-true, true_from_ne_false, both_ways, not-true}
use Rattle.std.proofs.lemmas.List.{take-append-drop, take_all, append-nil, length-take, length-drop, get_or-take, get_or-drop}
use Rattle.key_names.specs.Names.{Rises, name_at, begins_with}
use Rattle.key_map.specs.declared.pair.Pair.{Pair}
use Rattle.key_map.specs.Map.{IsMap}
use Rattle.bucket_terms.specs.declared.list_query.ListQuery.{ListQuery}
use Rattle.bucket_terms.specs.declared.token_point.TokenPoint.{TokenPoint}
use Rattle.bucket_terms.specs.declared.page.PageEntry.{PageEntry}
use Rattle.bucket_terms.specs.declared.page.Page.{Page}
use Rattle.bucket_terms.specs.Listing.{is_above, group_len, entry_of, group_text, entries_of, entry_point, page_point, page_of}
use Rattle.bucket_terms.specs.PageParts.{last_point, cut_at, entry_by}
use Rattle.bucket_terms.proofs.PagePoints.{last_point-is}
use Rattle.page_rules.specs.PageLaw.{LeavesTheRest, AreChained, all_entries, BeginsAll, entry_text, RiseByText}
use Rattle.page_rules.proofs.NameOrder.{not_above_back, begins_between, begins_own, begins_trans}
use Rattle.page_rules.proofs.Groups.{group_same}
use Rattle.page_rules.proofs.Listing.{is_behind, in_group}
use Rattle.page_rules.proofs.Places.{entry_at}

-- the point after some first entries is that of the last of them
pub last_of_take : (dir : List (List ℕ)) (entries : List PageEntry) (k : ℕ) (e : PageEntry) → k < length entries → ((d : PageEntry) → get_or entries k d ≡ e)
    → last_point dir (take (suc k) entries) ≡ Some (entry_point dir e)
last_of_take dir [] k e below is = absurd (omega arith)
last_of_take dir (x ∷ entries) zero e below is = ap (λ y. Some (entry_point dir y)) (is e)
last_of_take dir (x ∷ []) (suc k) e below is = absurd (omega arith)
last_of_take dir (x ∷ y ∷ entries) (suc k) e below is = last_of_take dir (y ∷ entries) k e (omega arith) is

module _ (dir : List (List ℕ)) (query : ListQuery) (m : List Pair) (rises : Rises dir) (map : IsMap m) where
  -- the first `k + 1` entries, and those from the point of the last of them on
  left_at : (point : Option TokenPoint) (k : ℕ) → k < length (entries_of dir query point m)
      → take (suc k) (entries_of dir query point m) ++ entries_of dir query (last_point dir (take (suc k) (entries_of dir query point m))) m ≡ entries_of dir query point m
  left_at point k below =
      let all = entries_of dir query point m in
      let at = entry_at dir query point m k rises map below in
      let last = last_of_take dir all k (entry_of dir query at.pair) below at.is in
      ap (λ o. take (suc k) all ++ entries_of dir query o m) last ∙ ap (λ l. take (suc k) all ++ l) (sym at.rest) ∙ take-append-drop (suc k) all

  cut_left : (point : Option TokenPoint) (max : ℕ) → LeavesTheRest dir query point m (cut_at max (entries_of dir query point m))
  cut_left point zero truncated = cc
  cut_left point (suc k) truncated =
      let all = entries_of dir query point m in
      let below : suc k < length all = ltb-true _ _ (and_parts _ _ truncated).1 in
      ap (λ b. take (suc k) all ++ entries_of dir query (page_point dir (record { entries = take (suc k) all; truncated = b })) m) truncated
      ∙ ap (λ o. take (suc k) all ++ entries_of dir query o m) (sym (last_point-is dir (take (suc k) all)))
      ∙ left_at point k (omega arith)

  -- a page that may have entries and is not truncated has all
  page_whole : 0 < query.max_keys → (point : Option TokenPoint) (page : Page) → page ≡ page_of dir query point m → page.truncated ≡ false → page.entries ≡ entries_of dir query point m
  page_whole some point page is last =
      let all = entries_of dir query point m in
      let none : (nat_lt 0 query.max_keys && nat_lt query.max_keys (length all)) ≡ false = sym (ap (λ (p : Page). p.truncated) is) ∙ last in
      elim (cases_lt query.max_keys (length all)) [
        | inl more ↦ absurd (both_ways _ none (and_from _ _ (lt-ltb _ _ some) (lt-ltb _ _ more)))
        | inr fits ↦ ap (λ (p : Page). p.entries) is ∙ take_all query.max_keys all fits
      ]

  pub page_left : (point : Option TokenPoint) (page : Page) → page ≡ page_of dir query point m → LeavesTheRest dir query point m page
  page_left point page is = subst (LeavesTheRest dir query point m) (sym is) (cut_left point query.max_keys)

  chained_all : 0 < query.max_keys → (point : Option TokenPoint) (pages : List Page) → AreChained dir query m point pages → all_entries pages ≡ entries_of dir query point m
  chained_all some point [] chained = absurd chained
  chained_all some point (page ∷ pages) chained =
      elim (cases_Bool page.truncated) [
        | inl truncated ↦
            let next = MatchBool-at_true (AreChained dir query m (page_point dir page) pages) (pages ≡ []) truncated chained.1 in
            ap (λ l. page.entries ++ l) (chained_all some (page_point dir page) pages next) ∙ page_left point page chained.0 truncated
        | inr last ↦
            let ends = MatchBool-at_false (AreChained dir query m (page_point dir page) pages) (pages ≡ []) last chained.1 in
            ap (λ l. page.entries ++ all_entries l) ends ∙ append-nil page.entries ∙ page_whole some point page chained.0 last
      ]

-- ---- each once

-- the entry of a name that is after another entry has a higher text
text_above : (dir : List (List ℕ)) (query : ListQuery) (p x : Pair) (o o' : Option ℕ) → group_len query (name_at dir p.key) ≡ o → group_len query (name_at dir x.key) ≡ o'
    → is_behind dir query (entry_by o p) x ≡ true → is_above (entry_text dir (entry_by o' x)) (entry_text dir (entry_by o p)) ≡ true
text_above dir query p x None None h h' behind = behind
text_above dir query p x None (Some len') h h' behind =
    let own = name_at dir p.key in
    let name = name_at dir x.key in
    let group = group_text dir x.key len' in
    true_from_ne_false _ (λ low.
    let begins = begins_between group own name low (not_above_back name own behind) (begins_own len' name) in
    let one = group_same query name own len' h' (in_group dir query x len' own h' begins) in
    cc)
text_above dir query p x (Some len) None h h' behind =
    (and_parts (is_above (name_at dir x.key) (group_text dir p.key len)) (not (begins_with (name_at dir x.key) (group_text dir p.key len))) behind).0
text_above dir query p x (Some len) (Some len') h h' behind =
    let own = name_at dir p.key in
    let name = name_at dir x.key in
    let first = group_text dir p.key len in
    let group = group_text dir x.key len' in
    let parts = and_parts (is_above name first) (not (begins_with name first)) behind in
    true_from_ne_false _ (λ low.
    let begins = begins_between group first name low (not_above_back name first parts.0) (begins_own len' name) in
    let front = in_group dir query x len' own h' (begins_trans own first group (begins_own len own) begins) in
    let one = group_same query name own len' h' front in
    let e : len' ≡ len = cc in
    let same : group ≡ first = sym front ∙ ap (λ n. take n own) e in
    both_ways _ (not-true _ parts.1) (subst (λ g. begins_with name g ≡ true) same (begins_own len' name)))

module _ (dir : List (List ℕ)) (query : ListQuery) (m : List Pair) (rises : Rises dir) (map : IsMap m) where
  pub entries_rise : (point : Option TokenPoint) → RiseByText dir (entries_of dir query point m)
  entries_rise point i j d low below =
      let all = entries_of dir query point m in
      let at = entry_at dir query point m i rises map (omega arith) in
      let e = entry_of dir query at.pair in
      let behind = entries_of dir query (Some (entry_point dir e)) m in
      let step : suc i + (j - suc i) ≡ j = omega arith in
      let later = entry_at dir query (Some (entry_point dir e)) m (j - suc i) rises map (omega (arith, ap length at.rest, length-drop (suc i) all)) in
      let there : get_or all j d ≡ entry_of dir query later.pair =
      ap (λ k. get_or all k d) (sym step) ∙ sym (get_or-drop (suc i) all (j - suc i) d) ∙ ap (λ l. get_or l (j - suc i) d) at.rest ∙ later.is d in
      ap (λ f. is_above (entry_text dir f) (entry_text dir (get_or all i d))) there
      ∙ ap (λ f. is_above (entry_text dir (entry_of dir query later.pair)) (entry_text dir f)) (at.is d)
      ∙ text_above dir query at.pair later.pair _ _ refl refl later.admitted

  pub page_rises : (point : Option TokenPoint) (page : Page) → page ≡ page_of dir query point m → RiseByText dir page.entries
  page_rises point page is = subst (RiseByText dir) (sym (ap (λ (p : Page). p.entries) is)) (λ i j d low below.
      let all = entries_of dir query point m in
      let within : j < query.max_keys = omega (arith, length-take query.max_keys all) in
      let shorter : j < length all = omega (arith, length-take query.max_keys all) in
      let before : i < query.max_keys = omega arith in
      rw (get_or-take query.max_keys all j d within, get_or-take query.max_keys all i d before) (entries_rise point i j d low shorter))

  pub begins_all : (point : Option TokenPoint) (page : Page) → BeginsAll dir query point m page
  begins_all point page some pages chained =
      let all = chained_all dir query m rises map some point (page ∷ pages) chained in
      record { all = all; once = subst (RiseByText dir) (sym all) (entries_rise point) }
