-- The text of a page's last entry, taken as a marker, names the point after the page.
use Rattle.std.proofs.Common.{◌≡◌, ℕ, zero, suc, ◌+◌, ◌<◌, ◌≤◌, ◌==◌, ◌&&◌, Bool, true, false, cond, nat_lt, MatchOption, MatchBool, List, [], ◌∷◌, ◌++◌, All, get_or, length, take, Option, Some, None, refl, sym, ◌∙◌, ap, subst, inl, inr, arith}
use Rattle.std.specs.List.{last_or}
use Rattle.std.specs.Option.{option_map, option_map_or}
use Rattle.std.proofs.lemmas.Bool.{cases_Bool, and_from, and_parts, and_right, ltb-true, MatchBool-at_true, MatchBool-at_false}
use Rattle.std.proofs.lemmas.Bool.Decides.{nat_tests}
use Rattle.std.proofs.lemmas.List.{take-take, length-take}
use Rattle.std.proofs.lemmas.List.Elements.{All-get_or}
use Rattle.key_names.specs.Names.{Rises, name_at, begins_with, IsFine}
use Rattle.key_map.specs.declared.pair.Pair.{Pair}
use Rattle.key_map.specs.Map.{IsMap}
use Rattle.bucket_terms.specs.declared.v1_query.V1Query.{V1Query}
use Rattle.bucket_terms.specs.declared.token_point.TokenPoint.{TokenPoint}
use Rattle.bucket_terms.specs.declared.token_point.TokenPoint.TheVariants.{Key as AtKey, Group as AtGroup}
use Rattle.bucket_terms.specs.declared.page.PageEntry.{PageEntry}
use Rattle.bucket_terms.specs.declared.page.Page.{Page}
use Rattle.bucket_terms.specs.Listing.{group_len, entry_of, entries_of, entry_point, page_point, point_text, plain, is_common_prefix, marker_point, v1_page}
use Rattle.bucket_terms.specs.PageParts.{cut_at, last_text, entry_by}
use Rattle.bucket_terms.proofs.PagePoints.{last_point-is}
use Rattle.page_rules.specs.PageLaw.{AreChained as AreChainedByPoints}
use Rattle.page_rules.proofs.Groups.{rolled_up, begins_same, group_same}
use Rattle.page_rules.proofs.Law.{last_of_take, page_left, begins_all}
use Rattle.page_rules.proofs.Places.{IsEntryAt, entry_at}
use Rattle.list_v1.specs.MarkerLaw.{from_marker, LeavesTheRest, AreChained, BeginsAll}

-- the point of a marker that has bytes
point_with : (query : V1Query) (marker : List ℕ) (b : Bool) → 0 < length marker → is_common_prefix (plain query) marker ≡ b
    → marker_point (from_marker query marker) ≡ Some (cond b (AtGroup marker) (AtKey marker))
point_with query marker b some is =
    let given : (length marker == 0) ≡ false = grind (arith, nat_tests, some) in
    ap (λ t. cond t None (Some (cond (is_common_prefix (plain query) marker) (AtGroup marker) (AtKey marker)))) given
    ∙ ap (λ t. Some (cond t (AtGroup marker) (AtKey marker))) is

-- the text of an entry, taken as a marker, names the point after the entry
entry_again : (dir : List (List ℕ)) (query : V1Query) (pair : Pair) (o : Option ℕ) → 0 < length (name_at dir pair.key) → begins_with (name_at dir pair.key) query.prefix ≡ true
    → group_len (plain query) (name_at dir pair.key) ≡ o
    → marker_point (from_marker query (point_text (entry_point dir (entry_by o pair)))) ≡ Some (entry_point dir (entry_by o pair))
entry_again dir query pair None some begins h =
    let name = name_at dir pair.key in
    let none : option_map_or (λ len. len == length name) (group_len (plain query) name) false ≡ false = ap (λ o. option_map_or (λ len. len == length name) o false) h in
    point_with query name false some (and_right (begins_with name query.prefix) _ none)
entry_again dir query pair (Some len) some begins h =
    let name = name_at dir pair.key in
    let text = take len name in
    let rolled = rolled_up (plain query) name len h in
    let same : take len text ≡ take len name = take-take len len name (omega arith) in
    let long : length text ≡ len = omega (arith, length-take len name, rolled.within) in
    let front : begins_with text query.prefix ≡ true = begins_same len name text query.prefix (omega (arith, rolled.behind, rolled.ends)) same ∙ begins in
    let found = group_same (plain query) name text len h same in
    let ends : option_map_or (λ n. n == length text) (group_len (plain query) text) false ≡ true =
    ap (λ o. option_map_or (λ n. n == length text) o false) found ∙ grind (arith, nat_tests, long) in
    point_with query text true (omega (arith, rolled.some, rolled.ends, long)) (and_from _ _ front ends)

module _ (dir : List (List ℕ)) (m : List Pair) (rises : Rises dir) (fine : All IsFine dir) (map : IsMap m) where
  -- a truncated page has a last entry, whose text names the point after the page
  record IsNamed (query : V1Query) (page : Page) : Type 0 where
    text : List ℕ
    is : last_text dir page ≡ Some text
    point : marker_point (from_marker query text) ≡ page_point dir page

  named_cut : (query : V1Query) (point : Option TokenPoint) (max : ℕ) (page : Page) → page ≡ cut_at max (entries_of dir (plain query) point m) → page.truncated ≡ true → IsNamed query page
  named_cut query point zero page is truncated = let none : false ≡ true = sym (ap (λ (p : Page). p.truncated) is) ∙ truncated in cc
  named_cut query point (suc k) page is truncated =
      let all = entries_of dir (plain query) point m in
      let more : (nat_lt 0 (suc k) && nat_lt (suc k) (length all)) ≡ true = sym (ap (λ (p : Page). p.truncated) is) ∙ truncated in
      let below : suc k < length all = ltb-true _ _ (and_parts _ _ more).1 in
      let within : k < length all = omega (arith, below) in
      let at : IsEntryAt dir (plain query) point m k = entry_at dir (plain query) point m k rises map within in
      let e : PageEntry = entry_of dir (plain query) at.pair in
      let pointed : page_point dir page ≡ Some (entry_point dir e) =
      ap (λ b. page_point dir (record page { truncated = b })) truncated
      ∙ ap (λ (p : Page). option_map (entry_point dir) (last_or None p.entries)) is
      ∙ sym (last_point-is dir (take (suc k) all)) ∙ last_of_take dir all k e within at.is in
      let parts = and_parts (nat_lt at.pair.key (length dir)) (begins_with (name_at dir at.pair.key) query.prefix) at.under in
      let own : IsFine (name_at dir at.pair.key) = All-get_or IsFine dir at.pair.key [] (ltb-true _ _ parts.0) fine in
      record {
        text = point_text (entry_point dir e);
        is = ap (option_map point_text) pointed;
        point = entry_again dir query at.pair _ own.not_empty parts.1 refl ∙ sym pointed;
      }

  pub marker_left : (query : V1Query) (page : Page) → page ≡ v1_page dir query m → LeavesTheRest dir query m page
  marker_left query page is truncated =
      let n = named_cut query (marker_point query) query.max_keys page is truncated in
      let rest = ap (λ o. page.entries ++ entries_of dir (plain query) o m) n.point ∙ page_left dir (plain query) m rises map (marker_point query) page is truncated in
      subst (λ o. MatchOption o ⊥ (λ text. page.entries ++ entries_of dir (plain query) (marker_point (from_marker query text)) m ≡ entries_of dir (plain query) (marker_point query) m)) (sym n.is) rest

  -- pages that follow each other's markers follow each other's points
  by_points : (query : V1Query) (pages : List Page) → AreChained dir m query pages → AreChainedByPoints dir (plain query) m (marker_point query) pages
  by_points query [] chained = chained
  by_points query (page ∷ pages) chained =
      let next : Type 0 = AreChainedByPoints dir (plain query) m (page_point dir page) pages in
      elim (cases_Bool page.truncated) [
        | inl truncated ↦
            let n = named_cut query (marker_point query) query.max_keys page chained.0 truncated in
            let markers : List ℕ → Type 0 = λ text. AreChained dir m (from_marker query text) pages in
            let more = MatchBool-at_true (MatchOption (last_text dir page) ⊥ markers) (pages ≡ []) truncated chained.1 in
            let from = by_points (from_marker query n.text) pages (subst (λ o. MatchOption o ⊥ markers) n.is more) in
            let there : next = subst (λ o. AreChainedByPoints dir (plain query) m o pages) n.point from in
            (chained.0, subst (λ b. MatchBool b next (pages ≡ [])) (sym truncated) there)
        | inr last ↦
            let ends = MatchBool-at_false (MatchOption (last_text dir page) ⊥ (λ text. AreChained dir m (from_marker query text) pages)) (pages ≡ []) last chained.1 in
            (chained.0, subst (λ b. MatchBool b next (pages ≡ [])) (sym last) ends)
      ]

  pub marker_all : (query : V1Query) (page : Page) → BeginsAll dir query m page
  marker_all query page some pages chained =
      begins_all dir (plain query) m rises map (marker_point query) page some pages (by_points query (page ∷ pages) chained)
