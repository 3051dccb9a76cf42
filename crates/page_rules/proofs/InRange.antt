-- A page is in range: its common prefixes end with a character.
use Rattle.std.proofs.Common.{◌≡◌, ℕ, ◌+◌, ◌<◌, ◌≤◌, Bool, true, List, [], ◌∷◌, length, get_or, take, drop, All, filter, Option, Some, None, refl, sym, ◌∙◌, ap, subst, inl, inr, add-zero, arith}
use Rattle.std.specs.Str.{IsUtf8, IsCharBoundary}
use Rattle.std.proofs.lemmas.Bool.{cases_Bool, and_parts, ltb-true}
use Rattle.std.proofs.lemmas.List.{length-drop, length-take, get_or-take, get_or-drop}
use Rattle.std.proofs.lemmas.List.Elements.{All-nil, All-cons, All-map, All-take}
use Rattle.std.proofs.lemmas.List.Filters.{All-dedup}
use Rattle.std.proofs.lemmas.Str.{IsUtf8-drop, IsCharBoundary-start, IsCharBoundary-from_take, IsCharBoundary-from_rest}
use Rattle.key_names.specs.Names.{IsFine, name_at}
use Rattle.key_map.specs.declared.pair.Pair.{Pair}
use Rattle.bucket_terms.specs.declared.list_query.ListQuery.{ListQuery}
use Rattle.bucket_terms.specs.declared.token_point.TokenPoint.{TokenPoint}
use Rattle.bucket_terms.specs.declared.page.Page.{Page}
use Rattle.bucket_terms.specs.Listing.{is_under, is_admitted, group_len, entry_of, is_same_group, entries_of, page_of}
use Rattle.bucket_terms.specs.PageParts.{listing, entry_by}
use Rattle.bucket_terms.specs.PageInRange.{IsGroupInRange, IsEntryInRange, IsInRange}
use Rattle.page_rules.proofs.NameOrder.{begins_take}
use Rattle.page_rules.proofs.Groups.{rolled_up}
use Rattle.page_rules.proofs.Listing.{rank_below}

-- where a whole text stands in another, a character begins at its start, and one ends at its end
starts_char : (name text : List ℕ) (at : ℕ) → IsUtf8 text → 0 < length text → at + length text ≤ length name → take (length text) (drop at name) ≡ text → IsCharBoundary name at
starts_char name text at utf8 some fits is =
    let first : get_or text 0 0 ≡ get_or name at 0 =
    ap (λ l. get_or l 0 0) (sym is) ∙ get_or-take (length text) (drop at name) 0 0 some ∙ get_or-drop at name 0 0 ∙ ap (λ k. get_or name k 0) (add-zero at) in
    (omega (arith, fits), λ below high. subst (λ b. 192 ≤ b) first ((IsCharBoundary-start text utf8).1 some (subst (λ b. 128 ≤ b) (sym first) high)))

pub whole_group : (dir : List (List ℕ)) (query : ListQuery) (rank len : ℕ) → rank < length dir → IsUtf8 (name_at dir rank) → IsUtf8 query.delimiter → group_len query (name_at dir rank) ≡ Some len
    → IsGroupInRange dir rank len
whole_group dir query rank len below utf8 delimiter_utf8 h =
    let name = name_at dir rank in
    let text = query.delimiter in
    let rolled = rolled_up query name len h in
    let from = rolled.from in
    let long : from + length text ≤ length name = omega (arith, rolled.ends, rolled.within) in
    let is = begins_take (drop from name) text rolled.here in
    let starts = starts_char name text from delimiter_utf8 rolled.some long is in
    let rest = IsUtf8-drop name from utf8 starts in
    let within : length text ≤ length (drop from name) = omega (arith, length-drop from name) in
    let ends = IsCharBoundary-from_take (drop from name) (length text) rest within (subst IsUtf8 (sym is) delimiter_utf8) in
    record {
      below = below;
      not_empty = omega (arith, rolled.ends, rolled.some);
      whole = subst (IsCharBoundary name) (sym rolled.ends) (IsCharBoundary-from_rest name from (length text) starts.0 ends);
    }

entry_in_range : (dir : List (List ℕ)) (query : ListQuery) (p : Pair) (o : Option ℕ) → p.key < length dir → IsUtf8 (name_at dir p.key) → IsUtf8 query.delimiter → group_len query (name_at dir p.key) ≡ o
    → IsEntryInRange dir (entry_by o p)
entry_in_range dir query p None below utf8 delimiter_utf8 h = below
entry_in_range dir query p (Some len) below utf8 delimiter_utf8 h = whole_group dir query p.key len below utf8 delimiter_utf8 h

All-kept : {X : Type 0} (P : X → Type 0) (under : X → Bool) (xs : List X) → ((x : X) → under x ≡ true → P x) → All P (filter under xs)
All-kept P under [] each = All-nil P
All-kept P under (x ∷ xs) each =
    elim (cases_Bool (under x)) [
      | inl is ↦ rw is (All-cons P x (filter under xs) (each x is) (All-kept P under xs each))
      | inr not_under ↦ rw not_under (All-kept P under xs each)
    ]

pub entries_in_range : (dir : List (List ℕ)) (query : ListQuery) (point : Option TokenPoint) (m : List Pair) → All IsFine dir → IsUtf8 query.delimiter
    → All (IsEntryInRange dir) (entries_of dir query point m)
unfolding entries_of listing
entries_in_range dir query point m fine delimiter_utf8 =
    let left = filter (λ p. is_admitted query point (name_at dir p.key)) m in
    All-dedup (is_same_group dir) (IsEntryInRange dir) _ (All-map (IsEntryInRange dir) (entry_of dir query) _ (All-kept (λ p. IsEntryInRange dir (entry_of dir query p)) (is_under dir query) left
    (λ p under. let below = rank_below dir query p under in entry_in_range dir query p _ below (fine p.key [] below).text delimiter_utf8 refl)))

pub page_in_range : (dir : List (List ℕ)) (query : ListQuery) (point : Option TokenPoint) (m : List Pair) (page : Page) → All IsFine dir → IsUtf8 query.delimiter
    → page ≡ page_of dir query point m → IsInRange dir page
page_in_range dir query point m page fine delimiter_utf8 is =
    let all = entries_of dir query point m in
    let made : IsInRange dir (page_of dir query point m) = record {
      entries = All-take (IsEntryInRange dir) query.max_keys all (entries_in_range dir query point m fine delimiter_utf8);
      some = λ truncated.
          let some : 0 < query.max_keys = ltb-true _ _ (and_parts _ _ truncated).0 in
          let more : query.max_keys < length all = ltb-true _ _ (and_parts _ _ truncated).1 in
          omega (arith, length-take query.max_keys all);
    } in
    subst (IsInRange dir) (sym is) made
