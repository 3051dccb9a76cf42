-- What taking a pair does to a cursor: the page is ended, or is full, or has one entry more.
use Rattle.std.proofs.Common.{◌≡◌, ℕ, ◌+◌, ◌-◌, ◌<◌, ◌≤◌, true, false, not, cond, ◌&&◌, nat_lt, List, [], ◌∷◌, ◌++◌, length, take, filter, Option, Some, None, MatchOption, refl, sym, ◌∙◌, ap, subst, arith}
use Rattle.std.specs.Option.{IfSome, IsSome, option_map_or}
use Rattle.std.specs.Bool.{⊤}
use Rattle.std.proofs.lemmas.Bool.{and_from, and_left, and_right, and_parts, lt-ltb, le-ltb, false≢true}
use Rattle.std.proofs.lemmas.List.{append_assoc, take-take}
use Rattle.key_names.specs.Names.{Rises, name_at, begins_with}
use Rattle.key_names.specs.Ranks.{is_before}
use Rattle.key_map.specs.declared.pair.Pair.{Pair}
use Rattle.key_map.specs.Map.{IsMap, first_from}
use Rattle.bucket_terms.specs.declared.list_query.ListQuery.{ListQuery}
use Rattle.bucket_terms.specs.declared.token_point.TokenPoint.{TokenPoint}
use Rattle.bucket_terms.specs.declared.page.PageEntry.{PageEntry}
use Rattle.bucket_terms.specs.Listing.{is_under, group_len, entry_of, entries_of, page_of, entry_point}
use Rattle.bucket_terms.specs.PageParts.{listing, entry_by}
use Rattle.page_rules.specs.Cursor.{CursorView, page_so_far, GoesOnAt, pairs_from, IsOnWay, IsNext, adds, look_ups_left, Took, IsOver}
use Rattle.page_rules.specs.CursorInside.{IsOpenAt, IsCursor}
use Rattle.page_rules.specs.PageLaw.{entry_text}
use Rattle.page_rules.proofs.NameOrder.{begins_not_below}
use Rattle.page_rules.proofs.Groups.{rolled_up, begins_same}
use Rattle.page_rules.proofs.Listing.{is_behind}
use Rattle.page_rules.proofs.OnWay.{key_from, entries_from, left_first, next_above, left_under, left_ended, left_over, page_ended, page_full}

-- the first pair from the next rank on, and what was left, by that rank
next_is : (v : CursorView) (m : List Pair) (pair : Pair) (rank : ℕ) → v.next ≡ Some rank → IsNext v m pair → first_from rank m ≡ Some pair
next_is v m pair rank next is = subst (λ o. IfSome o (λ r. first_from r m ≡ Some pair)) next is

left_is : (v : CursorView) (point : Option TokenPoint) (m : List Pair) (rank : ℕ) → v.next ≡ Some rank → IsOnWay v point m
    → entries_of v.dir v.query point m ≡ v.entries ++ listing v.dir v.query (pairs_from rank m)
left_is v point m rank next on = subst (λ o. MatchOption o (page_so_far v ≡ page_of v.dir v.query point m) (λ r. entries_of v.dir v.query point m ≡ v.entries ++ listing v.dir v.query (pairs_from r m))) next on

-- fewer look-ups are left where the page is settled, or goes on above the pair's key
fewer_left : (v new : CursorView) (m : List Pair) (pair : Pair) (rank : ℕ) → new.dir ≡ v.dir → v.next ≡ Some rank → rank ≤ length v.dir
    → IfSome new.next (λ next. (pair.key < next) × (next ≤ length v.dir)) → IsNext v m pair → look_ups_left new < look_ups_left v
fewer_left v new m pair rank same next within behind is =
    let from = key_from rank m pair (next_is v m pair rank next is) in
    subst (λ o. look_ups_left new < option_map_or (λ r. length v.dir + 1 - r) o 0) (sym next) (go new.next behind from)
  where
    go : (o : Option ℕ) → IfSome o (λ next. (pair.key < next) × (next ≤ length v.dir)) → rank ≤ pair.key → option_map_or (λ r. length new.dir + 1 - r) o 0 < length v.dir + 1 - rank
    go None behind from = omega arith
    go (Some r) behind from = let e = ap length same in omega (arith, behind.0, behind.1)

pub took_ended : (v : CursorView) (rank : ℕ) (pair : Pair) → Rises v.dir → length v.entries ≤ v.query.max_keys → v.next ≡ Some rank → IsOpenAt v rank
    → is_under v.dir v.query pair ≡ false → Took v (record v { next = None }) pair
took_ended v rank pair rises room next unsettled out =
    let none : adds v pair ≡ false = and_left _ _ out in
    record {
      dir = refl;
      query = refl;
      entries = sym (ap (λ b. cond b (v.entries ++ entry_of v.dir v.query pair ∷ []) v.entries) none);
      truncated = unsettled.not_yet ∙ sym (and_left _ _ out);
      next = none;
      fewer = λ m is. fewer_left v (record v { next = None }) m pair rank refl next unsettled.within tt is;
      on_way = λ point m map is on.
          ap (λ t. page_so_far (record v { truncated = t })) unsettled.not_yet
          ∙ page_ended v.dir v.query point m v.entries _ room (left_is v point m rank next on)
          (left_ended v.dir v.query rank m pair rises unsettled.prefix map (next_is v m pair rank next is) out);
    }

pub took_full : (v : CursorView) (rank : ℕ) (pair : Pair) → Rises v.dir → length v.entries ≡ v.query.max_keys → v.next ≡ Some rank → IsOpenAt v rank
    → is_under v.dir v.query pair ≡ true → Took v (record v { next = None; truncated = true }) pair
took_full v rank pair rises full next unsettled under =
    let no_room : nat_lt (length v.entries) v.query.max_keys ≡ false = le-ltb (length v.entries) v.query.max_keys (omega (arith, full)) in
    let none : adds v pair ≡ false = and_right _ _ no_room in
    let e = entry_of v.dir v.query pair in
    record {
      dir = refl;
      query = refl;
      entries = sym (ap (λ b. cond b (v.entries ++ e ∷ []) v.entries) none);
      truncated = sym (and_from _ _ under (ap not none));
      next = none;
      fewer = λ m is. fewer_left v (record v { next = None; truncated = true }) m pair rank refl next unsettled.within tt is;
      on_way = λ point m map is on.
          let later = listing v.dir v.query (filter (is_behind v.dir v.query e) (pairs_from (pair.key + 1) m)) in
          page_full v.dir v.query point m v.entries later e full unsettled.some
          (left_is v point m rank next on ∙ ap (λ l. v.entries ++ l) (left_first v.dir v.query rank m pair rises map (next_is v m pair rank next is) under));
    }

pub took_added : (v : CursorView) (rank : ℕ) (pair : Pair) (entries : List PageEntry) (behind : ℕ) → Rises v.dir → length v.entries < v.query.max_keys → v.next ≡ Some rank
    → IsOpenAt v rank → is_under v.dir v.query pair ≡ true → GoesOnAt v.dir v.query (Some (entry_point v.dir (entry_of v.dir v.query pair))) behind
    → entries ≡ v.entries ++ entry_of v.dir v.query pair ∷ [] → Took v (record v { entries = entries; next = Some behind }) pair
took_added v rank pair entries behind rises room next unsettled under goes is =
    let e = entry_of v.dir v.query pair in
    let adds_it : adds v pair ≡ true = and_from _ _ under (lt-ltb _ _ room) in
    record {
      dir = refl;
      query = refl;
      entries = is ∙ sym (ap (λ b. cond b (v.entries ++ e ∷ []) v.entries) adds_it);
      truncated = unsettled.not_yet ∙ sym (and_right _ _ (ap not adds_it));
      next = (adds_it, next_above v.dir v.query pair behind rises under goes, goes);
      fewer = λ m is_next. fewer_left v (record v { entries = entries; next = Some behind }) m pair rank refl next unsettled.within (next_above v.dir v.query pair behind rises under goes, goes.within) is_next;
      on_way = λ point m map is_next on.
          let later = listing v.dir v.query (pairs_from behind m) in
          left_is v point m rank next on
          ∙ ap (λ l. v.entries ++ l) (left_under v.dir v.query rank behind m pair rises map (next_is v m pair rank next is_next) under goes)
          ∙ sym (append_assoc v.entries (e ∷ []) later) ∙ ap (λ l. l ++ later) (sym is);
    }

text_by : (dir : List (List ℕ)) (query : ListQuery) (p : Pair) (o : Option ℕ) → group_len query (name_at dir p.key) ≡ o → begins_with (name_at dir p.key) query.prefix ≡ true
    → is_before (entry_text dir (entry_by o p)) query.prefix ≡ false
text_by dir query p None h begins = begins_not_below (name_at dir p.key) query.prefix begins
text_by dir query p (Some len) h begins =
    let name = name_at dir p.key in
    let rolled = rolled_up query name len h in
    let fits : length query.prefix ≤ len = omega (arith, rolled.behind, rolled.ends) in
    begins_not_below (take len name) query.prefix (begins_same len name (take len name) query.prefix fits (take-take len len name (omega arith)) ∙ begins)

-- the text of a listed pair's entry is not below the prefix
pub text_not_below : (dir : List (List ℕ)) (query : ListQuery) (p : Pair) → is_under dir query p ≡ true → is_before (entry_text dir (entry_of dir query p)) query.prefix ≡ false
text_not_below dir query p under = text_by dir query p _ refl (and_parts _ _ under).1

-- a new cursor is on its way to the page of each map
pub new_on_way : (dir : List (List ℕ)) (query : ListQuery) (point : Option TokenPoint) (m : List Pair) (entries : List PageEntry) (next : Option ℕ) → entries ≡ []
    → MatchOption next (query.max_keys ≡ 0) (GoesOnAt dir query point) → IsOnWay (record { dir = dir; query = query; entries = entries; next = next; truncated = false }) point m
new_on_way dir query point m entries None empty none =
    let all = entries_of dir query point m in
    let front : entries ≡ take query.max_keys all = empty ∙ sym (ap (λ n. take n all) none) in
    let last : (nat_lt 0 query.max_keys && nat_lt query.max_keys (length all)) ≡ false = and_left _ _ (le-ltb 0 query.max_keys (omega (arith, none))) in
    λ i. record { entries = front i; truncated = sym last i }
new_on_way dir query point m entries (Some rank) empty on =
    entries_from dir query point rank m on ∙ ap (λ l. l ++ listing dir query (pairs_from rank m)) (sym empty)

-- a cursor that is over has the page to which it was on its way
pub over_is_page : (v : CursorView) (point : Option TokenPoint) (m : List Pair) → IsCursor v → IsMap m → IsOver v m → IsOnWay v point m
    → page_so_far v ≡ page_of v.dir v.query point m
over_is_page v point m keeps map over on = go v.next keeps.unsettled over on
  where
    go : (o : Option ℕ) → MatchOption o ⊤ (IsOpenAt v) → IfSome o (λ rank. IfSome (first_from rank m) (λ p. length v.dir ≤ p.key))
        → MatchOption o (page_so_far v ≡ page_of v.dir v.query point m) (λ rank. entries_of v.dir v.query point m ≡ v.entries ++ listing v.dir v.query (pairs_from rank m))
        → page_so_far v ≡ page_of v.dir v.query point m
    go None unsettled past is = is
    go (Some rank) unsettled past is =
        ap (λ t. page_so_far (record v { truncated = t })) unsettled.not_yet
        ∙ page_ended v.dir v.query point m v.entries _ keeps.room is (left_over v.dir v.query rank m map past)

some_of : (o : Option ℕ) → IsSome o → (rank : ℕ) × (o ≡ Some rank)
some_of None h = absurd (false≢true h)
some_of (Some rank) h = (rank, refl)

pub next_rank : (v : CursorView) → IsSome v.next → (rank : ℕ) × (v.next ≡ Some rank)
next_rank v some = some_of v.next some

pub unsettled_at : (v : CursorView) (rank : ℕ) → IsCursor v → v.next ≡ Some rank → IsOpenAt v rank
unsettled_at v rank keeps next = subst (λ o. MatchOption o ⊤ (IsOpenAt v)) next keeps.unsettled
