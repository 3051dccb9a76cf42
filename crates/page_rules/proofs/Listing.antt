-- The entries of a rising list of pairs, from its first pair on.
use Rattle.std.proofs.Common.{◌≡◌, ℕ, ◌+◌, ◌<◌, Bool, true, false, not, cond, nat_eq, List, [], ◌∷◌, length, take, map, filter, Option, Some, None, refl, sym, ◌∙◌, ap, subst, inl, inr, arith}
use Rattle.std.specs.List.{dedup}
use Rattle.std.specs.Cmp.Lexicographic.{pointwise, bytes_decides}
use Rattle.std.proofs.lemmas.Bool.{cases_Bool, and_from, and_parts, and_right, false_from_ne_true, both_ways, ltb-true}
use Rattle.std.proofs.lemmas.List.{length-take-le}
use Rattle.key_names.specs.Names.{Rises, name_at}
use Rattle.key_map.specs.declared.pair.Pair.{Pair}
use Rattle.key_map.specs.Map.{RisesFrom}
use Rattle.key_map.proofs.MapLaws.{RisesFrom-lower}
use Rattle.bucket_terms.specs.declared.list_query.ListQuery.{ListQuery}
use Rattle.bucket_terms.specs.declared.token_point.TokenPoint.{TokenPoint}
use Rattle.bucket_terms.specs.declared.page.PageEntry.{PageEntry}
use Rattle.key_names.specs.Names.{begins_with}
use Rattle.bucket_terms.specs.Listing.{is_above, is_admitted, is_under, group_len, entry_of, group_text, is_same_group, entry_point}
use Rattle.bucket_terms.specs.PageParts.{listing, entry_by}
use Rattle.page_rules.proofs.NameOrder.{above_upto, begins_not_below, begins_own, begins_take}
use Rattle.page_rules.proofs.Groups.{rolled_up, group_same}
use Rattle.page_rules.proofs.Admission.{above_by_rank, admitted_above}
use Rattle.page_rules.proofs.Rolled.{AreAdmitted, FollowFrom, dedup_from-rest}

-- whether a listing that goes on from the point has the pair
abbrev pub admits : List (List ℕ) → ListQuery → Option TokenPoint → Pair → Bool
admits dir query point p = is_admitted query point (name_at dir p.key)

-- whether a listing that goes on from the entry's point has the pair
abbrev pub is_behind : List (List ℕ) → ListQuery → PageEntry → Pair → Bool
is_behind dir query e p = admits dir query (Some (entry_point dir e)) p

length_group : (dir : List (List ℕ)) (query : ListQuery) (p : Pair) (len : ℕ) → group_len query (name_at dir p.key) ≡ Some len → length (group_text dir p.key len) ≡ len
length_group dir query p len h = length-take-le len (name_at dir p.key) (rolled_up query (name_at dir p.key) len h).within

-- a name that begins with a group's text is rolled up into it
pub in_group : (dir : List (List ℕ)) (query : ListQuery) (p : Pair) (len : ℕ) (name : List ℕ) → group_len query (name_at dir p.key) ≡ Some len
    → begins_with name (group_text dir p.key len) ≡ true → take len name ≡ group_text dir p.key len
in_group dir query p len name h begins =
    sym (ap (λ n. take n name) (length_group dir query p len h)) ∙ begins_take name (group_text dir p.key len) begins

above_group : (dir : List (List ℕ)) (p : Pair) (len : ℕ) (name : List ℕ) → is_above name (name_at dir p.key) ≡ true → is_above name (group_text dir p.key len) ≡ true
above_group dir p len name above =
    above_upto (group_text dir p.key len) (name_at dir p.key) name (begins_not_below (name_at dir p.key) (group_text dir p.key len) (begins_own len (name_at dir p.key))) above

-- a higher name is after the entry exactly where it has another entry
behind_by : (dir : List (List ℕ)) (query : ListQuery) (p x : Pair) (o o' : Option ℕ) → group_len query (name_at dir p.key) ≡ o → group_len query (name_at dir x.key) ≡ o'
    → is_above (name_at dir x.key) (name_at dir p.key) ≡ true → is_behind dir query (entry_by o p) x ≡ not (is_same_group dir (entry_by o' x) (entry_by o p))
behind_by dir query p x None None h h' above = above
behind_by dir query p x None (Some len') h h' above = above
behind_by dir query p x (Some len) None h h' above =
    let name = name_at dir x.key in
    let group = group_text dir p.key len in
    let none : begins_with name group ≡ false =
    false_from_ne_true _ (λ begins. let one = group_same query _ name len h (in_group dir query p len name h begins) in cc) in
    and_from _ _ (above_group dir p len name above) (ap not none)
behind_by dir query p x (Some len) (Some len') h h' above =
    let name = name_at dir x.key in
    let group = group_text dir p.key len in
    elim (cases_Bool (begins_with name group)) [
      | inl begins ↦
          let front = in_group dir query p len name h begins in
          let one = group_same query _ name len h front in
          let e : len' ≡ len = cc in
          let same : pointwise nat_eq (take len' name) group ≡ true = (bytes_decides (take len' name) group).1 (ap (λ n. take n name) e ∙ front) in
          and_right _ _ (ap not begins) ∙ ap not (sym same)
      | inr none ↦
          let other : pointwise nat_eq (take len' name) group ≡ false =
          false_from_ne_true _ (λ same. both_ways _ none (subst (λ g. begins_with name g ≡ true) ((bytes_decides (take len' name) group).0 same) (begins_own len' name))) in
          and_from _ _ (above_group dir p len name above) (ap not none) ∙ ap not (sym other)
    ]

pub rank_below : (dir : List (List ℕ)) (query : ListQuery) (p : Pair) → is_under dir query p ≡ true → p.key < length dir
rank_below dir query p h = ltb-true _ _ (and_parts _ _ h).0

are_admitted : (dir : List (List ℕ)) (query : ListQuery) (point : Option TokenPoint) (low : ℕ) (t : List Pair) → Rises dir
    → is_admitted query point (name_at dir low) ≡ true → RisesFrom (low + 1) t → AreAdmitted (is_under dir query) (admits dir query point) t
are_admitted dir query point low [] rises h r = tt
are_admitted dir query point low (x ∷ t) rises h r =
    let lt : low < x.key = omega (arith, r.0) in
    let rest : RisesFrom (low + 1) t = RisesFrom-lower (low + 1) (x.key + 1) t (omega arith) r.1 in (
      λ under. admitted_above query point _ _ (above_by_rank dir low x.key rises lt (rank_below dir query x under)) h,
      are_admitted dir query point low t rises h rest,
    )

follow_from : (dir : List (List ℕ)) (query : ListQuery) (p : Pair) (low : ℕ) (t : List Pair) → Rises dir → p.key < low → RisesFrom low t
    → FollowFrom (is_same_group dir) (entry_of dir query) (is_under dir query) (is_behind dir query (entry_of dir query p)) (entry_of dir query p) t
follow_from dir query p low [] rises lt r = tt
follow_from dir query p low (x ∷ t) rises lt r =
    let later : p.key < x.key = omega (arith, r.0) in (
      λ under. behind_by dir query p x _ _ refl refl (above_by_rank dir p.key x.key rises later (rank_below dir query x under)),
      λ under h. are_admitted dir query (Some (entry_point dir (entry_of dir query p))) x.key t rises h r.1,
      follow_from dir query p (x.key + 1) t rises (omega arith) r.1,
    )

-- the entries of a list that begins with a listed pair: its entry, and those that are after it
pub listing_under : (dir : List (List ℕ)) (query : ListQuery) (p : Pair) (t : List Pair) → Rises dir → is_under dir query p ≡ true → RisesFrom (p.key + 1) t
    → listing dir query (p ∷ t) ≡ entry_of dir query p ∷ listing dir query (filter (is_behind dir query (entry_of dir query p)) t)
unfolding listing
listing_under dir query p t rises under r =
    let rest = filter (is_under dir query) t in
    ap (λ b. dedup (is_same_group dir) (map (entry_of dir query) (cond b (p ∷ rest) rest))) under
    ∙ dedup_from-rest (is_same_group dir) (entry_of dir query) (is_under dir query) (is_behind dir query (entry_of dir query p)) (entry_of dir query p) t
    (follow_from dir query p (p.key + 1) t rises (omega arith) r)
