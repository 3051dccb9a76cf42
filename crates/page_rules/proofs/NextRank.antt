-- The rank at which a listing goes on.
use Rattle.std.proofs.Common.{◌≡◌, ℕ, ◌+◌, ◌<◌, ◌≤◌, Bool, true, false, not, cond, ◌&&◌, ◌||◌, ◌==◌, nat_lt, List, [], ◌∷◌, length, Some, None, refl, sym, ◌∙◌, ap, subst, inl, inr, arith}
use Rattle.std.specs.Ordering.{is_lt, is_le}
use Rattle.std.specs.declared.cmp.Ordering.{Ordering}
use Rattle.std.specs.declared.cmp.Ordering.TheVariants.{Less, Equal, Greater}
use Rattle.std.specs.Ordering.{ordering_reverse}
use Rattle.std.specs.Cmp.Lexicographic.{nat_list_cmp_total}
use Rattle.std.proofs.lemmas.Bool.{cases_lt, and_left, both_ways, false_from_ne_true, lt-ltb, le-ltb}
use Rattle.std.proofs.lemmas.Bool.Decides.{nat_tests}
use Rattle.key_names.specs.Names.{byte_order, Rises, name_at, begins_with}
use Rattle.key_names.specs.Ranks.{is_before, is_upto, is_upto_prefix, StandFirst}
use Rattle.bucket_terms.specs.declared.list_query.ListQuery.{ListQuery}
use Rattle.bucket_terms.specs.declared.token_point.TokenPoint.TheVariants.{Key as AtKey, Group as AtGroup}
use Rattle.bucket_terms.specs.Listing.{is_above, is_admitted}
use Rattle.page_rules.specs.Cursor.{GoesOnAt}
use Rattle.page_rules.proofs.NameOrder.{above_trans, above_irreflexive, not_above_back}
use Rattle.page_rules.proofs.Admission.{above_by_rank}

reversed : (o : Ordering) → is_le (ordering_reverse o) ≡ not (is_lt o)
reversed Less = refl
reversed Equal = refl
reversed Greater = refl

-- a name is at most a text exactly where it is not above it
pub upto_flips : (name text : List ℕ) → is_upto name text ≡ not (is_above name text)
upto_flips name text = ap is_le (nat_list_cmp_total.antisymm name text) ∙ reversed (byte_order text name)

-- a name is below a group or begins with it exactly where it is not after the group
pub group_flips : (name group : List ℕ) → is_upto_prefix name group ≡ not (is_above name group && not (begins_with name group))
group_flips [] [] = refl
group_flips (x ∷ name) [] = refl
group_flips [] (y ∷ group) = refl
group_flips (x ∷ name) (y ∷ group) = grind (arith, nat_tests, group_flips name group)

-- without a point the names above `start_after` are admitted
pub admitted_after : (query : ListQuery) (name : List ℕ) → (length query.start_after == 0) ≡ false → is_admitted query None name ≡ is_above name query.start_after
admitted_after query name some = ap (λ b. cond b true (is_above name query.start_after)) some

absorbs : (a b : Bool) → (a ≡ true → b ≡ true) → b ≡ (a || b)
absorbs true b h = h refl
absorbs false b h = refl

-- a name below the prefix is not above a text that is not
low_not_above : (name text prefix : List ℕ) → is_before text prefix ≡ false → is_before name prefix ≡ true → is_above name text ≡ false
low_not_above name text prefix high low = false_from_ne_true _ (λ above. both_ways _ high (above_trans text name prefix above low))

-- the names above a directory's name are those of a higher rank
above_own : (dir : List (List ℕ)) (rank k : ℕ) → Rises dir → rank < length dir → k < length dir → nat_lt k (rank + 1) ≡ not (is_above (name_at dir k) (name_at dir rank))
above_own dir rank k rises below within =
    let own = name_at dir rank in
    elim (cases_lt rank k) [
      | inl higher ↦ le-ltb k (rank + 1) (omega arith) ∙ sym (ap not (above_by_rank dir rank k rises higher within))
      | inr upto ↦
          let low : is_above (name_at dir k) own ≡ false =
          elim (cases_lt k rank) [
            | inl lower ↦ not_above_back own (name_at dir k) (above_by_rank dir k rank rises lower below)
            | inr same ↦ let e : rank ≡ k = omega arith in subst (λ r. is_above (name_at dir r) own ≡ false) e (above_irreflexive own)
          ] in
          lt-ltb k (rank + 1) (omega arith) ∙ sym (ap not low)
    ]

-- after a key of the listing
pub behind_key : (dir : List (List ℕ)) (query : ListQuery) (rank : ℕ) → Rises dir → rank < length dir → is_before (name_at dir rank) query.prefix ≡ false
    → GoesOnAt dir query (Some (AtKey (name_at dir rank))) (rank + 1)
behind_key dir query rank rises below high = record {
  within = omega arith;
  first = λ k within.
      let name = name_at dir k in
      let own = name_at dir rank in
      above_own dir rank k rises below within ∙ absorbs (is_before name query.prefix) (not (is_above name own)) (λ low. ap not (low_not_above name own query.prefix high low));
}

-- after a common prefix of the listing
pub behind_group : (dir : List (List ℕ)) (query : ListQuery) (group : List ℕ) (rank : ℕ) → rank ≤ length dir → is_before group query.prefix ≡ false
    → StandFirst (λ name. is_upto_prefix name group) dir rank → GoesOnAt dir query (Some (AtGroup group)) rank
behind_group dir query group rank within high first = record {
  within = within;
  first = λ k below.
      let name = name_at dir k in
      first k below ∙ group_flips name group
      ∙ absorbs (is_before name query.prefix) _ (λ low. ap not (and_left _ _ (low_not_above name group query.prefix high low)));
}
