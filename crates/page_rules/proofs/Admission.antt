-- Where a listing goes on: once a name of the directory is admitted, all later names are.
use Rattle.std.proofs.Common.{◌≡◌, ℕ, ◌<◌, Bool, true, false, cond, ◌==◌, List, length, Option, Some, None, sym, ◌∙◌, ap, inl, inr}
use Rattle.std.specs.Ordering.{is_lt}
use Rattle.std.proofs.lemmas.Bool.{cases_Bool, and_from, and_parts, not-true, not_from_false, false_from_ne_true, both_ways}
use Rattle.std.proofs.lemmas.Map.Keys.{Less-from_sorted}
use Rattle.key_names.specs.Names.{byte_order, Rises, name_at, begins_with}
use Rattle.bucket_terms.specs.declared.list_query.ListQuery.{ListQuery}
use Rattle.bucket_terms.specs.declared.token_point.TokenPoint.{TokenPoint}
use Rattle.bucket_terms.specs.declared.token_point.TokenPoint.TheVariants.{Key as AtKey, Group as AtGroup}
use Rattle.bucket_terms.specs.Listing.{is_above, is_admitted}
use Rattle.page_rules.proofs.NameOrder.{above_trans, not_above_back, begins_between}

-- a name of a higher rank is above one of a lower rank
pub above_by_rank : (dir : List (List ℕ)) (low high : ℕ) → Rises dir → low < high → high < length dir → is_above (name_at dir high) (name_at dir low) ≡ true
above_by_rank dir low high rises lt below = ap is_lt (Less-from_sorted byte_order dir low high _ rises lt below)

-- a text not below `front` that does not begin with it: no higher text begins with it either
pub not_begins_above : (front low high : List ℕ) → is_above front low ≡ false → is_above high low ≡ true → begins_with low front ≡ false → begins_with high front ≡ false
not_begins_above front low high upto above none =
    false_from_ne_true _ (λ begins. both_ways _ none (begins_between front low high upto (not_above_back high low above) begins))

-- a name above an admitted name is admitted
pub admitted_above : (query : ListQuery) (point : Option TokenPoint) (low high : List ℕ) → is_above high low ≡ true → is_admitted query point low ≡ true → is_admitted query point high ≡ true
admitted_above query None low high above h =
    let start = query.start_after in
    let choice : Bool → List ℕ → Bool = λ t name. cond t true (is_above name start) in
    elim (cases_Bool (length start == 0)) [
      | inl none ↦ ap (λ t. choice t high) none
      | inr some ↦ ap (λ t. choice t high) some ∙ above_trans start low high (ap (λ t. choice t low) (sym some) ∙ h) above
    ]
admitted_above query (Some (AtKey key)) low high above h = above_trans key low high h above
admitted_above query (Some (AtGroup group)) low high above h =
    let parts = and_parts _ _ h in
    and_from _ _ (above_trans group low high parts.0 above)
    (not_from_false _ (not_begins_above group low high (not_above_back low group parts.0) above (not-true _ parts.1)))
