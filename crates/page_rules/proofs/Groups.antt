-- Where a common prefix ends: at a delimiter that the name has there.
use Rattle.std.proofs.Common.{◌≡◌, ℕ, zero, suc, ◌+◌, ◌<◌, ◌≤◌, Bool, true, false, cond, nat_eq, List, [], ◌∷◌, length, take, drop, Option, Some, None, sym, ◌∙◌, ap, inl, inr, arith}
use Rattle.std.proofs.lemmas.Bool.{cases_Bool}
use Rattle.std.proofs.lemmas.Bool.Decides.{nat_tests}
use Rattle.std.proofs.lemmas.List.{take-take, drop-drop, drop-take, length-drop, length-take}
use Rattle.std.specs.Cmp.Lexicographic.{pointwise, as_long}
use Rattle.bucket_terms.specs.declared.list_query.ListQuery.{ListQuery}
use Rattle.key_names.specs.Names.{begins_with}
use Rattle.bucket_terms.specs.Listing.{first_end, group_len}

pub begins_fits : (text front : List ℕ) → begins_with text front ≡ true → length front ≤ length text
begins_fits text front h = omega (arith, as_long _ front (take (length front) text) h, length-take (length front) text)

-- texts that are the same up to a beginning's length both have the beginning, or neither
pub begins_same : (n : ℕ) (text other front : List ℕ) → length front ≤ n → take n other ≡ take n text → begins_with other front ≡ begins_with text front
begins_same n text other front fits same =
    let both : take (length front) other ≡ take (length front) text = sym (take-take (length front) n other fits) ∙ ap (take (length front)) same ∙ take-take (length front) n text fits in
    ap (pointwise _ front) both

-- the delimiter ends at `end`, counted from `at`
pub record EndsAt (delimiter : List ℕ) (at : ℕ) (text : List ℕ) (end : ℕ) : Type 0 where
  pub from : ℕ
  pub is : end ≡ at + (from + length delimiter)
  pub here : begins_with (drop from text) delimiter ≡ true

pub ends_from_first : (delimiter : List ℕ) (at : ℕ) (text : List ℕ) (end : ℕ) → first_end delimiter at text ≡ Some end → EndsAt delimiter at text end
unfolding first_end
ends_from_first delimiter at [] end h = cc
ends_from_first delimiter at (x ∷ text) end h =
    elim (cases_Bool (begins_with (x ∷ text) delimiter)) [
      | inl here ↦
          let is : Some (at + length delimiter) ≡ Some end = ap (λ t. cond t (Some (at + length delimiter)) (first_end delimiter (at + 1) text)) (sym here) ∙ h in
          let e : at + length delimiter ≡ end = cc in
          record { from = 0; is = omega arith; here = here }
      | inr none ↦
          let more = ends_from_first delimiter (at + 1) text end (ap (λ t. cond t (Some (at + length delimiter)) (first_end delimiter (at + 1) text)) (sym none) ∙ h) in
          record { from = suc more.from; is = omega (arith, more.is); here = more.here }
    ]

-- the first delimiter ends at the same place in a text that is the same up to there
pub first_end-same : (delimiter : List ℕ) (at n : ℕ) (text other : List ℕ) → 0 < length delimiter → first_end delimiter at text ≡ Some (at + n) → take n other ≡ take n text
    → first_end delimiter at other ≡ Some (at + n)
unfolding first_end
first_end-same delimiter at n [] other some h same = cc
first_end-same delimiter at zero (x ∷ text) other some h same =
    let ends = ends_from_first delimiter at (x ∷ text) _ h in absurd (omega (arith, ends.is))
first_end-same delimiter at (suc n) (x ∷ text) [] some h same = cc
first_end-same delimiter at (suc n) (x ∷ text) (y ∷ other) some h same =
    let ends = ends_from_first delimiter at (x ∷ text) _ h in
    let fits : length delimiter ≤ suc n = omega (arith, ends.is) in
    let front = begins_same (suc n) (x ∷ text) (y ∷ other) delimiter fits same in
    let rest : take n other ≡ take n text = cc in
    let choice : Bool → Option ℕ → Option ℕ = λ t o. cond t (Some (at + length delimiter)) o in
    elim (cases_Bool (begins_with (x ∷ text) delimiter)) [
      | inl here ↦
          ap (λ t. choice t (first_end delimiter (at + 1) other)) (front ∙ here)
          ∙ (ap (λ t. choice t (first_end delimiter (at + 1) text)) (sym here) ∙ h)
      | inr none ↦
          let next : at + suc n ≡ (at + 1) + n = omega arith in
          let h' : first_end delimiter (at + 1) text ≡ Some ((at + 1) + n) = ap (λ t. choice t (first_end delimiter (at + 1) text)) (sym none) ∙ h ∙ ap Some next in
          ap (λ t. choice t (first_end delimiter (at + 1) other)) (front ∙ none)
          ∙ first_end-same delimiter (at + 1) n text other some h' rest ∙ ap Some (sym next)
    ]

-- ---- the common prefix of a name

-- the name has a delimiter at `from`, at or after the prefix, with which its common prefix ends
pub record IsRolledUp (query : ListQuery) (name : List ℕ) (len : ℕ) : Type 0 where
  pub some : 0 < length query.delimiter
  pub from : ℕ
  pub ends : len ≡ from + length query.delimiter
  pub behind : length query.prefix ≤ from
  pub here : begins_with (drop from name) query.delimiter ≡ true
  pub within : len ≤ length name

first_of_group : (query : ListQuery) (name : List ℕ) (len : ℕ) → group_len query name ≡ Some len
    → (0 < length query.delimiter) × (first_end query.delimiter (length query.prefix) (drop (length query.prefix) name) ≡ Some len)
unfolding group_len
first_of_group query name len h = grind (arith, nat_tests)

pub rolled_up : (query : ListQuery) (name : List ℕ) (len : ℕ) → group_len query name ≡ Some len → IsRolledUp query name len
rolled_up query name len h =
    let first = first_of_group query name len h in
    let ends = ends_from_first query.delimiter (length query.prefix) (drop (length query.prefix) name) len first.1 in
    let here = rw drop-drop at ends.here in
    record {
      some = first.0;
      from = length query.prefix + ends.from;
      ends = omega (arith, ends.is);
      behind = omega arith;
      here = here;
      within = omega (arith, first.0, ends.is, begins_fits _ query.delimiter here, length-drop (length query.prefix + ends.from) name);
    }

-- names that are the same up to where the common prefix of one ends have one common prefix
pub group_same : (query : ListQuery) (name other : List ℕ) (len : ℕ) → group_len query name ≡ Some len → take len other ≡ take len name → group_len query other ≡ Some len
unfolding group_len
group_same query name other len h same =
    let first = first_of_group query name len h in
    let ends = ends_from_first query.delimiter (length query.prefix) (drop (length query.prefix) name) len first.1 in
    let n = ends.from + length query.delimiter in
    let rest : take n (drop (length query.prefix) other) ≡ take n (drop (length query.prefix) name) =
    sym (drop-take (length query.prefix) n other) ∙ ap (λ k. drop (length query.prefix) (take k other)) (sym ends.is)
    ∙ ap (drop (length query.prefix)) same
    ∙ ap (λ k. drop (length query.prefix) (take k name)) ends.is ∙ drop-take (length query.prefix) n name in
    let found = first_end-same query.delimiter (length query.prefix) n (drop (length query.prefix) name) (drop (length query.prefix) other) first.0 (first.1 ∙ ap Some ends.is) rest in
    let given : nat_eq (length query.delimiter) 0 ≡ false = grind (arith, nat_tests, first.0) in
    ap (λ t. cond t None (first_end query.delimiter (length query.prefix) (drop (length query.prefix) other))) given ∙ (found ∙ ap Some (sym ends.is))
