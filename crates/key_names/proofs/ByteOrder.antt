-- What a search by the byte order finds in names that rise.
use Rattle.std.proofs.Common.{◌≡◌, ℕ, ◌+◌, List, length, Contains, Result, Ok, Err, IfOk, OnErr, get_or, ap, arith, ◌∙◌}
use Rattle.std.specs.declared.cmp.Ordering.TheVariants.{Less, Equal}
use Rattle.std.specs.Ordering.{is_lt, is_eq, ordering_reverse, ordering_index}
use Rattle.std.specs.Cmp.Lexicographic.{texts_ties, nat_list_cmp_total}
use Rattle.std.specs.List.Sorted.{IsBinarySearchResult, IsSearchInRange, IsSortedBy, IsNonDecreasingBy}
use Rattle.std.proofs.lemmas.Cmp.{tied_itself}
use Rattle.std.proofs.lemmas.Bool.{cases_lt}
use mathlib.Core.Logic.{inl, inr}
use Rattle.std.proofs.lemmas.Map.Keys.{Less-from_sorted}
use Rattle.std.proofs.lemmas.List.Sorted.{searchable_from_sorted}
use lib.Pointwise.{bytes_decides}
use Rattle.key_names.specs.Names.{byte_order, Rises, IsRank}

-- names that tie in the byte order are the same
pub same_from_tied : (a b : List ℕ) → byte_order a b ≡ Equal → a ≡ b
same_from_tied a b tied = (bytes_decides a b).0 (texts_ties a b ∙ ap is_eq tied)

-- a later name is not below an earlier one
sorted_from_rising : (names : List (List ℕ)) → Rises names → IsSortedBy (λ a b. is_lt (byte_order a b)) names
sorted_from_rising names rising k d low below =
    let later : byte_order (get_or names k d) (get_or names (k + 1) d) ≡ Less = Less-from_sorted byte_order names k (k + 1) d rising (omega arith) below in
    let back = nat_list_cmp_total.antisymm (get_or names (k + 1) d) (get_or names k d) in
    ap is_lt (back ∙ ap ordering_reverse later)

pub ranks_rise : (names : List (List ℕ)) (name : List ℕ) → Rises names → IsNonDecreasingBy (λ here. ordering_index (byte_order here name)) names
ranks_rise names name rising = searchable_from_sorted nat_list_cmp_total (λ here. here) names name (sorted_from_rising names rising)

-- a search that finds a place has found the name
pub found_rank : (names : List (List ℕ)) (name : List ℕ) (r : Result ℕ ℕ) → IsSearchInRange r (length names) → IsBinarySearchResult (λ here. byte_order here name) names r → IfOk r (IsRank names name)
found_rank names name (Ok place) below here = record { below = below; is = same_from_tied _ _ (here _) }
found_rank names name (Err place) below here = tt

-- where it finds none, the name is not there
pub not_found : (names : List (List ℕ)) (name : List ℕ) (r : Result ℕ ℕ) → Rises names → IsBinarySearchResult (λ here. byte_order here name) names r → OnErr r (¬ (Contains names name))
not_found names name (Ok place) rising here = tt
not_found names name (Err place) rising apart = λ has.
    let sides = apart (ranks_rise names name rising) in
    let tied : byte_order (get_or names has.0 name) name ≡ Equal = rw has.2 (tied_itself nat_list_cmp_total name) in
    elim (cases_lt has.0 place) [
      | inl before ↦ let less = sides.0 has.0 name (omega arith) before in cc
      | inr after ↦ let greater = sides.1 has.0 name after has.1 in cc
    ]
