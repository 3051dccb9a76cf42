use Rattle.std.specs.Cmp.Lexicographic.{texts_ties, nat_list_cmp_total, nat_list_eq_equiv}
use Rattle.std.proofs.lemmas.List.Filters.{dedup_is}
use Rattle.std.proofs.lemmas.List.Kept.{IsStrictlySortedBy-dedup, Contains-dedup, Contains-from_dedup}
use Rattle.std.proofs.lemmas.List.Sorted.{Contains-permutation, IsPermutation-sym}
use lib.Pointwise.{bytes_decides}
use Rattle.key_names.proofs.directory.sorted_once.Goals as goal

pub returns : goal.returns
returns c =
    let is = dedup_is _ _ _ c.dedup.ensures.filtered in
    let moved = c.sort_unstable.ensures.permutation in
    record {
      rising = rw is (IsStrictlySortedBy-dedup nat_list_cmp_total texts_ties _ c.sort_unstable.ensures.sorted);
      all = λ name h. rw is (Contains-dedup nat_list_eq_equiv (λ x y. (bytes_decides x y).0) _ name (Contains-permutation _ _ name moved h));
      no_other = λ name h. Contains-permutation _ _ name (IsPermutation-sym _ _ moved) (Contains-from_dedup _ _ name (rw is at h));
    }
