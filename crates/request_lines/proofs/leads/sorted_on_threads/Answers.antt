use Rattle.std.proofs.Common.{◌≡◌, ℕ, List, ◌++◌, length, map, take, drop, ap, sym, subst, ◌∙◌, arith}
use Rattle.std.specs.List.{range_with_len}
use Rattle.std.specs.List.Sorted.{IsPermutation}
use Rattle.std.proofs.Math.Seq.{take-append_seam}
use Rattle.request_lines.specs.declared.leads.Numbered.{Numbered}
use Rattle.request_lines.specs.Interned.{number_in}
use Rattle.request_lines.proofs.Interned.{numbers_moved}
use Rattle.request_lines.proofs.leads.sorted_on_threads.Goals as goal

pub returns : goal.returns
returns g c =
    let entries = c.in_ok-entries.entries.items in
    let moved = c.par_sort_unstable_by.new.s in
    let same : length moved ≡ c.in_ok-entries.entries.len = omega (arith, c.par_sort_unstable_by.ensures.len, ap length c.as_mut_slice.ensures.value, c.as_mut_slice.ensures.len) in
    let whole : take c.in_ok-entries.entries.len (moved ++ drop (length moved) entries) ≡ moved =
    ap (λ (n : ℕ). take n (moved ++ drop (length moved) entries)) (sym same) ∙ take-append_seam moved (drop (length moved) entries) in
    subst (λ (es : List Numbered). IsPermutation (range_with_len 0 (length c.args.names.now)) (map number_in es)) (sym whole)
    (numbers_moved (length c.args.names.now) entries moved c.in_ok-entries.ensures
    (subst (λ (es : List Numbered). IsPermutation es moved) c.as_mut_slice.ensures.value c.par_sort_unstable_by.ensures.permutation))
