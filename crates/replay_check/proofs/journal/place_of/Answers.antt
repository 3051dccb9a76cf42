use Rattle.std.proofs.Common.{◌≡◌, true, false, ltb, List, rules, subst, sym}
use Rattle.std.specs.List.Sorted.{IsPartitionPoint, IsNonDecreasingBy}
use Rattle.std.proofs.lemmas.List.Sorted.{IsPartitionPoint-from_clause, IsPartitionedBy-ltb}
use Rattle.request_lines.specs.declared.session.Asked.{Asked}
use Rattle.replay_check.proofs.ClientLines.{numbers_rise, split_at}
use Rattle.replay_check.proofs.journal.place_of.Goals as goal

pub returns : goal.returns
returns c =
    let xs = c.args.part.now.requests in
    let line = c.args.line in
    let ys = c.as_slice.result.now in
    let rises : IsNonDecreasingBy (λ (a : Asked). a.line) ys = subst (IsNonDecreasingBy (λ (a : Asked). a.line)) (sym c.as_slice.ensures) (numbers_rise xs c.requires) in
    let parts : IsPartitionPoint (λ (a : Asked). ltb a.line line ≡ true) (λ (a : Asked). ltb a.line line ≡ false) ys c.partition_point.result =
    IsPartitionPoint-from_clause (λ (a : Asked). ltb a.line line) ys c.partition_point.result c.partition_point.ensures.partitioned
    (IsPartitionedBy-ltb (λ (a : Asked). a.line) ys line rises) (λ a r f' called. search rules) in
    split_at xs line c.partition_point.result
    (subst (λ (zs : List Asked). IsPartitionPoint (λ (a : Asked). ltb a.line line ≡ true) (λ (a : Asked). ltb a.line line ≡ false) zs c.partition_point.result) c.as_slice.ensures parts)
