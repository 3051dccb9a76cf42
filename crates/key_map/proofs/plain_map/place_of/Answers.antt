use Rattle.std.proofs.Common.{rules, tests, arith, sym}
use Rattle.std.proofs.lemmas.List.Sorted.{IsPartitionPoint-from_clause, IsPartitionedBy-ltb}
use Rattle.std.proofs.lemmas.List.Sums.{prefix_len_is}
use Rattle.key_map.specs.declared.pair.Pair.{Pair}
use Rattle.key_map.specs.Map.{pair}
use Rattle.key_map.proofs.MapLaws.{is_below, keys_rise}
use Rattle.key_map.proofs.plain_map.place_of.Goals as goal

pub returns-clause-front : goal.returns-clause-front
returns-clause-front c =
    let by_place = IsPartitionPoint-from_clause (is_below c.args.key) c.args.pairs.now c.partition_point.result c.partition_point.ensures.partitioned (IsPartitionedBy-ltb (λ (p : Pair). p.key) c.args.pairs.now c.args.key (keys_rise 0 c.args.pairs.now c.requires)) (λ a r g k. search (rules, tests)) in
    sym (prefix_len_is (is_below c.args.key) c.args.pairs.now c.partition_point.result (pair 0 0) c.partition_point.ensures.bound (λ k l. by_place.0 k (pair 0 0) (omega arith) l) (λ l. by_place.1 _ (pair 0 0) (omega arith) l))
