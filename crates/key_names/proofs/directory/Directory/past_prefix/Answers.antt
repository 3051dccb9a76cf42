use Rattle.std.proofs.Common.{rules}
use Rattle.std.proofs.lemmas.Fn.{always_returns_same}
use Rattle.key_names.specs.Ranks.{is_upto_prefix}
use Rattle.key_names.proofs.Places.{partitioned, count_from_point, stand_first, prefix_downward, before_downward, stand_together}
use Rattle.key_names.proofs.directory.Directory.past_prefix.Goals as goal

pub returns : goal.returns
returns c =
    let facts = c.partition_point.ensures in
    let value = c.deref.ensures.value in
    let point =
    facts.partitioned (λ here. is_upto_prefix here c.args.prefix.now) (always_returns_same _ _ _ (λ a r g called. search rules))
    (rw value (partitioned _ _ (prefix_downward c.args.prefix.now) c.self.invariant.rising))
    in
    let count = count_from_point _ _ _ facts.bound point in
    let first = stand_first _ _ (prefix_downward c.args.prefix.now) (rw value c.self.invariant.rising) in
    record {
      count = rw (← c.self.view_is, ← value) count;
      first = rw (← c.self.view_is, ← value, count) first;
      together = rw (← c.self.view_is, ← value, count) (stand_together _ _ _ _ (stand_first _ _ (before_downward c.args.prefix.now) (rw value c.self.invariant.rising)) first);
    }
