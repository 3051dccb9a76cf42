use Rattle.std.proofs.Common.{rules}
use Rattle.std.proofs.lemmas.Fn.{always_returns_same}
use Rattle.key_names.specs.Ranks.{is_upto}
use Rattle.key_names.proofs.Places.{partitioned, count_from_point, stand_first, upto_downward}
use Rattle.key_names.proofs.directory.Directory.after_text.Goals as goal

pub returns : goal.returns
returns c =
    let facts = c.partition_point.ensures in
    let value = c.deref.ensures.value in
    let point =
    facts.partitioned (λ here. is_upto here c.args.text.now) (always_returns_same _ _ _ (λ a r g called. search rules))
    (rw value (partitioned _ _ (upto_downward c.args.text.now) c.self.invariant.rising))
    in
    let count = count_from_point _ _ _ facts.bound point in
    let first = stand_first _ _ (upto_downward c.args.text.now) (rw value c.self.invariant.rising) in
    record {
      count = rw (← c.self.view_is, ← value) count;
      first = rw (← c.self.view_is, ← value, count) first;
    }
