use Rattle.std.proofs.Common.{◌≡◌, length, ap, arith}
use Rattle.std.proofs.lemmas.Option.{none-some}
use Rattle.key_map.proofs.HistoryLaws.{after-none}
use Rattle.bucket_terms.proofs.plain_pass.PlainPass.new.Goals as goal

pub invariant_of-result : goal.invariant_of-result
invariant_of-result c =
    let updates = c.in_ok-with_capacity.field-0.items in
    let none = after-none updates in
    let empty = c.in_ok-with_capacity.ensures.items in
    let exact = c.in_ok-with_capacity.ensures.exact in
    let map = c.in-Ok.ensures.empty in
    let no_updates : length updates ≡ 0 = ap length empty in
    record {
      map = rw (no_updates, none, map);
      small = rw map (omega arith);
      own = λ k d below. absurd (omega arith);
      update_room = omega arith;
      pair_room = rw map (omega arith);
      slots = omega (arith, c.from.ensures);
      snapshot = λ x e. absurd (none-some x e);
    }
