use Rattle.std.proofs.Common.{refl, sym, ◌∙◌, arith}
use Rattle.key_map.proofs.HistoryLaws.{after-none}
use Rattle.replay_check.proofs.replay.Replay.new.Goals as goal

pub returns : goal.returns
returns c = λ updates. record {
  at_is = refl;
  within = omega arith;
  map_is = c.new.ensures ∙ sym (after-none updates);
  was_is = λ u some here. absurd (omega arith);
}
