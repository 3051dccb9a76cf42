use Rattle.std.proofs.Common.{◌≡◌, sym, subst}
use Rattle.key_map.specs.History.{after}
use Rattle.key_map.proofs.HistoryLaws.{after-none, after-more, IsMap-after}
use Rattle.client_threads.specs.KeySets.{HasKeysOf}
use Rattle.client_threads.proofs.KeySets.{none}
use Rattle.client_threads.proofs.counting.keys_after.Goals as goal

pub loop-update-init : goal.loop-update-init
loop-update-init c = subst (λ m. HasKeysOf m c.new-keys.result) (sym (after-none c.args.updates.now)) (none c.new-keys.result c.new-keys.ensures.empty)

pub loop-update-preserved : goal.loop-update-preserved
loop-update-preserved c =
    let us = c.args.updates.now in
    let t = c.loop-update.update-index in
    subst (λ m. HasKeysOf m c.change_keys.new.keys) (sym (after-more us t _ c.loop-update-test.true)) (c.in_ok-change_keys.ensures (after us t) (IsMap-after us t) c.loop-update.invariant)
