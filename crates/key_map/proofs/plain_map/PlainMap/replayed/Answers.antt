use Rattle.std.proofs.Common.{◌≡◌, ℕ, ◌+◌, ◌<◌, List, length, get_or, arith, sym, ap, ◌∙◌}
use Rattle.key_map.specs.PlainMap.{roomy, RoomyMap}
use Rattle.key_map.specs.declared.update.Update.{Update}
use Rattle.key_map.specs.History.{after, updated}
use Rattle.key_map.proofs.HistoryLaws.{after-none, after-more}
use Rattle.key_map.proofs.plain_map.PlainMap.replayed.Goals as goal

pub loop-update-init : goal.loop-update-init
loop-update-init c =
    let none = after-none c.args.updates.now in
    let e = c.in_ok-map.ensures.empty in
    (cc, rw e (omega arith))

one_more : (us : List Update) (t room : ℕ) (d : Update) (m n : RoomyMap) → t < length us → m ≡ roomy (after us t) room
    → n ≡ roomy (updated m.pairs (get_or us t d)) m.room → n ≡ roomy (after us (t + 1)) room
one_more us t room d m n lt before now =
    now ∙ ap (λ (x : RoomyMap). roomy (updated x.pairs (get_or us t d)) x.room) before ∙ ap (λ ps. roomy ps room) (sym (after-more us t d lt))

pub loop-update-preserved : goal.loop-update-preserved
loop-update-preserved c =
    (one_more _ _ _ _ _ _ c.loop-update-test.true c.loop-update.invariant.0 c.apply.ensures.map, omega arith)
