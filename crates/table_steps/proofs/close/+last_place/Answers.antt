use Rattle.std.proofs.Common.{◌≤◌, ◌-◌, ◌∷◌, length, take, drop, arith, sym, subst}
use Rattle.key_map.specs.Lists.{Every}
use Rattle.table_steps.specs.Closes.{IsLastPlace}
use Rattle.table_steps.specs.Made.{KeepsOwn}
use Rattle.table_steps.specs.Passes.{Pass}
use Rattle.table_steps.specs.declared.own_updates.OwnUpdate.{OwnUpdate}
use Rattle.table_steps.proofs.Closed.{last_more, first_is}
use Rattle.table_steps.proofs.close.+last_place.Goals as goal

pub returns-in-len1-up : goal.returns-in-len1-up
returns-in-len1-up t c =
    let key = c.key-item.result in
    let made = c.key.inside.kept.updates in
    let m = c.later.result in
    let own : KeepsOwn key.view.history made = subst (λ (p : Pass). KeepsOwn p.view.history made) c.key.view_is c.key.invariant.0.own in
    subst (λ ks. IsLastPlace ks m) (sym (first_is c.args.keys.now key (omega (arith, c.in-len1-up.len_at_least))))
    (subst (λ (k : Pass). IsLastPlace (k ∷ take (length c.args.keys.now - 1) (drop 1 c.args.keys.now)) m) c.key-item.is
    (last_more key _ made c.last_place.result m own c.last_place.ensures c.later.ensures.old
    (subst (Every (λ (u : OwnUpdate). u.at ≤ m)) c.as_slice.ensures c.later.ensures.above)
    (λ limit low all. c.later.ensures.least limit low (subst (Every (λ (u : OwnUpdate). u.at ≤ limit)) (sym c.as_slice.ensures) all))))
