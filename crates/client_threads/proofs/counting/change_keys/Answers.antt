use Rattle.std.proofs.Common.{◌≡◌, ◌+◌, true, not, nat_eq, sym, subst, IfOk, OnOk, if◌then◌else◌}
use Rattle.std.specs.HashSet.{contains, hash_set_len, Updates}
use Rattle.key_map.specs.declared.update.Change.{Change}
use Rattle.key_map.specs.History.{changed}
use Rattle.client_threads.specs.KeySets.{HasKeysOf}
use Rattle.client_threads.proofs.KeySets.{put, remove}
use Rattle.client_threads.proofs.counting.change_keys.Goals as goal

pub returns-in-Ok : goal.returns-in-Ok
returns-in-Ok c m map has =
    let s = c.args.keys.now in
    let n = c.insert.new.self in
    let key = c.args.update.now.key in
    subst (λ (change : Change). HasKeysOf (changed key change m) n) (sym c.in-Put.is)
    (put m map key s n has c.in-Put.field-0 c.in-Ok.field-0
    (subst (λ r. IfOk r (λ added. added ≡ not (contains nat_eq s key))) c.in-Ok.is c.insert.ensures.added)
    (subst (λ r. OnOk r (Updates nat_eq s n key true)) c.in-Ok.is c.insert.ensures.updates)
    (subst (λ r. IfOk r (λ added. hash_set_len n ≡ hash_set_len s + (if added then 1 else 0))) c.in-Ok.is c.insert.ensures.len))

pub returns-in-Remove : goal.returns-in-Remove
returns-in-Remove c m map has =
    let s = c.args.keys.now in
    let n = c.remove.new.self in
    subst (λ (change : Change). HasKeysOf (changed c.args.update.now.key change m) n) (sym c.in-Remove.is)
    (remove m map c.args.update.now.key s n has c.remove.result c.remove.ensures.test c.remove.ensures.updates c.remove.ensures.len)
