use Rattle.std.proofs.Common.{◌+◌, refl, subst, arith, get_or}
use Rattle.std.specs.Fork.{ChangesAt}
use Rattle.fork_join.proofs.places.for_each_mut.Goals as goal

pub returns : goal.returns
returns g c i d below = (refl, subst (λ n. ChangesAt g.F.Fn c.args.f.now n (get_or c.args.s.now i d) (get_or c.change_from.new.s i d)) {x = 0 + i} (omega arith) (c.change_from.ensures.each i d below))
