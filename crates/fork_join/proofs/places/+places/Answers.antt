use Rattle.std.proofs.Common.{◌+◌, refl, ap, sym}
use Rattle.std.specs.Fork.{AcceptsAt, ChangesAt}
use Rattle.fork_join.proofs.Parts.{accepts_back, changes_both}
use Rattle.fork_join.proofs.places.+places.Goals as goal

pub change_from-change_both-requires-clause-rest : goal.change_from-change_both-requires-clause-rest
change_from-change_both-requires-clause-rest g t c κs within =
    let cut = c.split_at_mut-first in
    accepts_back (AcceptsAt g.F.Fn c.args.f.now) c.args.base (c.args.base + c.share_of-share.result) c.args.s.now cut.result.0.now cut.result.1.now
    cut.ensures.value (ap (λ n. c.args.base + n) (sym cut.ensures.front_len)) c.requires.accepts

pub change_from-returns : goal.change_from-returns
change_from-returns g t c =
    let cut = c.split_at_mut-first in
    changes_both (ChangesAt g.F.Fn c.args.f.now) c.args.base (c.args.base + c.share_of-share.result) c.args.s.now cut.result.0.now cut.result.1.now _ c.change_both.new.first c.change_both.new.rest
    cut.ensures.value refl (ap (λ n. c.args.base + n) (sym cut.ensures.front_len)) c.change_both.ensures.first c.change_both.ensures.rest
