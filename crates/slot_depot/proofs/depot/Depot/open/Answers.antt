use Rattle.std.proofs.Common.{rules}
use Rattle.slot_depot.specs.Books.{terms_for}
use Rattle.slot_depot.proofs.Kept.{all_dealt}
use Rattle.slot_depot.proofs.depot.Depot.open.Goals as goal

pub returns-clause-all : goal.returns-clause-all
returns-clause-all g c =
    let kept = c.loop.invariant in
    all_dealt _ (terms_for (g.H.Homed.home c.args.like.now) c.args.room c.args.seats) c.loop.dealt.items (search rules) c.requires.seats (search rules) (search rules)
