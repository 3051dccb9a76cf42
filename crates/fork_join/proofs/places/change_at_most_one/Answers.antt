use borrow.Author.Rules.{rules}
use Rattle.std.specs.Fork.{ChangesAt}
use Rattle.fork_join.proofs.Parts.{changes_one}
use Rattle.fork_join.proofs.places.change_at_most_one.Goals as goal

pub returns-then-s-eq1 : goal.returns-then-s-eq1
returns-then-s-eq1 g c = changes_one (ChangesAt g.F.Fn c.args.f.now) c.args.base c.args.s.now _ _ (search rules) c.change_one.ensures
