use Rattle.std.proofs.Common.{subst}
use Rattle.core_links.specs.Bundle.{StaysSelected, StaysBehind, IsWalkedTo}
use Rattle.core_links.proofs.Chains.{select_law, front_law, walk_law}
use Rattle.core_links.proofs.Places.{selection, none-selected}
use Rattle.core_links.proofs.entry.select.Goals as goal

pub returns-clause-none : goal.returns-clause-none
returns-clause-none c = (c.first_at_most.ensures.none, none-selected c.args.t c.args.bundle.now c.first_at_most.result c.first_at_most.ensures.first)

pub returns-clause-selection : goal.returns-clause-selection
returns-clause-selection c = selection c.args.t c.args.bundle.now c.first_at_most.result c.first_at_most.ensures.none c.first_at_most.ensures.first

pub returns-clause-stays : goal.returns-clause-stays
returns-clause-stays c number names is =
    subst (StaysSelected number c.args.t names) (returns-clause-selection c number names is) (select_law number c.args.t names)

pub returns-clause-behind : goal.returns-clause-behind
returns-clause-behind c number names is =
    subst (StaysBehind number c.args.t names) (returns-clause-selection c number names is) (front_law number c.args.t names)

pub returns-clause-walked : goal.returns-clause-walked
returns-clause-walked c number names is =
    subst (IsWalkedTo number c.args.t names) (returns-clause-selection c number names is) (walk_law number c.args.t names)
