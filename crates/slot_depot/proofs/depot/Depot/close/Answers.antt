use Rattle.std.proofs.Common.{◌≡◌, ℕ, List, ap, ◌∙◌, arith, subst}
use Rattle.key_map.specs.Lists.{Every}
use Rattle.slot_depot.specs.declared.book.Terms.{Terms}
use Rattle.slot_depot.specs.Depots.{Opened}
use Rattle.slot_depot.proofs.Kept.{their_terms, their_home, stands_for}
use Rattle.slot_depot.proofs.depot.Depot.close.Goals as goal

pub drain-requires-clause-all : goal.drain-requires-clause-all
drain-requires-clause-all g c =
    let all = c.requires.all in
    let terms = their_terms c.args.self.id all.terms c.args.seats.items all.of in
    stands_for c.args.self c.args.seats.items _ all (c.put_together-whole.ensures.books all.terms terms)

pub drain-requires-clause-terms : goal.drain-requires-clause-terms
drain-requires-clause-terms g c =
    let all = c.requires.all in
    let terms = their_terms c.args.self.id all.terms c.args.seats.items all.of in
    let holds = c.put_together-whole.ensures.books all.terms terms in
    omega (arith, ap (λ (t : Terms). t.room) holds.terms_are, all.room, ap (λ (d : Opened). d.room) c.self.view_is, c.capacity.ensures, c.in-Ok.ensures.capacity)

pub returns-clause-balance : goal.returns-clause-balance
returns-clause-balance g c tag =
    let all = c.requires.all in
    let terms = their_terms c.args.self.id all.terms c.args.seats.items all.of in
    let holds = c.put_together-whole.ensures.books all.terms terms in
    omega (arith, holds.gave tag, holds.took tag, c.drain.ensures.balance tag)

pub returns-clause-home : goal.returns-clause-home
returns-clause-home g c home homes =
    let all = c.requires.all in
    let terms = their_terms c.args.self.id all.terms c.args.seats.items all.of in
    let holds = c.put_together-whole.ensures.books all.terms terms in
    let is = ap (λ (t : Terms). t.home) holds.terms_are ∙ their_home c.args.self.id all.terms c.args.seats.items home all.some all.of homes in
    subst (λ (h : List ℕ). Every (λ parcel. g.T.Homed.home parcel ≡ h) c.drain.result.items) is c.drain.ensures.home
