use Rattle.std.proofs.Common.{ap, ◌∙◌, sym, subst, ◌≡◌, ◌≤◌, length}
use Rattle.index_words.specs.declared.view.View.{View}
use Rattle.key_map.specs.Lists.{Every}
use Rattle.table_rule.specs.Homes.{Sat}
use Rattle.table_steps.specs.Closes.{EachPlace, IsRightAt, StaysRight}
use Rattle.table_steps.specs.Passes.{Pass, IsPassOf, Extends}
use Rattle.table_steps.proofs.Closed.{extends_on, stays_filled, each_last, last_has, key_of}
use Rattle.table_steps.proofs.table.SharedTable.+gather.Goals as goal

pub take_in-requires-clause-of : goal.take_in-requires-clause-of
take_in-requires-clause-of t c =
    let key_is : key_of c.split-note.new.seat c.key.inside.kept.number ≡ c.in-Some.key = ap (λ (s : Sat). key_of s c.key.inside.kept.number) c.split-note.ensures.same ∙ c.key.view_is in
    subst (IsPassOf c.args.self.now) (sym key_is) (last_has (IsPassOf c.args.self.now) c.args.keys.items c.pop.new.self.items c.in-Some.key c.in-Some.ensures.items c.requires.of)

pub take_in-requires-clause-seen : goal.take_in-requires-clause-seen
take_in-requires-clause-seen t c =
    let note_is : c.split-note.result.view.history.seen ≡ c.split-note.new.seat.view.history.seen = ap (λ (y : View). y.history.seen) c.split-note.ensures.right ∙ sym (ap (λ (s : Sat). s.view.history.seen) c.split-note.ensures.same) in
    subst (λ us. Extends us c.gather.new.whole.view.history.seen) note_is (extends_on _ _ _ c.absorb.ensures.other c.gather.ensures.more)

pub take_in-requires-clause-places : goal.take_in-requires-clause-places
take_in-requires-clause-places t c =
    let key_is : key_of c.split-note.new.seat c.key.inside.kept.number ≡ c.in-Some.key = ap (λ (s : Sat). key_of s c.key.inside.kept.number) c.split-note.ensures.same ∙ c.key.view_is in
    subst (λ (p : Pass). Every (λ at. at ≤ length c.gather.new.history) p.view.history.mine) (sym key_is)
    (subst (λ n. Every (λ at. at ≤ n) c.in-Some.key.view.history.mine) (sym c.gather.ensures.length)
    (last_has (λ (k : Pass). Every (λ at. at ≤ length c.args.history.now) k.view.history.mine) c.args.keys.items c.pop.new.self.items c.in-Some.key c.in-Some.ensures.items c.requires.places))

pub returns-in-Some-clause-more : goal.returns-in-Some-clause-more
returns-in-Some-clause-more t c =
    subst (λ (s : Sat). Extends c.args.whole.now.view.history.seen s.view.history.seen) (sym c.take_in.ensures.same)
    (extends_on _ _ _ c.absorb.ensures.old c.gather.ensures.more)

pub returns-in-Some-clause-right : goal.returns-in-Some-clause-right
returns-in-Some-clause-right t c =
    subst (λ (s : Sat). StaysRight s.view.history.seen c.args.history.now c.take_in.new.history) (sym c.take_in.ensures.same)
    (λ at right. c.take_in.ensures.right at (c.gather.ensures.right at right))

pub returns-in-Some-clause-filled : goal.returns-in-Some-clause-filled
returns-in-Some-clause-filled t c =
    let all = c.gather.new.whole.view.history.seen in
    let key_is : key_of c.split-note.new.seat c.key.inside.kept.number ≡ c.in-Some.key = ap (λ (s : Sat). key_of s c.key.inside.kept.number) c.split-note.ensures.same ∙ c.key.view_is in
    subst (λ (s : Sat). EachPlace (IsRightAt s.view.history.seen c.take_in.new.history) c.args.keys.items) (sym c.take_in.ensures.same)
    (each_last (λ (k : Pass). Every (IsRightAt all c.take_in.new.history) k.view.history.mine) c.args.keys.items c.pop.new.self.items c.in-Some.key c.in-Some.ensures.items
    (stays_filled all c.gather.new.history c.take_in.new.history c.pop.new.self.items c.take_in.ensures.right c.gather.ensures.filled)
    (subst (λ (p : Pass). Every (IsRightAt all c.take_in.new.history) p.view.history.mine) key_is c.take_in.ensures.filled))
