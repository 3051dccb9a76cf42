use Rattle.std.proofs.Common.{ap, ◌∙◌, sym, subst, ◌≡◌, length, [], rules}
use Rattle.index_words.specs.declared.view.View.{View}
use Rattle.key_map.specs.History.{own_places}
use Rattle.key_map.specs.Lists.{Every}
use Rattle.table_rule.specs.Homes.{Sat}
use Rattle.table_steps.specs.Closes.{AreMadeBy, BeginsWithSeen, StandAtOwnPlaces, IsRightAt}
use Rattle.table_steps.specs.Passes.{Pass, Extends}
use Rattle.table_steps.proofs.Closed.{each_last, key_of, filled_is, made_by_keys, none_kept}
use Rattle.table_steps.proofs.table.SharedTable.fill.Goals as goal

pub returns-in-None-clause-history : goal.returns-in-None-clause-history
returns-in-None-clause-history c =
    let empty : c.args.keys.items ≡ [] = search rules in
    none_kept c.args.keys.items c.args.history.now empty c.requires.last

pub returns-in-Some-clause-history : goal.returns-in-Some-clause-history
returns-in-Some-clause-history c =
    let v = c.gather.new.whole.view in
    let key_is : key_of c.split-whole.new.seat c.key.inside.kept.number ≡ c.in-Some.key = ap (λ (s : Sat). key_of s c.key.inside.kept.number) c.split-whole.ensures.same ∙ c.key.view_is in
    let own : StandAtOwnPlaces c.args.keys.items v.history.seen
    = each_last (λ (k : Pass). k.view.history.mine ≡ own_places k.number v.history.seen) c.args.keys.items c.pop.new.self.items c.in-Some.key c.in-Some.ensures.items c.gather.ensures.own
    (subst (λ (k : Pass). k.view.history.mine ≡ own_places k.number v.history.seen) key_is c.take_in.ensures.own) in
    let is : c.take_in.new.history ≡ v.history.seen
    = filled_is c.args.self.now c.args.keys.items c.pop.new.self.items c.in-Some.key v c.gather.new.history c.take_in.new.history (length c.args.history.now) c.requires.all c.in-Some.ensures.items
    c.gather.ensures.whole_of.layout c.facts.ensures c.requires.last (c.take_in.ensures.length ∙ c.gather.ensures.length) own c.take_in.ensures.right c.gather.ensures.filled
    (subst (λ (k : Pass). Every (IsRightAt v.history.seen c.take_in.new.history) k.view.history.mine) key_is c.take_in.ensures.filled) in
    subst (AreMadeBy c.args.keys.items) (sym is) (made_by_keys c.args.self.now c.args.keys.items v c.requires.all c.gather.ensures.whole_of.layout c.facts.ensures)

pub returns-in-Some-clause-seen : goal.returns-in-Some-clause-seen
returns-in-Some-clause-seen c =
    let v = c.gather.new.whole.view in
    let key_is : key_of c.split-whole.new.seat c.key.inside.kept.number ≡ c.in-Some.key = ap (λ (s : Sat). key_of s c.key.inside.kept.number) c.split-whole.ensures.same ∙ c.key.view_is in
    let own : StandAtOwnPlaces c.args.keys.items v.history.seen
    = each_last (λ (k : Pass). k.view.history.mine ≡ own_places k.number v.history.seen) c.args.keys.items c.pop.new.self.items c.in-Some.key c.in-Some.ensures.items c.gather.ensures.own
    (subst (λ (k : Pass). k.view.history.mine ≡ own_places k.number v.history.seen) key_is c.take_in.ensures.own) in
    let is : c.take_in.new.history ≡ v.history.seen
    = filled_is c.args.self.now c.args.keys.items c.pop.new.self.items c.in-Some.key v c.gather.new.history c.take_in.new.history (length c.args.history.now) c.requires.all c.in-Some.ensures.items
    c.gather.ensures.whole_of.layout c.facts.ensures c.requires.last (c.take_in.ensures.length ∙ c.gather.ensures.length) own c.take_in.ensures.right c.gather.ensures.filled
    (subst (λ (k : Pass). Every (IsRightAt v.history.seen c.take_in.new.history) k.view.history.mine) key_is c.take_in.ensures.filled) in
    let told : c.split-whole.result.view.history.seen ≡ c.in-Some.key.view.history.seen
    = ap (λ (y : View). y.history.seen) c.split-whole.ensures.right ∙ ap (λ (p : Pass). p.view.history.seen) c.key.view_is in
    subst (BeginsWithSeen c.args.keys.items) (sym is)
    (each_last (λ (k : Pass). Extends k.view.history.seen v.history.seen) c.args.keys.items c.pop.new.self.items c.in-Some.key c.in-Some.ensures.items c.gather.ensures.seen
    (subst (λ us. Extends us v.history.seen) told c.gather.ensures.more))

pub returns-in-Some-clause-places : goal.returns-in-Some-clause-places
returns-in-Some-clause-places c =
    let v = c.gather.new.whole.view in
    let key_is : key_of c.split-whole.new.seat c.key.inside.kept.number ≡ c.in-Some.key = ap (λ (s : Sat). key_of s c.key.inside.kept.number) c.split-whole.ensures.same ∙ c.key.view_is in
    let own : StandAtOwnPlaces c.args.keys.items v.history.seen
    = each_last (λ (k : Pass). k.view.history.mine ≡ own_places k.number v.history.seen) c.args.keys.items c.pop.new.self.items c.in-Some.key c.in-Some.ensures.items c.gather.ensures.own
    (subst (λ (k : Pass). k.view.history.mine ≡ own_places k.number v.history.seen) key_is c.take_in.ensures.own) in
    let is : c.take_in.new.history ≡ v.history.seen
    = filled_is c.args.self.now c.args.keys.items c.pop.new.self.items c.in-Some.key v c.gather.new.history c.take_in.new.history (length c.args.history.now) c.requires.all c.in-Some.ensures.items
    c.gather.ensures.whole_of.layout c.facts.ensures c.requires.last (c.take_in.ensures.length ∙ c.gather.ensures.length) own c.take_in.ensures.right c.gather.ensures.filled
    (subst (λ (k : Pass). Every (IsRightAt v.history.seen c.take_in.new.history) k.view.history.mine) key_is c.take_in.ensures.filled) in
    subst (StandAtOwnPlaces c.args.keys.items) (sym is) own
