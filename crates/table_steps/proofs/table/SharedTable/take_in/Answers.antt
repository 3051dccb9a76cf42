use Rattle.std.proofs.Common.{◌≡◌, ◌<◌, ◌≤◌, ap, ◌∙◌, sym, subst, length, Some}
use Rattle.index_words.specs.declared.view.View.{View}
use Rattle.key_map.specs.History.{own_places}
use Rattle.key_map.specs.Lists.{Every}
use Rattle.core_events.specs.Moves.{joined_with, split_right}
use Rattle.core_invariant.specs.Histories.{update_at}
use Rattle.table_rule.specs.Homes.{Sat}
use Rattle.table_steps.specs.Closes.{IsRightAt}
use Rattle.table_steps.specs.Made.{KeepsOwn}
use Rattle.table_steps.specs.Passes.{Pass, Extends}
use Rattle.table_steps.specs.declared.own_updates.OwnUpdate.{OwnUpdate}
use Rattle.table_steps.proofs.Closed.{ranges, stand_in, own_to_places, own_known}
use Rattle.table_steps.proofs.table.SharedTable.take_in.Goals as goal

pub put_at_places-requires : goal.put_at_places-requires
put_at_places-requires c =
    let made = c.key.inside.kept.updates in
    let own : KeepsOwn c.args.key.view.history made = subst (λ (p : Pass). KeepsOwn p.view.history made) c.key.view_is c.key.invariant.0.own in
    record {
      places = subst (Every (λ (u : OwnUpdate). (0 < u.at) × (u.at ≤ length c.args.history.now))) (sym c.as_slice.ensures)
          (ranges c.args.key.view.history made (length c.args.history.now) own c.requires.places);
    }

pub returns-clause-own : goal.returns-clause-own
returns-clause-own c =
    let p = c.args.key in
    let u = c.split-copy.result.view in
    let w = c.absorb.new.seat.view in
    let told : u.history.seen ≡ c.args.whole.now.view.history.seen = ap (λ (y : View). y.history.seen) c.split-copy.ensures.right in
    let is : w ≡ joined_with (joined_with p.view u) (split_right p.view 0)
    = subst (λ (q : Pass). w ≡ joined_with (joined_with q.view u) (split_right q.view 0)) c.key.view_is (ap (λ (s : Sat). s.view) c.absorb.ensures.view) in
    let number : p.view.number ≡ Some p.number = subst (λ (q : Pass). q.view.number ≡ Some q.number) c.key.view_is c.key.invariant.0.number in
    own_known p.view u w p.number is c.facts-3.ensures number (subst (λ us. Extends p.view.history.seen us) (sym told) c.requires.seen) ∙ ap (own_places p.number) told

pub returns-clause-right : goal.returns-clause-right
returns-clause-right c =
    let made = c.key.inside.kept.updates in
    let all = c.args.whole.now.view.history.seen in
    let own : KeepsOwn c.args.key.view.history made = subst (λ (p : Pass). KeepsOwn p.view.history made) c.key.view_is c.key.invariant.0.own in
    c.put_at_places.ensures.right all
    (subst (Every (λ (u : OwnUpdate). update_at all u.at ≡ Some u.update)) (sym c.as_slice.ensures) (stand_in c.args.key.view.history made all own c.requires.seen))

pub returns-clause-filled : goal.returns-clause-filled
returns-clause-filled c =
    let made = c.key.inside.kept.updates in
    let all = c.args.whole.now.view.history.seen in
    let own : KeepsOwn c.args.key.view.history made = subst (λ (p : Pass). KeepsOwn p.view.history made) c.key.view_is c.key.invariant.0.own in
    own_to_places (IsRightAt all c.put_at_places.new.history) c.args.key.view.history made own
    (subst (Every (λ (u : OwnUpdate). IsRightAt all c.put_at_places.new.history u.at)) c.as_slice.ensures
    (c.put_at_places.ensures.filled all
    (subst (Every (λ (u : OwnUpdate). update_at all u.at ≡ Some u.update)) (sym c.as_slice.ensures) (stand_in c.args.key.view.history made all own c.requires.seen))))
