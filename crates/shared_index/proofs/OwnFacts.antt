-- What the rule of the table says of a pass: where its own updates stand, who made those that it has seen, and that at
-- rest it reads nothing.
use Rattle.std.proofs.Common.{◌≡◌, ℕ, ◌<◌, List, [], ◌∷◌, length, All, ap, sym, subst, Some, None}
use Rattle.std.specs.Prelude.{IfSome}
use Rattle.std.proofs.lemmas.List.Elements.{All-nil, All-cons, All-take}
use Rattle.index_words.proofs.Seats.{at_item}
use Rattle.index_words.specs.declared.view.View.{View}
use Rattle.index_words.specs.declared.view.reading.Reading.{Reading}
use Rattle.key_map.specs.declared.update.Update.{Update}
use Rattle.key_map.specs.History.{own_places}
use Rattle.key_map.specs.Lists.{Every}
use Rattle.core_invariant.specs.OwnPlaces.{KnowsPlaces}
use Rattle.table_rule.specs.Homes.{IsLiveView}
use Rattle.table_rule.proofs.Lists.{item_at}
use Rattle.table_steps.specs.Passes.{AtRest}
use Rattle.table_steps.proofs.Views.{RightSeat, live_seat, rest_reading}

knows : (v : View) → IsLiveView v → KnowsPlaces v
knows v live = at_item KnowsPlaces live.stands.views live.stands.seat v (item_at live.stands.views live.stands.seat v live.stands.at) live.stands.rule.places

pub own_stand : (v : View) (n : ℕ) → IsLiveView v → v.number ≡ Some n → v.history.mine ≡ own_places n v.history.seen
own_stand v n live number = subst (λ o. IfSome o (λ k. v.history.mine ≡ own_places k v.history.seen)) number (knows v live).own

pub rest_closed : (v : View) → IsLiveView v → AtRest v → v.reading.opened ≡ None
rest_closed v live rest = ap (λ (r : Reading). r.opened) (rest_reading v live rest.outside.even)

all_of : {X : Type 0} (P : X → Type 0) (xs : List X) → Every P xs → All P xs
all_of P [] each = All-nil P
all_of P (x ∷ xs) each = All-cons P x xs each.0 (all_of P xs each.1)

-- each update that a live view has seen is one of a pass of the table
pub seen_clients : (v : View) → IsLiveView v → All (λ (u : Update). u.client < v.layout.passes) v.history.seen
seen_clients v live =
    let right : RightSeat v = live_seat v live in
    subst (All (λ (u : Update). u.client < v.layout.passes)) (sym right.seat.seen.seen)
    (All-take (λ (u : Update). u.client < v.layout.passes) (length v.history.seen) right.rule.meaning.updates
    (all_of (λ (u : Update). u.client < v.layout.passes) right.rule.meaning.updates right.rule.rule.history.clients))
