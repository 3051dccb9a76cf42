-- The whole history, put together from the updates that the keys keep.
use Rattle.std.proofs.Common.{◌≡◌, ◌≢◌, ℕ, zero, suc, ◌+◌, ◌-◌, ◌<◌, ◌≤◌, List, [], ◌∷◌, ◌++◌, length, map, set, cond, eqb, ltb, Bool, true, false, arith, refl, ap, ◌∙◌, sym, subst, Some, append-nil, append_assoc, inl, inr, get_or, take, drop}
use Rattle.std.specs.Prelude.{IfSome}
use Rattle.std.specs.List.{slice_get}
use Rattle.std.proofs.lemmas.Bool.{eqb-true, eq-eqb, cases_lt}
use Rattle.std.proofs.lemmas.Bool.Decides.{nat_tests}
use Rattle.std.proofs.lemmas.List.{length-append, take_all}
use Rattle.std.proofs.lemmas.Option.{same_Some, slice_get-get_or}
use Rattle.index_words.specs.declared.layout.Layout.{Layout}
use Rattle.index_words.specs.declared.view.View.{View}
use Rattle.index_words.specs.declared.view.history.SeenHistory.{SeenHistory}
use Rattle.index_words.proofs.Seats.{at_item}
use Rattle.key_map.specs.declared.update.Update.{Update}
use Rattle.key_map.specs.History.{own_places, places_from}
use Rattle.key_map.specs.Lists.{count, Every}
use Rattle.key_map.proofs.PlacesLaws.{places_within}
use Rattle.core_grace.proofs.RuleMoves.{every_weaker}
use Rattle.core_events.specs.Moves.{joined_with, split_right, longer}
use Rattle.core_invariant.specs.Histories.{update_at}
use Rattle.core_invariant.specs.OwnPlaces.{KnowsPlaces}
use Rattle.core_invariant.proofs.Joins.{at_suc, every_append}
use Rattle.table_rule.specs.Homes.{Home, Sat, IsLiveView}
use Rattle.table_rule.proofs.Lists.{item_at, get_within}
use Rattle.table_steps.specs.Closes.{number_of, AreAllKeys, AreMadeBy, StandAtOwnPlaces, EachPlace, IsLastPlace, IsRightAt, StaysRight}
use Rattle.table_steps.specs.Made.{Made, KeepsOwn}
use Rattle.table_steps.specs.Passes.{Pass, Extends}
use Rattle.table_steps.specs.declared.own_updates.OwnUpdate.{OwnUpdate}
use Rattle.table_steps.proofs.Heard.{longer_same}
use Rattle.table_steps.proofs.Own.{at_longer}
use Rattle.table_steps.proofs.Views.{RightSeat, live_seat}

-- the places of a key and those of the updates that it keeps
map_every : (P : ℕ → Type 0) (us : List OwnUpdate) → Every (λ (u : OwnUpdate). P u.at) us → Every P (map (λ (u : OwnUpdate). u.at) us)
map_every P [] all = tt
map_every P (u ∷ us) all = (all.0, map_every P us all.1)

every_map : (P : ℕ → Type 0) (us : List OwnUpdate) → Every P (map (λ (u : OwnUpdate). u.at) us) → Every (λ (u : OwnUpdate). P u.at) us
every_map P [] all = tt
every_map P (u ∷ us) all = (all.0, every_map P us all.1)

pub own_to_places : (P : ℕ → Type 0) (h : SeenHistory) (made : Made) → KeepsOwn h made → Every (λ (u : OwnUpdate). P u.at) made.updates → Every P h.mine
own_to_places P h made own all = subst (Every P) (sym own.places) (map_every P made.updates all)

pub places_to_own : (P : ℕ → Type 0) (h : SeenHistory) (made : Made) → KeepsOwn h made → Every P h.mine → Every (λ (u : OwnUpdate). P u.at) made.updates
places_to_own P h made own all = every_map P made.updates (subst (Every P) own.places all)

each_weaker : (P Q : ℕ → Type 0) (keys : List Pass) → ((at : ℕ) → P at → Q at) → EachPlace P keys → EachPlace Q keys
each_weaker P Q keys weaker = every_weaker (λ (k : Pass). Every P k.view.history.mine) (λ (k : Pass). Every Q k.view.history.mine) keys (λ k. every_weaker P Q k.view.history.mine weaker)

-- the last place with one more key
pub last_more : (key : Pass) (rest : List Pass) (made : Made) (n m : ℕ) → KeepsOwn key.view.history made → IsLastPlace rest n → n ≤ m
    → Every (λ (u : OwnUpdate). u.at ≤ m) made.updates → ((limit : ℕ) → n ≤ limit → Every (λ (u : OwnUpdate). u.at ≤ limit) made.updates → m ≤ limit)
    → IsLastPlace (key ∷ rest) m
last_more key rest made n m own last low above least = record {
  above = (own_to_places (λ at. at ≤ m) key.view.history made own above, each_weaker (λ at. at ≤ n) (λ at. at ≤ m) rest (λ at le. omega (arith, le, low)) last.above);
  least = λ limit all. least limit (last.least limit all.1) (places_to_own (λ at. at ≤ limit) key.view.history made own all.0);
}

-- a write of the update that the history has there
get_set_same : {X : Type 0} (xs : List X) (i : ℕ) (y : X) → i < length xs → slice_get (set xs i y) i ≡ Some y
get_set_same [] i y low = absurd (omega (arith, low))
get_set_same (x ∷ xs) zero y low = refl
get_set_same (x ∷ xs) (suc i) y low = get_set_same xs i y (omega (arith, low))

get_set_other : {X : Type 0} (xs : List X) (i k : ℕ) (y : X) → k ≢ i → slice_get (set xs i y) k ≡ slice_get xs k
get_set_other (x ∷ xs) zero zero y other = absurd (other refl)
get_set_other (x ∷ xs) (suc i) (suc k) y other = get_set_other xs i k y (λ same. other (ap suc same))
get_set_other _ _ _ y other = refl

not_same : (a b : ℕ) → eqb a b ≡ false → a ≢ b
not_same a b is same = grind (arith, nat_tests)

set_stays : (all xs : List Update) (a : ℕ) (x : Update) → a < length xs → slice_get all a ≡ Some x → StaysRight all xs (set xs a x)
set_stays all xs a x low here zero right = refl
set_stays all xs a x low here (suc q) right = by_test (eqb q a) refl
  where
    by_test : (b : Bool) → eqb q a ≡ b → IsRightAt all (set xs a x) (suc q)
    by_test true is =
        let same : q ≡ a = eqb-true q a is in
        subst (λ k. IsRightAt all (set xs a x) (suc k)) (sym same) (at_suc (set xs a x) a ∙ get_set_same xs a x low ∙ sym here ∙ sym (at_suc all a))
    by_test false is = at_suc (set xs a x) q ∙ get_set_other xs a q x (not_same q a is) ∙ sym (at_suc xs q) ∙ right

get_of : (all : List Update) (at : ℕ) (x : Update) → 0 < at → update_at all at ≡ Some x → slice_get all (at - 1) ≡ Some x
get_of all zero x some is = absurd (omega (arith, some))
get_of all (suc a) x some is = let less : suc a - 1 ≡ a = omega arith in ap (slice_get all) less ∙ sym (at_suc all a) ∙ is

pub write_stays : (all xs : List Update) (at : ℕ) (x : Update) → 0 < at → at ≤ length xs → update_at all at ≡ Some x → StaysRight all xs (set xs (at - 1) x)
write_stays all xs at x some low here = set_stays all xs (at - 1) x (omega (arith, some, low)) (get_of all at x some here)

pub write_right : (all xs : List Update) (at : ℕ) (x : Update) → 0 < at → at ≤ length xs → update_at all at ≡ Some x → IsRightAt all (set xs (at - 1) x) at
write_right all xs zero x some low here = refl
write_right all xs (suc a) x some low here =
    let less : suc a - 1 ≡ a = omega arith in
    let within : a < length xs = omega (arith, low) in
    at_suc (set xs (suc a - 1) x) a ∙ ap (λ k. slice_get (set xs k x) a) less ∙ get_set_same xs a x within ∙ sym here

-- an update that stands at a place: the place is above 0
pub place_some : (us : List Update) (at : ℕ) (x : Update) → update_at us at ≡ Some x → 0 < at
place_some us zero x is = cc
place_some us (suc a) x is = omega arith

-- what a key that heard the whole history knows: its own places stand in it
longer_whole : (xs ys : List Update) → Extends xs ys → longer xs ys ≡ ys
longer_whole xs ys more = by_test (ltb (length xs) (length ys)) refl
  where
    long : length ys ≡ length xs + length more.0
    long = ap length more.1 ∙ length-append xs more.0

    none : (us : List Update) → length us ≡ 0 → us ≡ []
    none [] is = refl
    none (u ∷ us) is = absurd (omega (arith, is))

    not_low : (a b : ℕ) → ltb a b ≡ false → b ≤ a
    not_low a b is = grind (arith, nat_tests)

    by_test : (b : Bool) → ltb (length xs) (length ys) ≡ b → cond b ys xs ≡ ys
    by_test true is = refl
    by_test false is =
        let empty : more.0 ≡ [] = none more.0 (omega (arith, long, not_low (length xs) (length ys) is)) in
        sym (more.1 ∙ ap (λ us. xs ++ us) empty ∙ append-nil xs)

pub told_is : (v u w : View) → w ≡ joined_with (joined_with v u) (split_right v 0) → Extends v.history.seen u.history.seen → w.history.seen ≡ u.history.seen
told_is v u w is more =
    let long : length u.history.seen ≡ length v.history.seen + length more.0 = ap length more.1 ∙ length-append v.history.seen more.0 in
    ap (λ (y : View). y.history.seen) is
    ∙ ap (λ us. longer us v.history.seen) (longer_whole v.history.seen u.history.seen more)
    ∙ longer_same u.history.seen v.history.seen (omega (arith, long))

knows : (w : View) → IsLiveView w → KnowsPlaces w
knows w live = at_item KnowsPlaces live.stands.views live.stands.seat w (item_at live.stands.views live.stands.seat w live.stands.at) live.stands.rule.places

pub own_stand : (w : View) (n : ℕ) → IsLiveView w → w.number ≡ Some n → w.history.mine ≡ own_places n w.history.seen
own_stand w n live number = subst (λ o. IfSome o (λ k. w.history.mine ≡ own_places k w.history.seen)) number (knows w live).own

pub own_known : (v u w : View) (n : ℕ) → w ≡ joined_with (joined_with v u) (split_right v 0) → IsLiveView w → v.number ≡ Some n → Extends v.history.seen u.history.seen
    → v.history.mine ≡ own_places n u.history.seen
own_known v u w n is live number more =
    let own : w.history.mine ≡ own_places n w.history.seen = own_stand w n live (ap (λ (y : View). y.number) is ∙ number) in
    sym (ap (λ (y : View). y.history.mine) is) ∙ own ∙ ap (own_places n) (told_is v u w is more)

-- each place of the history is one of a key
at_each : (R : ℕ → Type 0) (all : List Update) (n : ℕ) (keys : List Pass) → StandAtOwnPlaces keys all → EachPlace R keys → 0 < count n (map number_of keys) → Every R (own_places n all)
at_each R all n [] own each some = absurd (omega (arith, some))
at_each R all n (k ∷ keys) own each some = by_test (eqb k.number n) refl (at_each R all n keys own.1 each.1)
  where
    by_test : (b : Bool) → eqb k.number n ≡ b → (0 < count n (map number_of keys) → Every R (own_places n all)) → Every R (own_places n all)
    by_test true is rest = subst (λ m. Every R (own_places m all)) (eqb-true k.number n is) (subst (Every R) own.0 each.0)
    by_test false is rest = rest (omega (arith, some, ap (λ (b : Bool). 0 + cond b 1 0) is))

own_here : (R : ℕ → Type 0) (n at : ℕ) (us : List Update) → Every R (places_from n at us) → (i : ℕ) (u : Update) → slice_get us i ≡ Some u → u.client ≡ n → R (at + i)
own_here R n at [] all i u here own = cc
own_here R n at (v ∷ us) all zero u here own =
    let same : v.client ≡ n = ap (λ (x : Update). x.client) (same_Some v u here) ∙ own in
    let still : at ≡ at + 0 = omega arith in
    subst R still (subst (λ (b : Bool). Every R (cond b (at ∷ places_from n (at + 1) us) (places_from n (at + 1) us))) (eq-eqb v.client n same) all).0
own_here R n at (v ∷ us) all (suc i) u here own =
    let still : at + 1 + i ≡ at + suc i = omega arith in
    subst R still (own_here R n (at + 1) us (tail (eqb v.client n) (places_from n (at + 1) us) all) i u here own)
  where
    tail : (b : Bool) (ps : List ℕ) → Every R (cond b (at ∷ ps) ps) → Every R ps
    tail true ps all = all.1
    tail false ps all = all

every_at : {X : Type 0} (P : X → Type 0) (xs : List X) (k : ℕ) (x : X) → Every P xs → slice_get xs k ≡ Some x → P x
every_at P [] k x all is = cc
every_at P (y ∷ ys) zero x all is = subst P (same_Some y x is) all.0
every_at P (y ∷ ys) (suc k) x all is = every_at P ys k x all.1 is

each_place : (R : ℕ → Type 0) (all : List Update) (keys : List Pass) → StandAtOwnPlaces keys all → EachPlace R keys → AreMadeBy keys all
    → (i : ℕ) (u : Update) → slice_get all i ≡ Some u → R (suc i)
each_place R all keys own each made i u here =
    let still : 1 + i ≡ suc i = omega arith in
    subst R still (own_here R u.client 1 all (at_each R all u.client keys own each (every_at (λ (x : Update). 0 < count x.client (map number_of keys)) all i u made here)) i u here refl)

-- the last place is the length of the history
long_as : {X : Type 0} (at limit : ℕ) (xs : List X) → at ≤ limit → ((i : ℕ) (x : X) → slice_get xs i ≡ Some x → at + suc i ≤ limit) → at + length xs ≤ limit
long_as at limit [] low each = omega (arith, low)
long_as at limit (x ∷ xs) low each =
    omega (arith, long_as (at + 1) limit xs (omega (arith, each 0 x refl)) (λ i y is. omega (arith, each (suc i) y is)))

within : (all : List Update) (keys : List Pass) → StandAtOwnPlaces keys all → EachPlace (λ at. at ≤ length all) keys
within all [] own = tt
within all (k ∷ keys) own = (
  subst (Every (λ at. at ≤ length all)) (sym own.0)
      (every_weaker (λ p. (1 ≤ p) × (p < 1 + length all)) (λ at. at ≤ length all) (own_places k.number all) (λ p low. omega (arith, low.1)) (places_within k.number 1 (1 + length all) all (omega arith))),
  within all keys own.1,
)

same_items : (xs ys : List Update) → length xs ≡ length ys → ((i : ℕ) (y : Update) → slice_get ys i ≡ Some y → slice_get xs i ≡ Some y) → xs ≡ ys
same_items [] [] long each = refl
same_items (x ∷ xs) (y ∷ ys) long each =
    ap (λ u. u ∷ xs) (same_Some x y (each 0 y refl)) ∙ ap (λ us. y ∷ us) (same_items xs ys (omega (arith, long)) (λ i u is. each (suc i) u is))
same_items _ _ long each = absurd (omega (arith, long))

-- a list that is as long as the last place, and right at each place of the keys, is the history
pub whole_is : (all xs : List Update) (keys : List Pass) (last : ℕ) → StandAtOwnPlaces keys all → AreMadeBy keys all → IsLastPlace keys last → length xs ≡ last → EachPlace (IsRightAt all xs) keys → xs ≡ all
whole_is all xs keys last own made is long filled =
    let low : 0 + length all ≤ last = long_as 0 last all (omega arith) (λ i u here. omega (arith, each_place (λ at. at ≤ last) all keys own is.above made i u here)) in
    let high : last ≤ length all = is.least (length all) (within all keys own) in
    same_items xs all (omega (arith, long, low, high))
    (λ i u here. sym (at_suc xs i) ∙ each_place (IsRightAt all xs) all keys own filled made i u here ∙ at_suc all i ∙ here)

-- the loops over the updates of a key
every_from : {X : Type 0} (P : X → Type 0) (xs : List X) → ((k : ℕ) (x : X) → slice_get xs k ≡ Some x → P x) → Every P xs
every_from P [] each = tt
every_from P (x ∷ xs) each = (each 0 x refl, every_from P xs (λ k y is. each (suc k) y is))

pub every_below : {X : Type 0} (P : X → Type 0) (xs : List X) (i : ℕ) → length xs ≤ i → ((k : ℕ) (x : X) → k < i → slice_get xs k ≡ Some x → P x) → Every P xs
every_below P xs i all each = every_from P xs (λ k x is. each k x (omega (arith, all, get_within xs k x is)) is)

pub every_here : {X : Type 0} (P : X → Type 0) (xs : List X) → Every P xs → (k : ℕ) (x : X) → slice_get xs k ≡ Some x → P x
every_here P xs all k x is = every_at P xs k x all is

here_is : {X : Type 0} (xs : List X) (i : ℕ) (d : X) → i < length xs → slice_get xs i ≡ Some (get_or xs i d)
here_is xs i d low = slice_get-get_or xs i d low

-- what holds of each item below a place, and of the item there, holds of each item below the next place
pub one_more : {X : Type 0} (P : X → Type 0) (xs : List X) (i : ℕ) (d : X) → i < length xs → ((k : ℕ) (x : X) → k < i → slice_get xs k ≡ Some x → P x) → P (get_or xs i d)
    → (k : ℕ) (x : X) → k < i + 1 → slice_get xs k ≡ Some x → P x
one_more P xs i d low before here k x less is =
    elim (cases_lt k i) as (λ _. P x) [
      | inl front ↦ before k x front is
      | inr not_front ↦
          (let at : k ≡ i = omega (arith, less, not_front) in
          subst P (same_Some (get_or xs i d) x (sym (here_is xs i d low) ∙ ap (slice_get xs) (sym at) ∙ is)) here)
    ]

pub later_step : (us : List OwnUpdate) (i : ℕ) (d : OwnUpdate) (start last next : ℕ) → i < length us → last ≤ next → (get_or us i d).at ≤ next
    → ((limit : ℕ) → last ≤ limit → (get_or us i d).at ≤ limit → next ≤ limit)
    → (start ≤ last) × (((k : ℕ) (u : OwnUpdate) → k < i → slice_get us k ≡ Some u → u.at ≤ last) × ((limit : ℕ) → start ≤ limit → ((k : ℕ) (u : OwnUpdate) → slice_get us k ≡ Some u → u.at ≤ limit) → last ≤ limit))
    → (start ≤ next) × (((k : ℕ) (u : OwnUpdate) → k < i + 1 → slice_get us k ≡ Some u → u.at ≤ next) × ((limit : ℕ) → start ≤ limit → ((k : ℕ) (u : OwnUpdate) → slice_get us k ≡ Some u → u.at ≤ limit) → next ≤ limit))
later_step us i d start last next low more here least so = (
  omega (arith, so.0, more),
  (
    one_more (λ (u : OwnUpdate). u.at ≤ next) us i d low (λ k u less is. omega (arith, so.1.0 k u less is, more)) here,
    λ limit from all. least limit (so.1.1 limit from all) (all i (get_or us i d) (here_is us i d low)),
  ),
)

pub put_step : (all : List Update) (us : List OwnUpdate) (old xs : List Update) (i : ℕ) (d : OwnUpdate) → i < length us → Every (λ (u : OwnUpdate). update_at all u.at ≡ Some u.update) us
    → Every (λ (u : OwnUpdate). (0 < u.at) × (u.at ≤ length old)) us → length xs ≡ length old
    → StaysRight all old xs × ((k : ℕ) (u : OwnUpdate) → k < i → slice_get us k ≡ Some u → IsRightAt all xs u.at)
    → StaysRight all old (set xs ((get_or us i d).at - 1) (get_or us i d).update) × ((k : ℕ) (u : OwnUpdate) → k < i + 1 → slice_get us k ≡ Some u → IsRightAt all (set xs ((get_or us i d).at - 1) (get_or us i d).update) u.at)
put_step all us old xs i d low stands ranges long so =
    let own : OwnUpdate = get_or us i d in
    let here : update_at all own.at ≡ Some own.update = every_at (λ (u : OwnUpdate). update_at all u.at ≡ Some u.update) us i own stands (here_is us i d low) in
    let range : (0 < own.at) × (own.at ≤ length old) = every_at (λ (u : OwnUpdate). (0 < u.at) × (u.at ≤ length old)) us i own ranges (here_is us i d low) in
    let within : own.at ≤ length xs = omega (arith, range.1, long) in
    let stays = write_stays all xs own.at own.update range.0 within here in (
      λ at right. stays at (so.0 at right),
      one_more (λ (u : OwnUpdate). IsRightAt all (set xs (own.at - 1) own.update) u.at) us i d low (λ k u less is. stays u.at (so.1 k u less is)) (write_right all xs own.at own.update range.0 within here),
    )

every_both : {X : Type 0} (P Q : X → Type 0) (xs : List X) → Every P xs → Every Q xs → Every (λ x. P x × Q x) xs
every_both P Q [] one two = tt
every_both P Q (x ∷ xs) one two = ((one.0, two.0), every_both P Q xs one.1 two.1)

-- the updates that a key keeps: their places are in range, and they stand at them in a longer history
pub ranges : (h : SeenHistory) (made : Made) (n : ℕ) → KeepsOwn h made → Every (λ at. at ≤ n) h.mine → Every (λ (u : OwnUpdate). (0 < u.at) × (u.at ≤ n)) made.updates
ranges h made n own all =
    every_both (λ (u : OwnUpdate). 0 < u.at) (λ (u : OwnUpdate). u.at ≤ n) made.updates
    (every_weaker (λ (u : OwnUpdate). update_at h.seen u.at ≡ Some u.update) (λ (u : OwnUpdate). 0 < u.at) made.updates (λ u is. place_some h.seen u.at u.update is) own.each)
    (places_to_own (λ at. at ≤ n) h made own all)

pub stand_in : (h : SeenHistory) (made : Made) (all : List Update) → KeepsOwn h made → Extends h.seen all → Every (λ (u : OwnUpdate). update_at all u.at ≡ Some u.update) made.updates
stand_in h made all own more =
    every_weaker (λ (u : OwnUpdate). update_at h.seen u.at ≡ Some u.update) (λ (u : OwnUpdate). update_at all u.at ≡ Some u.update) made.updates
    (λ u is. at_longer h.seen all u.at u.update more is) own.each

pub extends_on : (xs ys zs : List Update) → Extends xs ys → Extends ys zs → Extends xs zs
extends_on xs ys zs one two = (one.0 ++ two.0, two.1 ∙ ap (λ us. us ++ two.0) one.1 ∙ append_assoc xs one.0 two.0)

pub stays_filled : (all old new : List Update) (keys : List Pass) → StaysRight all old new → EachPlace (IsRightAt all old) keys → EachPlace (IsRightAt all new) keys
stays_filled all old new keys stays = each_weaker (IsRightAt all old) (IsRightAt all new) keys stays

-- a live view has seen updates of passes of the table alone
every_take : {X : Type 0} (P : X → Type 0) (n : ℕ) (xs : List X) → Every P xs → Every P (take n xs)
every_take P (suc n) (x ∷ xs) all = (all.0, every_take P n xs all.1)
every_take P _ _ all = tt

pub made_by_keys : (home : Home) (keys : List Pass) (v : View) → AreAllKeys home keys → v.layout ≡ home.layout → IsLiveView v → AreMadeBy keys v.history.seen
made_by_keys home keys v all layout live =
    let right : RightSeat v = live_seat v live in
    let passes : Every (λ (u : Update). u.client < v.layout.passes) v.history.seen =
    subst (Every (λ (u : Update). u.client < v.layout.passes)) (sym right.seat.seen.seen)
    (every_take (λ (u : Update). u.client < v.layout.passes) (length v.history.seen) right.rule.meaning.updates right.rule.rule.history.clients) in
    every_weaker (λ (u : Update). u.client < v.layout.passes) (λ (u : Update). 0 < count u.client (map number_of keys)) v.history.seen
    (λ u low. omega (arith, all.each u.client (subst (λ (z : Layout). u.client < z.passes) layout low))) passes

pub each_last : (P : Pass → Type 0) (keys rest : List Pass) (key : Pass) → keys ≡ rest ++ key ∷ [] → Every P rest → P key → Every P keys
each_last P keys rest key is front last = subst (Every P) (sym is) (every_append P rest (key ∷ []) front (last, tt))

every_parts : {X : Type 0} (P : X → Type 0) (xs : List X) (x : X) → Every P (xs ++ x ∷ []) → Every P xs × P x
every_parts P [] x all = (tt, all.0)
every_parts P (y ∷ ys) x all = let rest = every_parts P ys x all.1 in ((all.0, rest.0), rest.1)

pub last_has : (P : Pass → Type 0) (keys rest : List Pass) (key : Pass) → keys ≡ rest ++ key ∷ [] → Every P keys → P key
last_has P keys rest key is all = (every_parts P rest key (subst (Every P) is all)).1

pub first_is : (keys : List Pass) (d : Pass) → 1 ≤ length keys → keys ≡ get_or keys 0 d ∷ take (length keys - 1) (drop 1 keys)
first_is [] d some = absurd (omega (arith, some))
first_is (k ∷ ks) d some =
    let long : length (k ∷ ks) - 1 ≡ length ks = omega arith in
    ap (λ rest. k ∷ rest) (sym (ap (λ n. take n ks) long ∙ take_all (length ks) ks (omega arith)))

-- a key as it is seen: its seat and its number
abbrev pub key_of : Sat → ℕ → Pass
key_of s n = record { id = s.id; seat = s.seat; number = n; view = s.view }

-- a table without keys has no updates
pub none_kept : (keys : List Pass) (us : List Update) → keys ≡ [] → IsLastPlace keys (length us) → AreMadeBy keys us
none_kept keys [] is last = tt
none_kept keys (u ∷ us) is last = absurd (omega (arith, last.least 0 (subst (EachPlace (λ at. at ≤ 0)) (sym is) tt)))

pub filled_is : (home : Home) (keys rest : List Pass) (key : Pass) (v : View) (mid new : List Update) (n : ℕ) → AreAllKeys home keys → keys ≡ rest ++ key ∷ []
    → v.layout ≡ home.layout → IsLiveView v → IsLastPlace keys n → length new ≡ n → StandAtOwnPlaces keys v.history.seen
    → StaysRight v.history.seen mid new → EachPlace (IsRightAt v.history.seen mid) rest → Every (IsRightAt v.history.seen new) key.view.history.mine
    → new ≡ v.history.seen
filled_is home keys rest key v mid new n all is layout live last long own stays front here =
    whole_is v.history.seen new keys n own (made_by_keys home keys v all layout live) last long
    (each_last (λ (k : Pass). Every (IsRightAt v.history.seen new) k.view.history.mine) keys rest key is (stays_filled v.history.seen mid new rest stays front) here)
