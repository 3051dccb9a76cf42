-- A pass gives its locks back, leaves its section, and takes its announcement back.
use Rattle.std.specs.List.{list_any}
use Rattle.std.proofs.Common.{◌≡◌, ℕ, ◌+◌, ◌<◌, ◌≤◌, List, [], ◌∷◌, length, Bool, true, false, not, cond, eqb, ◌&&◌, refl, ap, sym, ◌∙◌, subst, arith, inl, Option, Some, None}
use Rattle.std.specs.Prelude.{◌==◌}
use Rattle.std.proofs.lemmas.Bool.Decides.{nat_tests}
use Rattle.index_words.specs.declared.view.update.HeldNode.{HeldNode}
use Rattle.index_words.specs.declared.view.update.OwedTag.{OwedTag}
use Rattle.index_words.specs.declared.view.update.Unlinking.{Unlinking}
use Rattle.index_words.specs.declared.view.update.UnsetLink.{UnsetLink}
use Rattle.index_words.specs.declared.view.update.Updating.{Updating}
use Rattle.index_words.specs.Views.{no_update}
use Rattle.key_map.specs.Lists.{count, Every}
use Rattle.core_grace.specs.Holds.{held_slots}
use Rattle.core_grace.proofs.Parity.{even_left}
use Rattle.core_events.specs.LockMoves.{unlocked_view, other_nodes, update_until}
use Rattle.core_events.specs.Needs.{is_successor}
use Rattle.core_events.specs.PlainNeeds.{is_done_at}
use Rattle.core_laws.proofs.AnnounceNeeds.{may_take_back_law}
use Rattle.core_laws.proofs.ViewNeeds.{may_leave_law, may_unlock_law}
use Rattle.core_laws.specs.ViewNeeds.{IsKnownMarked}
use Rattle.plan_laws.specs.Releases.{GiveUpLaw, NothingLockedLaw, UnlockStepLaw, LeaveStepLaw, TakeBackStepLaw}

pub none-taken : (hs : List HeldNode) → Every (λ (h : HeldNode). 0 < count h.node [] → h.mark ≡ Some 1) hs
none-taken [] = tt
none-taken (h ∷ hs) = (λ some. absurd (omega (arith, some)), none-taken hs)

pub give_up : GiveUpLaw
give_up v n nodes t = record {
  live = t.working.live;
  own = t.working.own;
  word = t.working.inside;
  once = t.once;
  locked = t.locked;
  done = ap (λ (u : Updating). u.pending) t.idle;
  marked = subst (λ (u : Updating). Every (λ (h : HeldNode). 0 < count h.node u.taken → h.mark ≡ Some 1) v.held.nodes) (sym t.idle) (none-taken v.held.nodes);
  set = (ap (λ (u : Updating). u.unset) t.idle, ap (λ (u : Updating). u.owed) t.idle, ap (λ (u : Updating). u.unlinking) t.idle);
  ended = λ none'. t.idle;
}

own_node : (a : ℕ) → eqb a a ≡ true
own_node a = grind (arith, nat_tests)

pub none-here : (x k n : ℕ) → cond (eqb x k) 1 0 + n ≡ 0 → (eqb x k ≡ false) × (n ≡ 0)
none-here x k n e = (by (eqb x k) e, omega (arith, e))
  where
    by : (b : Bool) → cond b 1 0 + n ≡ 0 → b ≡ false
    by true h = absurd (omega (arith, h))
    by false h = refl

-- where the node is not held nothing goes
none-gone : (k : ℕ) (hs : List HeldNode) → count k (held_slots hs) ≡ 0 → other_nodes k hs ≡ hs
none-gone k [] none' = refl
none-gone k (h ∷ hs) none' =
    let parts = none-here h.node k (count k (held_slots hs)) none' in
    ap (λ b. cond (not b) (h ∷ other_nodes k hs) (other_nodes k hs)) parts.0 ∙ ap (λ xs. h ∷ xs) (none-gone k hs parts.1)

-- the first one goes
pub first-gone : (node : ℕ) (rest : List ℕ) (hs : List HeldNode) → held_slots hs ≡ node ∷ rest → count node rest ≡ 0 → held_slots (other_nodes node hs) ≡ rest
first-gone node rest [] is none' = cc
first-gone node rest (h ∷ hs) is none' =
    let here : h.node ≡ node = cc in
    let others : held_slots hs ≡ rest = cc in
    ap (λ b. held_slots (cond (not b) (h ∷ other_nodes node hs) (other_nodes node hs))) (ap (λ n. eqb n node) here ∙ own_node node)
    ∙ ap held_slots (none-gone node hs (ap (count node) others ∙ none'))
    ∙ others

-- what holds of each holds of those that are left
pub others-every : (P : HeldNode → Type 0) (k : ℕ) (hs : List HeldNode) → Every P hs → Every P (other_nodes k hs)
others-every P k [] all = tt
others-every P k (h ∷ hs) all = by (eqb h.node k) (others-every P k hs all.1)
  where
    by : (b : Bool) → Every P (other_nodes k hs) → Every P (cond (not b) (h ∷ other_nodes k hs) (other_nodes k hs))
    by true more = more
    by false more = (all.0, more)

-- the update after, where it goes on or ends
until-pending : (b : Bool) (u : Updating) → u.pending ≡ [] → (cond b no_update u).pending ≡ []
until-pending true u done = refl
until-pending false u done = done

until-taken : (b : Bool) (u : Updating) (k : ℕ) → 0 < count k (cond b no_update u).taken → 0 < count k u.taken
until-taken true u k some = absurd (omega (arith, some))
until-taken false u k some = some

until-set : (b : Bool) (u : Updating) → (u.unset ≡ []) × (u.owed ≡ []) × (u.unlinking ≡ None)
    → ((cond b no_update u).unset ≡ []) × ((cond b no_update u).owed ≡ []) × ((cond b no_update u).unlinking ≡ None)
until-set true u set = (refl, refl, refl)
until-set false u set = set

-- with nothing to be set and no tag to be raised a node is done with
pub all-done : (k : ℕ) (u : Updating) → (u.unset ≡ []) × (u.owed ≡ []) × (u.unlinking ≡ None) → is_done_at k u ≡ true
all-done k u set =
    ap (λ (xs : List UnsetLink). not (list_any (λ (x : UnsetLink). eqb x.node k) xs) && not (list_any (λ (o : OwedTag). eqb o.node k) u.owed) && not (is_successor k u.unlinking)) set.0
    ∙ ap (λ (os : List OwedTag). true && not (list_any (λ (o : OwedTag). eqb o.node k) os) && not (is_successor k u.unlinking)) set.1
    ∙ ap (λ (x : Option Unlinking). true && true && not (is_successor k x)) set.2

pub every-by : (P Q : HeldNode → Type 0) (hs : List HeldNode) → ((h : HeldNode) → P h → Q h) → Every P hs → Every Q hs
every-by P Q [] f all = tt
every-by P Q (h ∷ hs) f all = (f h all.0, every-by P Q hs f all.1)

-- what the update took out is known to be marked
pub known-marked : (u : Updating) (hs : List HeldNode) → Every (λ (h : HeldNode). 0 < count h.node u.taken → h.mark ≡ Some 1) hs → Every (IsKnownMarked u) hs
known-marked u hs all = every-by (λ (h : HeldNode). 0 < count h.node u.taken → h.mark ≡ Some 1) (IsKnownMarked u) hs (λ h marked some. inl (marked some)) all

pub no-node : (hs : List HeldNode) → held_slots hs ≡ [] → hs ≡ []
no-node [] is = refl
no-node (h ∷ hs) is = cc

pub unlock_step : UnlockStepLaw
unlock_step even z v seat n node rest r =
    let w = unlocked_view v node in
    let gone : count node rest ≡ 0 = last node (count node rest) (r.once node) in
    let left_over : held_slots (other_nodes node v.held.nodes) ≡ rest = first-gone node rest v.held.nodes r.locked gone in
    record {
      may = may_unlock_law z v seat node (record {
        locked = subst (λ ks. 0 < count node ks) (sym r.locked) (first node (count node rest));
        done = r.done;
        marked = known-marked v.update v.held.nodes r.marked;
        set = all-done node v.update r.set;
      });
      released = record {
        live = r.live;
        own = r.own;
        word = r.word;
        once = λ k. omega (arith, r.once k);
        locked = left_over;
        done = until-pending (length (other_nodes node v.held.nodes) == 0) v.update r.done;
        marked = every-by (λ (h : HeldNode). 0 < count h.node v.update.taken → h.mark ≡ Some 1) (λ (h : HeldNode). 0 < count h.node w.update.taken → h.mark ≡ Some 1)
            (other_nodes node v.held.nodes) (λ h marked some. marked (until-taken (length (other_nodes node v.held.nodes) == 0) v.update h.node some))
            (others-every (λ (h : HeldNode). 0 < count h.node v.update.taken → h.mark ≡ Some 1) node v.held.nodes r.marked);
        set = until-set (length (other_nodes node v.held.nodes) == 0) v.update r.set;
        ended = λ none'. ap (λ (hs : List HeldNode). update_until hs v.update) (no-node (other_nodes node v.held.nodes) (left_over ∙ none'));
      };
      keeps = record { layout = refl; joined = refl; number = refl; history = refl; counts = refl; free = refl; retired = refl; batch = refl };
    }
  where
    first : (k m : ℕ) → 0 < cond (eqb k k) 1 0 + m
    first k m = grind (arith, nat_tests)

    last : (k m : ℕ) → cond (eqb k k) 1 0 + m ≤ 1 → m ≡ 0
    last k m le = grind (arith, nat_tests)

pub leave_step : LeaveStepLaw
leave_step z v seat n r =
    let bare : v.held.nodes ≡ [] = no-node v.held.nodes r.locked in
    record {
      may = may_leave_law z v seat n (record { own = r.own; inside = r.word; unlocked = bare });
      has_left = record {
        live = r.live;
        own = r.own;
        outside = even_left v.section_word r.word;
        reading = refl;
        unlocked = bare;
        update = ap (λ (u : Updating). record u { added = None }) (r.ended refl);
      };
      keeps = record { layout = refl; joined = refl; number = refl; history = refl; counts = refl; free = refl; retired = refl; batch = refl };
    }

pub take_back_step : TakeBackStepLaw
take_back_step z v seat n left = record {
  may = may_take_back_law z v seat n (record { own = left.own; even = left.outside });
  rests = record {
    has_left = record { live = left.live; own = left.own; outside = left.outside; reading = left.reading; unlocked = left.unlocked; update = left.update };
    unannounced = refl;
  };
  keeps = record { layout = refl; joined = refl; number = refl; history = refl; counts = refl; free = refl; retired = refl; batch = refl };
}

pub nothing_locked : NothingLockedLaw
nothing_locked v n live own inside bare idle = record {
  live = live;
  own = own;
  word = inside;
  once = λ k. omega arith;
  locked = ap held_slots bare;
  done = ap (λ (u : Updating). u.pending) idle;
  marked = subst (λ (hs : List HeldNode). Every (λ (h : HeldNode). 0 < count h.node v.update.taken → h.mark ≡ Some 1) hs) (sym bare) tt;
  set = (ap (λ (u : Updating). u.unset) idle, ap (λ (u : Updating). u.owed) idle, ap (λ (u : Updating). u.unlinking) idle);
  ended = λ none'. idle;
}
