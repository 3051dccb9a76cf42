-- The lock by which a search tells that a node waits to be unlinked: it is given back at once.
use Rattle.std.proofs.Common.{◌≡◌, ℕ, ◌+◌, ◌<◌, ◌≤◌, List, [], ◌∷◌, ◌++◌, length, cond, Bool, true, false, eqb, arith, refl, ap, ◌∙◌, sym, subst, inr, Some}
use Rattle.std.proofs.lemmas.Bool.Decides.{nat_tests}
use Rattle.index_words.specs.declared.layout.Layout.{Layout}
use Rattle.index_words.specs.declared.side.Side.{Side}
use Rattle.index_words.specs.declared.side.Side.TheVariants.{Left, Right}
use Rattle.index_words.specs.declared.view.View.{View}
use Rattle.index_words.specs.declared.view.reading.Turn.{Turn}
use Rattle.index_words.specs.declared.view.update.HeldNode.{HeldNode}
use Rattle.index_words.specs.declared.view.update.Updating.{Updating}
use Rattle.index_words.specs.Views.{no_update}
use Rattle.key_map.specs.Lists.{count, Every}
use Rattle.key_map.proofs.Counting.{count-push}
use Rattle.core_events.specs.LockMoves.{locked_view, place_locked, unlocked_view, update_until}
use Rattle.core_events.specs.PlainNeeds.{is_done_at}
use Rattle.core_invariant.specs.Readers.{IsLocked}
use Rattle.core_laws.specs.Searching.{last_turn}
use Rattle.core_laws.specs.ViewNeeds.{IsKnownMarked, MayUnlock}
use Rattle.plan_laws.specs.Frames.{KeepsTry}
use Rattle.plan_laws.specs.Tries.{CanLock, IsTrying}
use Rattle.table_rule.specs.Homes.{IsLiveView}
use Rattle.table_rule.specs.Running.{table}
use Rattle.table_rule.proofs.Lists.{item_at}
use Rattle.table_steps.specs.Loads.{HasLoadedMark, HasLocked, HasMetLock}
use Rattle.table_steps.specs.Passes.{Pass, IsAlone, IsSamePass}
use Rattle.update_search.specs.Laws.{SearchLaws}
use Rattle.update_search.specs.Outcomes.{KeepsPlaces}
use Rattle.update_search.specs.Searching.{HoldsOdd, MeetsOdd, StandsOdd}
use Rattle.update_search.proofs.Failures.{before_raise, lock_alone}
use Rattle.update_search.proofs.Nodes.{IsNode}
use Rattle.update_search.proofs.Odd.{mark_keeps, mark_reading, mark_trying, node_there, odd_kept, odd_node, odd_turn}

until_idle : (hs : List HeldNode) (u : Updating) → u ≡ no_update → update_until hs u ≡ u
until_idle hs u is = by (eqb (length hs) 0)
  where
    by : (b : Bool) → cond b no_update u ≡ u
    by true = sym is
    by false = refl

-- a lock is given back by a try that has not raised
pub unlock_keeps : (v : View) (n node : ℕ) (nodes : List ℕ) → IsTrying v n nodes → KeepsTry v (unlocked_view v node)
unlock_keeps v n node nodes trying =
    let same : (unlocked_view v node).update ≡ v.update = until_idle (unlocked_view v node).held.nodes v.update trying.idle in
    record {
      pass = record {
        layout = refl;
        joined = refl;
        number = refl;
        word = refl;
        announced = refl;
        history = refl;
        section = refl;
        opened = refl;
        least = refl;
        tree = refl;
        nodes = refl;
        retired = refl;
        batch = refl;
        raised = ap (λ (u : Updating). u.raised) same;
        taken = ap (λ (u : Updating). u.taken) same;
      };
      free = refl;
      grown = record { busy = omega arith; waits = omega arith; moves = omega arith };
    }

every : {X : Type 0} (P : X → Type 0) → ((x : X) → P x) → (xs : List X) → Every P xs
every P all [] = tt
every P all (x ∷ xs) = (all x, every P all xs)

last_locked : (nodes : List ℕ) (node : ℕ) → 0 < count node (nodes ++ node ∷ [])
last_locked nodes node = grind (arith, nat_tests, count-push node nodes node)

pub holds_last : (v : View) (n node : ℕ) (nodes : List ℕ) → IsTrying v n (nodes ++ node ∷ []) → IsLocked v node
holds_last v n node nodes trying = subst (λ (ks : List ℕ). 0 < count node ks) (sym trying.locked) (last_locked nodes node)

pub may_unlock : (v : View) (n node : ℕ) (nodes : List ℕ) → IsTrying v n nodes → IsLocked v node → MayUnlock v node
may_unlock v n node nodes trying locked = record {
  locked = locked;
  done = ap (λ (u : Updating). u.pending) trying.idle;
  marked = every (IsKnownMarked v.update) (λ h some. absurd (omega (arith, some, ap (λ (u : Updating). count h.node u.taken) trying.idle))) v.held.nodes;
  set = ap (is_done_at node) trying.idle;
}

module _ (laws : SearchLaws) (p : Pass) (n : ℕ) (nodes : List ℕ) (trying : IsTrying p.view n nodes) (node : ℕ) (some : IsNode p.view node) (can : CanLock p.view node) (w : View) where
  abbrev v : View
  v = p.view

  -- the lock was found held
  pub met_keeps : HasMetLock p node w → KeepsPlaces v w
  met_keeps met =
      subst (KeepsPlaces v) (sym met.view)
      (record {
        keeps = (laws.steps v).met (p.number + 1) met.found;
        trying = λ m ns t. (laws.lock v.layout v p.seat m ns node t can).held (p.number + 1) met.found;
        waits = refl;
      })

  pub met_alone : node ≤ v.layout.nodes → HasMetLock p node w → ¬ IsAlone w
  met_alone there met alone =
      lock_alone laws p n nodes trying node there w met can.unlocked (sym (ap (λ (u : View). u.layout.passes) met.view) ∙ alone)

  -- it was found free
  module _ (locks : HasLocked p node w) where
    -- a search reaches no node that its own seat has taken out
    pub locked_other : count node v.retired.nodes ≡ 0
    locked_other =
        let h = locks.event in
        laws.own (table v.layout h.words h.views) p.seat v node h.rule (item_at h.views p.seat v h.seat) (before_raise v n nodes trying) some

    pub locked_trying : (m : ℕ) (ns : List ℕ) → IsTrying v m ns → IsTrying w m (ns ++ node ∷ [])
    locked_trying m ns t = subst (λ (u : View). IsTrying u m (ns ++ node ∷ [])) (sym locks.view) ((laws.lock v.layout v p.seat m ns node t can).locked locked_other)

    pub locked_keeps : KeepsTry v w
    locked_keeps = subst (KeepsTry v) (sym locks.view) ((laws.steps v).locked node)

    pub locked_waits : w.counts.waits ≡ v.counts.waits
    locked_waits = ap (λ (u : View). u.counts.waits) locks.view

    locked_stands : (turn : Turn) → StandsOdd v node turn → StandsOdd (locked_view v node) node turn
    locked_stands turn s = record {
      key = s.key;
      place = ap (λ o. place_locked o node v.reading.place) trying.section ∙ s.place;
      side = s.side;
      last = last s.side s.last;
      odd = s.odd;
    }
      where
        last : (side : Side) → last_turn side v.reading ≡ Some turn → last_turn side (locked_view v node).reading ≡ Some turn
        last Left is = is
        last Right is = is

    pub locked_odd : (turn : Turn) → StandsOdd v node turn → HoldsOdd w node turn
    locked_odd turn s =
        let t = locked_trying n nodes trying in
        record {
          number = n;
          nodes = nodes ++ node ∷ [];
          trying = t;
          stands = subst (λ (u : View). StandsOdd u node turn) (sym locks.view) (locked_stands turn s);
          locked = holds_last w n node nodes t;
        }

    -- what was found under it keeps what a try keeps, and then it was given back
    pub unlocked_places : (x : View) → KeepsPlaces w x → KeepsPlaces v (unlocked_view x node)
    unlocked_places x places =
        let t = places.trying n (nodes ++ node ∷ []) (locked_trying n nodes trying) in
        record {
          keeps = laws.tries_on v x (unlocked_view x node) (laws.tries_on v w x locked_keeps places.keeps) (unlock_keeps x n node (nodes ++ node ∷ []) t);
          trying = λ m ns on. laws.unlock x m node ns (places.trying m (ns ++ node ∷ []) (locked_trying m ns on));
          waits = places.waits ∙ locked_waits;
        }

-- the mark of the turn's node was loaded first, and none was found
module _ (laws : SearchLaws) (p : Pass) (live : IsLiveView p.view) (node : ℕ) (turn : Turn) (odd : MeetsOdd p.view node turn) where
  pub turn_some : IsNode p.view turn.node
  turn_some = odd_turn p.view node turn odd.stands

  pub turn_there : turn.node ≤ p.view.layout.nodes
  turn_there = node_there p.view live odd.number odd.nodes odd.trying turn.node turn_some

  module _ (q : Pass) (same : IsSamePass p q) (marked : Bool) (loads : HasLoadedMark p turn.node marked q.view) where
    pub meet_places : KeepsPlaces p.view q.view
    meet_places = mark_keeps p odd.number odd.nodes odd.trying turn.node turn_there laws marked q.view loads

    pub meet_trying : IsTrying q.view odd.number odd.nodes
    meet_trying = mark_trying p odd.number odd.nodes odd.trying turn.node turn_there laws marked q.view loads

    pub meet_stands : StandsOdd q.view node turn
    meet_stands = odd_kept p.view q.view node turn (mark_reading p odd.number odd.nodes odd.trying turn.node turn_there laws marked q.view loads) odd.stands

    pub meet_some : IsNode q.view node
    meet_some = odd_node q.view node turn meet_stands

    pub meet_unlocked : ¬ IsLocked q.view node
    meet_unlocked locked =
        odd.unlocked (subst (λ (ks : List ℕ). 0 < count node ks) (meet_trying.locked ∙ sym odd.trying.locked) locked)

    pub meet_can : CanLock q.view node
    meet_can = record { searched = inr meet_some; unlocked = meet_unlocked }

    pub meet_there : node ≤ q.view.layout.nodes
    meet_there =
        let here : node ≤ p.view.layout.nodes = node_there p.view live odd.number odd.nodes odd.trying node (odd_node p.view node turn odd.stands) in
        subst (λ (z : Layout). node ≤ z.nodes) (sym same.layout) here
