-- A search that meets a node whose key is not beyond that of a turn: one of the two is marked, or the node is locked.
use Rattle.std.proofs.Common.{◌≡◌, ℕ, ◌+◌, ◌<◌, ◌≤◌, List, [], ◌∷◌, cond, Bool, true, false, eqb, arith, refl, ap, ◌∙◌, sym, subst, inr, map, Some}
use Rattle.index_words.specs.declared.layout.Layout.{Layout}
use Rattle.index_words.specs.declared.view.View.{View}
use Rattle.index_words.specs.declared.view.reading.Turn.{Turn}
use Rattle.index_words.specs.declared.view.update.HeldNode.{HeldNode}
use Rattle.key_map.specs.Lists.{count}
use Rattle.core_grace.specs.Holds.{held_slots}
use Rattle.core_events.specs.LockMoves.{mark_known}
use Rattle.core_events.specs.UpdateNeeds.{held_at}
use Rattle.core_invariant.specs.Readers.{IsLocked}
use Rattle.core_laws.specs.PlainNeeds.{IsHeldUnmarked}
use Rattle.core_laws.specs.Searching.{last_turn}
use Rattle.core_laws.specs.ViewNeeds.{MayReadMark}
use Rattle.plan_laws.specs.Tries.{IsTrying}
use Rattle.table_rule.specs.Homes.{IsLiveView}
use Rattle.table_steps.specs.Loads.{HasLoadedMark}
use Rattle.table_steps.specs.Passes.{Pass, IsAlone, IsSamePass}
use Rattle.table_steps.proofs.There.{searched_high}
use Rattle.update_search.specs.Laws.{SearchLaws}
use Rattle.update_search.specs.Outcomes.{HasRisen, KeepsPlaces}
use Rattle.update_search.specs.Searching.{HoldsOdd, StandsOdd}
use Rattle.update_search.proofs.Failures.{at, before_raise, mark_alone, mark_counted, mark_word}
use Rattle.update_search.proofs.Keeps.{mark_places}
use Rattle.update_search.proofs.Nodes.{IsNode, place_node, turn_node}

-- under its lock a node is known to have the mark that was loaded
pub record KnowsMark (hs : List HeldNode) (k x : ℕ) : Type 0 where
  pub held : HeldNode
  pub at : held_at k hs ≡ Some held
  pub mark : held.mark ≡ Some x

pub mark_known_at : (k x : ℕ) (hs : List HeldNode) → 0 < count k (held_slots hs) → KnowsMark (map (mark_known k x) hs) k x
mark_known_at k x [] some = absurd (omega (arith, some))
mark_known_at k x (h ∷ hs) some = by (eqb h.node k) refl (λ below. mark_known_at k x hs below) some
  where
    further : eqb h.node k ≡ false → KnowsMark (map (mark_known k x) hs) k x → KnowsMark (map (mark_known k x) (h ∷ hs)) k x
    further is below = record { held = below.held; at = rw is (rw is below.at); mark = below.mark }

    by : (b : Bool) → eqb h.node k ≡ b → (0 < count k (held_slots hs) → KnowsMark (map (mark_known k x) hs) k x) → 0 < cond b 1 0 + count k (held_slots hs)
        → KnowsMark (map (mark_known k x) (h ∷ hs)) k x
    by true is rest here = record { held = record h { mark = Some x }; at = rw is (rw is refl); mark = refl }
    by false is rest here = further is (rest (omega (arith, here)))

pub odd_kept : (v w : View) (node : ℕ) (turn : Turn) → w.reading ≡ v.reading → StandsOdd v node turn → StandsOdd w node turn
odd_kept v w node turn same s =
    record { key = s.key; place = ap (λ r. r.place) same ∙ s.place; side = s.side; last = ap (last_turn s.side) same ∙ s.last; odd = s.odd }

pub odd_node : (v : View) (node : ℕ) (turn : Turn) → StandsOdd v node turn → IsNode v node
odd_node v node turn s = place_node v node (Some s.key) s.place

pub odd_turn : (v : View) (node : ℕ) (turn : Turn) → StandsOdd v node turn → IsNode v turn.node
odd_turn v node turn s = turn_node v s.side turn s.last

-- a node of a search is one of the table
pub node_there : (v : View) → IsLiveView v → (n : ℕ) (nodes : List ℕ) → IsTrying v n nodes → (k : ℕ) → IsNode v k → k ≤ v.layout.nodes
node_there v live n nodes trying k some = searched_high v live trying.working.inside k (inr some)

module _ (p : Pass) (n : ℕ) (nodes : List ℕ) (trying : IsTrying p.view n nodes) (k : ℕ) (there : k ≤ p.view.layout.nodes) where
  pub may_mark : MayReadMark p.view k
  may_mark = record { inside = trying.working.inside; there = there }

  -- a mark was loaded
  module _ (laws : SearchLaws) (marked : Bool) (w : View) (loads : HasLoadedMark p k marked w) where
    pub mark_keeps : KeepsPlaces p.view w
    mark_keeps = subst (KeepsPlaces p.view) (sym loads.view) (mark_places laws p.view k loads.found)

    pub mark_counts : IsNode p.view k → marked ≡ true → HasRisen p.view.counts.moves w.counts.moves
    mark_counts some is = mark_counted laws p n nodes trying k there w loads.found loads.event some (loads.set is)

    pub mark_not_alone : IsNode p.view k → marked ≡ true → ¬ IsAlone w
    mark_not_alone some is alone =
        mark_alone laws p n nodes trying k there w loads.found loads.event some (loads.set is)
        (sym (ap (λ (u : View). u.layout.passes) loads.view) ∙ alone)

    pub mark_trying : IsTrying w n nodes
    mark_trying = mark_keeps.trying n nodes trying

    pub mark_reading : w.reading ≡ p.view.reading
    mark_reading = ap (λ (u : View). u.reading) loads.view

    -- no mark was found under the lock
    pub mark_unmarked : marked ≡ false → IsLocked p.view k → IsHeldUnmarked w k
    mark_unmarked is locked =
        let knows = mark_known_at k loads.found p.view.held.nodes locked in
        subst (λ (u : View). IsHeldUnmarked u k) (sym loads.view) (record { held = knows.held; locked = knows.at; unmarked = knows.mark ∙ ap Some (loads.clear is) })

-- with the node locked and unmarked, the turn's node is marked
pub odd_marked : (laws : SearchLaws) (q : Pass) (n : ℕ) (nodes : List ℕ) (node : ℕ) (turn : Turn) (w : View) → IsTrying q.view n nodes → turn.node ≤ q.view.layout.nodes
    → StandsOdd q.view node turn → IsHeldUnmarked q.view node → HasLoadedMark q turn.node false w → ⊥
odd_marked laws q n nodes node turn w trying there s unmarked loads =
    let h = loads.event in
    s.odd
    (laws.beyond _ q.seat q.view node s.key s.side turn h.rule (at laws q n nodes trying turn.node there w loads.found h) (before_raise q.view n nodes trying) s.place s.last unmarked
    (mark_word laws q n nodes trying turn.node there w loads.found h ∙ loads.clear refl))

-- the look for a mark, with the node locked: at the node first, and then at the turn's node
module _ (laws : SearchLaws) (p : Pass) (live : IsLiveView p.view) (node : ℕ) (turn : Turn) (odd : HoldsOdd p.view node turn) where
  pub first_some : IsNode p.view node
  first_some = odd_node p.view node turn odd.stands

  pub first_there : node ≤ p.view.layout.nodes
  first_there = node_there p.view live odd.number odd.nodes odd.trying node first_some

  module _ (q : Pass) (same : IsSamePass p q) (marked : Bool) (loads : HasLoadedMark p node marked q.view) where
    pub first_trying : IsTrying q.view odd.number odd.nodes
    first_trying = mark_trying p odd.number odd.nodes odd.trying node first_there laws marked q.view loads

    pub first_places : KeepsPlaces p.view q.view
    first_places = mark_keeps p odd.number odd.nodes odd.trying node first_there laws marked q.view loads

    pub next_stands : StandsOdd q.view node turn
    next_stands = odd_kept p.view q.view node turn (mark_reading p odd.number odd.nodes odd.trying node first_there laws marked q.view loads) odd.stands

    pub next_some : IsNode q.view turn.node
    next_some = odd_turn q.view node turn next_stands

    pub next_there : turn.node ≤ q.view.layout.nodes
    next_there =
        let here : turn.node ≤ p.view.layout.nodes = node_there p.view live odd.number odd.nodes odd.trying turn.node (odd_turn p.view node turn odd.stands) in
        subst (λ (z : Layout). turn.node ≤ z.nodes) (sym same.layout) here
