-- A seat holds a node once; a plan's events are allowed from the view, and a try that fails has made a count rise.
use Rattle.std.proofs.Common.{◌≡◌, ℕ, zero, suc, ◌+◌, ◌<◌, ◌≤◌, cond, List, [], ◌∷◌, Bool, true, false, eqb, ap, subst, arith, Some, inl, inr, refl, sym}
use Rattle.std.proofs.Common.{None, ◌⊎◌, ◌∙◌, ◌&&◌, ◌||◌}
use Rattle.std.specs.List.{slice_get, sum_by, list_any}
use Rattle.std.proofs.lemmas.Bool.{eq-eqb, ne_eqb, and_parts, eqb-true}
use Rattle.std.proofs.lemmas.Bool.Decides.{nat_tests}
use Rattle.std.specs.Prelude.{◌==◌, IfSome}
use Rattle.index_words.specs.declared.layout.Layout.{Layout}
use Rattle.index_words.specs.declared.view.View.{View}
use Rattle.index_words.specs.declared.view.update.HeldNode.{HeldNode}
use Rattle.index_words.specs.declared.word.Field.TheVariants.{Lock, Key, Val, Mark, Head, Link, Tag}
use Rattle.index_words.specs.declared.word.Word.TheVariants.{Node, Entry}
use Rattle.index_words.specs.Words.{memory}
use Rattle.index_words.proofs.Seats.{one_term}
use Rattle.index_words.specs.declared.side.Side.{Side}
use Rattle.index_words.specs.declared.side.Side.TheVariants.{Left, Right}
use Rattle.index_words.specs.declared.word.Part.TheVariants.{Child, Stamp as Number, Next}
use Rattle.key_map.specs.Lists.{count, IsItem, Every}
use Rattle.core_grace.specs.Holds.{held_slots}
use Rattle.core_grace.specs.Batches.{is_number}
use Rattle.core_events.specs.UpdateNeeds.{held_at, is_written, side_of}
use Rattle.core_events.specs.declared.event.Kind.TheVariants.{Prepare}
use Rattle.core_events.specs.Needs.{is_successor}
use Rattle.core_events.specs.Searches.{held_side, knows_link, knows_tag}
use Rattle.core_events.specs.Tables.{Table, held_by}
use Rattle.core_events.proofs.Tests.{number_of_is}
use Rattle.core_invariant.specs.Locks.{lock_count}
use Rattle.core_invariant.specs.Rule.{InRule, IsRight}
use Rattle.core_invariant.proofs.OneView.{item_from_get, seat_at}
use Rattle.core_invariant.specs.Readers.{IsLocked}
use Rattle.core_laws.specs.Counts.{CountsLaw}
use Rattle.core_laws.specs.Searching.{OwnLeftLaw}
use Rattle.core_laws.specs.ViewNeeds.{May, IsInReach, IsSearched, event_at, HasFilled}
use Rattle.core_laws.proofs.PlainNeeds.{may_read_link_law, may_read_tag_law}
use Rattle.core_laws.proofs.ViewNeeds.{may_leave_law, may_fill_law, may_read_head_law, may_prepare_law, may_finalise_law, may_lock_law, may_unlock_law}
use Rattle.core_laws.proofs.ViewNeeds.{may_read_mark_law, may_mark_law, may_read_key_law, may_read_val_law}
use Rattle.core_laws.proofs.Waits.{may_leave_waiting_law}
use Rattle.core_updates.specs.declared.plan.Plan.{Plan}
use Rattle.core_updates.specs.declared.plan.Plan.TheVariants.{Grow, Replace, Lift, Join}
use Rattle.core_updates.specs.declared.plan.JoinPlan.{JoinPlan}
use Rattle.core_updates.specs.declared.plan.PlanSlots.{PlanSlots}
use Rattle.core_updates.specs.declared.plan.Front.{Front}
use Rattle.core_updates.specs.declared.plan.NewNode.{NewNode}
use Rattle.core_updates.specs.Plans.{or_none, fronts_of, new_node_of, node_fills, entry_fills, head_of, fresh_to, child_of}
use Rattle.core_updates.specs.PlanEvents.{HasSlots, IsDue, KnowsLink, KnowsTag, MayFillAll, EventsLaw, FailuresLaw}

counted : (k n : ℕ) → 0 < cond (eqb k k) 1 0 + n
counted k n = grind (arith, nat_tests)

twice : (x k n : ℕ) → x ≡ k → cond (eqb x k) 1 0 + n ≡ 1 + n
twice x k n e = grind (arith, nat_tests)

counts-item : (hs : List HeldNode) (i : ℕ) (h : HeldNode) → IsItem hs i h → 0 < count h.node (held_slots hs)
counts-item [] i h at = absurd (omega (arith, at.within))
counts-item (x ∷ hs) zero h at = subst (λ (y : HeldNode). 0 < count y.node (held_slots (x ∷ hs))) (at.is x) (counted x.node (count x.node (held_slots hs)))
counts-item (x ∷ hs) (suc i) h at = omega (arith, counts-item hs i h (record { within = omega (arith, at.within); is = λ d. at.is d }))

-- the one item of a node is the one that is found
pub held-item : (hs : List HeldNode) (i : ℕ) (h : HeldNode) → IsItem hs i h → count h.node (held_slots hs) ≤ 1 → held_at h.node hs ≡ Some h
held-item [] i h at once = absurd (omega (arith, at.within))
held-item (x ∷ hs) zero h at once =
    let is : x ≡ h = at.is x in
    rw (eq-eqb x.node h.node (ap (λ (y : HeldNode). y.node) is)) (ap Some is)
held-item (x ∷ hs) (suc i) h at once =
    let below : IsItem hs i h = record { within = omega (arith, at.within); is = λ d. at.is d } in
    let some : 0 < count h.node (held_slots hs) = counts-item hs i h below in
    let apart : ¬ (x.node ≡ h.node) = λ e. omega (arith, once, some, twice x.node h.node (count h.node (held_slots hs)) e) in
    rw (ne_eqb x.node h.node apart) (held-item hs i h below (omega (arith, once)))

at_most_one : (b : Bool) → 0 + cond b 0 1 ≤ 1
at_most_one true = omega arith
at_most_one false = omega arith

-- in a table that meets the rule
pub held_once : (z : Layout) (words : List ℕ) (vs : List View) (seat place : ℕ) (v : View) (held : HeldNode) → InRule z words vs → slice_get vs seat ≡ Some v
    → IsItem v.held.nodes place held → held_at held.node v.held.nodes ≡ Some held
held_once z words vs seat place v held right is at =
    let total : sum_by (lock_count held.node) vs ≡ cond (eqb (memory z words (Node Lock held.node)) 0) 0 1 = right.rule.locks held.node in
    held-item v.held.nodes place held at (omega (
      arith,
      total,
      at_most_one (eqb (memory z words (Node Lock held.node)) 0),
      one_term (lock_count held.node) vs seat v (item_from_get vs seat v is),
    ))

-- The events of a plan are allowed from the view, and a try that fails has made a count rise.

-- a test that holds of no item
never_any : {X : Type 0} (on : X → Bool) (xs : List X) → ((i : ℕ) (x : X) → IsItem xs i x → on x ≡ true → ⊥) → list_any on xs ≡ false
never_any on [] none' = refl
never_any on (x ∷ xs) none' =
    or-none (on x) (list_any on xs) (none' zero x (record { within = omega arith; is = λ d. refl }))
    (never_any on xs (λ i y at holds. none' (suc i) y (record { within = omega (arith, at.within); is = λ d. at.is d }) holds))
  where
    or-none : (b c : Bool) → (b ≡ true → ⊥) → c ≡ false → (b || c) ≡ false
    or-none true c never c_is = absurd (never refl)
    or-none false c never c_is = c_is

module _ (z : Layout) (v : View) (seat : ℕ) where
  fills-node : (n : NewNode) → 0 < count n.slot v.free.nodes → Every (MayFillAll z v seat) (node_fills n)
  fills-node n free = (
    may_fill_law z v seat (Node Mark n.slot) 0 (refl, free),
    (
      may_fill_law z v seat (Node Key n.slot) n.pair.key (refl, free),
      (
        may_fill_law z v seat (Node Val n.slot) n.pair.val (refl, free),
        (
          may_fill_law z v seat (Node (Head Left) n.slot) (head_of n.left) (refl, free),
          (
            may_fill_law z v seat (Node (Head Right) n.slot) (head_of n.right) (refl, free),
            (
              may_fill_law z v seat (Node (Link Left) n.slot) (child_of n.left) (refl, free),
              (
                may_fill_law z v seat (Node (Link Right) n.slot) (child_of n.right) (refl, free),
                (may_fill_law z v seat (Node (Tag Left) n.slot) 0 (refl, free), (may_fill_law z v seat (Node (Tag Right) n.slot) 0 (refl, free), tt)),
              ),
            ),
          ),
        ),
      ),
    ),
  )

  fills-entry : (e child behind : ℕ) → 0 < count e v.free.entries → Every (MayFillAll z v seat) (entry_fills e child behind)
  fills-entry e child behind free = (
    may_fill_law z v seat (Entry Child e) child free,
    (
      may_fill_law z v seat (Entry Number e) 0 free,
      (may_fill_law z v seat (Entry Next e) behind free, tt),
    ),
  )

  new-fills : (plan : Plan) (slots : PlanSlots) → HasSlots v slots
      → IfSome (new_node_of plan slots) (λ (m : NewNode). Every (MayFillAll z v seat) (node_fills m))
  new-fills (Grow p) slots has = fills-node (record { slot = slots.node; pair = p.pair; left = None; right = None }) has.node
  new-fills (Replace p) slots has = fills-node (record {
    slot = slots.node;
    pair = p.pair;
    left = fresh_to slots.left p.left;
    right = fresh_to slots.right p.right;
  }) has.node
  new-fills (Lift p) slots has = tt
  new-fills (Join p) slots has = fills-node (record {
    slot = slots.node;
    pair = p.next.pair;
    left = fresh_to slots.left p.left;
    right = fresh_to slots.right (cond (p.next.at.node == p.node) p.next.right p.right);
  }) has.node

  next-fills : (near : Bool) (p : JoinPlan) (slots : PlanSlots) (behind : ℕ) → HasSlots v slots
      → Every (λ (f : Front). Every (MayFillAll z v seat) (entry_fills f.entry f.child behind))
      (or_none (cond near None (Some (record { at = p.next.at; entry = slots.next; child = p.next.right }))))
  next-fills true p slots behind has = tt
  next-fills false p slots behind has = (fills-entry slots.next p.next.right behind has.next, tt)

  front-fills : (plan : Plan) (slots : PlanSlots) → HasSlots v slots → (behind : ℕ)
      → Every (λ (f : Front). Every (MayFillAll z v seat) (entry_fills f.entry f.child behind)) (fronts_of plan slots)
  front-fills (Lift p) slots has behind = (fills-entry slots.at p.child behind has.at, tt)
  front-fills (Join p) slots has behind = (fills-entry slots.at slots.node behind has.at, next-fills (p.next.at.node == p.node) p slots behind has)
  front-fills _ slots has behind = (fills-entry slots.at slots.node behind has.at, tt)

  -- a locked node is one of the table
  there : (words : List ℕ) (vs : List View) → InRule z words vs → slice_get vs seat ≡ Some v → v.joined ≡ false → (k : ℕ) → IsLocked v k → k ≤ v.layout.nodes
  there words vs right is live k locked =
      let own = seat_at z (memory z words) vs right.meaning seat v (item_from_get vs seat v is) right.rule in
      subst (λ (y : Layout). k ≤ y.nodes) (sym (own.layout live)) (own.locks k locked).0

  -- whatever the table is, the look is the one that the need reads
  prepares : (f : Front) (behind : ℕ) → IsDue v f behind → May z v (event_at z seat Prepare (Node (Head f.at.side) f.at.node) f.entry)
  prepares f behind d words vs right is =
      let h = d.found.holds.head in
      may_prepare_law z v seat f.at.node f.at.side f.entry (record {
        unraised = d.unraised;
        node = h.held;
        locked = subst (λ k. held_at k v.held.nodes ≡ Some h.held) h.node_is (held_once z words vs seat h.place v h.held right is h.at);
        unmarked = d.found.holds.unmarked;
        head = h.loaded;
        loaded = h.head;
        old = elim d.found.numbered as (λ _. (h.loaded.entry ≡ 0) ⊎ (is_written h.loaded.stamp ≡ true)) [
          | inl none' ↦ inl
              (h.entry_is ∙ none')
          | inr written ↦ inr written
        ];
        free = d.free;
        small = d.small;
        next = subst (HasFilled v (Entry Next f.entry)) (sym h.entry_is) d.filled.1.1.0;
        unnumbered = d.filled.1.0;
      }) words vs right is

-- what is known of the nodes that go out by the plan, where these are the ones that the update took out
known : (v : View) {ks os : List ℕ} → os ≡ ks
    → Every (λ (h : HeldNode). 0 < count h.node os → (h.mark ≡ Some 1) ⊎ (is_successor h.node v.update.unlinking ≡ true)) v.held.nodes
    → Every (λ (h : HeldNode). 0 < count h.node ks → (h.mark ≡ Some 1) ⊎ (is_successor h.node v.update.unlinking ≡ true)) v.held.nodes
known v is marked = subst (λ ks. Every (λ (h : HeldNode). 0 < count h.node ks → (h.mark ≡ Some 1) ⊎
    (is_successor h.node v.update.unlinking ≡ true)) v.held.nodes) is marked

pub events_law : EventsLaw
events_law z v seat n plan slots r = record {
  lock = λ k searched unlocked. may_lock_law z v seat n k (record { own = r.own; inside = r.inside; searched = searched; unlocked = unlocked });
  head = λ k side locked. may_read_head_law z v seat k side (record { inside = r.inside; reach = inr (inr locked) });
  link = λ k side firm. may_read_link_law z v seat k side (record { inside = r.inside; on = inl firm });
  tag = λ k side locked words vs right is. may_read_tag_law z v seat k side
      (record { inside = r.inside; there = there z v seat words vs right is r.live k locked }) words vs right is;
  marked = λ k locked words vs right is. may_read_mark_law z v seat k
      (record { inside = r.inside; there = there z v seat words vs right is r.live k locked }) words vs right is;
  key = λ k locked words vs right is. may_read_key_law z v seat k
      (record { inside = r.inside; there = there z v seat words vs right is r.live k locked }) words vs right is;
  val = λ k locked words vs right is. may_read_val_law z v seat k
      (record { inside = r.inside; there = there z v seat words vs right is r.live k locked }) words vs right is;
  node = new-fills z v seat plan slots;
  left = λ has child. fills-entry z v seat slots.left child 0 has.left;
  right = λ has child. fills-entry z v seat slots.right child 0 has.right;
  front = front-fills z v seat plan slots;
  prepare = λ f child d. prepares z v seat f child d;
  finalise = λ e place pending raised. may_finalise_law z v seat e place (record { pending = pending; raised = raised });
  mark = λ k taken out locked. may_mark_law z v seat k (record { locked = locked; taken = subst (λ ks. 0 < count k ks) (sym taken) out });
  unlock = λ k taken done marked set locked. may_unlock_law z v seat k (record {
    locked = locked;
    done = done;
    set = set;
    marked = known v (sym taken) marked;
  });
  leave = λ unlocked. may_leave_law z v seat n (record { own = r.own; inside = r.inside; unlocked = unlocked });
  wait = λ taken done marked waiting.
      may_leave_waiting_law z v seat n (record { own = r.own; inside = r.inside; waiting = waiting; done = done; marked = known v (sym taken) marked });
}

-- what was loaded under a lock is what is found of the node, since it is locked once
module _ (t : Table) (seat : ℕ) (v : View) (right : IsRight t) (is : slice_get t.views seat ≡ Some v) where
  abbrev same-link : ℕ → Side → ℕ → HeldNode → Bool
  same-link k side x h = h.node == k && is_number x (held_side side h).link

  abbrev same-tag : ℕ → Side → ℕ → HeldNode → Bool
  same-tag k side x h = h.node == k && is_number x (held_side side h).tag

  held-of : (k : ℕ) (i : ℕ) (h : HeldNode) → IsItem v.held.nodes i h → h.node ≡ k → held_at k v.held.nodes ≡ Some h
  held-of k i h at node_is = subst (λ n. held_at n v.held.nodes ≡ Some h) node_is (held_once t.layout t.words t.views seat i v h right is at)

  link-unknown : (k : ℕ) (side : Side) (x : ℕ) → ¬ (KnowsLink v k side) → knows_link v.held.nodes k side x ≡ false
  link-unknown k side x none' =
      never_any (same-link k side x) v.held.nodes
      (λ i h at known.
      let parts = and_parts (h.node == k) (is_number x (held_side side h).link) known in
      none' (record {
        held = h;
        locked = held-of k i h at (eqb-true h.node k parts.0);
        child = x;
        known = link-side side h x (number_of_is x (held_side side h).link parts.1);
      }))
    where
      link-side : (side : Side) (h : HeldNode) (x : ℕ) → (held_side side h).link ≡ Some x → (side_of side h).link ≡ Some x
      link-side Left h x is = is
      link-side Right h x is = is

  tag-unknown : (k : ℕ) (side : Side) (x : ℕ) → ¬ (KnowsTag v k side) → knows_tag v.held.nodes k side x ≡ false
  tag-unknown k side x none' =
      never_any (same-tag k side x) v.held.nodes
      (λ i h at known.
      let parts = and_parts (h.node == k) (is_number x (held_side side h).tag) known in
      none' (record {
        held = h;
        locked = held-of k i h at (eqb-true h.node k parts.0);
        found = x;
        known = tag-side side h x (number_of_is x (held_side side h).tag parts.1);
      }))
    where
      tag-side : (side : Side) (h : HeldNode) (x : ℕ) → (held_side side h).tag ≡ Some x → (side_of side h).tag ≡ Some x
      tag-side Left h x is = is
      tag-side Right h x is = is

pub failures_law : CountsLaw → OwnLeftLaw → FailuresLaw
failures_law counts_law own_left t e v w n right met before behind r own =
    let counts = counts_law t e v w right met before behind in
    let at = item_from_get t.views e.seat v before in
    record {
      busy = λ held. counts.busy.rises held;
      mark = λ k on kind word marked.
          counts.moves.rises (inr (record {
            kind = kind;
            node = k;
            word = word;
            marked = marked;
            reach = elim on as (λ _. IsInReach v k ⊎ IsSearched v k) [ inl searched ↦ inr searched | inr locked ↦ inl (inr (inr locked.0)) ];
            kept = (
              ap (count k) own.untaken,
              elim on as (λ _. count k v.retired.nodes ≡ 0) [ inl searched ↦ left-out at k marked searched | inr locked ↦ locked.1 ],
            );
          }));
      link = λ k side kind word other first.
          counts.moves.rises (inl (inr (inl (record {
            kind = kind;
            node = k;
            side = side;
            word = word;
            other = other;
            unknown = link-unknown t e.seat v right before k side (held_by t (Node (Link side) k)) first;
          }))));
      tag = λ k side kind word other first.
          counts.moves.rises (inl (inr (inr (record {
            kind = kind;
            node = k;
            side = side;
            word = word;
            other = other;
            unknown = tag-unknown t e.seat v right before k side (held_by t (Node (Tag side) k)) first;
          }))));
    }
  where
    left-out : IsItem t.views e.seat v → (k : ℕ) → 0 < held_by t (Node Mark k) → IsSearched v k → count k v.retired.nodes ≡ 0
    left-out at k marked (inl root) = absurd (omega (arith, marked, ap (λ j. held_by t (Node Mark j)) root, right.rule.marks.root))
    left-out at k marked (inr searched) = own_left t e.seat v k right at (record { inside = r.inside; unraised = own.unraised }) searched
