-- Prepare keeps the rule: a free entry, which has the old head after it, becomes the head of a bundle.
use Rattle.std.proofs.Common.{◌≡◌, ℕ, ◌<◌, ◌≤◌, ◌⊎◌, cond, List, [], Bool, true, false, eqb, ◌&&◌, is_some, set, arith, refl, ap, ◌∙◌, sym, subst, inl, inr, Option, Some, None}
use Rattle.std.specs.List.{sum_by}
use Rattle.std.proofs.lemmas.Bool.{eq-eqb}
use Rattle.std.proofs.lemmas.Bool.Decides.{eqb_tells}
use Rattle.index_words.specs.declared.layout.Layout.{Layout}
use Rattle.index_words.specs.declared.side.Side.{Side}
use Rattle.index_words.specs.declared.side.Side.TheVariants.{Left, Right}
use Rattle.index_words.specs.declared.view.View.{View}
use Rattle.index_words.specs.declared.view.update.Held.{Held}
use Rattle.index_words.specs.declared.view.update.HeldNode.{HeldNode}
use Rattle.index_words.specs.declared.word.Field.TheVariants.{Mark, Head}
use Rattle.index_words.specs.declared.word.Part.{Part}
use Rattle.index_words.specs.declared.word.Part.TheVariants.{Stamp as Number}
use Rattle.index_words.specs.declared.word.Word.{Word}
use Rattle.index_words.specs.declared.word.Word.TheVariants.{Stamp, Node, Entry}
use Rattle.index_words.specs.Words.{Memory, written, same_side}
use Rattle.key_map.specs.Lists.{count, IsItem}
use Rattle.index_words.proofs.Seats.{Beside, sum_kept, one_term, all_moved}
use Rattle.key_map.proofs.Counting.{count-append}
use Rattle.core_grace.specs.Holds.{held_slots, listed, work_nodes}
use Rattle.core_grace.proofs.RuleMoves.{every_push}
use Rattle.core_links.specs.Bundle.{no_number}
use Rattle.core_events.specs.Numbered.{shown}
use Rattle.core_invariant.proofs.Pairs.{pairs_same}
use Rattle.core_invariant.specs.Meanings.{Meaning}
use Rattle.core_invariant.specs.Numbers.{number_count}
use Rattle.core_invariant.specs.Locks.{lock_count, SideRight, IsNodeAt, IsTakenOut}
use Rattle.core_invariant.specs.BundleRule.{IsLive, IsHeadOf, IsPending, pending_count}
use Rattle.core_invariant.specs.FilledRule.{IsOwnSlotWord}
use Rattle.core_invariant.specs.SeatRule.{SeatRight}
use Rattle.core_events.specs.UpdateMoves.{head_known, known_at, prepared}
use Rattle.core_invariant.specs.MeaningMoves.{unnumbered, prepared_meaning}
use Rattle.core_invariant.specs.Rule.{Rule}
use Rattle.core_invariant.specs.LinkLaw.{IsRead, Kept, SelectsSame}
use Rattle.core_invariant.proofs.Frames.{every_listed, every_named, every_mapped}
use Rattle.core_invariant.proofs.Filled.{node_other, every_filled, node_apart}
use Rattle.core_invariant.proofs.Passing.{count-without-le}
use Rattle.core_invariant.proofs.OneView.{history_kept, seat_at, read_past}
use Rattle.core_invariant.proofs.Owned.{free_entry_some, free_not_live}
use Rattle.core_invariant.proofs.TreeNow.{version_frame, linked_live, stamp_low}
use Rattle.core_invariant.proofs.Fronts.{numbered_other, numbered_new}
use Rattle.core_invariant.proofs.Locked.{locked_live, locked_apart}
use Rattle.core_invariant.proofs.Needed.{Ready}
use Rattle.core_kept.proofs.Prepare.{same_locks, same_work, prepared_slots}
use Rattle.core_invariant.proofs.Sides.{same_side-refl}
use Rattle.core_kept.proofs.PrepareBundles.{not_pending, pending_same, new_pending, bundle_now, selects, pending_head}
use Rattle.core_grace.specs.Slots.{nodes_of, own_free}
use Rattle.core_kept.proofs.PlainKept.{quiet_work, plain_quiet, plain_same}
use Rattle.core_kept.proofs.WaitingLocks.{unraised_inside}
use Rattle.core_kept.proofs.PreparePlaces.{node_same, place_now, links_now, tree_now, nexts_now, pending_now}

-- the heads that are known of a locked node once one of them is stored
node_now : (m : Memory) (side : Side) (k e : ℕ) (h : HeldNode) (c : Bool) → eqb h.node k ≡ c → IsNodeAt m h
    → IsNodeAt (written m (Node (Head side) k) e) (cond c (head_known side (record { entry = e; stamp = None }) h) h)
node_now m Left k e h true is right = record {
  key = right.key;
  val = right.val;
  mark = right.mark;
  left = record { head = (ap (λ b. cond b e (m (Node (Head Left) h.node))) is, tt) };
  right = right.right;
  plain = right.plain;
}
node_now m Right k e h true is right = record {
  key = right.key;
  val = right.val;
  mark = right.mark;
  left = right.left;
  right = record { head = (ap (λ b. cond b e (m (Node (Head Right) h.node))) is, tt) };
  plain = right.plain;
}
node_now m Left k e h false is right = record {
  key = right.key;
  val = right.val;
  mark = right.mark;
  left = subst (λ x. SideRight x (λ d. m (Entry Number d)) h.left) (sym (ap (λ b. cond b e (m (Node (Head Left) h.node))) is)) right.left;
  right = right.right;
  plain = right.plain;
}
node_now m Right k e h false is right = record {
  key = right.key;
  val = right.val;
  mark = right.mark;
  left = right.left;
  right = subst (λ x. SideRight x (λ d. m (Entry Number d)) h.right) (sym (ap (λ b. cond b e (m (Node (Head Right) h.node))) is)) right.right;
  plain = right.plain;
}

module _ (z : Layout) (m : Memory) (vs : List View) (g : Meaning) (rule : Rule z m vs g) (i k e : ℕ) (side : Side) (v : View) (at : IsItem vs i v)
    (ready : Ready m v side k e) where
  abbrev stamp : ℕ → ℕ
  stamp d = m (Entry Number d)

  abbrev head : Side → ℕ → ℕ
  head s j = m (Node (Head s) j)

  abbrev m' : Memory
  m' = written m (Node (Head side) k) e

  abbrev head' : Side → ℕ → ℕ
  head' s j = m' (Node (Head s) j)

  abbrev g' : Meaning
  g' = prepared_meaning g side k e

  abbrev number' : ℕ → ℕ
  number' = unnumbered g.bundles.number e

  abbrev v' : View
  v' = prepared v side k e

  abbrev ws : List View
  ws = set vs i v'

  own : SeatRight z m g v
  own = seat_at z m vs g i v at rule

  locks_same : held_slots v'.held.nodes ≡ held_slots v.held.nodes
  locks_same = same_locks z m vs g rule i k e side v at ready

  work_same : work_nodes v' ≡ work_nodes v
  work_same = same_work z m vs g rule i k e side v at ready

  low : m Stamp < no_number
  low = omega (arith, rule.history.calls, rule.history.few)

  some : 0 < e
  some = free_entry_some z vs g rule.slots i e v at ready.free

  live_k : IsLive z vs k
  live_k = locked_live z m vs g rule i k v at ready.locked

  lock_there : (hs : List HeldNode) → 0 < count k (held_slots hs) → hs ≡ [] → ⊥
  lock_there hs locked none = omega (arith, locked, ap (λ (xs : List HeldNode). count k (held_slots xs)) none)

  held_there : v.held.nodes ≡ [] → ⊥
  held_there none = lock_there v.held.nodes ready.locked none

  -- the node is not free
  unfree : (j : ℕ) (u : View) → IsItem vs j u → 0 < count k u.free.nodes → ⊥
  unfree j u of free = free_not_live z vs g rule.slots j k u of free live_k

  -- a word of the seat's slots was one before: the entry was free, and is pending now
  entry_before : (p : Part) (d : ℕ) → (0 < count d v'.free.entries) ⊎ ((v'.update.raised ≡ None) × (0 < count d v'.update.pending))
      → IsOwnSlotWord v.free v.update (Entry p d)
  entry_before p d (inl free) = inl (omega (arith, free, count-without-le d e v.free.entries))
  entry_before p d (inr yet) =
      elim (eqb_tells d e) as (λ _. IsOwnSlotWord v.free v.update (Entry p d)) [
        | inl same ↦ inl (subst (λ x. 0 < count x v.free.entries) (sym same.1) ready.free)
        | inr other ↦ inr (yet.0, omega (arith, yet.1, pushed_other d other.1))
      ]
    where
      pushed_other : (x : ℕ) → (x ≡ e → ⊥) → count x v'.update.pending ≡ count x v.update.pending
      pushed_other x other = (pending_same z m vs g rule i k e side v at ready) x other

  own_before : (w : Word) → IsOwnSlotWord v'.free v'.update w → IsOwnSlotWord v.free v.update w
  own_before (Node f j) is = is
  own_before (Entry p d) is = entry_before p d is
  own_before _ is = absurd is

  own_now : SeatRight z m' g' v'
  own_now =
      let h : Held = v'.held in
      record {
        layout = own.layout;
        section = record {
          section = own.section.section;
          announced = own.section.announced;
          outside = λ even. absurd (unraised_inside v held_there ready.raised (own.section.unlocked even));
          unlocked = λ even. absurd (unraised_inside v held_there ready.raised (own.section.unlocked even));
          done = λ none. absurd (lock_there v'.held.nodes (subst (λ xs. 0 < count k xs) (sym locks_same) ready.locked) none);
          waits = own.section.waits;
        };
        seen = own.seen;
        update = record { raised = own.update.raised; first = own.update.first };
        version = own.version;
        announced = own.announced;
        tree = tree_now z m vs g rule i k e side v at ready i v at h v'.update v'.free locks_same work_same;
        locks = λ j held. own.locks j (subst (λ xs. 0 < count j xs) locks_same held);
        loaded = record {
          nodes = every_mapped (IsNodeAt m) (IsNodeAt m')
              (known_at k side (record { entry = e; stamp = None })) v.held.nodes (λ x is. node_now m side k e x (eqb x.node k) refl is) own.loaded.nodes;
          nexts = nexts_now z m vs g rule i k e side v at ready i v at h v'.update v'.free locks_same work_same;
        };
        marks = record {
          retired = λ j waits. elim (own.marks.retired j waits) as (λ _. (m (Node Mark j) ≡ 1) ⊎ IsTakenOut v' j) [
            | inl marked ↦ inl marked
            | inr out ↦ absurd (unraised v.update.raised ready.raised out.0)
          ];
          batch = own.marks.batch;
          taken = own.marks.taken;
        };
        pending = every_push (IsPending z head' stamp number' v') v.update.pending e
            (every_listed (IsPending z head stamp g.bundles.number v) (IsPending z head' stamp number' v') v.update.pending
            (λ d within is. (
              is.0,
              numbered_other g.bundles.number e d (λ same.
                  omega (
                    arith,
                    (not_pending z m vs g rule i k e side v at ready),
                    one_term (pending_count e) vs i v at,
                    subst (λ x. 0 < count x v.update.pending) same within,
                  )) ∙ is.1,
              (pending_head z m vs g rule i k e side v at ready) (work_nodes v) (work_nodes v') d work_same is.0 is.2,
            )) own.pending)
            (ready.unnumbered, numbered_new g.bundles.number e ∙ sym (ap shown ready.raised), new_head);
        place = place_now z m vs g rule i k e side v at ready i v at h v'.update v'.free locks_same work_same v.reading.place own.place;
        filled =
            every_filled m m' v.free v'.free v.update v'.update v.reading.filled own_before
            (node_apart m v'.free v'.update (Head side) k e (unfree i v at)) own.filled;
        links = links_now z m vs g rule i k e side v at ready i v at h v'.update v'.free locks_same work_same;
      }
    where
      unraised : (o : Option ℕ) → o ≡ None → is_some o ≡ true → ⊥
      unraised None is one = cc
      unraised (Some n) is one = cc

      new_head : IsHeadOf z head' (work_nodes v') e
      new_head = record {
        node = k;
        side = side;
        there = live_k.0;
        is = stored (same_side side side) (eqb k k) (same_side-refl side) (eq-eqb k k refl);
        some = some;
        of = subst (λ xs. 0 < count k xs) (sym work_same) (omega (arith, ready.locked, count-append k (held_slots v.held.nodes) (listed v.update.added)));
      }
        where
          stored : (a b : Bool) → a ≡ true → b ≡ true → cond (a && b) e (head side k) ≡ e
          stored true true p q = refl
          stored _ _ p q = cc

  holder_apart : (u : View) (h : HeldNode) → Beside vs i u → 0 < lock_count h.node u → h.node ≡ k → ⊥
  holder_apart u h beside held same =
      omega (arith, locked_apart z m vs g rule i k v u at beside ready.locked, subst (λ n. 0 < lock_count n u) same held)

  other_now : (u : View) → Beside vs i u → SeatRight z m g u → SeatRight z m' g' u
  other_now u beside of = record {
    layout = of.layout;
    section = of.section;
    seen = of.seen;
    update = of.update;
    version = of.version;
    announced = of.announced;
    tree = tree_now z m vs g rule i k e side v at ready beside.place u beside.at u.held u.update u.free refl refl;
    locks = of.locks;
    loaded = record {
      nodes = every_named (λ (h : HeldNode). h.node) (IsNodeAt m) (IsNodeAt m') u.held.nodes
          (λ h held is. record {
            key = is.key;
            val = is.val;
            mark = is.mark;
            left = subst (λ x. SideRight x stamp h.left) (sym (node_other m (Head side) (Head Left) k h.node e (holder_apart u h beside held))) is.left;
            right = subst (λ x. SideRight x stamp h.right) (sym (node_other m (Head side) (Head Right) k h.node e (holder_apart u h beside held))) is.right;
            plain = is.plain;
          }) of.loaded.nodes;
      nexts = nexts_now z m vs g rule i k e side v at ready beside.place u beside.at u.held u.update u.free refl refl;
    };
    marks = of.marks;
    pending = pending_now z m vs g rule i k e side v at ready beside.place u beside.at u.held u.update u.free refl refl;
    place = place_now z m vs g rule i k e side v at ready beside.place u beside.at u.held u.update u.free refl refl u.reading.place of.place;
    filled =
        every_filled m m' u.free u.free u.update u.update u.reading.filled (λ w is. is)
        (node_apart m u.free u.update (Head side) k e (unfree beside.place u beside.at)) of.filled;
    links = links_now z m vs g rule i k e side v at ready beside.place u beside.at u.held u.update u.free refl refl;
  }

  single_now : (d : ℕ) → sum_by (pending_count d) ws ≤ 1
  single_now d =
      elim (eqb_tells d e) as (λ _. sum_by (pending_count d) ws ≤ 1) [
        | inl same ↦ subst (λ x. sum_by (pending_count x) ws ≤ 1) (sym same.1) (omega (arith, (new_pending z m vs g rule i k e side v at ready).0))
        | inr other ↦ omega (arith, sum_kept (pending_count d) vs i v v' at ((pending_same z m vs g rule i k e side v at ready) d other.1), rule.single d)
      ]

  selects_same : SelectsSame z (IsRead (m Stamp) vs) vs g ws g'
  selects_same t j s read live live' = sym ((selects z m vs g rule i k e side v at ready) t j s (read_past z m vs g rule t read) live)

  number_by : (c : Bool) (n : ℕ) → n ≤ m Stamp → n ≤ cond c no_number n
  number_by true n low = omega (arith, low, stamp_low z m vs g rule)
  number_by false n low = omega arith

  pub prepare_kept : Kept z m vs g m' ws
  prepare_kept = record {
    meaning = g';
    rule = record {
      numbers = λ n. sum_kept (number_count n) vs i v v' at refl ∙ rule.numbers n;
      history = history_kept z _ g vs i v v' at refl refl rule.history;
      slots = prepared_slots z m vs g rule i k e side v at ready;
      locks = λ j. sum_kept (lock_count j) vs i v v' at (ap (count j) locks_same) ∙ rule.locks j;
      tree = version_frame m m' g.bundles g'.bundles g.updates (m Stamp) g.tree
          (λ n here. node_same z m vs g rule i k e side v at ready (m Stamp) n (omega arith) (linked_live z vs g rule.slots n here)) rule.tree;
      marks = record { root = rule.marks.root; nodes = rule.marks.nodes };
      bundles = (bundle_now z m vs g rule i k e side v at ready);
      pairs = pairs_same vs i v v' at refl rule.pairs;
      single = single_now;
      seats = all_moved (SeatRight z m g) (SeatRight z m' g') vs i v v' at rule.seats own_now other_now;
    };
    same = selects_same;
    plain = λ right. plain_same z m vs g rule g' ws selects_same (λ j live. (live.0, sum_kept (own_free nodes_of j) vs i v v' at refl ∙ live.1))
        (λ d low. number_by (eqb d e) (g.bundles.number d) low) (plain_quiet m g vs i v v' at (quiet_work v v' refl refl refl locks_same) right);
    stays = λ e. refl;
  }
