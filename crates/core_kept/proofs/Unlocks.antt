-- Unlock keeps the rule: the lock word is 0, and the view has forgotten the node.
use Rattle.std.proofs.Common.{◌≡◌, ℕ, ◌<◌, ◌≤◌, ◌⊎◌, cond, List, [], ◌∷◌, length, Bool, true, false, eqb, not, filter, set, arith, refl, ap, ◌∙◌, sym, subst, inl, inr, Option, is_some}
use Rattle.std.specs.List.{sum_by}
use Rattle.std.proofs.lemmas.Bool.{eq-eqb}
use Rattle.std.proofs.lemmas.Bool.Decides.{eqb_tells}
use Rattle.index_words.specs.declared.layout.Layout.{Layout}
use Rattle.index_words.specs.declared.view.View.{View}
use Rattle.index_words.specs.declared.view.update.HeldNode.{HeldNode}
use Rattle.index_words.specs.declared.view.update.HeldNext.{HeldNext}
use Rattle.index_words.specs.declared.view.update.Updating.{Updating}
use Rattle.index_words.specs.declared.word.Field.TheVariants.{Lock, Mark, Head}
use Rattle.index_words.specs.declared.word.Part.TheVariants.{Stamp as Number}
use Rattle.index_words.specs.declared.word.Word.TheVariants.{Stamp, Node, Entry}
use Rattle.index_words.specs.Words.{Memory, written}
use Rattle.index_words.specs.Views.{no_update, no_looks}
use Rattle.key_map.specs.Lists.{count, Every, IsItem}
use Rattle.index_words.proofs.Seats.{Beside, sum_moved, sum_kept, one_term, all_moved}
use Rattle.key_map.proofs.Counting.{count-append}
use Rattle.core_grace.specs.Holds.{HoldsNode, HoldsEntry, held_slots, listed, work_nodes, tree_slots}
use Rattle.core_grace.proofs.RuleMoves.{quiet, same_looks}
use Rattle.core_invariant.proofs.Pairs.{pairs_same}
use Rattle.core_invariant.specs.Meanings.{Meaning, linked_by}
use Rattle.core_invariant.specs.Numbers.{number_count}
use Rattle.core_invariant.specs.Locks.{NamesHolder, lock_count, IsNodeAt, IsNextAt, IsTakenOut}
use Rattle.core_invariant.specs.BundleRule.{IsPendingAt, IsPending, UpdateRight, pending_count}
use Rattle.core_invariant.specs.SectionRule.{IsKeptLock, Waits, IsWaiting}
use Rattle.core_invariant.specs.SeatRule.{SeatRight}
use Rattle.core_events.specs.Moves.{nowhere}
use Rattle.core_events.specs.Needs.{is_successor}
use Rattle.core_events.specs.UpdateMoves.{without}
use Rattle.core_events.specs.LockMoves.{other_nodes, update_until, unlocked_view}
use Rattle.core_invariant.specs.Rule.{Rule}
use Rattle.core_invariant.proofs.Frames.{live_moved, bundle_weaker}
use Rattle.core_invariant.proofs.Passing.{count-without_same, count-without_other, count-without-le}
use Rattle.core_invariant.proofs.OneView.{history_kept, seat_at}
use Rattle.core_invariant.proofs.Filled.{node_other, every_filled, lock_apart}
use Rattle.core_invariant.proofs.Locked.{locked_apart}
use Rattle.core_invariant.proofs.Needed.{length_empty}

-- what holds of each item that a test keeps
pub every_filter : {X : Type 0} (P Q : X → Type 0) (f : X → Bool) (xs : List X) → ((x : X) → f x ≡ true → P x → Q x) → Every P xs → Every Q (filter f xs)
every_filter P Q f [] step all = tt
every_filter P Q f (x ∷ xs) step all = kept_by (f x) refl (every_filter P Q f xs step all.1)
  where
    kept_by : (b : Bool) → f x ≡ b → Every Q (filter f xs) → Every Q (cond b (x ∷ filter f xs) (filter f xs))
    kept_by true is rest = (step x is all.0, rest)
    kept_by false is rest = rest

pub slots_other : (k : ℕ) (hs : List HeldNode) → held_slots (other_nodes k hs) ≡ without k (held_slots hs)
slots_other k [] = refl
slots_other k (h ∷ hs) = other_by (not (eqb h.node k)) (slots_other k hs)
  where
    other_by : (b : Bool) → held_slots (other_nodes k hs) ≡ without k (held_slots hs)
        → held_slots (cond b (h ∷ other_nodes k hs) (other_nodes k hs)) ≡ cond b (h.node ∷ without k (held_slots hs)) (without k (held_slots hs))
    other_by true rest = ap (λ ns. h.node ∷ ns) rest
    other_by false rest = rest

-- what holds of no update and of this one holds of it until the last lock is given back
pub until_by : (P : Updating → Type 0) (hs : List HeldNode) (u : Updating) → P no_update → P u → P (update_until hs u)
until_by P hs u none some = until_when (eqb (length hs) 0)
  where
    until_when : (b : Bool) → P (cond b no_update u)
    until_when true = none
    until_when false = some

until_none : (hs : List HeldNode) (u : Updating) → hs ≡ [] → update_until hs u ≡ no_update
until_none hs u is = ap (λ (xs : List HeldNode). update_until xs u) is

until_some : (hs : List HeldNode) (u : Updating) → (hs ≡ [] → ⊥) → update_until hs u ≡ u
until_some [] u some = absurd (some refl)
until_some (h ∷ hs) u some = by (eqb (length (h ∷ hs)) 0) refl
  where
    by : (b : Bool) → eqb (length (h ∷ hs)) 0 ≡ b → cond b no_update u ≡ u
    by true is = absurd (some (length_empty (h ∷ hs) is))
    by false is = refl

not_equal : (a b : ℕ) → not (eqb a b) ≡ true → a ≡ b → ⊥
not_equal a b off same = apart (eqb a b) off (eq-eqb a b same)
  where
    apart : (c : Bool) → not c ≡ true → c ≡ true → ⊥
    apart true f t = cc
    apart false f t = cc

module _ (z : Layout) (m : Memory) (vs : List View) (g : Meaning) (rule : Rule z m vs g) (i k : ℕ) (v : View) (at : IsItem vs i v)
    (locked : 0 < lock_count k v) (nothing : v.update.pending ≡ [])
    (marked : (j : ℕ) → 0 < count j v.update.taken → (m (Node Mark j) ≡ 1) ⊎ (is_successor j v.update.unlinking ≡ true))
    (unlinked : is_successor k v.update.unlinking ≡ false) where
  abbrev m' : Memory
  m' = written m (Node Lock k) 0

  abbrev w : View
  w = unlocked_view v k

  abbrev ws : List View
  ws = set vs i w

  abbrev rest : List HeldNode
  rest = other_nodes k v.held.nodes

  abbrev stamp : ℕ → ℕ
  stamp d = m (Entry Number d)

  own_seat : SeatRight z m g v
  own_seat = seat_at z m vs g i v at rule

  none_here : lock_count k w ≡ 0
  none_here = ap (count k) (slots_other k v.held.nodes) ∙ count-without_same k (held_slots v.held.nodes)

  locked_other : (j : ℕ) → (j ≡ k → ⊥) → lock_count j w ≡ lock_count j v
  locked_other j other = ap (count j) (slots_other k v.held.nodes) ∙ count-without_other j k (held_slots v.held.nodes) other

  locked_less : (j : ℕ) → lock_count j w ≤ lock_count j v
  locked_less j = omega (arith, ap (count j) (slots_other k v.held.nodes), count-without-le j k (held_slots v.held.nodes))

  works_less : (j : ℕ) → count j (work_nodes w) ≤ count j (work_nodes v)
  works_less j =
      omega (
        arith,
        locked_less j,
        count-append j (held_slots w.held.nodes) (listed w.update.added),
        count-append j (held_slots v.held.nodes) (listed v.update.added),
        until_by (λ (u : Updating). count j (listed u.added) ≤ count j (listed v.update.added)) rest v.update (omega arith) (omega arith),
      )

  holds_less : (j : ℕ) → HoldsNode w j → HoldsNode v j
  holds_less j holds =
      omega (arith, holds, works_less j, count-append j (tree_slots v.reading.tree) (work_nodes w), count-append j (tree_slots v.reading.tree) (work_nodes v))

  entry_less : (x : ℕ) → HoldsEntry g.bundles w x → HoldsEntry g.bundles v x
  entry_less x (inl reads) = inl reads
  entry_less x (inr stands) = inr (record { node = stands.node; side = stands.side; of = omega (arith, stands.of, works_less stands.node); here = stands.here })

  pending_none : w.update.pending ≡ []
  pending_none = until_by (λ (u : Updating). u.pending ≡ []) rest v.update refl nothing

  pending_same : (d : ℕ) → pending_count d w ≡ pending_count d v
  pending_same d = ap (count d) pending_none ∙ sym (ap (count d) nothing)

  locks_now : (j : ℕ) → sum_by (lock_count j) ws ≡ cond (eqb (m' (Node Lock j)) 0) 0 1
  locks_now j =
      elim (eqb_tells j k) as (λ _. sum_by (lock_count j) ws ≡ cond (eqb (m' (Node Lock j)) 0) 0 1) [
        | inl same ↦ subst (λ x. sum_by (lock_count x) ws ≡ cond (eqb (m' (Node Lock x)) 0) 0 1) (sym same.1)
            (omega (
              arith,
              sum_moved (lock_count k) vs i v w at,
              none_here,
              locked,
              rule.locks k,
              one_term (lock_count k) vs i v at,
              one_lock (eqb (m (Node Lock k)) 0),
            ) ∙ sym (ap (λ x. cond (eqb x 0) 0 1) free_now))
        | inr other ↦
            sum_kept (lock_count j) vs i v w at (locked_other j other.1) ∙ rule.locks j
            ∙ ap (λ x. cond (eqb x 0) 0 1) (sym (node_other m Lock Lock k j 0 other.1))
      ]
    where
      one_lock : (b : Bool) → cond b 0 1 ≤ 1
      one_lock true = omega arith
      one_lock false = omega arith

      free_now : m' (Node Lock k) ≡ 0
      free_now = ap (λ b. cond b 0 (m (Node Lock k))) (eq-eqb k k refl)

  pending_kept : (j d : ℕ) → IsPendingAt vs j d → IsPendingAt ws j d
  pending_kept j d is =
      let P : View → Type 0 = λ u. 0 < pending_count d u → 0 < count j (work_nodes u) in (
        sum_kept (pending_count d) vs i v w at (pending_same d) ∙ is.0,
        all_moved P P vs i v w at is.1 (λ more. absurd (omega (arith, more, ap (count d) pending_none))) (λ u beside of. of),
      )

  names_kept : (number : Option ℕ) (j : ℕ) → (j ≡ k → ⊥) → NamesHolder (m (Node Lock j)) number → NamesHolder (m' (Node Lock j)) number
  names_kept number j other names = subst (λ x. NamesHolder x number) (sym (node_other m Lock Lock k j 0 other)) names

  own_locks : (j : ℕ) → 0 < lock_count j w → (j ≤ z.nodes) × NamesHolder (m' (Node Lock j)) v.number
  own_locks j some =
      elim (eqb_tells j k) as (λ _. (j ≤ z.nodes) × NamesHolder (m' (Node Lock j)) v.number) [
        | inl same ↦ absurd (omega (arith, none_here, subst (λ x. 0 < lock_count x w) same.1 some))
        | inr other ↦
            let old = own_seat.locks j (omega (arith, some, locked_other j other.1)) in
            (old.0, names_kept v.number j other.1 old.1)
      ]

  held_there : v.held.nodes ≡ [] → ⊥
  held_there none = omega (arith, locked, ap (λ (hs : List HeldNode). count k (held_slots hs)) none)

  -- a view that waits goes on to wait with the locks that are left
  waits_by : IsWaiting v → (b : Bool) → eqb (length rest) 0 ≡ b
      → (rest ≡ [])
      ⊎ Waits v.number rest (cond b no_update v.update).raised (cond b no_update v.update).added (cond b no_update v.update).pending
      (cond b no_update v.update).taken
  waits_by waits true is = inl (length_empty rest is)
  waits_by waits false is =
      inr (record {
        named = waits.named;
        past = waits.past;
        bare = waits.bare;
        done = waits.done;
        kept =
            every_filter (IsKeptLock v.update.taken) (IsKeptLock v.update.taken) (λ (h : HeldNode). not (eqb h.node k))
            v.held.nodes (λ h off is. is) waits.kept;
      })

  waits_now : (v.held.nodes ≡ []) ⊎ IsWaiting v → (rest ≡ []) ⊎ IsWaiting w
  waits_now (inl none) = absurd (held_there none)
  waits_now (inr waits) = waits_by waits (eqb (length rest) 0) refl

  -- the successor that is still to be unlinked stays locked
  still_out : (j : ℕ) → is_successor j v.update.unlinking ≡ true → IsTakenOut v j → IsTakenOut w j
  still_out j is out =
      let other : j ≡ k → ⊥ = λ same. apart (is_successor k v.update.unlinking) unlinked (subst (λ x. is_successor x v.update.unlinking ≡ true) same is) in
      let locked_now : 0 < lock_count j w = omega (arith, out.2, locked_other j other) in
      let some : rest ≡ [] → ⊥ = λ none. omega (arith, locked_now, ap (λ (hs : List HeldNode). count j (held_slots hs)) none) in
      let same : update_until rest v.update ≡ v.update = until_some rest v.update some in (
        subst (λ (u : Updating). is_some u.raised ≡ true) (sym same) out.0,
        subst (λ (u : Updating). 0 < count j u.taken) (sym same) out.1,
        locked_now,
      )
    where
      apart : (b : Bool) → b ≡ false → b ≡ true → ⊥
      apart true off on = cc
      apart false off on = cc

  out_now : (j : ℕ) → IsTakenOut v j → (m (Node Mark j) ≡ 1) ⊎ IsTakenOut w j
  out_now j out =
      elim (marked j out.1) as (λ _. (m (Node Mark j) ≡ 1) ⊎ IsTakenOut w j) [
        | inl is ↦ inl is
        | inr successor ↦ inr (still_out j successor out)
      ]

  own_now : SeatRight z m' g w
  own_now = record {
    layout = own_seat.layout;
    section = record {
      section = own_seat.section.section;
      announced = own_seat.section.announced;
      outside = λ even. ap nowhere (own_seat.section.outside even);
      unlocked = λ even. waits_now (own_seat.section.unlocked even);
      done = until_none rest v.update;
      waits = λ odd. until_by (λ (u : Updating). u.waiting ≡ no_looks) rest v.update refl (own_seat.section.waits odd);
    };
    seen = own_seat.seen;
    update = until_by (UpdateRight (m Stamp)) rest v.update (record { raised = tt; first = λ _. refl }) own_seat.update;
    version = own_seat.version;
    announced = own_seat.announced;
    tree = own_seat.tree;
    locks = own_locks;
    loaded = record {
      nodes = every_filter (IsNodeAt m) (IsNodeAt m)
          (λ (h : HeldNode). not (eqb h.node k)) v.held.nodes (λ h off right. right) own_seat.loaded.nodes;
      nexts = every_filter (IsNextAt m g.bundles v.held.nodes) (IsNextAt m g.bundles rest)
          (λ (l : HeldNext). not (eqb l.node k)) v.held.nexts
          (λ l off right. record {
            is = right.is;
            locked = omega (arith, right.locked, locked_other l.node (not_equal l.node k off));
            here = right.here;
            found = right.found;
          }) own_seat.loaded.nexts;
    };
    marks = record {
      retired = λ j waits. elim (own_seat.marks.retired j waits) as (λ _. (m (Node Mark j) ≡ 1) ⊎ IsTakenOut w j) [
        | inl is ↦ inl is
        | inr out ↦ out_now j out
      ];
      batch = own_seat.marks.batch;
      taken =
          until_by (λ (u : Updating). (j : ℕ) → 0 < count j u.taken → 0 < count j v.retired.nodes) rest v.update
          (λ j some. absurd (omega (arith, some))) own_seat.marks.taken;
    };
    pending = subst (Every (IsPending z (λ s j. m (Node (Head s) j)) stamp g.bundles.number w)) (sym pending_none) tt;
    place = tt;
    filled = tt;
    links = tt;
  }

  other_now : (u : View) → Beside vs i u → SeatRight z m g u → SeatRight z m' g u
  other_now u beside of = record {
    layout = of.layout;
    section = of.section;
    seen = of.seen;
    update = of.update;
    version = of.version;
    announced = of.announced;
    tree = of.tree;
    locks = λ j some. (
      (of.locks j some).0,
      names_kept u.number j (λ same. omega (arith, locked_apart z m vs g rule i k v u at beside locked, subst (λ x. 0 < lock_count x u) same some))
          (of.locks j some).1,
    );
    loaded = of.loaded;
    marks = of.marks;
    pending = of.pending;
    place = of.place;
    filled = every_filled m m' u.free u.free u.update u.update u.reading.filled (λ y is. is) (lock_apart m u.free u.update k 0) of.filled;
    links = of.links;
  }

  pub unlock_kept : Rule z m' ws g
  unlock_kept = record {
    numbers = λ x. sum_kept (number_count x) vs i v w at refl ∙ rule.numbers x;
    history = history_kept z _ g vs i v w at refl refl rule.history;
    slots = quiet z (linked_by g) HoldsNode (HoldsEntry g.bundles) vs i v w at rule.slots refl refl refl
        (record { nodes = λ j holds. inl (holds_less j holds); entries = λ x holds. inl (entry_less x holds) }) (record { number = refl; section = inl refl })
        (λ known. same_looks z (linked_by g) HoldsNode (HoldsEntry g.bundles) v w w refl refl known)
        (λ u beside known. same_looks z (linked_by g) HoldsNode (HoldsEntry g.bundles) v w u refl refl known);
    locks = locks_now;
    tree = rule.tree;
    marks = record { root = rule.marks.root; nodes = rule.marks.nodes };
    bundles = λ j live side.
        bundle_weaker _ _ _ _ (IsPendingAt vs j) (IsPendingAt ws j) _ _ (pending_kept j) (rule.bundles j (live_moved z vs i j v w at (omega arith) live) side);
    pairs = pairs_same vs i v w at refl rule.pairs;
    single = λ d. omega (arith, sum_kept (pending_count d) vs i v w at (pending_same d), rule.single d);
    seats = all_moved (SeatRight z m g) (SeatRight z m' g) vs i v w at rule.seats own_now other_now;
  }
