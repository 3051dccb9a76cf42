-- Loads and stores of marks keep the rule.
use Rattle.std.proofs.Common.{◌≡◌, ℕ, ◌<◌, ◌⊎◌, cond, List, Bool, true, false, eqb, set, arith, refl, ap, ◌∙◌, sym, subst, inl, inr, Some, map}
use Rattle.std.proofs.lemmas.Bool.{eq-eqb, eqb-true}
use Rattle.std.proofs.lemmas.Option.{IfSome_then}
use Rattle.index_words.specs.declared.layout.Layout.{Layout}
use Rattle.index_words.specs.declared.view.View.{View}
use Rattle.index_words.specs.declared.view.history.Counts.{Counts}
use Rattle.index_words.specs.declared.view.reading.Place.{Place}
use Rattle.index_words.specs.declared.view.reading.Place.TheVariants.{Nowhere, Node as AtNode, Gap}
use Rattle.index_words.specs.declared.view.update.HeldNode.{HeldNode}
use Rattle.index_words.specs.declared.word.Field.{Field}
use Rattle.index_words.specs.declared.word.Field.TheVariants.{Key, Val, Mark, Head}
use Rattle.index_words.specs.declared.word.Part.TheVariants.{Stamp as Number}
use Rattle.index_words.specs.declared.word.Word.TheVariants.{Node, Entry}
use Rattle.index_words.specs.Words.{Memory, written}
use Rattle.key_map.specs.Lists.{count, IsItem}
use Rattle.index_words.proofs.Seats.{Beside, sum_kept, one_term, all_moved}
use Rattle.core_grace.specs.Sections.{is_even}
use Rattle.core_grace.specs.Holds.{Bundles, HoldsNode, HoldsEntry, held_slots, work_nodes}
use Rattle.core_grace.specs.Slots.{nodes_of, own}
use Rattle.core_grace.proofs.RuleMoves.{quiet, same_looks}
use Rattle.core_events.specs.Versions.{slots_of}
use Rattle.core_invariant.proofs.Pairs.{pairs_same}
use Rattle.core_invariant.specs.Meanings.{Meaning, linked_by}
use Rattle.core_invariant.specs.Numbers.{number_count}
use Rattle.core_invariant.specs.Locks.{lock_count, IsNodeAt, IsTakenOut}
use Rattle.core_invariant.specs.BundleRule.{IsPendingAt, IsPending, pending_count}
use Rattle.core_invariant.specs.SectionRule.{IsKeptLock}
use Rattle.core_invariant.specs.Readers.{PlaceRight}
use Rattle.core_invariant.specs.SeatRule.{SeatRight}
use Rattle.core_events.specs.LoadMoves.{with_held, with_place}
use Rattle.core_events.specs.LockMoves.{mark_known, with_mark, pair_known, place_paired, pair_loaded}
use Rattle.core_invariant.specs.Rule.{Rule}
use Rattle.core_invariant.proofs.Frames.{every_map, every_named, live_moved, pending_moved, bundle_weaker, every_mapped}
use Rattle.core_invariant.proofs.OneView.{history_kept, seat_at}
use Rattle.core_invariant.proofs.Owned.{once_node, free_not_live}
use Rattle.core_invariant.proofs.Filled.{node_other, every_filled, node_apart}
use Rattle.core_invariant.proofs.Locked.{locked_apart, locked_live, slots_marked, slots_paired}
use Rattle.core_invariant.proofs.ReadMoves.{read_kept, place_back, links_back, nexts_back, work_same, holds_same}
use Rattle.core_kept.proofs.WaitingLocks.{still_waits}

module _ (z : Layout) (m : Memory) (vs : List View) (g : Meaning) (rule : Rule z m vs g) (i k x : ℕ) (v : View) (at : IsItem vs i v) where
  abbrev stamp : ℕ → ℕ
  stamp d = m (Entry Number d)

  own_seat : SeatRight z m g v
  own_seat = seat_at z m vs g i v at rule

  -- the view, with some counts, once the mark is known
  abbrev known_view : Counts → View
  known_view c = record (with_mark v k x) { counts = c }

  abbrev known_nodes : List HeldNode
  known_nodes = map (mark_known k x) v.held.nodes

  same : held_slots known_nodes ≡ held_slots v.held.nodes
  same = slots_marked k x v.held.nodes

  known_by : (h : HeldNode) (b : Bool) → eqb h.node k ≡ b → x ≡ m (Node Mark k)
      → IsNodeAt m h
      → IsNodeAt m (cond b (record h { mark = Some x }) h)
  known_by h false is found right = right
  known_by h true is found right = record {
    key = right.key;
    val = right.val;
    mark = ap (λ n. m (Node Mark n)) (eqb-true h.node k is) ∙ sym found;
    left = right.left;
    right = right.right;
    plain = right.plain;
  }

  -- a load of a mark
  pub load_mark_kept : (c : Counts) → is_even v.section_word ≡ false → x ≡ m (Node Mark k) → Rule z m (set vs i (known_view c)) g
  load_mark_kept c inside found =
      read_kept z m vs g rule i v at c known_nodes v.held.nexts v.reading.place v.reading.above v.reading.links same inside
      (every_mapped (IsNodeAt m) (IsNodeAt m)
      (mark_known k x) v.held.nodes (λ h right. known_by h (eqb h.node k) refl found right) own_seat.loaded.nodes)
      (nexts_back z m vs g rule i v at c known_nodes v.held.nexts v.reading.place v.reading.above v.reading.links same)
      (place_back z m vs g rule i v at c known_nodes v.held.nexts v.reading.place v.reading.above v.reading.links same refl v.reading.place own_seat.place)
      (links_back z m vs g rule i v at c known_nodes v.held.nexts v.reading.place v.reading.above v.reading.links same)

pair_right : (m : Memory) (f : Field) (k x : ℕ) (h : HeldNode) → x ≡ m (Node f k) → IsNodeAt m h → IsNodeAt m (pair_known f k x h)
pair_right m Key k x h found right = key_by (eqb h.node k) refl
  where
    key_by : (b : Bool) → eqb h.node k ≡ b → IsNodeAt m (cond b (record h { key = Some x }) h)
    key_by true is = record {
      key = ap (λ n. m (Node Key n)) (eqb-true h.node k is) ∙ sym found;
      val = right.val;
      mark = right.mark;
      left = right.left;
      right = right.right;
      plain = right.plain;
    }
    key_by false is = right
pair_right m Val k x h found right = val_by (eqb h.node k) refl
  where
    val_by : (b : Bool) → eqb h.node k ≡ b → IsNodeAt m (cond b (record h { val = Some x }) h)
    val_by true is = record {
      key = right.key;
      val = ap (λ n. m (Node Val n)) (eqb-true h.node k is) ∙ sym found;
      mark = right.mark;
      left = right.left;
      right = right.right;
      plain = right.plain;
    }
    val_by false is = right
pair_right m _ k x h found right = right

-- a key that is kept with the place of a search
paired_place : (z : Layout) (stamp : ℕ → ℕ) (b : Bundles) (v : View) (f : Field) (k x : ℕ) (p : Place) → PlaceRight z stamp b v p
    → PlaceRight z stamp b v (place_paired f k x p)
paired_place z stamp b v Key k x Nowhere right = tt
paired_place z stamp b v Key k x (AtNode node key) right = by (eqb node k)
  where
    by : (here : Bool) → PlaceRight z stamp b v (cond here (AtNode node (Some x)) (AtNode node key))
    by true = tt
    by false = tt
paired_place z stamp b v Key k x (Gap node side) right = tt
paired_place z stamp b v _ k x _ right = right

-- a load of a key or a value
pub load_pair_kept : (z : Layout) (m : Memory) (vs : List View) (g : Meaning) (i k : ℕ) (f : Field) (v : View) → Rule z m vs g → IsItem vs i v
    → is_even v.section_word ≡ false
    → Rule z m (set vs i (pair_loaded v f k (m (Node f k)))) g
load_pair_kept z m vs g i k f v rule at inside =
    let x : ℕ = m (Node f k) in
    let seat = seat_at z m vs g i v at rule in
    let nodes : List HeldNode = map (pair_known f k x) v.held.nodes in
    let place : Place = place_paired f k x v.reading.place in
    let same = slots_paired f k x v.held.nodes in
    let w : View = record (with_place (with_held v nodes v.held.nexts) place v.reading.above v.reading.links) { counts = v.counts } in
    read_kept z m vs g rule i v at v.counts nodes v.held.nexts place v.reading.above v.reading.links same inside
    (every_mapped (IsNodeAt m) (IsNodeAt m) (pair_known f k x) v.held.nodes (λ h right. pair_right m f k x h refl right) seat.loaded.nodes)
    (nexts_back z m vs g rule i v at v.counts nodes v.held.nexts place v.reading.above v.reading.links same)
    (paired_place z (λ e. m (Entry Number e)) g.bundles w f k x v.reading.place
    (place_back z m vs g rule i v at v.counts nodes v.held.nexts place v.reading.above v.reading.links same refl v.reading.place seat.place))
    (links_back z m vs g rule i v at v.counts nodes v.held.nexts place v.reading.above v.reading.links same)

module _ (z : Layout) (m : Memory) (vs : List View) (g : Meaning) (rule : Rule z m vs g) (i k : ℕ) (v : View) (at : IsItem vs i v)
    (locked : 0 < lock_count k v) (taken : 0 < count k v.update.taken) where
  abbrev m' : Memory
  m' = written m (Node Mark k) 1

  abbrev w : View
  w = with_mark v k 1

  abbrev ws : List View
  ws = set vs i w

  abbrev nodes : List HeldNode
  nodes = map (mark_known k 1) v.held.nodes

  seat : SeatRight z m g v
  seat = seat_at z m vs g i v at rule

  locks_same : held_slots nodes ≡ held_slots v.held.nodes
  locks_same = slots_marked k 1 v.held.nodes

  works_same : work_nodes w ≡ work_nodes v
  works_same = work_same z m vs g rule i v at v.counts nodes v.held.nexts v.reading.place v.reading.above v.reading.links locks_same

  -- the node is neither in the tree nor the root
  unlinked : count k (slots_of g.tree) ≡ 0
  unlinked = omega (arith, once_node z vs g rule.slots k, one_term (own nodes_of k) vs i v at, seat.marks.taken k taken)

  root_apart : 0 ≡ k → ⊥
  root_apart root =
      omega (arith, rule.slots.nodes.one 0, one_term (own nodes_of 0) vs i v at, subst (λ x. 0 < count x v.retired.nodes) (sym root) (seat.marks.taken k taken))

  mark_now : m' (Node Mark k) ≡ 1
  mark_now = ap (λ b. cond b 1 (m (Node Mark k))) (eq-eqb k k refl)

  -- a mark of 1 stays
  still_marked : (j : ℕ) → m (Node Mark j) ≡ 1 → m' (Node Mark j) ≡ 1
  still_marked j is = marked_by (eqb j k)
    where
      marked_by : (b : Bool) → cond b 1 (m (Node Mark j)) ≡ 1
      marked_by true = refl
      marked_by false = is

  entry_same : (x : ℕ) → HoldsEntry g.bundles w x → HoldsEntry g.bundles v x
  entry_same x (inl reads) = inl reads
  entry_same x (inr stands) =
      inr (record { node = stands.node; side = stands.side; of = subst (λ xs. 0 < count stands.node xs) works_same stands.of; here = stands.here })

  node_now : (h : HeldNode) (b : Bool) → eqb h.node k ≡ b
      → IsNodeAt m h
      → IsNodeAt m' (cond b (record h { mark = Some 1 }) h)
  node_now h true is right = record {
    key = right.key;
    val = right.val;
    mark = ap (λ b. cond b 1 (m (Node Mark h.node))) is;
    left = right.left;
    right = right.right;
    plain = right.plain;
  }
  node_now h false is right = record {
    key = right.key;
    val = right.val;
    mark = IfSome_then h.mark right.mark (λ y known. ap (λ b. cond b 1 (m (Node Mark h.node))) is ∙ known);
    left = right.left;
    right = right.right;
    plain = right.plain;
  }

  -- the node is not free
  unfree : (j : ℕ) (u : View) → IsItem vs j u → 0 < count k u.free.nodes → ⊥
  unfree j u of free = free_not_live z vs g rule.slots j k u of free (locked_live z m vs g rule i k v at locked)

  -- the node was taken out, so that its lock may still be kept
  mark_keeps : (h : HeldNode) (b : Bool) → eqb h.node k ≡ b → IsKeptLock v.update.taken h → IsKeptLock v.update.taken (cond b (record h { mark = Some 1 }) h)
  mark_keeps h true is kept = inl (subst (λ j. 0 < count j v.update.taken) (sym (eqb-true h.node k is)) taken)
  mark_keeps h false is kept = kept

  own_now : SeatRight z m' g w
  own_now = record {
    layout = seat.layout;
    section = record {
      section = seat.section.section;
      announced = seat.section.announced;
      outside = seat.section.outside;
      unlocked = λ even.
          still_waits v nodes (λ none. omega (arith, locked, ap (λ (hs : List HeldNode). count k (held_slots hs)) none))
          (every_mapped (IsKeptLock v.update.taken) (IsKeptLock v.update.taken) (mark_known k 1) v.held.nodes (λ h is. mark_keeps h (eqb h.node k) refl is))
          (seat.section.unlocked even);
      done = λ none. absurd (omega (arith, locked, ap (count k) locks_same, ap (λ (hs : List HeldNode). count k (held_slots hs)) none));
      waits = seat.section.waits;
    };
    seen = seat.seen;
    update = seat.update;
    version = seat.version;
    announced = seat.announced;
    tree = seat.tree;
    locks = λ j held. seat.locks j (subst (λ xs. 0 < count j xs) locks_same held);
    loaded = record {
      nodes = every_mapped (IsNodeAt m) (IsNodeAt m')
          (mark_known k 1) v.held.nodes (λ h right. node_now h (eqb h.node k) refl right) seat.loaded.nodes;
      nexts = nexts_back z m vs g rule i v at v.counts nodes v.held.nexts v.reading.place v.reading.above v.reading.links locks_same;
    };
    marks = record {
      retired = λ j waits. elim (seat.marks.retired j waits) as (λ _. (m' (Node Mark j) ≡ 1) ⊎ IsTakenOut w j) [
        | inl marked ↦ inl (still_marked j marked)
        | inr out ↦ inr (out.0, out.1, subst (λ xs. 0 < count j xs) (sym locks_same) out.2)
      ];
      batch = λ j waits. still_marked j (seat.marks.batch j waits);
      taken = seat.marks.taken;
    };
    pending =
        every_map (IsPending z (λ s j. m (Node (Head s) j)) (λ d. m (Entry Number d)) g.bundles.number v)
        (IsPending z (λ s j. m (Node (Head s) j)) (λ d. m (Entry Number d)) g.bundles.number w) v.update.pending
        (λ d old. (
          old.0,
          old.1,
          record {
            node = old.2.node;
            side = old.2.side;
            there = old.2.there;
            is = old.2.is;
            some = old.2.some;
            of = subst (λ xs. 0 < count old.2.node xs) (sym works_same) old.2.of;
          },
        )) seat.pending;
    place =
        place_back z m vs g rule i v at v.counts nodes v.held.nexts v.reading.place v.reading.above v.reading.links locks_same refl v.reading.place seat.place;
    filled =
        every_filled m m' v.free v.free v.update v.update v.reading.filled (λ y is. is) (node_apart m v.free v.update Mark k 1 (unfree i v at)) seat.filled;
    links = links_back z m vs g rule i v at v.counts nodes v.held.nexts v.reading.place v.reading.above v.reading.links locks_same;
  }

  holder_apart : (u : View) (h : HeldNode) → Beside vs i u → 0 < lock_count h.node u → h.node ≡ k → ⊥
  holder_apart u h beside held is =
      omega (arith, locked_apart z m vs g rule i k v u at beside locked, subst (λ n. 0 < lock_count n u) is held)

  other_now : (u : View) → Beside vs i u → SeatRight z m g u → SeatRight z m' g u
  other_now u beside of = record {
    layout = of.layout;
    section = of.section;
    seen = of.seen;
    update = of.update;
    version = of.version;
    announced = of.announced;
    tree = of.tree;
    locks = of.locks;
    loaded = record {
      nodes = every_named (λ (h : HeldNode). h.node) (IsNodeAt m)
          (IsNodeAt m') u.held.nodes
          (λ h held is. record {
            key = is.key;
            val = is.val;
            mark = IfSome_then h.mark is.mark (λ y known. node_other m Mark Mark k h.node 1 (holder_apart u h beside held) ∙ known);
            left = is.left;
            right = is.right;
            plain = is.plain;
          }) of.loaded.nodes;
      nexts = of.loaded.nexts;
    };
    marks = record {
      retired = λ j waits. elim (of.marks.retired j waits) as (λ _. (m' (Node Mark j) ≡ 1) ⊎ IsTakenOut u j) [
        | inl marked ↦ inl (still_marked j marked)
        | inr out ↦ inr out
      ];
      batch = λ j waits. still_marked j (of.marks.batch j waits);
      taken = of.marks.taken;
    };
    pending = of.pending;
    place = of.place;
    filled =
        every_filled m m' u.free u.free u.update u.update u.reading.filled (λ y is. is)
        (node_apart m u.free u.update Mark k 1 (unfree beside.place u beside.at)) of.filled;
    links = of.links;
  }

  -- a mark of a node that the update took out
  pub mark_kept : Rule z m' ws g
  mark_kept = record {
    numbers = λ n. sum_kept (number_count n) vs i v w at refl ∙ rule.numbers n;
    history = history_kept z _ g vs i v w at refl refl rule.history;
    slots = quiet z (linked_by g) HoldsNode (HoldsEntry g.bundles) vs i v w at rule.slots refl refl refl
        (record {
          nodes = λ j holds.
              inl (holds_same z m vs g rule i v at v.counts nodes v.held.nexts v.reading.place v.reading.above v.reading.links locks_same j holds);
          entries = λ x holds. inl (entry_same x holds);
        }) (record { number = refl; section = inl refl })
        (λ known. same_looks z (linked_by g) HoldsNode (HoldsEntry g.bundles) v w w refl refl known)
        (λ u beside known. same_looks z (linked_by g) HoldsNode (HoldsEntry g.bundles) v w u refl refl known);
    locks = λ j. sum_kept (lock_count j) vs i v w at (ap (count j) locks_same) ∙ rule.locks j;
    tree = rule.tree;
    marks = record {
      root = node_other m Mark Mark k 0 1 root_apart ∙ rule.marks.root;
      nodes = λ j some.
          node_other m Mark Mark k j 1 (λ is. omega (arith, unlinked, subst (λ n. 0 < count n (slots_of g.tree)) is some)) ∙ rule.marks.nodes j some;
    };
    bundles = λ j live side. bundle_weaker _ _ _ _ (IsPendingAt vs j) (IsPendingAt ws j) _ _
        (λ d. pending_moved vs i j d v w at refl (λ works. subst (λ xs. 0 < count j xs) (sym works_same) works))
        (rule.bundles j (live_moved z vs i j v w at (omega arith) live) side);
    pairs = pairs_same vs i v w at refl rule.pairs;
    single = λ d. omega (arith, sum_kept (pending_count d) vs i v w at refl, rule.single d);
    seats = all_moved (SeatRight z m g) (SeatRight z m' g) vs i v w at rule.seats own_now other_now;
  }
