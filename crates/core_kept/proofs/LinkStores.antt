-- A load of a plain link, and a store to one of a locked node, keep the rule.
use Rattle.std.proofs.Common.{◌≡◌, ℕ, ◌<◌, ◌⊎◌, cond, List, [], ◌∷◌, ◌++◌, Bool, true, false, eqb, set, arith, refl, ap, ◌∙◌, sym, subst, inl, inr, Option, None, map}
use Rattle.std.specs.Prelude.{IfSome}
use Rattle.std.proofs.lemmas.Bool.{eqb-true}
use Rattle.std.proofs.lemmas.Option.{IfSome_then}
use Rattle.index_words.specs.declared.layout.Layout.{Layout}
use Rattle.index_words.specs.declared.side.Side.{Side}
use Rattle.index_words.specs.declared.side.Side.TheVariants.{Left, Right}
use Rattle.index_words.specs.declared.view.View.{View}
use Rattle.index_words.specs.declared.view.history.Counts.{Counts}
use Rattle.index_words.specs.declared.view.reading.Place.{Place}
use Rattle.index_words.specs.declared.view.reading.Place.TheVariants.{Node as AtNode, Gap}
use Rattle.index_words.specs.declared.view.reading.Link.{Link as ViewLink}
use Rattle.index_words.specs.declared.view.update.HeldNode.{HeldNode}
use Rattle.index_words.specs.declared.word.Field.TheVariants.{Mark, Head, Link}
use Rattle.index_words.specs.declared.word.Part.TheVariants.{Child, Stamp as Number}
use Rattle.index_words.specs.declared.word.Word.TheVariants.{Node, Entry}
use Rattle.index_words.specs.Words.{Memory, written}
use Rattle.key_map.specs.Lists.{count, Every, IsItem}
use Rattle.index_words.proofs.Seats.{Beside, sum_kept, all_moved}
use Rattle.core_grace.specs.Sections.{is_even}
use Rattle.core_grace.specs.Holds.{Bundles, HoldsNode, HoldsEntry, held_slots, work_nodes}
use Rattle.core_grace.proofs.RuleMoves.{every_push, quiet, same_looks}
use Rattle.core_invariant.proofs.Pairs.{pairs_same}
use Rattle.core_invariant.specs.Meanings.{Meaning, linked_by}
use Rattle.core_invariant.specs.Numbers.{number_count}
use Rattle.core_invariant.specs.Locks.{lock_count, IsNodeAt, IsTakenOut}
use Rattle.core_invariant.specs.BundleRule.{IsPendingAt, IsPending, pending_count}
use Rattle.core_invariant.specs.SectionRule.{IsKeptLock}
use Rattle.core_invariant.specs.Readers.{PlaceRight, LinkRight}
use Rattle.core_invariant.specs.SeatRule.{SeatRight}
use Rattle.core_events.specs.LoadMoves.{raised_if, with_held, with_place}
use Rattle.core_events.specs.PlainMoves.{link_known, link_known_at, link_kept, link_loaded, link_moved}
use Rattle.core_events.specs.Searches.{turn_key, searches_at, walked, left_turn_after, right_turn_after, place_after, plain_link}
use Rattle.core_invariant.specs.Rule.{Rule}
use Rattle.core_invariant.proofs.Frames.{every_map, every_named, live_moved, pending_moved, bundle_weaker, every_mapped}
use Rattle.core_invariant.proofs.OneView.{history_kept, seat_at}
use Rattle.core_invariant.proofs.Owned.{free_not_live}
use Rattle.core_invariant.proofs.Filled.{node_other, every_filled, node_apart}
use Rattle.core_invariant.proofs.Locked.{locked_apart, locked_live, slots_link}
use Rattle.core_invariant.proofs.ReadMoves.{read_kept, place_back, links_back, nexts_back, work_same, holds_same}
use Rattle.core_kept.proofs.Turns.{turned_too}
use Rattle.core_kept.proofs.WaitingLocks.{still_waits, link_keeps}

-- what a load has found is known of a locked node
link_right : (m : Memory) (k : ℕ) (side : Side) (x : ℕ) (h : HeldNode) (b : Bool) → eqb h.node k ≡ b → m (Node (Link side) k) ≡ x → IsNodeAt m h
    → IsNodeAt m (cond b (link_known side x h) h)
link_right m k side x h false is found right = right
link_right m k Left x h true is found right = record {
  key = right.key;
  val = right.val;
  mark = right.mark;
  left = record { head = right.left.head };
  right = right.right;
  plain = ((ap (λ n. m (Node (Link Left) n)) (eqb-true h.node k is) ∙ found, right.plain.0.1), right.plain.1);
}
link_right m k Right x h true is found right = record {
  key = right.key;
  val = right.val;
  mark = right.mark;
  left = right.left;
  right = record { head = right.right.head };
  plain = (right.plain.0, (ap (λ n. m (Node (Link Right) n)) (eqb-true h.node k is) ∙ found, right.plain.1.1));
}

-- a place that is at no entry
no_entry : (z : Layout) (stamp : ℕ → ℕ) (b : Bundles) (v : View) (k x : ℕ) (side : Side) (ends : Bool)
    → PlaceRight z stamp b v (cond ends (Gap k side) (AtNode x None))
no_entry z stamp b v k x side true = tt
no_entry z stamp b v k x side false = tt

-- the view after a load, where the search goes on by the link or stays
abbrev load_view : View → Counts → ℕ → Side → ℕ → Bool → View
load_view v c k side x goes = record (link_kept v k side x) { reading = walked goes v.reading k side x; counts = c }

module _ (z : Layout) (m : Memory) (vs : List View) (g : Meaning) (rule : Rule z m vs g) (i k : ℕ) (side : Side) (v : View) (at : IsItem vs i v)
    (inside : is_even v.section_word ≡ false) (c : Counts) where
  abbrev found : ℕ
  found = m (Node (Link side) k)

  abbrev with_link : List HeldNode
  with_link = map (link_known_at k side found) v.held.nodes

  abbrev more : ViewLink
  more = plain_link k side found (turn_key (left_turn_after side v.reading)) (turn_key (right_turn_after side v.reading))

  link_same : held_slots with_link ≡ held_slots v.held.nodes
  link_same = slots_link k side found v.held.nodes

  nodes_known : Every (IsNodeAt m) with_link
  nodes_known =
      every_mapped (IsNodeAt m) (IsNodeAt m) (link_known_at k side found) v.held.nodes (λ h right. link_right m k side found h (eqb h.node k) refl refl right)
      (seat_at z m vs g i v at rule).loaded.nodes

  load_by : (goes : Bool) → Rule z m (set vs i (load_view v c k side found goes)) g
  load_by false =
      read_kept z m vs g rule i v at c with_link v.held.nexts v.reading.place v.reading.above v.reading.links link_same inside nodes_known
      (nexts_back z m vs g rule i v at c with_link v.held.nexts v.reading.place v.reading.above v.reading.links link_same)
      (place_back z m vs g rule i v at c with_link v.held.nexts v.reading.place v.reading.above v.reading.links link_same refl v.reading.place
      (seat_at z m vs g i v at rule).place)
      (links_back z m vs g rule i v at c with_link v.held.nexts v.reading.place v.reading.above v.reading.links link_same)
  load_by true =
      let place : Place = place_after k side found in
      let links : List ViewLink = v.reading.links ++ more ∷ [] in
      let w : View = record (with_place (with_held v with_link v.held.nexts) place None links) { counts = c } in
      turned_too z m vs g i v w (left_turn_after side v.reading) (right_turn_after side v.reading) at inside
      (read_kept z m vs g rule i v at c with_link v.held.nexts place None links link_same inside nodes_known
      (nexts_back z m vs g rule i v at c with_link v.held.nexts place None links link_same)
      (no_entry z (λ e. m (Entry Number e)) g.bundles w k found side (eqb found 0))
      (every_push (LinkRight z (λ e. m (Entry Child e)) g.bundles w) v.reading.links more
      (links_back z m vs g rule i v at c with_link v.held.nexts place None links link_same) tt))

-- a load
pub link_load_kept : (z : Layout) (m : Memory) (vs : List View) (g : Meaning) (i k : ℕ) (side : Side) (v : View) → Rule z m vs g → IsItem vs i v
    → is_even v.section_word ≡ false
    → Rule z m (set vs i (link_loaded v k side (m (Node (Link side) k)))) g
link_load_kept z m vs g i k side v rule at inside =
    load_by z m vs g rule i k side v at inside (record v.counts { moves = raised_if (link_moved v k side (m (Node (Link side) k))) v.counts.moves })
    (searches_at v.reading v.reading.place k side)

-- what is known of a locked node after a store
link_stored : (m : Memory) (k : ℕ) (side : Side) (x : ℕ) (h : HeldNode) (c : Bool) → eqb h.node k ≡ c → IsNodeAt m h
    → IsNodeAt (written m (Node (Link side) k) x) (cond c (link_known side x h) h)
link_stored m k Left x h true is right = record {
  key = right.key;
  val = right.val;
  mark = right.mark;
  left = record { head = right.left.head };
  right = right.right;
  plain = ((ap (λ b. cond b x (m (Node (Link Left) h.node))) is, right.plain.0.1), right.plain.1);
}
link_stored m k Right x h true is right = record {
  key = right.key;
  val = right.val;
  mark = right.mark;
  left = right.left;
  right = record { head = right.right.head };
  plain = (right.plain.0, (ap (λ b. cond b x (m (Node (Link Right) h.node))) is, right.plain.1.1));
}
link_stored m k Left x h false is right = record {
  key = right.key;
  val = right.val;
  mark = right.mark;
  left = right.left;
  right = right.right;
  plain = ((IfSome_then h.left.link right.plain.0.0 (λ y known. ap (λ b. cond b x (m (Node (Link Left) h.node))) is ∙ known), right.plain.0.1), right.plain.1);
}
link_stored m k Right x h false is right = record {
  key = right.key;
  val = right.val;
  mark = right.mark;
  left = right.left;
  right = right.right;
  plain =
      (right.plain.0, (IfSome_then h.right.link right.plain.1.0 (λ y known. ap (λ b. cond b x (m (Node (Link Right) h.node))) is ∙ known), right.plain.1.1));
}

-- a store, at a locked node
module _ (z : Layout) (m : Memory) (vs : List View) (g : Meaning) (rule : Rule z m vs g) (i k : ℕ) (side : Side) (x : ℕ) (v : View) (at : IsItem vs i v)
    (locked : 0 < lock_count k v) where
  abbrev m' : Memory
  m' = written m (Node (Link side) k) x

  abbrev w : View
  w = link_kept v k side x

  abbrev ws : List View
  ws = set vs i w

  abbrev nodes : List HeldNode
  nodes = map (link_known_at k side x) v.held.nodes

  seat : SeatRight z m g v
  seat = seat_at z m vs g i v at rule

  locks_same : held_slots nodes ≡ held_slots v.held.nodes
  locks_same = slots_link k side x v.held.nodes

  works_same : work_nodes w ≡ work_nodes v
  works_same = work_same z m vs g rule i v at v.counts nodes v.held.nexts v.reading.place v.reading.above v.reading.links locks_same

  entry_same : (d : ℕ) → HoldsEntry g.bundles w d → HoldsEntry g.bundles v d
  entry_same d (inl reads) = inl reads
  entry_same d (inr stands) =
      inr (record { node = stands.node; side = stands.side; of = subst (λ xs. 0 < count stands.node xs) works_same stands.of; here = stands.here })

  -- the node is not free
  unfree : (j : ℕ) (u : View) → IsItem vs j u → 0 < count k u.free.nodes → ⊥
  unfree j u of free = free_not_live z vs g rule.slots j k u of free (locked_live z m vs g rule i k v at locked)

  own_now : SeatRight z m' g w
  own_now = record {
    layout = seat.layout;
    section = record {
      section = seat.section.section;
      announced = seat.section.announced;
      outside = seat.section.outside;
      unlocked = λ even.
          still_waits v nodes (λ none. omega (arith, locked, ap (λ (hs : List HeldNode). count k (held_slots hs)) none))
          (every_mapped (IsKeptLock v.update.taken) (IsKeptLock v.update.taken) (link_known_at k side x) v.held.nodes
          (λ h is. link_keeps v.update.taken side (eqb h.node k) x h is)) (seat.section.unlocked even);
      done = λ none. absurd (omega (arith, locked, ap (count k) locks_same, ap (λ (hs : List HeldNode). count k (held_slots hs)) none));
      waits = seat.section.waits;
    };
    seen = seat.seen;
    update = seat.update;
    version = seat.version;
    announced = seat.announced;
    tree = seat.tree;
    locks = λ j held. seat.locks j (subst (λ xs. 0 < count j xs) locks_same held);
    loaded = record {
      nodes = every_mapped (IsNodeAt m) (IsNodeAt m')
          (link_known_at k side x) v.held.nodes (λ h right. link_stored m k side x h (eqb h.node k) refl right) seat.loaded.nodes;
      nexts = nexts_back z m vs g rule i v at v.counts nodes v.held.nexts v.reading.place v.reading.above v.reading.links locks_same;
    };
    marks = record {
      retired = λ j waits. elim (seat.marks.retired j waits) as (λ _. (m (Node Mark j) ≡ 1) ⊎ IsTakenOut w j) [
        | inl marked ↦ inl marked
        | inr out ↦ inr (out.0, out.1, subst (λ xs. 0 < count j xs) (sym locks_same) out.2)
      ];
      batch = seat.marks.batch;
      taken = seat.marks.taken;
    };
    pending =
        every_map (IsPending z (λ s j. m (Node (Head s) j)) (λ d. m (Entry Number d)) g.bundles.number v)
        (IsPending z (λ s j. m (Node (Head s) j)) (λ d. m (Entry Number d)) g.bundles.number w) v.update.pending
        (λ d old. (
          old.0,
          old.1,
          record {
            node = old.2.node;
            side = old.2.side;
            there = old.2.there;
            is = old.2.is;
            some = old.2.some;
            of = subst (λ xs. 0 < count old.2.node xs) (sym works_same) old.2.of;
          },
        )) seat.pending;
    place =
        place_back z m vs g rule i v at v.counts nodes v.held.nexts v.reading.place v.reading.above v.reading.links locks_same refl v.reading.place seat.place;
    filled =
        every_filled m m' v.free v.free v.update v.update v.reading.filled (λ y is. is)
        (node_apart m v.free v.update (Link side) k x (unfree i v at)) seat.filled;
    links = links_back z m vs g rule i v at v.counts nodes v.held.nexts v.reading.place v.reading.above v.reading.links locks_same;
  }

  holder_apart : (u : View) (h : HeldNode) → Beside vs i u → 0 < lock_count h.node u → h.node ≡ k → ⊥
  holder_apart u h beside held is =
      omega (arith, locked_apart z m vs g rule i k v u at beside locked, subst (λ n. 0 < lock_count n u) is held)

  other_side : (u : View) (h : HeldNode) (s : Side) → Beside vs i u → 0 < lock_count h.node u → (known : Option ℕ)
      → IfSome known (λ n. m (Node (Link s) h.node) ≡ n) → IfSome known (λ n. m' (Node (Link s) h.node) ≡ n)
  other_side u h s beside held known old =
      IfSome_then known old (λ n is. node_other m (Link side) (Link s) k h.node x (holder_apart u h beside held) ∙ is)

  other_now : (u : View) → Beside vs i u → SeatRight z m g u → SeatRight z m' g u
  other_now u beside of = record {
    layout = of.layout;
    section = of.section;
    seen = of.seen;
    update = of.update;
    version = of.version;
    announced = of.announced;
    tree = of.tree;
    locks = of.locks;
    loaded = record {
      nodes = every_named (λ (h : HeldNode). h.node) (IsNodeAt m) (IsNodeAt m') u.held.nodes
          (λ h held is. record {
            key = is.key;
            val = is.val;
            mark = is.mark;
            left = is.left;
            right = is.right;
            plain = (
              (other_side u h Left beside held h.left.link is.plain.0.0, is.plain.0.1),
              (other_side u h Right beside held h.right.link is.plain.1.0, is.plain.1.1),
            );
          }) of.loaded.nodes;
      nexts = of.loaded.nexts;
    };
    marks = of.marks;
    pending = of.pending;
    place = of.place;
    filled =
        every_filled m m' u.free u.free u.update u.update u.reading.filled (λ y is. is)
        (node_apart m u.free u.update (Link side) k x (unfree beside.place u beside.at)) of.filled;
    links = of.links;
  }

  pub link_store_kept : Rule z m' ws g
  link_store_kept = record {
    numbers = λ n. sum_kept (number_count n) vs i v w at refl ∙ rule.numbers n;
    history = history_kept z _ g vs i v w at refl refl rule.history;
    slots = quiet z (linked_by g) HoldsNode (HoldsEntry g.bundles) vs i v w at rule.slots refl refl refl
        (record {
          nodes = λ j holds.
              inl (holds_same z m vs g rule i v at v.counts nodes v.held.nexts v.reading.place v.reading.above v.reading.links locks_same j holds);
          entries = λ d holds. inl (entry_same d holds);
        }) (record { number = refl; section = inl refl })
        (λ known. same_looks z (linked_by g) HoldsNode (HoldsEntry g.bundles) v w w refl refl known)
        (λ u beside known. same_looks z (linked_by g) HoldsNode (HoldsEntry g.bundles) v w u refl refl known);
    locks = λ j. sum_kept (lock_count j) vs i v w at (ap (count j) locks_same) ∙ rule.locks j;
    tree = rule.tree;
    marks = rule.marks;
    bundles = λ j live s. bundle_weaker _ _ _ _ (IsPendingAt vs j) (IsPendingAt ws j) _ _
        (λ d. pending_moved vs i j d v w at refl (λ works. subst (λ xs. 0 < count j xs) (sym works_same) works))
        (rule.bundles j (live_moved z vs i j v w at (omega arith) live) s);
    pairs = pairs_same vs i v w at refl rule.pairs;
    single = λ d. omega (arith, sum_kept (pending_count d) vs i v w at refl, rule.single d);
    seats = all_moved (SeatRight z m g) (SeatRight z m' g) vs i v w at rule.seats own_now other_now;
  }
