-- A load of the tag of a plain link, and a store to one of a locked node, keep the rule.
use Rattle.std.proofs.Common.{◌≡◌, ℕ, ◌<◌, ◌⊎◌, cond, List, Bool, true, false, eqb, ◌&&◌, set, arith, refl, ap, ◌∙◌, sym, subst, inl, inr, Option, Some, None, map}
use Rattle.std.specs.Prelude.{IfSome}
use Rattle.std.proofs.lemmas.Bool.{eqb-true}
use Rattle.std.proofs.lemmas.Option.{IfSome_then}
use Rattle.index_words.specs.declared.layout.Layout.{Layout}
use Rattle.index_words.specs.declared.side.Side.{Side}
use Rattle.index_words.specs.declared.side.Side.TheVariants.{Left, Right}
use Rattle.index_words.specs.declared.view.View.{View}
use Rattle.index_words.specs.declared.view.history.Counts.{Counts}
use Rattle.index_words.specs.declared.view.reading.Link.{Link as ViewLink}
use Rattle.index_words.specs.declared.view.reading.LinkSource.{LinkSource}
use Rattle.index_words.specs.declared.view.reading.LinkSource.TheVariants.{Bundle, Plain}
use Rattle.index_words.specs.declared.view.update.HeldNode.{HeldNode}
use Rattle.index_words.specs.declared.word.Field.TheVariants.{Mark, Head, Tag}
use Rattle.index_words.specs.declared.word.Part.TheVariants.{Child, Stamp as Number}
use Rattle.index_words.specs.declared.word.Word.TheVariants.{Node, Entry}
use Rattle.index_words.specs.Words.{Memory, written, same_side}
use Rattle.key_map.specs.Lists.{count, IsItem}
use Rattle.index_words.proofs.Seats.{Beside, sum_kept, all_moved}
use Rattle.core_grace.specs.Sections.{is_even}
use Rattle.core_grace.specs.Holds.{Bundles, HoldsNode, HoldsEntry, held_slots, work_nodes}
use Rattle.core_grace.proofs.RuleMoves.{quiet, same_looks}
use Rattle.core_invariant.proofs.Pairs.{pairs_same}
use Rattle.core_invariant.specs.Meanings.{Meaning, linked_by}
use Rattle.core_invariant.specs.Numbers.{number_count}
use Rattle.core_invariant.specs.Locks.{lock_count, IsNodeAt, IsTakenOut}
use Rattle.core_invariant.specs.BundleRule.{IsPendingAt, IsPending, pending_count}
use Rattle.core_invariant.specs.SectionRule.{IsKeptLock}
use Rattle.core_invariant.specs.Readers.{SourceRight, LinkRight}
use Rattle.core_invariant.specs.SeatRule.{SeatRight}
use Rattle.core_events.specs.LoadMoves.{raised_if, with_held, with_place}
use Rattle.core_events.specs.PlainMoves.{tag_known, tag_known_at, tag_kept, tag_loaded, tag_moved}
use Rattle.core_events.specs.Searches.{tag_found, with_tag}
use Rattle.core_invariant.specs.Rule.{Rule}
use Rattle.core_invariant.proofs.Frames.{every_map, every_named, live_moved, pending_moved, bundle_weaker, every_mapped}
use Rattle.core_invariant.proofs.OneView.{history_kept, seat_at}
use Rattle.core_invariant.proofs.Owned.{free_not_live}
use Rattle.core_invariant.proofs.Filled.{node_other, every_filled, node_apart}
use Rattle.core_invariant.proofs.Locked.{locked_apart, locked_live, slots_tag}
use Rattle.core_invariant.proofs.ReadMoves.{read_kept, place_back, links_back, nexts_back, work_same, holds_same}
use Rattle.core_kept.proofs.WaitingLocks.{still_waits, tag_keeps}

-- what a load has found is known of a locked node
tag_right : (m : Memory) (k : ℕ) (side : Side) (x : ℕ) (h : HeldNode) (b : Bool) → eqb h.node k ≡ b → m (Node (Tag side) k) ≡ x → IsNodeAt m h
    → IsNodeAt m (cond b (tag_known side x h) h)
tag_right m k side x h false is found right = right
tag_right m k Left x h true is found right = record {
  key = right.key;
  val = right.val;
  mark = right.mark;
  left = record { head = right.left.head };
  right = right.right;
  plain = ((right.plain.0.0, ap (λ n. m (Node (Tag Left) n)) (eqb-true h.node k is) ∙ found), right.plain.1);
}
tag_right m k Right x h true is found right = record {
  key = right.key;
  val = right.val;
  mark = right.mark;
  left = right.left;
  right = record { head = right.right.head };
  plain = (right.plain.0, (right.plain.1.0, ap (λ n. m (Node (Tag Right) n)) (eqb-true h.node k is) ∙ found));
}

-- a tag that is kept with a link says nothing of its bundle
tagged_source : (reachable : Type 0) (child number : ℕ → ℕ) (es : List ℕ) (section : Option ℕ) (c x : ℕ) (s : LinkSource)
    → SourceRight reachable child number es section c s
    → SourceRight reachable child number es section c (tag_found x s)
tagged_source reachable child number es section c x (Bundle entry) right = right
tagged_source reachable child number es section c x (Plain None above below) right = tt
tagged_source reachable child number es section c x (Plain (Some tag) above below) right = tt

tagged_link : (z : Layout) (child : ℕ → ℕ) (b : Bundles) (w : View) (x : ℕ) (l : ViewLink) (here : Bool) → LinkRight z child b w l
    → LinkRight z child b w (cond here (record l { source = tag_found x l.source }) l)
tagged_link z child b w x l true right = tagged_source _ child b.number (b.bundle l.side l.node) w.reading.section l.child x l.source right
tagged_link z child b w x l false right = right

-- a load
pub tag_load_kept : (z : Layout) (m : Memory) (vs : List View) (g : Meaning) (i k : ℕ) (side : Side) (v : View) → Rule z m vs g → IsItem vs i v
    → is_even v.section_word ≡ false
    → Rule z m (set vs i (tag_loaded v k side (m (Node (Tag side) k)))) g
tag_load_kept z m vs g i k side v rule at inside =
    let x : ℕ = m (Node (Tag side) k) in
    let seat = seat_at z m vs g i v at rule in
    let nodes : List HeldNode = map (tag_known_at k side x) v.held.nodes in
    let links : List ViewLink = map (with_tag k side x) v.reading.links in
    let c : Counts = record v.counts { moves = raised_if (tag_moved v k side x) v.counts.moves } in
    let w : View = record (with_place (with_held v nodes v.held.nexts) v.reading.place v.reading.above links) { counts = c } in
    let same = slots_tag k side x v.held.nodes in
    let Right : ViewLink → Type 0 = LinkRight z (λ e. m (Entry Child e)) g.bundles w in
    read_kept z m vs g rule i v at c nodes v.held.nexts v.reading.place v.reading.above links same inside
    (every_mapped (IsNodeAt m) (IsNodeAt m) (tag_known_at k side x) v.held.nodes
    (λ h right. tag_right m k side x h (eqb h.node k) refl refl right) seat.loaded.nodes)
    (nexts_back z m vs g rule i v at c nodes v.held.nexts v.reading.place v.reading.above links same)
    (place_back z m vs g rule i v at c nodes v.held.nexts v.reading.place v.reading.above links same refl v.reading.place seat.place)
    (every_mapped Right Right (with_tag k side x) v.reading.links
    (λ l right. tagged_link z (λ e. m (Entry Child e)) g.bundles w x l (eqb l.node k && same_side l.side side) right)
    (links_back z m vs g rule i v at c nodes v.held.nexts v.reading.place v.reading.above links same))

-- what is known of a locked node after a store
tag_stored : (m : Memory) (k : ℕ) (side : Side) (x : ℕ) (h : HeldNode) (c : Bool) → eqb h.node k ≡ c → IsNodeAt m h
    → IsNodeAt (written m (Node (Tag side) k) x) (cond c (tag_known side x h) h)
tag_stored m k Left x h true is right = record {
  key = right.key;
  val = right.val;
  mark = right.mark;
  left = record { head = right.left.head };
  right = right.right;
  plain = ((right.plain.0.0, ap (λ b. cond b x (m (Node (Tag Left) h.node))) is), right.plain.1);
}
tag_stored m k Right x h true is right = record {
  key = right.key;
  val = right.val;
  mark = right.mark;
  left = right.left;
  right = record { head = right.right.head };
  plain = (right.plain.0, (right.plain.1.0, ap (λ b. cond b x (m (Node (Tag Right) h.node))) is));
}
tag_stored m k Left x h false is right = record {
  key = right.key;
  val = right.val;
  mark = right.mark;
  left = right.left;
  right = right.right;
  plain = ((right.plain.0.0, IfSome_then h.left.tag right.plain.0.1 (λ y known. ap (λ b. cond b x (m (Node (Tag Left) h.node))) is ∙ known)), right.plain.1);
}
tag_stored m k Right x h false is right = record {
  key = right.key;
  val = right.val;
  mark = right.mark;
  left = right.left;
  right = right.right;
  plain = (right.plain.0, (right.plain.1.0, IfSome_then h.right.tag right.plain.1.1 (λ y known. ap (λ b. cond b x (m (Node (Tag Right) h.node))) is ∙ known)));
}

-- a store, at a locked node
module _ (z : Layout) (m : Memory) (vs : List View) (g : Meaning) (rule : Rule z m vs g) (i k : ℕ) (side : Side) (x : ℕ) (v : View) (at : IsItem vs i v)
    (locked : 0 < lock_count k v) where
  abbrev m' : Memory
  m' = written m (Node (Tag side) k) x

  abbrev w : View
  w = tag_kept v k side x

  abbrev ws : List View
  ws = set vs i w

  abbrev nodes : List HeldNode
  nodes = map (tag_known_at k side x) v.held.nodes

  seat : SeatRight z m g v
  seat = seat_at z m vs g i v at rule

  locks_same : held_slots nodes ≡ held_slots v.held.nodes
  locks_same = slots_tag k side x v.held.nodes

  works_same : work_nodes w ≡ work_nodes v
  works_same = work_same z m vs g rule i v at v.counts nodes v.held.nexts v.reading.place v.reading.above v.reading.links locks_same

  entry_same : (d : ℕ) → HoldsEntry g.bundles w d → HoldsEntry g.bundles v d
  entry_same d (inl reads) = inl reads
  entry_same d (inr stands) =
      inr (record { node = stands.node; side = stands.side; of = subst (λ xs. 0 < count stands.node xs) works_same stands.of; here = stands.here })

  -- the node is not free
  unfree : (j : ℕ) (u : View) → IsItem vs j u → 0 < count k u.free.nodes → ⊥
  unfree j u of free = free_not_live z vs g rule.slots j k u of free (locked_live z m vs g rule i k v at locked)

  own_now : SeatRight z m' g w
  own_now = record {
    layout = seat.layout;
    section = record {
      section = seat.section.section;
      announced = seat.section.announced;
      outside = seat.section.outside;
      unlocked = λ even.
          still_waits v nodes (λ none. omega (arith, locked, ap (λ (hs : List HeldNode). count k (held_slots hs)) none))
          (every_mapped (IsKeptLock v.update.taken) (IsKeptLock v.update.taken) (tag_known_at k side x) v.held.nodes
          (λ h is. tag_keeps v.update.taken side (eqb h.node k) x h is)) (seat.section.unlocked even);
      done = λ none. absurd (omega (arith, locked, ap (count k) locks_same, ap (λ (hs : List HeldNode). count k (held_slots hs)) none));
      waits = seat.section.waits;
    };
    seen = seat.seen;
    update = seat.update;
    version = seat.version;
    announced = seat.announced;
    tree = seat.tree;
    locks = λ j held. seat.locks j (subst (λ xs. 0 < count j xs) locks_same held);
    loaded = record {
      nodes = every_mapped (IsNodeAt m) (IsNodeAt m')
          (tag_known_at k side x) v.held.nodes (λ h right. tag_stored m k side x h (eqb h.node k) refl right) seat.loaded.nodes;
      nexts = nexts_back z m vs g rule i v at v.counts nodes v.held.nexts v.reading.place v.reading.above v.reading.links locks_same;
    };
    marks = record {
      retired = λ j waits. elim (seat.marks.retired j waits) as (λ _. (m (Node Mark j) ≡ 1) ⊎ IsTakenOut w j) [
        | inl marked ↦ inl marked
        | inr out ↦ inr (out.0, out.1, subst (λ xs. 0 < count j xs) (sym locks_same) out.2)
      ];
      batch = seat.marks.batch;
      taken = seat.marks.taken;
    };
    pending =
        every_map (IsPending z (λ s j. m (Node (Head s) j)) (λ d. m (Entry Number d)) g.bundles.number v)
        (IsPending z (λ s j. m (Node (Head s) j)) (λ d. m (Entry Number d)) g.bundles.number w) v.update.pending
        (λ d old. (
          old.0,
          old.1,
          record {
            node = old.2.node;
            side = old.2.side;
            there = old.2.there;
            is = old.2.is;
            some = old.2.some;
            of = subst (λ xs. 0 < count old.2.node xs) (sym works_same) old.2.of;
          },
        )) seat.pending;
    place =
        place_back z m vs g rule i v at v.counts nodes v.held.nexts v.reading.place v.reading.above v.reading.links locks_same refl v.reading.place seat.place;
    filled =
        every_filled m m' v.free v.free v.update v.update v.reading.filled (λ y is. is)
        (node_apart m v.free v.update (Tag side) k x (unfree i v at)) seat.filled;
    links = links_back z m vs g rule i v at v.counts nodes v.held.nexts v.reading.place v.reading.above v.reading.links locks_same;
  }

  holder_apart : (u : View) (h : HeldNode) → Beside vs i u → 0 < lock_count h.node u → h.node ≡ k → ⊥
  holder_apart u h beside held is =
      omega (arith, locked_apart z m vs g rule i k v u at beside locked, subst (λ n. 0 < lock_count n u) is held)

  other_side : (u : View) (h : HeldNode) (s : Side) → Beside vs i u → 0 < lock_count h.node u → (known : Option ℕ)
      → IfSome known (λ n. m (Node (Tag s) h.node) ≡ n) → IfSome known (λ n. m' (Node (Tag s) h.node) ≡ n)
  other_side u h s beside held known old =
      IfSome_then known old (λ n is. node_other m (Tag side) (Tag s) k h.node x (holder_apart u h beside held) ∙ is)

  other_now : (u : View) → Beside vs i u → SeatRight z m g u → SeatRight z m' g u
  other_now u beside of = record {
    layout = of.layout;
    section = of.section;
    seen = of.seen;
    update = of.update;
    version = of.version;
    announced = of.announced;
    tree = of.tree;
    locks = of.locks;
    loaded = record {
      nodes = every_named (λ (h : HeldNode). h.node) (IsNodeAt m) (IsNodeAt m') u.held.nodes
          (λ h held is. record {
            key = is.key;
            val = is.val;
            mark = is.mark;
            left = is.left;
            right = is.right;
            plain = (
              (is.plain.0.0, other_side u h Left beside held h.left.tag is.plain.0.1),
              (is.plain.1.0, other_side u h Right beside held h.right.tag is.plain.1.1),
            );
          }) of.loaded.nodes;
      nexts = of.loaded.nexts;
    };
    marks = of.marks;
    pending = of.pending;
    place = of.place;
    filled =
        every_filled m m' u.free u.free u.update u.update u.reading.filled (λ y is. is)
        (node_apart m u.free u.update (Tag side) k x (unfree beside.place u beside.at)) of.filled;
    links = of.links;
  }

  pub tag_store_kept : Rule z m' ws g
  tag_store_kept = record {
    numbers = λ n. sum_kept (number_count n) vs i v w at refl ∙ rule.numbers n;
    history = history_kept z _ g vs i v w at refl refl rule.history;
    slots = quiet z (linked_by g) HoldsNode (HoldsEntry g.bundles) vs i v w at rule.slots refl refl refl
        (record {
          nodes = λ j holds.
              inl (holds_same z m vs g rule i v at v.counts nodes v.held.nexts v.reading.place v.reading.above v.reading.links locks_same j holds);
          entries = λ d holds. inl (entry_same d holds);
        }) (record { number = refl; section = inl refl })
        (λ known. same_looks z (linked_by g) HoldsNode (HoldsEntry g.bundles) v w w refl refl known)
        (λ u beside known. same_looks z (linked_by g) HoldsNode (HoldsEntry g.bundles) v w u refl refl known);
    locks = λ j. sum_kept (lock_count j) vs i v w at (ap (count j) locks_same) ∙ rule.locks j;
    tree = rule.tree;
    marks = rule.marks;
    bundles = λ j live s. bundle_weaker _ _ _ _ (IsPendingAt vs j) (IsPendingAt ws j) _ _
        (λ d. pending_moved vs i j d v w at refl (λ works. subst (λ xs. 0 < count j xs) (sym works_same) works))
        (rule.bundles j (live_moved z vs i j v w at (omega arith) live) s);
    pairs = pairs_same vs i v w at refl rule.pairs;
    single = λ d. omega (arith, sum_kept (pending_count d) vs i v w at refl, rule.single d);
    seats = all_moved (SeatRight z m g) (SeatRight z m' g) vs i v w at rule.seats own_now other_now;
  }
