-- A store to a word of a free slot keeps the rule: no part of it reads such a word.
use Rattle.std.proofs.Common.{◌≡◌, ℕ, ◌<◌, ◌≤◌, ◌⊎◌, cond, List, false, eqb, arith, refl, ap, ◌∙◌, sym, subst, inl, inr, Option, Some, None}
use Rattle.std.proofs.lemmas.Bool.Decides.{eqb_tells}
use Rattle.std.proofs.lemmas.Option.{IfSome_then}
use Rattle.index_words.specs.declared.layout.Layout.{Layout}
use Rattle.index_words.specs.declared.side.Side.{Side}
use Rattle.index_words.specs.declared.side.Side.TheVariants.{Left, Right}
use Rattle.index_words.specs.declared.view.View.{View}
use Rattle.index_words.specs.declared.view.update.HeldNode.{HeldNode}
use Rattle.index_words.specs.declared.view.update.HeldSide.{HeldSide}
use Rattle.index_words.specs.declared.view.update.LoadedHead.{LoadedHead}
use Rattle.index_words.specs.declared.view.reading.Place.{Place}
use Rattle.index_words.specs.declared.view.reading.Place.TheVariants.{Entry as AtEntry}
use Rattle.index_words.specs.declared.view.reading.Link.{Link}
use Rattle.index_words.specs.declared.view.reading.LinkSource.{LinkSource}
use Rattle.index_words.specs.declared.view.reading.LinkSource.TheVariants.{Bundle, Plain}
use Rattle.index_words.specs.declared.word.Field.{Field}
use Rattle.index_words.specs.declared.word.Field.TheVariants.{Key, Val, Lock, Mark, Head, Link as PlainLink, Tag}
use Rattle.index_words.specs.declared.word.Part.{Part}
use Rattle.index_words.specs.declared.word.Part.TheVariants.{Child, Stamp as Number, Next}
use Rattle.index_words.specs.declared.word.Word.TheVariants.{Node, Entry, Stamp}
use Rattle.index_words.specs.Words.{Memory, written}
use Rattle.key_map.specs.Lists.{count, Every, IsItem}
use Rattle.index_words.proofs.Seats.{two_terms}
use Rattle.core_grace.specs.Holds.{HoldsNode, entries_of}
use Rattle.core_grace.specs.Slots.{own, nodes_of, entries_in}
use Rattle.core_links.specs.Bundle.{select, child_of_entry}
use Rattle.core_events.specs.Versions.{slots_of}
use Rattle.core_invariant.specs.Meanings.{Meaning}
use Rattle.core_events.specs.Needs.{is_lock}
use Rattle.core_invariant.specs.Locks.{NamesHolder, lock_count, HeadRight, SideRight, PlainSide, IsNodeAt, IsNextAt, IsTakenOut}
use Rattle.core_invariant.specs.BundleRule.{IsLive, IsPendingAt, IsBundle, BundleRight, IsPending}
use Rattle.core_invariant.specs.Readers.{IsReachable, StandsAt, IsPassed, PlaceRight, EntryRight, SourceRight, LinkRight}
use Rattle.core_invariant.specs.FilledRule.{FilledRight}
use Rattle.core_invariant.specs.SeatRule.{SeatRight}
use Rattle.core_invariant.specs.Rule.{Rule}
use Rattle.core_invariant.proofs.Frames.{every_map, every_named, every_at, all_items, same_item, count-middle}
use Rattle.core_invariant.proofs.Filled.{node_other, entry_other, every_filled, node_apart, entry_apart, IsNotAmong, not_among}
use Rattle.core_invariant.proofs.BundleFrames.{bundle_frame, select_in}
use Rattle.core_invariant.proofs.Owned.{in_entries, once_node, once_entry, free_node_alone, free_node_waits, not_in_bundle, held_live, free_not_live, reachable_live}
use Rattle.core_invariant.proofs.Owned.{head_apart}
use Rattle.core_invariant.proofs.TreeNow.{SameNode, child_at, version_frame, reads_frame, linked_live, read_live}
use Rattle.core_invariant.proofs.Locked.{held_holds, work_holds}

-- the lock words are not filled
lock_other : (m : Memory) (f : Field) (k j x : ℕ) → is_lock f ≡ false → written m (Node f k) x (Node Lock j) ≡ m (Node Lock j)
lock_other m Lock k j x other = cc
lock_other m _ k j x other = refl

-- a head that is read of another node is the same
head_frame : (head head' : ℕ) (stamp : ℕ → ℕ) (s : HeldSide) → head' ≡ head → SideRight head stamp s → SideRight head' stamp s
head_frame head head' stamp s same right = subst (λ h. SideRight h stamp s) (sym same) right

child_none : (child child' : ℕ → ℕ) (entry : ℕ) → entry ≡ 0 → child_of_entry child' entry ≡ child_of_entry child entry
child_none child child' entry none = subst (λ d. child_of_entry child' d ≡ child_of_entry child d) (sym none) refl

module _ (z : Layout) (m : Memory) (vs : List View) (g : Meaning) (rule : Rule z m vs g) where
  -- a live node is not the free one
  apart : (i k j : ℕ) (v : View) → IsItem vs i v → 0 < count k v.free.nodes → IsLive z vs j → j ≡ k → ⊥
  apart i k j v at free live same = free_not_live z vs g rule.slots i k v at free (subst (IsLive z vs) same live)

  held_apart : (i k j n : ℕ) (v u : View) → IsItem vs i v → 0 < count k v.free.nodes → IsItem vs n u → HoldsNode u j → j ≤ z.nodes → j ≡ k → ⊥
  held_apart i k j n v u at free of holds high = apart i k j v at free (held_live z vs g rule.slots n j u of holds high)

  -- the same is read of a live node, at each number
  node_same : (i k t j : ℕ) (v : View) (f : Field) (x : ℕ) → IsItem vs i v → 0 < count k v.free.nodes → IsLive z vs j
      → SameNode m (written m (Node f k) x) g.bundles g.bundles t j
  node_same i k t j v f x at free live =
      let other : j ≡ k → ⊥ = apart i k j v at free live in
      record { key = sym (node_other m f Key k j x other); val = sym (node_other m f Val k j x other); entry = λ side. refl; child = λ side. refl }

  -- what another seat has filled, and what the seat itself has put into other words
  node_filled : (i k n : ℕ) (v u : View) (f : Field) (x : ℕ) → IsItem vs i v → 0 < count k v.free.nodes → IsNotAmong (Node f k) v.reading.filled → IsItem vs n u
      → Every (FilledRight m u.free u.update) u.reading.filled → Every (FilledRight (written m (Node f k) x) u.free u.update) u.reading.filled
  node_filled i k n v u f x at free fresh of right =
      elim (eqb_tells n i) as (λ _. Every (FilledRight (written m (Node f k) x) u.free u.update) u.reading.filled) [
        | inl same ↦
            not_among m u.free u.update (Node f k) x u.reading.filled
            (subst (λ (y : View). IsNotAmong (Node f k) y.reading.filled) (same_item vs i n v u at of same.1) fresh) right
        | inr other ↦ every_filled m (written m (Node f k) x) u.free u.free u.update u.update u.reading.filled (λ w is. is)
            (node_apart m u.free u.update f k x
            (λ also. omega (
              arith,
              once_node z vs g rule.slots k,
              two_terms (own nodes_of k) vs i v u at (record { place = n; at = of; other = other.1 }),
              free,
              also,
            ))) right
      ]

  node_seat : (i k n : ℕ) (v u : View) (f : Field) (x : ℕ) → IsItem vs i v → 0 < count k v.free.nodes → is_lock f ≡ false
      → IsNotAmong (Node f k) v.reading.filled → IsItem vs n u
      → SeatRight z m g u → SeatRight z (written m (Node f k) x) g u
  node_seat i k n v u f x at free other fresh of seat =
      let held : (j : ℕ) → 0 < lock_count j u → j ≡ k → ⊥ = λ j some. held_apart i k j n v u at free of (held_holds u j some) (seat.locks j some).0 in
      let waits = free_node_waits z vs g rule.slots i n k v u at of free in
      let plain_side : (side : Side) (h : HeldNode) → 0 < lock_count h.node u → (s : HeldSide)
      → PlainSide (m (Node (PlainLink side) h.node)) (m (Node (Tag side) h.node)) s.link s.tag
      → PlainSide (written m (Node f k) x (Node (PlainLink side) h.node)) (written m (Node f k) x (Node (Tag side) h.node)) s.link s.tag
      = λ side h some s right. (
        IfSome_then s.link right.0 (λ y is. node_other m f (PlainLink side) k h.node x (held h.node some) ∙ is),
        IfSome_then s.tag right.1 (λ y is. node_other m f (Tag side) k h.node x (held h.node some) ∙ is),
      ) in
      record {
        layout = seat.layout;
        section = seat.section;
        seen = seat.seen;
        update = seat.update;
        version = seat.version;
        announced = seat.announced;
        tree = reads_frame m (written m (Node f k) x) g.bundles g.bundles (λ t. t ≤ m Stamp) g.updates (m Stamp) g.tree u.reading.tree u.reading.section
            (λ t j past here. node_same i k t j v f x at free (read_live z vs g rule.slots (m Stamp) n j u of seat.version here))
            (omega arith) seat.version.past seat.tree;
        locks = λ j some. ((seat.locks j some).0, subst (λ l. NamesHolder l u.number) (sym (lock_other m f k j x other)) (seat.locks j some).1);
        loaded = record {
          nodes = every_named (λ (h : HeldNode). h.node)
              (IsNodeAt m)
              (IsNodeAt (written m (Node f k) x))
              u.held.nodes
              (λ h some right. record {
                key = IfSome_then h.key right.key (λ y is. node_other m f Key k h.node x (held h.node some) ∙ is);
                val = IfSome_then h.val right.val (λ y is. node_other m f Val k h.node x (held h.node some) ∙ is);
                mark = IfSome_then h.mark right.mark (λ y is. node_other m f Mark k h.node x (held h.node some) ∙ is);
                left = head_frame _ _ (λ e. m (Entry Number e)) h.left (node_other m f (Head Left) k h.node x (held h.node some)) right.left;
                right = head_frame _ _ (λ e. m (Entry Number e)) h.right (node_other m f (Head Right) k h.node x (held h.node some)) right.right;
                plain = (plain_side Left h some h.left right.plain.0, plain_side Right h some h.right right.plain.1);
              }) seat.loaded.nodes;
          nexts = seat.loaded.nexts;
        };
        marks = record {
          retired = λ j some. elim (seat.marks.retired j some) as (λ _. (written m (Node f k) x (Node Mark j) ≡ 1) ⊎ IsTakenOut u j) [
            | inl marked ↦ inl (node_other m f Mark k j x (λ same. omega (arith, waits, subst (λ y. 0 < count y u.retired.nodes) same some)) ∙ marked)
            | inr out ↦ inr out
          ];
          batch = λ j some.
              node_other m f Mark k j x (λ same. omega (arith, waits, subst (λ y. 0 < count y u.batch.nodes) same some)) ∙ seat.marks.batch j some;
          taken = seat.marks.taken;
        };
        pending = every_map
            (IsPending z (λ s j. m (Node (Head s) j)) (λ e. m (Entry Number e)) g.bundles.number u)
            (IsPending z (λ s j. written m (Node f k) x (Node (Head s) j)) (λ e. m (Entry Number e)) g.bundles.number u)
            u.update.pending
            (λ e right. (
              right.0,
              right.1,
              record {
                node = right.2.node;
                side = right.2.side;
                there = right.2.there;
                is =
                    node_other m f (Head right.2.side) k right.2.node x
                    (held_apart i k right.2.node n v u at free of (work_holds u right.2.node right.2.of) right.2.there) ∙ right.2.is;
                some = right.2.some;
                of = right.2.of;
              },
            )) seat.pending;
        place = seat.place;
        filled = node_filled i k n v u f x at free fresh of seat.filled;
        links = seat.links;
      }

  -- a store to a word of a free node, but for its lock
  pub node_stored : (i k : ℕ) (v : View) (f : Field) (x : ℕ) → IsItem vs i v → 0 < count k v.free.nodes → is_lock f ≡ false
      → IsNotAmong (Node f k) v.reading.filled
      → Rule z (written m (Node f k) x) vs g
  node_stored i k v f x at free other fresh =
      let alone = free_node_alone z vs g rule.slots i k v at free in
      record {
        numbers = rule.numbers;
        history = rule.history;
        slots = rule.slots;
        locks = λ j. rule.locks j ∙ ap (λ l. cond (eqb l 0) 0 1) (sym (lock_other m f k j x other));
        tree = version_frame m (written m (Node f k) x) g.bundles g.bundles g.updates (m Stamp) g.tree
            (λ j here. node_same i k (m Stamp) j v f x at free (linked_live z vs g rule.slots j here)) rule.tree;
        marks = record {
          root = node_other m f Mark k 0 x (λ same. omega (arith, alone.1, same)) ∙ rule.marks.root;
          nodes = λ j some.
              node_other m f Mark k j x (λ same. omega (arith, alone.0, subst (λ y. 0 < count y (slots_of g.tree)) same some)) ∙ rule.marks.nodes j some;
        };
        bundles = λ j live side.
            subst (λ h. BundleRight (m Stamp) (λ e. m (Entry Next e)) (λ e. m (Entry Number e)) g.bundles.number (IsPendingAt vs j) h (g.bundles.bundle side j))
            (sym (node_other m f (Head side) k j x (apart i k j v at free live))) (rule.bundles j live side);
        pairs = rule.pairs;
        single = rule.single;
        seats =
            all_items (SeatRight z m g) (SeatRight z (written m (Node f k) x) g) vs rule.seats
            (λ n u of seat. node_seat i k n v u f x at free other fresh of seat);
      }

  member_apart : (i e k d : ℕ) (v : View) (side : Side) → IsItem vs i v → 0 < count e v.free.entries → IsLive z vs k → 0 < count d (g.bundles.bundle side k)
      → d ≡ e → ⊥
  member_apart i e k d v side at free live some same =
      not_in_bundle z vs g rule.slots i k e v at free live (in_entries g.bundles k e side (subst (λ x. 0 < count x (g.bundles.bundle side k)) same some))

  module _ (i e : ℕ) (v : View) (at : IsItem vs i v) (free : 0 < count e v.free.entries) (p : Part) (x : ℕ) where
    entry_bundle : (k : ℕ) → IsLive z vs k → (side : Side) → IsBundle m vs g k side → IsBundle (written m (Entry p e) x) vs g k side
    entry_bundle k live side right =
        bundle_frame (m Stamp) (λ d. m (Entry Next d)) (λ d. written m (Entry p e) x (Entry Next d)) (λ d. m (Entry Number d))
        (λ d. written m (Entry p e) x (Entry Number d))
        g.bundles.number (IsPendingAt vs k) (m (Node (Head side) k)) (g.bundles.bundle side k)
        (λ d some. let other = member_apart i e k d v side at free live some in (entry_other m p Next e d x other, entry_other m p Number e d x other)) right

    -- a loaded head is right where its entry is not the free one
    entry_head : (h : ℕ) (l : LoadedHead) → (h ≡ e → ⊥) → HeadRight h (λ d. m (Entry Number d)) l
        → HeadRight h (λ d. written m (Entry p e) x (Entry Number d)) l
    entry_head h l other right =
        (right.0, IfSome_then l.stamp right.1 (λ y known some. entry_other m p Number e l.entry x (λ same. other (right.0 ∙ same)) ∙ known some))

    entry_side : (k : ℕ) (side : Side) (s : HeldSide) → IsLive z vs k → SideRight (m (Node (Head side) k)) (λ d. m (Entry Number d)) s
        → SideRight (m (Node (Head side) k)) (λ d. written m (Entry p e) x (Entry Number d)) s
    entry_side k side s live right =
        record {
          head = IfSome_then s.head right.head
              (λ l known. entry_head (m (Node (Head side) k)) l (head_apart z m vs g rule i e k v side at free live) known);
        }

    entry_place : (n : ℕ) (u : View) (place : Place) → IsItem vs n u → PlaceRight z (λ d. m (Entry Number d)) g.bundles u place
        → PlaceRight z (λ d. written m (Entry p e) x (Entry Number d)) g.bundles u place
    entry_place n u (AtEntry node side entry found) of right = record {
      reach = right.reach;
      stands = λ some watched.
          let stands : StandsAt (λ d. m (Entry Number d)) (g.bundles.bundle side node) entry found u.reading.above (IsPassed g.bundles.number u node)
          = right.stands some watched in
          let here : 0 < count entry (g.bundles.bundle side node)
          = subst (λ es. 0 < count entry es) (sym stands.splits) (count-middle entry stands.front stands.back) in
          let same : written m (Entry p e) x (Entry Number entry) ≡ m (Entry Number entry)
          = entry_other m p Number e entry x (member_apart i e node entry v side at free (reachable_live z vs g rule.slots n node u of right.reach) here) in
          record {
            front = stands.front;
            back = stands.back;
            splits = stands.splits;
            passed = stands.passed;
            found = IfSome_then found stands.found (λ y known low. same ∙ known low);
            falls = IfSome_then u.reading.above stands.falls (λ y known low. let old = known low in (omega (arith, old.0, same), omega (arith, old.1, same)));
          };
    }
    entry_place n u _ of right = tt

    entry_same : (t k : ℕ) → IsLive z vs k → SameNode m (written m (Entry p e) x) g.bundles g.bundles t k
    entry_same t k live = record {
      key = refl;
      val = refl;
      entry = λ side. refl;
      child = λ side. child_by side (select_in g.bundles.number t (g.bundles.bundle side k));
    }
      where
        child_by : (side : Side) → (select g.bundles.number t (g.bundles.bundle side k) ≡ 0)
            ⊎ (0 < count (select g.bundles.number t (g.bundles.bundle side k)) (g.bundles.bundle side k))
            → child_at m g.bundles t side k ≡ child_at (written m (Entry p e) x) g.bundles t side k
        child_by side (inl none) =
            sym (child_none (λ d. m (Entry Child d)) (λ d. written m (Entry p e) x (Entry Child d)) (select g.bundles.number t (g.bundles.bundle side k)) none)
        child_by side (inr some) =
            let d : ℕ = select g.bundles.number t (g.bundles.bundle side k) in
            ap (λ c. cond (eqb d 0) 0 c) (sym (entry_other m p Child e d x (member_apart i e k d v side at free live some)))

    entry_right : (k c entry : ℕ) (side : Side) (o : Option ℕ) → IsLive z vs k
        → EntryRight (λ d. m (Entry Child d)) g.bundles.number (g.bundles.bundle side k) o c entry
        → EntryRight (λ d. written m (Entry p e) x (Entry Child d)) g.bundles.number (g.bundles.bundle side k) o c entry
    entry_right k c entry side None live right = right
    entry_right k c entry side (Some t) live right = (
      right.0,
      subst (λ d. child_of_entry (λ y. written m (Entry p e) x (Entry Child y)) d ≡ c) right.0
          (sym ((entry_same t k live).child side) ∙ ap (child_of_entry (λ d. m (Entry Child d))) right.0 ∙ right.1),
    )

    entry_source : (n k c : ℕ) (side : Side) (u : View) (source : LinkSource) → IsItem vs n u
        → SourceRight (IsReachable z u k) (λ d. m (Entry Child d)) g.bundles.number (g.bundles.bundle side k) u.reading.section c source
        → SourceRight (IsReachable z u k) (λ d. written m (Entry p e) x (Entry Child d)) g.bundles.number (g.bundles.bundle side k) u.reading.section c source
    entry_source n k c side u (Plain tag above below) of right = tt
    entry_source n k c side u (Bundle entry) of right = record {
      reach = right.reach;
      selected = entry_right k c entry side u.reading.section (reachable_live z vs g rule.slots n k u of right.reach) right.selected;
    }

    entry_link : (n : ℕ) (u : View) (l : Link) → IsItem vs n u → LinkRight z (λ d. m (Entry Child d)) g.bundles u l
        → LinkRight z (λ d. written m (Entry p e) x (Entry Child d)) g.bundles u l
    entry_link n u l of right = entry_source n l.node l.child l.side u l.source of right

    entry_filled : IsNotAmong (Entry p e) v.reading.filled → (n : ℕ) (u : View) → IsItem vs n u → SeatRight z m g u
        → Every (FilledRight (written m (Entry p e) x) u.free u.update) u.reading.filled
    entry_filled fresh n u of seat =
        elim (eqb_tells n i) as (λ _. Every (FilledRight (written m (Entry p e) x) u.free u.update) u.reading.filled) [
          | inl same ↦
              not_among m u.free u.update (Entry p e) x u.reading.filled
              (subst (λ (y : View). IsNotAmong (Entry p e) y.reading.filled) (same_item vs i n v u at of same.1) fresh) seat.filled
          | inr other ↦ every_filled m (written m (Entry p e) x) u.free u.free u.update u.update u.reading.filled (λ w is. is)
              (entry_apart m u.free u.update p e x
              (λ also. omega (
                arith,
                once_entry z vs g rule.slots e,
                two_terms (own entries_in e) vs i v u at (record { place = n; at = of; other = other.1 }),
                free,
                also,
              ))
              (λ also.
              let head = (every_at (IsPending z (λ s k. m (Node (Head s) k)) (λ d. m (Entry Number d)) g.bundles.number u) e
              u.update.pending seat.pending also).2 in
              head_apart z m vs g rule i e head.node v head.side at free
              (held_live z vs g rule.slots n head.node u of (work_holds u head.node head.of) head.there) head.is)) seat.filled
        ]

    entry_seat : IsNotAmong (Entry p e) v.reading.filled → (n : ℕ) (u : View) → IsItem vs n u → SeatRight z m g u → SeatRight z (written m (Entry p e) x) g u
    entry_seat fresh n u of seat =
        let locked : (k : ℕ) → 0 < lock_count k u → IsLive z vs k
        = λ k some. held_live z vs g rule.slots n k u of (held_holds u k some) (seat.locks k some).0 in
        record {
          layout = seat.layout;
          section = seat.section;
          seen = seat.seen;
          update = seat.update;
          version = seat.version;
          announced = seat.announced;
          tree = reads_frame m (written m (Entry p e) x) g.bundles g.bundles (λ t. t ≤ m Stamp) g.updates (m Stamp) g.tree u.reading.tree u.reading.section
              (λ t j past here. entry_same t j (read_live z vs g rule.slots (m Stamp) n j u of seat.version here)) (omega arith) seat.version.past seat.tree;
          locks = seat.locks;
          loaded = record {
            nodes = every_named (λ (h : HeldNode). h.node)
                (IsNodeAt m)
                (IsNodeAt (written m (Entry p e) x))
                u.held.nodes
                (λ h some right. record {
                  key = right.key;
                  val = right.val;
                  mark = right.mark;
                  left = entry_side h.node Left h.left (locked h.node some) right.left;
                  right = entry_side h.node Right h.right (locked h.node some) right.right;
                  plain = right.plain;
                })
                seat.loaded.nodes;
            nexts = every_map
                (IsNextAt m g.bundles u.held.nodes)
                (IsNextAt (written m (Entry p e) x) g.bundles u.held.nodes)
                u.held.nexts
                (λ h right.
                let other : h.entry ≡ e → ⊥
                = λ same. not_in_bundle z vs g rule.slots i h.node e v at free (locked h.node right.locked)
                (subst (λ d. 0 < count d (entries_of g.bundles h.node)) same right.here) in
                record {
                  is = entry_other m p Next e h.entry x other ∙ right.is;
                  locked = right.locked;
                  here = right.here;
                  found = IfSome_then h.stamp right.found (λ y known low. entry_other m p Number e h.entry x other ∙ known low);
                })
                seat.loaded.nexts;
          };
          marks = seat.marks;
          pending = every_map
              (IsPending z (λ s j. m (Node (Head s) j)) (λ d. m (Entry Number d)) g.bundles.number u)
              (IsPending z (λ s j. m (Node (Head s) j)) (λ d. written m (Entry p e) x (Entry Number d)) g.bundles.number u)
              u.update.pending
              (λ d right. (
                entry_other m p Number e d x (λ same. head_apart z m vs g rule i e right.2.node v right.2.side at free
                    (held_live z vs g rule.slots n right.2.node u of (work_holds u right.2.node right.2.of) right.2.there) (right.2.is ∙ same)) ∙ right.0,
                right.1,
                right.2,
              )) seat.pending;
          place = entry_place n u u.reading.place of seat.place;
          filled = entry_filled fresh n u of seat;
          links =
              every_map (LinkRight z (λ d. m (Entry Child d)) g.bundles u) (LinkRight z (λ d. written m (Entry p e) x (Entry Child d)) g.bundles u)
              u.reading.links (λ l right. entry_link n u l of right) seat.links;
        }

    -- a store to a word of a free entry
    pub entry_stored : IsNotAmong (Entry p e) v.reading.filled → Rule z (written m (Entry p e) x) vs g
    entry_stored fresh = record {
      numbers = rule.numbers;
      history = rule.history;
      slots = rule.slots;
      locks = rule.locks;
      tree = version_frame m (written m (Entry p e) x) g.bundles g.bundles g.updates (m Stamp) g.tree
          (λ j here. entry_same (m Stamp) j (linked_live z vs g rule.slots j here)) rule.tree;
      marks = record { root = rule.marks.root; nodes = rule.marks.nodes };
      bundles = λ k live side. entry_bundle k live side (rule.bundles k live side);
      pairs = rule.pairs;
      single = rule.single;
      seats = all_items (SeatRight z m g) (SeatRight z (written m (Entry p e) x) g) vs rule.seats (λ n u of seat. entry_seat fresh n u of seat);
    }
