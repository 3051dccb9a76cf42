-- Try lock keeps the rule: a free lock word names the pass, and a held one stays.
use Rattle.std.proofs.Common.{◌≡◌, ℕ, ◌+◌, ◌<◌, ◌≤◌, ◌⊎◌, cond, List, [], ◌∷◌, ◌++◌, Bool, true, false, eqb, set, arith, refl, ap, ◌∙◌, sym, subst, inl, inr, Option, Some, None, is_some}
use Rattle.std.specs.Prelude.{IfSome}
use Rattle.std.specs.List.{sum_by}
use Rattle.std.proofs.lemmas.Bool.{eq-eqb, ne_eqb, cases_lt}
use Rattle.std.proofs.lemmas.Bool.Decides.{nat_tests, eqb_tells}
use Rattle.index_words.specs.declared.layout.Layout.{Layout}
use Rattle.index_words.specs.declared.view.View.{View}
use Rattle.index_words.specs.declared.view.history.Counts.{Counts}
use Rattle.index_words.specs.declared.view.reading.Place.{Place}
use Rattle.index_words.specs.declared.view.reading.Place.TheVariants.{Entry as AtEntry}
use Rattle.index_words.specs.declared.view.reading.LinkSource.{LinkSource}
use Rattle.index_words.specs.declared.view.reading.LinkSource.TheVariants.{Bundle, Plain}
use Rattle.index_words.specs.declared.view.update.HeldNode.{HeldNode}
use Rattle.index_words.specs.declared.word.Field.TheVariants.{Lock, Mark, Head}
use Rattle.index_words.specs.declared.word.Part.TheVariants.{Child, Stamp as Number}
use Rattle.index_words.specs.declared.word.Word.TheVariants.{Node, Entry}
use Rattle.index_words.specs.Words.{Memory, written}
use Rattle.key_map.specs.Lists.{count, IsItem}
use Rattle.index_words.proofs.Seats.{Beside, sum_moved, sum_kept, one_term, at_item, all_moved}
use Rattle.key_map.proofs.Counting.{count-append, count-push}
use Rattle.core_grace.specs.Sections.{is_even}
use Rattle.core_grace.specs.Holds.{HoldsNode, HoldsEntry, held_slots, listed, work_nodes, tree_slots, entries_of}
use Rattle.core_grace.specs.Slots.{nodes_of, entries_in, own_free, HoldsNone, SlotRule}
use Rattle.core_grace.proofs.RuleMoves.{every_push}
use Rattle.core_invariant.proofs.Pairs.{pairs_same}
use Rattle.core_invariant.specs.Meanings.{Meaning, linked_by}
use Rattle.core_invariant.specs.Numbers.{number_count}
use Rattle.core_invariant.specs.Locks.{NamesHolder, lock_count, IsNodeAt, IsNextAt, IsTakenOut}
use Rattle.core_invariant.specs.BundleRule.{IsLive, IsPendingAt, IsPending, pending_count}
use Rattle.core_invariant.specs.Readers.{IsReachable, IsLocked, IsWatched, IsPassed, StandsAt, PlaceRight, SourceRight, LinkRight}
use Rattle.core_invariant.specs.SeatRule.{SeatRight}
use Rattle.core_events.specs.LockMoves.{just_locked, place_locked, locked_view}
use Rattle.core_invariant.specs.Rule.{Rule}
use Rattle.core_invariant.proofs.Frames.{every_map, Term, term_of, live_moved, pending_moved, bundle_weaker}
use Rattle.core_invariant.proofs.OneView.{history_kept, seat_at}
use Rattle.core_invariant.specs.Reached.{has_let}
use Rattle.core_invariant.proofs.Owned.{in_entries, not_in_bundle}
use Rattle.core_invariant.proofs.Filled.{node_other, every_filled, lock_apart}
use Rattle.core_kept.proofs.Holding.{holding_more, waits_with}
use Rattle.core_invariant.proofs.Locked.{CanLock}
use Rattle.core_invariant.proofs.ReadMoves.{inside_only, read_kept}

pub slots_push : (k : ℕ) (hs : List HeldNode) → held_slots (hs ++ just_locked k ∷ []) ≡ held_slots hs ++ k ∷ []
slots_push k [] = refl
slots_push k (h ∷ hs) = ap (λ ns. h.node ∷ ns) (slots_push k hs)

taken_word : (x : ℕ) → 0 < x → 0 + cond (eqb x 0) 0 1 ≡ 1
taken_word x low = grind (arith, nat_tests)

module _ (z : Layout) (m : Memory) (vs : List View) (g : Meaning) (rule : Rule z m vs g) (i k n : ℕ) (v : View) (at : IsItem vs i v)
    (inside : is_even v.section_word ≡ false) (can : CanLock z vs v k) (named : v.number ≡ Some n) (free : m (Node Lock k) ≡ 0) where
  abbrev m' : Memory
  m' = written m (Node Lock k) (n + 1)

  abbrev w : View
  w = locked_view v k

  abbrev ws : List View
  ws = set vs i w

  abbrev stamp : ℕ → ℕ
  stamp d = m (Entry Number d)

  own_seat : SeatRight z m g v
  own_seat = seat_at z m vs g i v at rule

  nobody : sum_by (lock_count k) vs ≡ 0
  nobody = rule.locks k ∙ ap (λ x. cond (eqb x 0) 0 1) free

  lock_now : m' (Node Lock k) ≡ n + 1
  lock_now = ap (λ b. cond b (n + 1) (m (Node Lock k))) (eq-eqb k k refl)

  locks_more : (j : ℕ) → lock_count j w ≡ lock_count j v + cond (eqb k j) 1 0
  locks_more j = omega (arith, ap (count j) (slots_push k v.held.nodes), count-push j (held_slots v.held.nodes) k)

  work_more : (j : ℕ) → count j (work_nodes w) ≡ count j (work_nodes v) + cond (eqb k j) 1 0
  work_more j =
      omega (
        arith,
        locks_more j,
        count-append j (held_slots w.held.nodes) (listed v.update.added),
        count-append j (held_slots v.held.nodes) (listed v.update.added),
      )

  locked_here : lock_count k w ≡ lock_count k v + 1
  locked_here = locks_more k ∙ ap (λ b. lock_count k v + cond b 1 0) (eq-eqb k k refl)

  locked_other : (j : ℕ) → (j ≡ k → ⊥) → lock_count j w ≡ lock_count j v
  locked_other j other = omega (arith, locks_more j, none (eqb k j) (ne_eqb k j (λ same. other (sym same))))
    where
      none : (b : Bool) → b ≡ false → 0 + cond b 1 0 ≡ 0
      none true e = cc
      none false e = refl

  works : (j : ℕ) → 0 < count j (work_nodes v) → 0 < count j (work_nodes w)
  works j some = omega (arith, some, work_more j)

  works_from : (j : ℕ) → 0 < count j (work_nodes w) → (0 < count j (work_nodes v)) ⊎ (j ≡ k)
  works_from j some =
      elim (eqb_tells j k) as (λ _. (0 < count j (work_nodes v)) ⊎ (j ≡ k)) [
        | inl same ↦ inr same.1
        | inr other ↦
            inl (omega (
              arith,
              some,
              locked_other j other.1,
              count-append j (held_slots w.held.nodes) (listed v.update.added),
              count-append j (held_slots v.held.nodes) (listed v.update.added),
            ))
      ]

  holds_from : (j : ℕ) → HoldsNode w j → HoldsNode v j ⊎ (j ≡ k)
  holds_from j holds =
      elim (eqb_tells j k) as (λ _. HoldsNode v j ⊎ (j ≡ k)) [
        | inl same ↦ inr same.1
        | inr other ↦ inl (omega (
          arith,
          holds,
          locked_other j other.1,
          count-append j (held_slots w.held.nodes) (listed v.update.added),
          count-append j (held_slots v.held.nodes) (listed v.update.added),
          count-append j (tree_slots v.reading.tree) (work_nodes w),
          count-append j (tree_slots v.reading.tree) (work_nodes v),
        ))
      ]

  entry_from : (x : ℕ) → HoldsEntry g.bundles w x → HoldsEntry g.bundles v x ⊎ (0 < count x (entries_of g.bundles k))
  entry_from x (inl reads) = inl (inl reads)
  entry_from x (inr stands) =
      elim (works_from stands.node stands.of) as (λ _. HoldsEntry g.bundles v x ⊎ (0 < count x (entries_of g.bundles k))) [
        | inl before ↦ inl (inr (record { node = stands.node; side = stands.side; of = before; here = stands.here }))
        | inr same ↦ inr (subst (λ j. 0 < count x (entries_of g.bundles j)) same (in_entries g.bundles stands.node x stands.side stands.here))
      ]

  live : IsLive z vs k
  live = can.live

  node_unfree : (j : ℕ) → HoldsNode w j → sum_by (own_free nodes_of j) vs ≡ 0
  node_unfree j holds =
      elim (holds_from j holds) as (λ _. sum_by (own_free nodes_of j) vs ≡ 0) [
        | inl before ↦ at_item (λ (u : View). (x : ℕ) → HoldsNode u x → sum_by (own_free nodes_of x) vs ≡ 0) vs i v at rule.slots.nodes.unheld j before
        | inr same ↦ subst (λ x. sum_by (own_free nodes_of x) vs ≡ 0) (sym same) live.1
      ]

  bundle_unfree : (x : ℕ) → 0 < count x (entries_of g.bundles k) → (0 < sum_by (own_free entries_in x) vs) ⊎ (sum_by (own_free entries_in x) vs ≤ 0)
      → sum_by (own_free entries_in x) vs ≡ 0
  bundle_unfree x here (inr none) = omega (arith, none)
  bundle_unfree x here (inl some) =
      let term : Term (own_free entries_in x) vs = term_of (own_free entries_in x) vs some in
      absurd (not_in_bundle z vs g rule.slots term.place k x term.item term.at term.some live here)

  entry_unfree : (x : ℕ) → HoldsEntry g.bundles w x → sum_by (own_free entries_in x) vs ≡ 0
  entry_unfree x holds =
      elim (entry_from x holds) as (λ _. sum_by (own_free entries_in x) vs ≡ 0) [
        | inl before ↦
            at_item (λ (u : View). (d : ℕ) → HoldsEntry g.bundles u d → sum_by (own_free entries_in d) vs ≡ 0) vs i v at rule.slots.entries.unheld x before
        | inr here ↦ bundle_unfree x here (cases_lt 0 (sum_by (own_free entries_in x) vs))
      ]

  -- the node is in no batch of a view that has let this one pass
  batch_apart : (j : ℕ) (u : View) → IsItem vs j u → has_let u.grace v.number v.section_word ≡ true → 0 < count k u.batch.nodes → ⊥
  batch_apart j u of lets some = both (has_let u.grace v.number v.section_word) lets (can.waits j u of some)
    where
      both : (b : Bool) → b ≡ true → b ≡ false → ⊥
      both b is isnt = cc

  none_now : (j : ℕ) (u : View) → IsItem vs j u → has_let u.grace v.number v.section_word ≡ true → HoldsNone HoldsNode (HoldsEntry g.bundles) u.batch v
      → HoldsNone HoldsNode (HoldsEntry g.bundles) u.batch w
  none_now j u of lets none = record {
    nodes = λ x some holds. elim (holds_from x holds) as (λ _. ⊥) [
      | inl before ↦ none.nodes x some before
      | inr same ↦ batch_apart j u of lets (subst (λ y. 0 < count y u.batch.nodes) same some)
    ];
    entries = λ x some holds. elim (entry_from x holds) as (λ _. ⊥) [
      | inl before ↦ none.entries x some before
      | inr here ↦ batch_apart j u of lets (waits_with z vs g rule.slots j k x u of live here some)
    ];
  }

  slots_now : SlotRule z (linked_by g) HoldsNode (HoldsEntry g.bundles) ws
  slots_now =
      holding_more z (linked_by g) HoldsNode (HoldsEntry g.bundles) vs rule.slots i v w at refl refl refl refl refl refl node_unfree entry_unfree none_now

  locks_now : (j : ℕ) → sum_by (lock_count j) ws ≡ cond (eqb (m' (Node Lock j)) 0) 0 1
  locks_now j =
      elim (eqb_tells j k) as (λ _. sum_by (lock_count j) ws ≡ cond (eqb (m' (Node Lock j)) 0) 0 1) [
        | inl same ↦ subst (λ x. sum_by (lock_count x) ws ≡ cond (eqb (m' (Node Lock x)) 0) 0 1) (sym same.1)
            (omega (arith, sum_moved (lock_count k) vs i v w at, locked_here, nobody, taken_word (m' (Node Lock k)) (omega (arith, lock_now))))
        | inr other ↦
            sum_kept (lock_count j) vs i v w at (locked_other j other.1) ∙ rule.locks j
            ∙ ap (λ x. cond (eqb x 0) 0 1) (sym (node_other m Lock Lock k j (n + 1) other.1))
      ]

  reach_now : (j : ℕ) → IsReachable z v j → IsReachable z w j
  reach_now j old = (
    old.0,
    elim old.1 as (λ _. (j ≡ 0) ⊎ HoldsNode w j) [
      | inl root ↦ inl root
      | inr holds ↦
          inr (omega (
            arith,
            holds,
            work_more j,
            count-append j (tree_slots v.reading.tree) (work_nodes v),
            count-append j (tree_slots v.reading.tree) (work_nodes w),
          ))
    ],
  )

  still_locked : (j : ℕ) → IsLocked v j → IsLocked w j
  still_locked j locked = omega (arith, locked, locks_more j)

  passed_now : (j d : ℕ) → IsPassed g.bundles.number v j d → IsPassed g.bundles.number w j d
  passed_now j d passed = passed_by v.reading.section passed
    where
      passed_by : (o : Option ℕ) → IfSome o (λ t. IsLocked v j ⊎ (t < g.bundles.number d)) → IfSome o (λ t. IsLocked w j ⊎ (t < g.bundles.number d))
      passed_by None old = tt
      passed_by (Some t) (inl locked) = inl (still_locked j locked)
      passed_by (Some t) (inr above) = inr above

  stands_now : (j e : ℕ) (found : Option ℕ) (es : List ℕ) → StandsAt stamp es e found v.reading.above (IsPassed g.bundles.number v j)
      → StandsAt stamp es e found v.reading.above (IsPassed g.bundles.number w j)
  stands_now j e found es stands = record {
    front = stands.front;
    back = stands.back;
    splits = stands.splits;
    passed = every_map (IsPassed g.bundles.number v j) (IsPassed g.bundles.number w j) stands.front (passed_now j) stands.passed;
    found = stands.found;
    falls = stands.falls;
  }

  -- without a section number, a seat that stands at an entry watches its node only where it had locked it before
  watched_before : (j : ℕ) → v.reading.section ≡ None → (j ≡ k → ⊥) → IsWatched w j → IsWatched v j
  watched_before j none other (inl locked) = inl (omega (arith, locked, locked_other j other))
  watched_before j none other (inr reads) = inr reads

  place_now : (o : Option ℕ) (p : Place) → v.reading.section ≡ o → PlaceRight z stamp g.bundles v p → PlaceRight z stamp g.bundles w (place_locked o k p)
  place_now None (AtEntry j side e found) is right = at_by (eqb j k) refl
    where
      not_same : (x : ℕ) → eqb x k ≡ false → x ≡ k → ⊥
      not_same x off same = apart (eqb x k) off (eq-eqb x k same)
        where
          apart : (c : Bool) → c ≡ false → c ≡ true → ⊥
          apart true f t = cc
          apart false f t = cc

      at_by : (c : Bool) → eqb j k ≡ c → PlaceRight z stamp g.bundles w (cond c (AtEntry j side 0 None) (AtEntry j side e found))
      at_by true same = record { reach = reach_now j right.reach; stands = λ some watched. absurd (omega (arith, some)) }
      at_by false off = record {
        reach = reach_now j right.reach;
        stands = λ some watched. stands_now j e found (g.bundles.bundle side j) (right.stands some (watched_before j is (not_same j off) watched));
      }
  place_now (Some t) (AtEntry j side e found) is right = record {
    reach = reach_now j right.reach;
    stands = λ some watched. stands_now j e found (g.bundles.bundle side j) (right.stands some (inr (ap is_some is)));
  }
  place_now _ _ is right = tt

  source_now : (j c : ℕ) (es : List ℕ) (source : LinkSource)
      → SourceRight (IsReachable z v j) (λ d. m (Entry Child d)) g.bundles.number es v.reading.section c source
      → SourceRight (IsReachable z w j) (λ d. m (Entry Child d)) g.bundles.number es v.reading.section c source
  source_now j c es (Bundle entry) old = record { reach = reach_now j old.reach; selected = old.selected }
  source_now j c es (Plain tag above below) old = tt

  named_now : NamesHolder (m' (Node Lock k)) v.number
  named_now = subst (NamesHolder (m' (Node Lock k))) (sym named) lock_now

  own_now : SeatRight z m' g w
  own_now = record {
    layout = own_seat.layout;
    section = record {
      section = own_seat.section.section;
      announced = own_seat.section.announced;
      outside = λ even. absurd (inside_only z m vs g rule v inside even);
      unlocked = λ even. absurd (inside_only z m vs g rule v inside even);
      done = λ none. absurd (omega (arith, locked_here, ap (λ (hs : List HeldNode). count k (held_slots hs)) none));
      waits = own_seat.section.waits;
    };
    seen = own_seat.seen;
    update = own_seat.update;
    version = own_seat.version;
    announced = own_seat.announced;
    tree = own_seat.tree;
    locks = λ j locked. elim (eqb_tells j k) as (λ _. (j ≤ z.nodes) × NamesHolder (m' (Node Lock j)) v.number) [
      | inl same ↦ subst (λ x. (x ≤ z.nodes) × NamesHolder (m' (Node Lock x)) v.number) (sym same.1) (live.0, named_now)
      | inr other ↦
          let old = own_seat.locks j (omega (arith, locked, locked_other j other.1)) in
          (old.0, subst (λ x. NamesHolder x v.number) (sym (node_other m Lock Lock k j (n + 1) other.1)) old.1)
    ];
    loaded = record {
      nodes = every_push (IsNodeAt m) v.held.nodes (just_locked k) own_seat.loaded.nodes
          (record { key = tt; val = tt; mark = tt; left = record { head = tt }; right = record { head = tt }; plain = ((tt, tt), (tt, tt)) });
      nexts = every_map (IsNextAt m g.bundles v.held.nodes) (IsNextAt m g.bundles w.held.nodes) v.held.nexts
          (λ l old. record { is = old.is; locked = still_locked l.node old.locked; here = old.here; found = old.found }) own_seat.loaded.nexts;
    };
    marks = record {
      retired = λ j waits. elim (own_seat.marks.retired j waits) as (λ _. (m (Node Mark j) ≡ 1) ⊎ IsTakenOut w j) [
        | inl marked ↦ inl marked
        | inr out ↦ inr (out.0, out.1, still_locked j out.2)
      ];
      batch = own_seat.marks.batch;
      taken = own_seat.marks.taken;
    };
    pending =
        every_map (IsPending z (λ s j. m (Node (Head s) j)) stamp g.bundles.number v)
        (IsPending z (λ s j. m (Node (Head s) j)) stamp g.bundles.number w) v.update.pending
        (λ d old. (
          old.0,
          old.1,
          record {
            node = old.2.node;
            side = old.2.side;
            there = old.2.there;
            is = old.2.is;
            some = old.2.some;
            of = works old.2.node old.2.of;
          },
        )) own_seat.pending;
    place = place_now v.reading.section v.reading.place refl own_seat.place;
    filled = every_filled m m' v.free v.free v.update v.update v.reading.filled (λ y is. is) (lock_apart m v.free v.update k (n + 1)) own_seat.filled;
    links = every_map (LinkRight z (λ d. m (Entry Child d)) g.bundles v) (LinkRight z (λ d. m (Entry Child d)) g.bundles w) v.reading.links
        (λ l old. source_now l.node l.child (g.bundles.bundle l.side l.node) l.source old) own_seat.links;
  }

  -- another view has not locked the node
  locker_apart : (u : View) (j : ℕ) → Beside vs i u → 0 < lock_count j u → j ≡ k → ⊥
  locker_apart u j beside locked same =
      omega (arith, nobody, one_term (lock_count k) vs beside.place u beside.at, subst (λ x. 0 < lock_count x u) same locked)

  other_now : (u : View) → Beside vs i u → SeatRight z m g u → SeatRight z m' g u
  other_now u beside of = record {
    layout = of.layout;
    section = of.section;
    seen = of.seen;
    update = of.update;
    version = of.version;
    announced = of.announced;
    tree = of.tree;
    locks = λ j locked. (
      (of.locks j locked).0,
      subst (λ x. NamesHolder x u.number)
          (sym (node_other m Lock Lock k j (n + 1) (locker_apart u j beside locked))) (of.locks j locked).1,
    );
    loaded = of.loaded;
    marks = of.marks;
    pending = of.pending;
    place = of.place;
    filled = every_filled m m' u.free u.free u.update u.update u.reading.filled (λ y is. is) (lock_apart m u.free u.update k (n + 1)) of.filled;
    links = of.links;
  }

  -- a lock that is taken
  pub lock_kept : Rule z m' ws g
  lock_kept = record {
    numbers = λ x. sum_kept (number_count x) vs i v w at refl ∙ rule.numbers x;
    history = history_kept z _ g vs i v w at refl refl rule.history;
    slots = slots_now;
    locks = locks_now;
    tree = rule.tree;
    marks = record { root = rule.marks.root; nodes = rule.marks.nodes };
    bundles = λ j live' side. bundle_weaker _ _ _ _ (IsPendingAt vs j) (IsPendingAt ws j) _ _
        (λ d. pending_moved vs i j d v w at refl (works j)) (rule.bundles j (live_moved z vs i j v w at (omega arith) live') side);
    pairs = pairs_same vs i v w at refl rule.pairs;
    single = λ d. omega (arith, sum_kept (pending_count d) vs i v w at refl, rule.single d);
    seats = all_moved (SeatRight z m g) (SeatRight z m' g) vs i v w at rule.seats own_now other_now;
  }

-- a lock that was found held
pub met_kept : (z : Layout) (m : Memory) (vs : List View) (g : Meaning) (i : ℕ) (v : View) (c : Counts) → Rule z m vs g → IsItem vs i v
    → is_even v.section_word ≡ false
    → Rule z m (set vs i (record v { counts = c })) g
met_kept z m vs g i v c rule at inside =
    let seat = seat_at z m vs g i v at rule in
    read_kept z m vs g rule i v at c v.held.nodes v.held.nexts v.reading.place v.reading.above v.reading.links refl inside seat.loaded.nodes
    seat.loaded.nexts seat.place seat.links
