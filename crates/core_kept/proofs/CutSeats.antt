-- A cut keeps the rule: the bundle ends with the entry, and no seat reads, holds or knows of what stood after it.
use Rattle.std.proofs.Common.{◌≡◌, ℕ, suc, ◌<◌, ◌≤◌, ◌⊎◌, cond, List, [], ◌∷◌, ◌++◌, Bool, true, false, eqb, not, filter, map, set, arith, refl, ap, ◌∙◌, sym, subst, inl, inr, Option, Some, None}
use Rattle.index_words.specs.declared.view.reading.Reading.{Reading}
use Rattle.std.specs.Prelude.{IfSome}
use Rattle.std.proofs.lemmas.Bool.{eq-eqb, eqb-true, cases_lt}
use Rattle.std.proofs.lemmas.Bool.Decides.{eqb_tells}
use Rattle.index_words.specs.declared.layout.Layout.{Layout}
use Rattle.index_words.specs.declared.side.Side.{Side}
use Rattle.index_words.specs.declared.side.Side.TheVariants.{Left, Right as RightSide}
use Rattle.index_words.specs.declared.view.View.{View}
use Rattle.index_words.specs.declared.view.reading.LinkSource.{LinkSource}
use Rattle.index_words.specs.declared.view.reading.LinkSource.TheVariants.{Bundle, Plain}
use Rattle.index_words.specs.declared.view.update.HeldNode.{HeldNode}
use Rattle.index_words.specs.declared.view.update.HeldNext.{HeldNext}
use Rattle.index_words.specs.declared.word.Field.TheVariants.{Head}
use Rattle.index_words.specs.declared.word.Part.TheVariants.{Child, Stamp as Number, Next}
use Rattle.index_words.specs.declared.word.Word.{Word}
use Rattle.index_words.specs.declared.word.Word.TheVariants.{Stamp, Node, Entry}
use Rattle.index_words.specs.Words.{Memory, written}
use Rattle.key_map.specs.Lists.{count, has, Every, IsItem}
use Rattle.key_map.proofs.Counting.{count-append}
use Rattle.index_words.proofs.Seats.{Beside, sum_kept, all_moved}
use Rattle.core_grace.specs.Holds.{Bundles, HoldsNode, HoldsEntry, held_slots, tree_slots, entries_of}
use Rattle.core_grace.specs.Slots.{SlotRule, nodes_of, own_free}
use Rattle.core_links.specs.Bundle.{IsChain, no_number}
use Rattle.core_events.specs.CutMoves.{next_cut, place_cut, cut_view}
use Rattle.core_events.specs.Numbered.{shown}
use Rattle.core_events.specs.Versions.{slots_of}
use Rattle.core_events.proofs.Tests.{not_true}
use Rattle.core_invariant.specs.Meanings.{Meaning, linked_by}
use Rattle.core_invariant.specs.MeaningMoves.{cut_meaning}
use Rattle.core_invariant.specs.Numbers.{number_count}
use Rattle.core_invariant.specs.Locks.{lock_count, IsNextAt}
use Rattle.core_invariant.specs.BundleRule.{IsLive, IsBundle, BundleRight, IsNumbered, IsPendingAt, IsPending, Falls, TailWritten, pending_count}
use Rattle.core_invariant.specs.Readers.{IsReachable, EntryRight, SourceRight, LinkRight}
use Rattle.core_invariant.specs.FilledRule.{IsOwnSlotWord}
use Rattle.core_invariant.specs.SeatRule.{TreeRight, SeatRight}
use Rattle.core_invariant.specs.Rule.{Rule}
use Rattle.core_invariant.specs.LinkLaw.{IsRead, Kept, SelectsSame}
use Rattle.core_invariant.proofs.Frames.{every_map, every_at, live_moved, pending_moved, bundle_weaker, count-middle}
use Rattle.core_invariant.proofs.BundleFrames.{bundle_frame}
use Rattle.core_invariant.proofs.Sides.{by_link}
use Rattle.core_invariant.proofs.AtEntries.{front_above, IsCutAt}
use Rattle.core_invariant.proofs.Pairs.{pairs_same}
use Rattle.core_invariant.proofs.OneView.{history_kept, seat_at}
use Rattle.core_invariant.proofs.Owned.{in_entries, not_in_bundle, in_one_bundle}
use Rattle.core_invariant.proofs.Filled.{entry_other, every_filled}
use Rattle.core_invariant.proofs.Locked.{locked_live}
use Rattle.core_invariant.proofs.TreeNow.{SameNode, version_frame, reads_frame}
use Rattle.core_kept.proofs.CutLists.{every_upto, falls_upto, tail_upto, chain_upto}
use Rattle.core_kept.proofs.CutBundles.{select_cut, cut_here, cut_elsewhere, linked_cut, entries_fewer, reads_fewer, stands_fewer}
use Rattle.core_kept.proofs.CutSlots.{slots_cut}
use Rattle.core_kept.proofs.CutPlaces.{reads_from, unlocked, other_place, own_place, not_counted}
use Rattle.core_kept.proofs.PlainKept.{quiet_work, plain_quiet, plain_same}

-- what holds of each item that passes a test holds of it changed
every_passing : {X : Type 0} (P Q : X → Type 0) (test : X → Bool) (f : X → X) (xs : List X) → ((x : X) → test x ≡ true → P x → Q (f x)) → Every P xs
    → Every Q (map f (filter test xs))
every_passing P Q test f [] step all = tt
every_passing P Q test f (x ∷ xs) step all = by (test x) refl (every_passing P Q test f xs step all.1)
  where
    by : (c : Bool) → test x ≡ c → Every Q (map f (filter test xs)) → Every Q (map f (cond c (x ∷ filter test xs) (filter test xs)))
    by true is rest = (step x is all.0, rest)
    by false is rest = rest

differs : (c : Bool) → c ≡ false → c ≡ true → ⊥
differs true off on = cc
differs false off on = cc

module _ (z : Layout) (m : Memory) (vs : List View) (g : Meaning) (rule : Rule z m vs g) (i : ℕ) (v : View) (at : IsItem vs i v) (e : ℕ)
    (cut : IsCutAt z m vs g v e) where
  abbrev k : ℕ
  k = cut.node

  abbrev side : Side
  side = cut.side

  abbrev front : List ℕ
  front = cut.front

  abbrev back : List ℕ
  back = cut.back

  abbrev b : Bundles
  b = g.bundles

  abbrev kept : List ℕ
  kept = front ++ e ∷ []

  abbrev g' : Meaning
  g' = cut_meaning g side k kept

  abbrev b' : Bundles
  b' = g'.bundles

  abbrev m' : Memory
  m' = written m (Entry Next e) 0

  abbrev w : View
  w = cut_view v e back

  abbrev ws : List View
  ws = set vs i w

  abbrev stamp : ℕ → ℕ
  stamp d = m (Entry Number d)

  abbrev next : ℕ → ℕ
  next d = m (Entry Next d)

  abbrev next' : ℕ → ℕ
  next' d = m' (Entry Next d)

  abbrev head : Side → ℕ → ℕ
  head s j = m (Node (Head s) j)

  own : SeatRight z m g v
  own = seat_at z m vs g i v at rule

  member : 0 < count e (b.bundle side k)
  member = subst (λ es. 0 < count e es) (sym cut.splits) (count-middle e front back)

  old_bundle : IsBundle m vs g k side
  old_bundle = rule.bundles k cut.live side

  next_same : (d : ℕ) → (d ≡ e → ⊥) → next' d ≡ next d
  next_same d other = entry_other m Next Next e d 0 other

  next_none : next' e ≡ 0
  next_none = ap (λ c. cond c 0 (m (Entry Next e))) (eq-eqb e e refl)

  -- an entry of another bundle is another one
  elsewhere : (j d : ℕ) (s : Side) → IsLive z vs j → (s ≡ side → j ≡ k → ⊥) → 0 < count d (b.bundle s j) → d ≡ e → ⊥
  elsewhere j d s live other within same =
      in_one_bundle z vs g rule.slots k e side (omega (arith, cut.linked)) member j s live other (subst (λ x. 0 < count x (b.bundle s j)) same within)

  -- and so is one in front of it
  in_front : (d : ℕ) → 0 < count d front → d ≡ e → ⊥
  in_front d within same =
      let above = (front_above b.number (suc no_number) e front back (subst (Falls b.number (suc no_number)) cut.splits old_bundle.falls)).1 in
      omega (arith, every_at (λ x. b.number e < b.number x) d front above within, ap b.number same)

  pending_kept : (j d : ℕ) → IsPendingAt vs j d → IsPendingAt ws j d
  pending_kept j d is = pending_moved vs i j d v w at refl (λ works. works) is

  abbrev Right : Side → ℕ → List ℕ → Type 0
  Right s j es = BundleRight (m Stamp) next' stamp b.number (IsPendingAt ws j) (head s j) es

  cut_bundle : Right side k kept
  cut_bundle = record {
    chain =
        chain_upto next next' (head side k) e front back (λ d within. next_same d (in_front d within)) next_none
        (subst (λ es. IsChain next (head side k) es) cut.splits old_bundle.chain);
    numbers = every_upto (IsNumbered (m Stamp) stamp b.number) e front back (subst (Every (IsNumbered (m Stamp) stamp b.number)) cut.splits old_bundle.numbers);
    tail = tail_upto stamp e front back (subst (TailWritten stamp) cut.splits old_bundle.tail);
    falls = falls_upto b.number (suc no_number) e front back (subst (Falls b.number (suc no_number)) cut.splits old_bundle.falls);
    owned = every_map (λ d. stamp d ≡ 0 → IsPendingAt vs k d) (λ d. stamp d ≡ 0 → IsPendingAt ws k d) kept (λ d of none. pending_kept k d (of none))
        (every_upto (λ d. stamp d ≡ 0 → IsPendingAt vs k d) e front back (subst (Every (λ d. stamp d ≡ 0 → IsPendingAt vs k d)) cut.splits old_bundle.owned));
  }

  other_bundle : (s : Side) (j : ℕ) → (s ≡ side → j ≡ k → ⊥) → IsLive z vs j → Right s j (b.bundle s j)
  other_bundle s j other live =
      bundle_weaker (m Stamp) next' stamp b.number (IsPendingAt vs j) (IsPendingAt ws j) (head s j) (b.bundle s j) (pending_kept j)
      (bundle_frame (m Stamp) next next' stamp stamp b.number (IsPendingAt vs j) (head s j) (b.bundle s j)
      (λ d within. (next_same d (elsewhere j d s live other within), refl)) (rule.bundles j live s))

  new_bundle : (j : ℕ) → IsLive z ws j → (s : Side) → IsBundle m' ws g' j s
  new_bundle j live s =
      by_link (λ t n es. IsLive z vs n → Right t n es) b.bundle side k kept (λ _. cut_bundle) other_bundle s j (live_moved z vs i j v w at (omega arith) live)

  -- at each number from the entry's on the same is read
  node_same : (t x : ℕ) → b.number e ≤ t → SameNode m m' b b' t x
  node_same t x low = record { key = refl; val = refl; entry = λ s. select_cut b side k e front back cut.splits t s x low; child = λ s. refl }

  reads_at : (j : ℕ) (u : View) → IsItem vs j u → IfSome u.reading.section (λ t. b.number e ≤ t)
  reads_at j u of = reads_from z m vs g rule i v at e cut j u of

  holds_fewer : (u : View) → IfSome u.reading.section (λ t. b.number e ≤ t) → (x : ℕ) → HoldsEntry b' u x → HoldsEntry b u x
  holds_fewer u low x (inl reads) = inl (reads_fewer b side k e front back cut.splits u.reading.section (tree_slots u.reading.tree) x low reads)
  holds_fewer u low x (inr stands) = inr (stands_fewer b side k e front back cut.splits _ x stands)

  new_slots : SlotRule z (linked_by g') HoldsNode (HoldsEntry b') ws
  new_slots =
      slots_cut z (linked_by g) (linked_by g') HoldsNode (HoldsEntry b) (HoldsEntry b') vs i v w.reading w.held back at rule.slots
      (record {
        nodes = λ n. refl;
        entries = λ x. linked_cut b side k e front back cut.splits x (0 ∷ slots_of g.tree) cut.linked;
        keeps = λ n x. entries_fewer b side k e front back cut.splits x n;
        holds_node = λ n holds. holds;
        holds = λ x holds. holds_fewer v (reads_at i v at) x holds;
        others_hold = λ u beside x holds. holds_fewer u (reads_at beside.place u beside.at) x holds;
      })

  new_tree : (j : ℕ) (u : View) → IsItem vs j u → TreeRight m g u.reading.section u.reading.tree → TreeRight m' g' u.reading.section u.reading.tree
  new_tree j u of old =
      reads_frame m m' b b' (λ t. b.number e ≤ t) g.updates (m Stamp) g.tree u.reading.tree u.reading.section (λ t x low here. node_same t x low)
      cut.past (reads_at j u of) old

  -- the remembered links
  new_entry : (n c entry : ℕ) (s : Side) (o : Option ℕ) → IfSome o (λ t. b.number e ≤ t)
      → EntryRight (λ d. m (Entry Child d)) b.number (b.bundle s n) o c entry → EntryRight (λ d. m (Entry Child d)) b.number (b'.bundle s n) o c entry
  new_entry n c entry s None low right = right
  new_entry n c entry s (Some t) low right = (sym (select_cut b side k e front back cut.splits t s n low) ∙ right.0, right.1)

  new_link : (u : View) → IfSome u.reading.section (λ t. b.number e ≤ t) → (n c : ℕ) (s : Side) (source : LinkSource)
      → SourceRight (IsReachable z u n) (λ d. m (Entry Child d)) b.number (b.bundle s n) u.reading.section c source
      → SourceRight (IsReachable z u n) (λ d. m (Entry Child d)) b.number (b'.bundle s n) u.reading.section c source
  new_link u low n c s (Plain tag above below) right = tt
  new_link u low n c s (Bundle entry) right = record { reach = right.reach; selected = new_entry n c entry s u.reading.section low right.selected }

  -- the nexts that the seat has loaded
  own_next : (l : HeldNext) → not (has l.entry back) ≡ true → IsNextAt m b v.held.nodes l → IsNextAt m' b' v.held.nodes (next_cut e l)
  own_next l stays old = by (eqb l.entry e) refl
    where
      not_behind : count l.entry back ≡ 0
      not_behind = not_counted l.entry back (not_true (has l.entry back) stays)

      here : 0 < count l.entry (entries_of b' l.node)
      here =
          elim (eqb_tells l.node k) as (λ _. 0 < count l.entry (entries_of b' l.node)) [
            | inl same ↦ omega (arith, cut_here b side k e front back cut.splits l.entry l.node same.1, old.here, not_behind)
            | inr other ↦ omega (arith, cut_elsewhere b side k e front back cut.splits l.entry l.node other.1, old.here)
          ]

      by : (c : Bool) → eqb l.entry e ≡ c → IsNextAt m' b' v.held.nodes (cond c (record l { next = 0 }) l)
      by true is = record { is = subst (λ x. next' x ≡ 0) (sym (eqb-true l.entry e is)) next_none; locked = old.locked; here = here; found = old.found }
      by false is = record {
        is = next_same l.entry (λ same. differs (eqb l.entry e) is (eq-eqb l.entry e same)) ∙ old.is;
        locked = old.locked;
        here = here;
        found = old.found;
      }

  -- those that another seat has loaded are of other nodes
  other_next : (u : View) → Beside vs i u → (l : HeldNext) → IsNextAt m b u.held.nodes l → IsNextAt m' b' u.held.nodes l
  other_next u beside l old = record {
    is = next_same l.entry other_entry ∙ old.is;
    locked = old.locked;
    here = omega (arith, cut_elsewhere b side k e front back cut.splits l.entry l.node other_node, old.here);
    found = old.found;
  }
    where
      other_node : l.node ≡ k → ⊥
      other_node same = unlocked z m vs g rule i v at e cut u beside (subst (λ n. 0 < count n (held_slots u.held.nodes)) same old.locked)

      live : IsLive z vs l.node
      live = locked_live z m vs g rule beside.place l.node u beside.at old.locked

      other_entry : l.entry ≡ e → ⊥
      other_entry same = by (cases_lt 0 (count l.entry (b.bundle Left l.node)))
        where
          by : (0 < count l.entry (b.bundle Left l.node)) ⊎ (count l.entry (b.bundle Left l.node) ≤ 0) → ⊥
          by (inl left) = elsewhere l.node l.entry Left live (λ sides nodes. other_node nodes) left same
          by (inr none) = elsewhere l.node l.entry RightSide live (λ sides nodes. other_node nodes)
              (omega (arith, none, old.here, count-append l.entry (b.bundle Left l.node) (b.bundle RightSide l.node))) same

  -- the word is none of a seat's own slots
  filled_same : (j : ℕ) (u : View) → IsItem vs j u → (y : Word) → IsOwnSlotWord u.free u.update y → m' y ≡ m y
  filled_same j u of (Node f n) is = refl
  filled_same j u of (Entry p d) (inl free) =
      entry_other m Next p e d 0 (λ same. not_in_bundle z vs g rule.slots j k e u of (subst (λ x. 0 < count x u.free.entries) same free) cut.live
      (in_entries b k e side member))
  filled_same j u of (Entry p d) (inr yet) =
      entry_other m Next p e d 0 (λ same.
      let pends = every_at (IsPending z head stamp b.number u) d u.update.pending (seat_at z m vs g j u of rule).pending yet.1 in
      omega (arith, pends.1, ap shown yet.0, ap b.number same, cut.past, rule.history.calls, rule.history.few))
  filled_same j u of _ is = absurd is

  holds_lock : v.held.nodes ≡ [] → ⊥
  holds_lock none = omega (arith, cut.locked, ap (λ (hs : List HeldNode). count k (held_slots hs)) none)

  own_seat : SeatRight z m' g' w
  own_seat = record {
    layout = own.layout;
    section = record {
      section = own.section.section;
      announced = own.section.announced;
      outside = λ even. ap (λ (r : Reading). record r { place = place_cut back r.place }) (own.section.outside even);
      unlocked = own.section.unlocked;
      done = own.section.done;
      waits = own.section.waits;
    };
    seen = own.seen;
    update = own.update;
    version = own.version;
    announced = own.announced;
    tree = new_tree i v at own.tree;
    locks = own.locks;
    loaded = record {
      nodes = own.loaded.nodes;
      nexts =
          every_passing (IsNextAt m b v.held.nodes) (IsNextAt m' b' v.held.nodes) (λ (l : HeldNext). not (has l.entry back)) (next_cut e)
          v.held.nexts own_next own.loaded.nexts;
    };
    marks = own.marks;
    pending = own.pending;
    place = own_place z m vs g rule i v at e cut v.reading.place own.place;
    filled = every_filled m m' v.free v.free v.update v.update v.reading.filled (λ y is. is) (filled_same i v at) own.filled;
    links = every_map (LinkRight z (λ d. m (Entry Child d)) b v) (LinkRight z (λ d. m (Entry Child d)) b' w) v.reading.links
        (λ l old. new_link v (reads_at i v at) l.node l.child l.side l.source old) own.links;
  }

  other_seat : (u : View) → Beside vs i u → SeatRight z m g u → SeatRight z m' g' u
  other_seat u beside of = record {
    layout = of.layout;
    section = of.section;
    seen = of.seen;
    update = of.update;
    version = of.version;
    announced = of.announced;
    tree = new_tree beside.place u beside.at of.tree;
    locks = of.locks;
    loaded = record {
      nodes = of.loaded.nodes;
      nexts = every_map (IsNextAt m b u.held.nodes) (IsNextAt m' b' u.held.nodes) u.held.nexts (other_next u beside) of.loaded.nexts;
    };
    marks = of.marks;
    pending = of.pending;
    place = other_place z m vs g rule i v at e cut u beside u.reading.place of.place;
    filled = every_filled m m' u.free u.free u.update u.update u.reading.filled (λ y is. is) (filled_same beside.place u beside.at) of.filled;
    links = every_map (LinkRight z (λ d. m (Entry Child d)) b u) (LinkRight z (λ d. m (Entry Child d)) b' u) u.reading.links
        (λ l old. new_link u (reads_at beside.place u beside.at) l.node l.child l.side l.source old) of.links;
  }

  -- each number that is read is at least the entry's
  read_low : (t : ℕ) → IsRead (m Stamp) vs t → b.number e ≤ t
  read_low t (inl is) = omega (arith, is, cut.past)
  read_low t (inr by) = subst (λ (o : Option ℕ). IfSome o (λ x. b.number e ≤ x)) by.reads (reads_at by.seat by.view by.at)

  selects_same : SelectsSame z (IsRead (m Stamp) vs) vs g ws g'
  selects_same t j s read live live' = select_cut b side k e front back cut.splits t s j (read_low t read)

  pub cut_kept : Kept z m vs g m' ws
  cut_kept = record {
    meaning = g';
    rule = record {
      numbers = λ n. sum_kept (number_count n) vs i v w at refl ∙ rule.numbers n;
      history = history_kept z _ g vs i v w at refl refl rule.history;
      slots = new_slots;
      locks = λ j. sum_kept (lock_count j) vs i v w at refl ∙ rule.locks j;
      tree = version_frame m m' b b' g.updates (m Stamp) g.tree (λ n here. node_same (m Stamp) n cut.past) rule.tree;
      marks = record { root = rule.marks.root; nodes = rule.marks.nodes };
      bundles = new_bundle;
      pairs = pairs_same vs i v w at refl rule.pairs;
      single = λ d. omega (arith, sum_kept (pending_count d) vs i v w at refl, rule.single d);
      seats = all_moved (SeatRight z m g) (SeatRight z m' g') vs i v w at rule.seats own_seat other_seat;
    };
    same = selects_same;
    plain = λ right. plain_same z m vs g rule g' ws selects_same (λ j live. (live.0, sum_kept (own_free nodes_of j) vs i v w at refl ∙ live.1))
        (λ d low. omega arith) (plain_quiet m g vs i v w at (quiet_work v w refl refl refl refl) right);
    stays = λ e. refl;
  }
