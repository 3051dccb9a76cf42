-- A seat that is made: the rule is kept.
use Rattle.std.proofs.Common.{◌≡◌, ℕ, ◌+◌, List, [], ◌∷◌, ◌++◌, drop, cond, Bool, true, false, eqb, set, arith, refl, ◌∙◌, sym, subst, inl, inr}
use Rattle.std.proofs.lemmas.List.Elements.{All-set, All-push}
use Rattle.index_words.specs.declared.layout.Layout.{Layout}
use Rattle.key_map.specs.declared.pass.PassSize.{PassSize}
use Rattle.index_words.specs.declared.view.View.{View}
use Rattle.index_words.specs.declared.word.Word.{Word}
use Rattle.index_words.specs.declared.word.Word.TheVariants.{Section, Announced, Node, Entry}
use Rattle.index_words.specs.Words.{Memory, memory}
use Rattle.key_map.specs.Lists.{count, Every, IsItem}
use Rattle.index_words.proofs.Seats.{at_item, all_moved, sum_split}
use Rattle.core_grace.specs.Holds.{HoldsNode, HoldsEntry}
use Rattle.core_grace.specs.Slots.{own_free, nodes_of}
use Rattle.core_grace.proofs.TwoSeats.{split_slots}
use Rattle.core_invariant.proofs.Pairs.{pairs_same, pairs_push}
use Rattle.core_invariant.specs.Meanings.{Meaning, linked_by}
use Rattle.core_invariant.specs.LinkRule.{LinksLast}
use Rattle.core_invariant.specs.Reached.{plain_graph}
use Rattle.index_words.specs.declared.word.Field.TheVariants.{Mark, Tag}
use Rattle.core_kept.specs.TurnLaws.{TurnsKept}
use Rattle.core_invariant.specs.Numbers.{number_count, IsSpare}
use Rattle.core_invariant.specs.Histories.{place_count, calls_left}
use Rattle.core_invariant.specs.OwnPlaces.{KnowsPlaces}
use Rattle.core_invariant.specs.WaitingSlots.{WaitsRight}
use Rattle.core_invariant.specs.UnusedSlots.{UnusedRight}
use Rattle.core_invariant.specs.SectionRule.{IsIdle}
use Rattle.core_invariant.specs.Locks.{lock_count}
use Rattle.core_invariant.specs.BundleRule.{IsPendingAt, pending_count}
use Rattle.core_invariant.specs.SeatRule.{SeatRight}
use Rattle.core_invariant.specs.SpentViews.{IsSpent}
use Rattle.core_invariant.specs.FilledRule.{IsOwnSlotWord}
use Rattle.core_events.specs.Openings.{made_left, made_right, MayMake}
use Rattle.core_invariant.specs.Rule.{Rule, InRule}
use Rattle.core_invariant.proofs.Frames.{bundle_weaker, knows_moved}
use Rattle.core_invariant.proofs.OneView.{seat_at}
use Rattle.core_invariant.proofs.Filled.{every_filled}
use Rattle.core_invariant.proofs.KeptViews.{live_spent}
use Rattle.core_kept.proofs.TwoViews.{WorksIf, count-take-drop, knows_push, idle_bare}
use Rattle.core_kept.proofs.FreeWords.{LessOf, subset_less, less_right}
use Rattle.core_kept.proofs.KnownHeld.{same_known}
use Rattle.core_kept.proofs.LinkedLast.{nothing_brought}
use Rattle.core_kept.proofs.MadeSearches.{SameSeat, OnlyFree, tree_made, searches_made, reach_made}
use Rattle.core_kept.proofs.PlainKept.{quiet_work, quiet_pushed}
use Rattle.core_kept.proofs.TurnFrames.{same_kept, turns_before}
use Rattle.core_kept.proofs.TurnSeats.{turns_pushed}

either_none : (b : Bool) → 0 + cond b 0 0 ≡ 0
either_none true = refl
either_none false = refl

-- the number that is given goes to the new view
given_once : (k n : ℕ) (give rest : List ℕ) → give ≡ n ∷ rest → count k (drop 1 give) + count k (n ∷ []) ≡ count k give
given_once k n give rest is = subst (λ (xs : List ℕ). count k (drop 1 xs) + count k (n ∷ []) ≡ count k xs) (sym is) (omega arith)

module _ (z : Layout) (m : Memory) (vs : List View) (g : Meaning) where
  -- a word of what is left is one of what was there
  made_own : (v : View) (size : PassSize) (w : Word) → IsOwnSlotWord (made_left v size).free v.update w → IsOwnSlotWord v.free v.update w
  made_own v size (Node f k) own = (own.0, omega (arith, own.1, count-take-drop k size.nodes v.free.nodes))
  made_own v size (Entry p e) (inl free) = inl (omega (arith, free, count-take-drop e size.entries v.free.entries))
  made_own v size (Entry p e) (inr pending) = inr pending
  made_own v size _ own = absurd own

  made_pair : (v : View) (n : ℕ) (size : PassSize) → SeatRight z m g v → v.joined ≡ false → (m (Section n) ≡ 0) × (m (Announced n) ≡ 0)
      → SeatRight z m g (made_left v size) × SeatRight z m g (made_right v n size)
  made_pair v n size seat live none = (
    record {
      layout = seat.layout;
      section = seat.section;
      seen = seat.seen;
      update = seat.update;
      version = seat.version;
      announced = seat.announced;
      tree = seat.tree;
      locks = seat.locks;
      loaded = seat.loaded;
      marks = seat.marks;
      pending = seat.pending;
      place = seat.place;
      filled = every_filled m m v.free (made_left v size).free v.update v.update v.reading.filled (made_own v size) (λ w own. refl) seat.filled;
      links = seat.links;
    },
    record {
      layout = λ _. seat.layout live;
      section = record { section = none.0; announced = none.1; outside = λ even. refl; unlocked = λ even. inl refl; done = λ _. refl; waits = λ odd. refl };
      seen = record { seen = refl; told = refl; known = omega arith; found = omega arith; given = tt };
      update = record { raised = tt; first = λ _. refl };
      version = record { past = tt; opened = tt; bare = λ _. refl; there = λ k some. absurd (omega (arith, some)) };
      announced = record { low = omega arith; read = tt; least = tt };
      tree = tt;
      locks = λ k some. absurd (omega (arith, some));
      loaded = record { nodes = tt; nexts = tt };
      marks = record {
        retired = λ k some. absurd (omega (
          arith,
          some,
        ));
        batch = λ k some. absurd (omega (arith, some));
        taken = λ k some. absurd (omega (arith, some));
      };
      pending = tt;
      place = tt;
      filled = tt;
      links = tt;
    },
  )

  -- making a seat keeps the rule, where the words of its number are 0
  pub make_kept : (i n : ℕ) (v : View) (size : PassSize) → IsItem vs i v → Rule z m vs g → MayMake v n size → (m (Section n) ≡ 0) × (m (Announced n) ≡ 0)
      → Rule z m (set vs i (made_left v size) ++ made_right v n size ∷ []) g
  make_kept i n v size at rule may none =
      let w : View = made_left v size in
      let y : View = made_right v n size in
      let us : List View = set vs i w ++ y ∷ [] in
      let seats = made_pair v n size (seat_at z m vs g i v at rule) may.live none in
      let idle : IsIdle y = record { reading = refl; held = refl; update = refl } in
      record {
        numbers = λ k. sum_split (number_count k) vs i v w y at (omega (arith, given_once k n v.to_give may.rest may.next)) ∙ rule.numbers k;
        history = record {
          long = rule.history.long;
          known = knows_push g.updates (set vs i w) y (knows_moved g.updates vs i v w at (λ all. all) rule.history.known);
          clients = rule.history.clients;
          places = λ k place. sum_split (place_count k place) vs i v w y at (omega (arith, either_none (eqb n k))) ∙ rule.history.places k place;
          calls = omega (arith, sum_split calls_left vs i v w y at (omega (arith, may.calls)), rule.history.calls);
          few = rule.history.few;
        };
        slots = split_slots z (linked_by g) HoldsNode (HoldsEntry g.bundles) vs i v w y at rule.slots
            (record { number = refl; section_word = refl; batch = refl; grace = refl; nodes = λ k h. h; entries = λ e h. h })
            (idle_bare z m vs g y idle refl) (λ k. count-take-drop k size.nodes v.free.nodes)
            (λ e. count-take-drop e size.entries v.free.entries) refl refl refl;
        locks = λ k. sum_split (lock_count k) vs i v w y at (omega arith) ∙ rule.locks k;
        tree = rule.tree;
        marks = rule.marks;
        bundles = λ k alive side. bundle_weaker _ _ _ _ (IsPendingAt vs k) (IsPendingAt us k) _ _
            (λ e is. (
              sum_split (pending_count e) vs i v w y at (omega arith) ∙ is.0,
              All-push (WorksIf k e) (set vs i w) y (all_moved (WorksIf k e) (WorksIf k e) vs i v w at is.1 (at_item (WorksIf k e) vs i v at is.1)
                  (λ u beside of. of)) (λ some. absurd (omega (arith, some))),
            ))
            (rule.bundles k (alive.0, sym (sum_split (own_free nodes_of k) vs i v w y at (count-take-drop k size.nodes v.free.nodes)) ∙ alive.1) side);
        pairs = pairs_push (set vs i w) y refl refl (pairs_same vs i v w at refl rule.pairs);
        single = λ e. omega (arith, sum_split (pending_count e) vs i v w y at (omega arith), rule.single e);
        seats =
            All-push (SeatRight z m g) (set vs i w) y (all_moved (SeatRight z m g) (SeatRight z m g) vs i v w at rule.seats seats.0 (λ u beside of. of))
            seats.1;
      }

-- both views have slots of the one that was there
left_less : (v : View) (size : PassSize) → LessOf v.free v.unused (made_left v size).free (made_left v size).unused
left_less v size =
    subset_less v.free v.unused (made_left v size).free (made_left v size).unused (λ k some. omega (arith, some, count-take-drop k size.nodes v.free.nodes))
    (λ e some. omega (arith, some, count-take-drop e size.entries v.free.entries))
    (λ k some. omega (arith, some, count-take-drop k size.nodes v.unused.nodes))
    (λ e some. omega (arith, some, count-take-drop e size.entries v.unused.entries))

right_less : (v : View) (n : ℕ) (size : PassSize) → LessOf v.free v.unused (made_right v n size).free (made_right v n size).unused
right_less v n size =
    subset_less v.free v.unused (made_right v n size).free (made_right v n size).unused
    (λ k some. omega (arith, some, count-take-drop k size.nodes v.free.nodes)) (λ e some. omega (arith, some, count-take-drop e size.entries v.free.entries))
    (λ k some. omega (arith, some, count-take-drop k size.nodes v.unused.nodes))
    (λ e some. omega (arith, some, count-take-drop e size.entries v.unused.entries))

module _ (z : Layout) (words : List ℕ) where
  abbrev m : Memory
  m = memory z words

  abbrev AreSpare : List ℕ → Type 0
  AreSpare xs = Every (λ n. (m (Section n) ≡ 0) × (m (Announced n) ≡ 0)) xs

  -- making a seat keeps the table in its rule
  pub made : (vs : List View) (i n : ℕ) (v : View) (size : PassSize) → IsItem vs i v → InRule z words vs → MayMake v n size
      → InRule z words (set vs i (made_left v size) ++ made_right v n size ∷ [])
  made vs i n v size at right may =
      let w : View = made_left v size in
      let y : View = made_right v n size in
      let own : AreSpare v.to_give = at_item (IsSpare m) vs i v at right.spare in
      let spare : AreSpare (n ∷ may.rest) = subst AreSpare may.next own in
      let kept : AreSpare (drop 1 v.to_give) = subst (λ (xs : List ℕ). AreSpare (drop 1 xs)) (sym may.next) spare.1 in
      let knows : KnowsPlaces v = at_item KnowsPlaces vs i v at right.places in
      let waits : WaitsRight v = at_item WaitsRight vs i v at right.waits in
      let unused : UnusedRight m v = at_item (UnusedRight m) vs i v at right.unused in
      let same : SameSeat v w = record { work = refl; number = refl; word = refl; reading = refl; held = refl; batch = refl; retired = refl; grace = refl } in
      let bare : OnlyFree y = record { reading = refl; update = refl; held = refl; word = refl; batch = refl } in
      let turns : TurnsKept z (plain_graph m) (λ k. m (Node Mark k)) (λ side k. m (Node (Tag side) k)) (set vs i w ++ y ∷ []) right.plain_tree
      = turns_pushed z (plain_graph m) (λ k. m (Node Mark k)) (λ side k. m (Node (Tag side) k)) right.plain_tree (set vs i w) y
      (record { left = refl; right = refl; place = refl; links = refl }) refl
      (same_kept z (plain_graph m) (λ k. m (Node Mark k)) (λ side k. m (Node (Tag side) k)) right.plain_tree vs i v w at
      (turns_before z words vs right) refl refl refl refl
      (same_known (plain_graph m) (λ side k. m (Node (Tag side) k)) v.held.nodes w.held.nodes refl)) in
      record {
        size = right.size;
        meaning = right.meaning;
        rule = make_kept z m vs right.meaning i n v size at right.rule may spare.0;
        plain = quiet_pushed m right.meaning vs i v w y at (quiet_work v w refl refl refl refl) refl right.plain;
        plain_tree = right.plain_tree;
        trees = tree_made z (plain_graph m) vs i v w y at same bare right.meaning.tree right.plain_tree right.trees;
        searches = searches_made z (plain_graph m) vs i v w y at same bare right.meaning.tree right.plain_tree right.searches;
        reach = reach_made z (plain_graph m) vs i v w y at same bare (λ k. count-take-drop k size.nodes v.free.nodes) right.reach;
        turns = turns.turns;
        leaving = turns.leaving;
        still = turns.still;
        known = turns.known;
        linking =
            All-push LinksLast (set vs i w) y (All-set LinksLast vs i w (at_item LinksLast vs i v at right.linking) right.linking)
            (nothing_brought y refl);
        spent = All-push IsSpent (set vs i w) y (All-set IsSpent vs i w (live_spent w may.live) right.spent) (live_spent y refl);
        spare = All-push (IsSpare m) (set vs i w) y (All-set (IsSpare m) vs i w kept right.spare) tt;
        places = All-push KnowsPlaces (set vs i w) y
            (All-set KnowsPlaces vs i w knows right.places)
            (record { own = refl; given = tt; section = tt; opened = tt });
        waits = All-push WaitsRight (set vs i w) y (All-set WaitsRight vs i w waits right.waits)
            (record { apart = λ k some holds. omega (arith, some); owned = λ nameless. (refl, refl) });
        unused =
            All-push (UnusedRight m) (set vs i w) y (All-set (UnusedRight m) vs i w (less_right m v w (left_less v size) unused) right.unused)
            (less_right m v y (right_less v n size) unused);
      }
