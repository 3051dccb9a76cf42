-- A seat that is split, and a seat that is joined into another one: the rule is kept.
use Rattle.std.proofs.Common.{◌≡◌, ℕ, ◌+◌, ◌<◌, ◌⊎◌, List, [], ◌∷◌, ◌++◌, take, drop, false, set, arith, refl, ap, ◌∙◌, sym, inl, inr}
use Rattle.std.proofs.lemmas.Bool.{cases_lt}
use Rattle.std.proofs.lemmas.List.{take-append-drop, get_or_append_left, length-append}
use Rattle.std.proofs.lemmas.List.Elements.{All-set, All-push}
use Rattle.index_words.specs.declared.layout.Layout.{Layout}
use Rattle.key_map.specs.declared.update.Update.{Update}
use Rattle.index_words.specs.declared.view.View.{View}
use Rattle.index_words.specs.declared.view.reading.Reading.{Reading}
use Rattle.index_words.specs.declared.view.update.HeldNode.{HeldNode}
use Rattle.index_words.specs.declared.view.update.Updating.{Updating}
use Rattle.index_words.specs.declared.word.Field.TheVariants.{Mark}
use Rattle.index_words.specs.declared.word.Word.{Word}
use Rattle.index_words.specs.declared.word.Word.TheVariants.{Node, Entry}
use Rattle.index_words.specs.Words.{Memory}
use Rattle.index_words.specs.Views.{spent_view}
use Rattle.key_map.specs.Lists.{count, IsItem}
use Rattle.index_words.proofs.Seats.{at_item, all_moved, sum_moved, sum_kept, sum_split, sum_joined, beside_item}
use Rattle.key_map.proofs.Counting.{count-append}
use Rattle.core_grace.specs.Batches.{both}
use Rattle.core_grace.specs.Holds.{HoldsNode, HoldsEntry, work_nodes}
use Rattle.core_grace.specs.Slots.{own_free, nodes_of}
use Rattle.core_grace.proofs.TwoSeats.{IsBare, split_slots, join_slots}
use Rattle.core_invariant.proofs.Pairs.{pairs_same, pairs_push, pairs_idle}
use Rattle.core_invariant.specs.Meanings.{Meaning, linked_by}
use Rattle.core_events.specs.Moves.{split_left, split_right, joined_with, own_number, own_ended}
use Rattle.core_invariant.specs.Numbers.{number_count}
use Rattle.core_invariant.specs.Histories.{KnowsAll, place_count, calls_left}
use Rattle.core_invariant.specs.SectionRule.{IsIdle}
use Rattle.core_invariant.specs.Locks.{lock_count, MarksRight, IsTakenOut}
use Rattle.core_invariant.specs.BundleRule.{IsPendingAt, pending_count}
use Rattle.core_invariant.specs.FilledRule.{IsOwnSlotWord}
use Rattle.core_invariant.specs.SeatRule.{SeatRight}
use Rattle.core_invariant.specs.Rule.{Rule}
use Rattle.core_invariant.proofs.Frames.{bundle_weaker, knows_moved}
use Rattle.core_invariant.proofs.Filled.{every_filled}
use Rattle.core_invariant.proofs.Idle.{idle_nodes, idle_entry}
use Rattle.core_invariant.proofs.OneView.{seat_at, idle_marked}
use Rattle.core_invariant.proofs.Joins.{seen_joined, ended_append, ended_own, knows_joined}

pub count-take-drop : (k n : ℕ) (xs : List ℕ) → count k (drop n xs) + count k (take n xs) ≡ count k xs
count-take-drop k n xs = omega (arith, count-append k (take n xs) (drop n xs), ap (count k) (take-append-drop n xs))

-- where a view has the entry pending, it works on the node
abbrev pub WorksIf : ℕ → ℕ → View → Type 0
WorksIf k e u = 0 < pending_count e u → 0 < count k (work_nodes u)

pub knows_push : (updates : List Update) (vs : List View) (y : View) → KnowsAll updates vs → KnowsAll updates (vs ++ y ∷ [])
knows_push updates vs y knows = record {
  place = knows.place;
  view = knows.view;
  at = record {
    within = omega (
      arith,
      length-append vs (y ∷ []),
      knows.at.within,
    );
    is = λ d. get_or_append_left vs (y ∷ []) d knows.place knows.at.within ∙ knows.at.is d;
  };
  all = knows.all;
}

module _ (z : Layout) (m : Memory) (vs : List View) (g : Meaning) where
  pub idle_bare : (y : View) → IsIdle y → y.grace ≡ record { found = []; passed = [] } → IsBare z (linked_by g) HoldsNode (HoldsEntry g.bundles) y
  idle_bare y idle grace = record {
    grace = grace;
    nodes = λ k holds. omega (arith, holds, ap (count k) (idle_nodes y idle));
    entries = λ e holds. idle_entry g.bundles y e idle holds;
  }

  -- a word of what is left is one of what was there
  split_own : (v : View) (n : ℕ) (w : Word) → IsOwnSlotWord (split_left v n).free v.update w → IsOwnSlotWord v.free v.update w
  split_own v n (Node f k) own = (own.0, omega (arith, own.1, count-take-drop k n v.free.nodes))
  split_own v n (Entry p e) own = own
  split_own v n _ own = absurd own

  split_seats : (v : View) (n : ℕ) → SeatRight z m g v → v.joined ≡ false → SeatRight z m g (split_left v n) × SeatRight z m g (split_right v n)
  split_seats v n seat live = (
    record {
      layout = seat.layout;
      section = seat.section;
      seen = seat.seen;
      update = seat.update;
      version = seat.version;
      announced = seat.announced;
      tree = seat.tree;
      locks = seat.locks;
      loaded = seat.loaded;
      marks = seat.marks;
      pending = seat.pending;
      place = seat.place;
      filled = every_filled m m v.free (split_left v n).free v.update v.update v.reading.filled (split_own v n) (λ w own. refl) seat.filled;
      links = seat.links;
    },
    record {
      layout = λ _. seat.layout live;
      section = record { section = refl; announced = refl; outside = λ even. refl; unlocked = λ even. inl refl; done = λ _. refl; waits = λ odd. refl };
      seen = record { seen = seat.seen.seen; told = refl; known = omega arith; found = omega arith; given = tt };
      update = record { raised = tt; first = λ _. refl };
      version = record { past = tt; opened = tt; bare = λ _. refl; there = λ k some. absurd (omega (arith, some)) };
      announced = record { low = omega arith; read = tt; least = tt };
      tree = tt;
      locks = λ k some. absurd (omega (arith, some));
      loaded = record { nodes = tt; nexts = tt };
      marks = record {
        retired = λ k some. absurd (omega (
          arith,
          some,
        ));
        batch = λ k some. absurd (omega (arith, some));
        taken = λ k some. absurd (omega (arith, some));
      };
      pending = tt;
      place = tt;
      filled = tt;
      links = tt;
    },
  )

  -- splitting a seat keeps the rule
  pub split_kept : (i n : ℕ) (v : View) → IsItem vs i v → Rule z m vs g → v.joined ≡ false
      → Rule z m (set vs i (split_left v n) ++ split_right v n ∷ []) g
  split_kept i n v at rule live =
      let w : View = split_left v n in
      let y : View = split_right v n in
      let us : List View = set vs i w ++ y ∷ [] in
      let seats = split_seats v n (seat_at z m vs g i v at rule) live in
      let idle : IsIdle y = record { reading = refl; held = refl; update = refl } in
      record {
        numbers = λ k. sum_split (number_count k) vs i v w y at (omega arith) ∙ rule.numbers k;
        history = record {
          long = rule.history.long;
          known = knows_push g.updates (set vs i w) y (knows_moved g.updates vs i v w at (λ all. all) rule.history.known);
          clients = rule.history.clients;
          places = λ k place. sum_split (place_count k place) vs i v w y at (omega arith) ∙ rule.history.places k place;
          calls = omega (arith, sum_split calls_left vs i v w y at (omega arith), rule.history.calls);
          few = rule.history.few;
        };
        slots = split_slots z (linked_by g) HoldsNode (HoldsEntry g.bundles) vs i v w y at rule.slots
            (record { number = refl; section_word = refl; batch = refl; grace = refl; nodes = λ k h. h; entries = λ e h. h })
            (idle_bare y idle refl) (λ k. count-take-drop k n v.free.nodes) (λ e. omega arith) refl refl refl;
        locks = λ k. sum_split (lock_count k) vs i v w y at (omega arith) ∙ rule.locks k;
        tree = rule.tree;
        marks = rule.marks;
        bundles = λ k alive side. bundle_weaker _ _ _ _ (IsPendingAt vs k) (IsPendingAt us k) _ _
            (λ e is. (
              sum_split (pending_count e) vs i v w y at (omega arith) ∙ is.0,
              All-push (WorksIf k e) (set vs i w) y (all_moved (WorksIf k e) (WorksIf k e) vs i v w at is.1 (at_item (WorksIf k e) vs i v at is.1)
                  (λ u beside of. of)) (λ some. absurd (omega (arith, some))),
            ))
            (rule.bundles k (alive.0, sym (sum_split (own_free nodes_of k) vs i v w y at (count-take-drop k n v.free.nodes)) ∙ alive.1) side);
        pairs = pairs_push (set vs i w) y refl refl (pairs_same vs i v w at refl rule.pairs);
        single = λ e. omega (arith, sum_split (pending_count e) vs i v w y at (omega arith), rule.single e);
        seats =
            All-push (SeatRight z m g) (set vs i w) y (all_moved (SeatRight z m g) (SeatRight z m g) vs i v w at rule.seats seats.0 (λ u beside of. of))
            seats.1;
      }

  numbers_joined : (n : ℕ) (v u : View) → number_count n (joined_with v u) + number_count n spent_view ≡ number_count n v + number_count n u
  numbers_joined n v u =
      omega (
        arith,
        count-append n v.history.ended (u.history.ended ++ own_number u.number),
        count-append n u.history.ended (own_number u.number),
        count-append n v.to_give u.to_give,
      )

  places_joined : (n place : ℕ) (v u : View) → place_count n place (joined_with v u) + place_count n place spent_view
      ≡ place_count n place v + place_count n place u
  places_joined n place v u =
      omega (
        arith,
        ended_append n place v.history.ended_places (u.history.ended_places ++ own_ended u.number u.history.mine),
        ended_append n place u.history.ended_places (own_ended u.number u.history.mine),
        ended_own n place u.number u.history.mine,
      )

  -- what is retired after a join
  joined_marks : (v u : View) → SeatRight z m g v → SeatRight z m g u → IsIdle u → MarksRight (λ k. m (Node Mark k)) (joined_with v u)
  joined_marks v u seat other idle = record {
    retired = λ k some.
        elim (cases_lt 0 (count k v.retired.nodes)) as (λ _. (m (Node Mark k) ≡ 1) ⊎ IsTakenOut v k) [
          | inl own ↦ seat.marks.retired k own
          | inr rest ↦ elim (cases_lt 0 (count k u.retired.nodes)) as (λ _. (m (Node Mark k) ≡ 1) ⊎ IsTakenOut v k) [
            | inl given ↦ inl (idle_marked z m vs g u k other idle given)
            | inr last ↦
                inl (other.marks.batch k (omega (
                  arith,
                  some,
                  rest,
                  last,
                  count-append k v.retired.nodes (both u.retired u.batch).nodes,
                  count-append k u.retired.nodes u.batch.nodes,
                )))
          ]
        ];
    batch = seat.marks.batch;
    taken = λ k some. omega (arith, seat.marks.taken k some, count-append k v.retired.nodes (both u.retired u.batch).nodes);
  }

  joined_seat : (v u : View) → SeatRight z m g v → SeatRight z m g u → IsIdle u → SeatRight z m g (joined_with v u)
  joined_seat v u seat other idle = record {
    layout = seat.layout;
    section = record {
      section = seat.section.section;
      announced = seat.section.announced;
      outside = λ even. ap (λ (r : Reading). record r { filled = [] }) (seat.section.outside even);
      unlocked = seat.section.unlocked;
      done = seat.section.done;
      waits = seat.section.waits;
    };
    seen = seen_joined g.updates v.history u.history u.number seat.seen other.seen;
    update = seat.update;
    version = seat.version;
    announced = seat.announced;
    tree = seat.tree;
    locks = seat.locks;
    loaded = seat.loaded;
    marks = joined_marks v u seat other idle;
    pending = seat.pending;
    place = seat.place;
    filled = tt;
    links = seat.links;
  }

  spent_seat : SeatRight z m g spent_view
  spent_seat = record {
    layout = λ live. cc;
    section = record { section = refl; announced = refl; outside = λ even. refl; unlocked = λ even. inl refl; done = λ _. refl; waits = λ odd. refl };
    seen = record { seen = refl; told = refl; known = omega arith; found = omega arith; given = tt };
    update = record { raised = tt; first = λ _. refl };
    version = record { past = tt; opened = tt; bare = λ _. refl; there = λ k some. absurd (omega (arith, some)) };
    announced = record { low = omega arith; read = tt; least = tt };
    tree = tt;
    locks = λ k some. absurd (omega (arith, some));
    loaded = record { nodes = tt; nexts = tt };
    marks = record {
      retired = λ k some. absurd (omega (
        arith,
        some,
      ));
      batch = λ k some. absurd (omega (arith, some));
      taken = λ k some. absurd (omega (arith, some));
    };
    pending = tt;
    place = tt;
    filled = tt;
    links = tt;
  }

  -- joining an idle seat into another one keeps the rule
  pub join_kept : (i j : ℕ) (v u : View) → IsItem vs i v → IsItem vs j u → (j ≡ i → ⊥) → IsIdle u → Rule z m vs g
      → Rule z m (set (set vs i (joined_with v u)) j spent_view) g
  join_kept i j v u at of other idle rule =
      let w : View = joined_with v u in
      let us : List View = set (set vs i w) j spent_view in
      let seat = seat_at z m vs g i v at rule in
      let given = seat_at z m vs g j u of rule in
      let unlocked : (k : ℕ) → lock_count k u ≡ 0
      = λ k. ap (λ (hs : List HeldNode). lock_count k (record u { held = record u.held { nodes = hs } })) idle.held in
      let unpending : (e : ℕ) → pending_count e u ≡ 0 = λ e. ap (λ (x : Updating). pending_count e (record u { update = x })) idle.update in
      let idle' : IsIdle spent_view = record { reading = refl; held = refl; update = refl } in
      record {
        numbers = λ k. sum_joined (number_count k) vs i j v u w spent_view at of other (numbers_joined k v u) ∙ rule.numbers k;
        history = record {
          long = rule.history.long;
          known = knows_joined g.updates vs i j v u w spent_view at of other seat.seen.seen given.seen.seen refl rule.history.known;
          clients = rule.history.clients;
          places = λ k place. sum_joined (place_count k place) vs i j v u w spent_view at of other (places_joined k place v u) ∙ rule.history.places k place;
          calls = omega (
            arith,
            sum_moved calls_left (set vs i w) j u spent_view (beside_item vs i j u w of other),
            sum_kept calls_left vs i v w at refl,
            rule.history.calls,
          );
          few = rule.history.few;
        };
        slots = join_slots z (linked_by g) HoldsNode (HoldsEntry g.bundles) vs i j v u w spent_view at of other rule.slots
            (record { number = refl; section_word = refl; batch = refl; grace = refl; nodes = λ k h. h; entries = λ e h. h })
            (idle_bare spent_view idle' refl) refl refl refl refl refl;
        locks = λ k. sum_joined (lock_count k) vs i j v u w spent_view at of other (omega (arith, unlocked k)) ∙ rule.locks k;
        tree = rule.tree;
        marks = rule.marks;
        bundles = λ k alive side. bundle_weaker _ _ _ _ (IsPendingAt vs k) (IsPendingAt us k) _ _
            (λ e is. (
              sum_joined (pending_count e) vs i j v u w spent_view at of other (omega (arith, unpending e)) ∙ is.0,
              All-set (WorksIf k e) (set vs i w) j spent_view (λ some. absurd (omega (arith, some)))
                  (all_moved (WorksIf k e) (WorksIf k e) vs i v w at is.1 (at_item (WorksIf k e) vs i v at is.1) (λ x beside old. old)),
            ))
            (rule.bundles k (
              alive.0,
              sym (sum_joined (own_free nodes_of k) vs i j v u w spent_view at of other
                  (omega (arith, count-append k v.free.nodes u.free.nodes))) ∙ alive.1,
            ) side);
        pairs = pairs_idle (set vs i w) j u spent_view (beside_item vs i j u w of other) refl refl (pairs_same vs i v w at refl rule.pairs);
        single = λ e. omega (arith, sum_joined (pending_count e) vs i j v u w spent_view at of other (omega (arith, unpending e)), rule.single e);
        seats = All-set (SeatRight z m g) (set vs i w) j spent_view spent_seat
            (all_moved (SeatRight z m g) (SeatRight z m g) vs i v w at rule.seats (joined_seat v u seat given idle) (λ x beside old. old));
      }
