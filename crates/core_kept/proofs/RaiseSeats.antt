-- Raise: the rule on each seat, the one that raises and each other one.
use Rattle.std.proofs.Common.{◌≡◌, ℕ, ◌+◌, ◌<◌, ◌≤◌, ◌⊎◌, cond, List, [], ◌∷◌, ◌++◌, Bool, true, false, eqb, arith, refl, ap, ◌∙◌, sym, subst, inl, inr, Option, Some, None, is_some}
use Rattle.std.specs.Prelude.{IfSome}
use Rattle.std.proofs.lemmas.Bool.{cases_lt}
use Rattle.std.proofs.lemmas.Bool.Decides.{nat_tests}
use Rattle.std.proofs.lemmas.Option.{IfSome_then}
use Rattle.index_words.specs.declared.layout.Layout.{Layout}
use Rattle.index_words.specs.declared.side.Side.{Side}
use Rattle.index_words.specs.declared.side.Side.TheVariants.{Left, Right}
use Rattle.key_map.specs.declared.update.Update.{Update}
use Rattle.index_words.specs.declared.view.View.{View}
use Rattle.index_words.specs.declared.view.reading.Place.{Place}
use Rattle.index_words.specs.declared.view.reading.Place.TheVariants.{Entry as AtEntry}
use Rattle.index_words.specs.declared.view.reading.LinkSource.{LinkSource}
use Rattle.index_words.specs.declared.view.reading.LinkSource.TheVariants.{Bundle, Plain}
use Rattle.index_words.specs.declared.word.Field.TheVariants.{Mark, Head}
use Rattle.index_words.specs.declared.word.Part.TheVariants.{Child, Stamp as Number, Next}
use Rattle.index_words.specs.declared.word.Word.TheVariants.{Stamp, Node, Entry}
use Rattle.index_words.specs.Words.{Memory, written}
use Rattle.key_map.specs.Lists.{count, has, Every, IsItem}
use Rattle.index_words.proofs.Seats.{Beside, one_term, two_terms}
use Rattle.key_map.proofs.Counting.{count-append, has-count}
use Rattle.core_grace.specs.Sections.{is_even}
use Rattle.core_grace.specs.Holds.{entries_of, listed}
use Rattle.core_grace.specs.Slots.{nodes_of, own, is_slot}
use Rattle.core_trees.specs.NamedTree.{NamedTree}
use Rattle.core_events.specs.declared.tree_move.TreeMove.{TreeMove}
use Rattle.core_invariant.proofs.Pairs.{announced_same}
use Rattle.core_invariant.specs.Meanings.{Meaning}
use Rattle.core_invariant.specs.Locks.{IsNextAt, MarksRight, IsTakenOut}
use Rattle.core_invariant.specs.BundleRule.{IsLive, IsPending, pending_count}
use Rattle.core_invariant.specs.Readers.{IsReachable, IsLocked, StandsAt, IsPassed, PlaceRight, EntryRight, SourceRight, LinkRight}
use Rattle.core_invariant.specs.SeatRule.{SeatRight}
use Rattle.core_events.specs.TreeMoves.{new_entries}
use Rattle.core_events.specs.UpdateMoves.{raised_view, listed_entry}
use Rattle.core_invariant.specs.MeaningMoves.{raised_numbers, with_added}
use Rattle.core_invariant.specs.Rule.{Rule}
use Rattle.core_kept.proofs.TreeMoved.{MovesTree, meaning_after}
use Rattle.core_invariant.proofs.Frames.{every_map, every_listed, one_counted}
use Rattle.core_invariant.proofs.Filled.{every_filled, stamp_apart}
use Rattle.core_invariant.proofs.OneView.{seat_at}
use Rattle.core_invariant.proofs.Owned.{reachable_live, free_entry_some}
use Rattle.core_invariant.proofs.Locked.{locked_live}
use Rattle.core_kept.proofs.Finalise.{not_done}
use Rattle.core_invariant.proofs.Needed.{CanRaise}
use Rattle.core_kept.proofs.RaiseHistory.{seen_more, own_seen}
use Rattle.core_kept.proofs.RaiseNew.{live_bundle, none_pending}
use Rattle.core_kept.proofs.RaiseNumbers.{numbered_now, above_still, selects}
use Rattle.core_kept.proofs.RaiseBundles.{works_more, works_added}
use Rattle.core_kept.proofs.RaiseTrees.{tree_now}
use Rattle.core_kept.proofs.WaitingLocks.{unraised_inside}

-- what holds of the items of both lists
every_both : (P : ℕ → Type 0) (xs ys : List ℕ) → Every P xs → Every P ys → Every P (xs ++ ys)
every_both P [] ys first second = second
every_both P (x ∷ xs) ys first second = (first.0, every_both P xs ys first.1 second)

every_each : (P : ℕ → Type 0) (xs : List ℕ) → ((x : ℕ) → 0 < count x xs → P x) → Every P xs
every_each P xs each = every_listed (λ x. Unit {0}) P xs (λ x here _. each x here) (all_unit xs)
  where
    all_unit : (xs : List ℕ) → Every (λ x. Unit {0}) xs
    all_unit [] = tt
    all_unit (x ∷ xs) = (tt, all_unit xs)

slot_there : (size k : ℕ) → 0 < is_slot size k → k ≤ size
slot_there size k some = grind (arith, nat_tests)

no_raise : (o : Option ℕ) → o ≡ None → is_some o ≡ true → ⊥
no_raise None is one = cc
no_raise (Some n) is one = cc

-- where an entry of a list of at most one stands
entry_is : (d e : ℕ) (c : Bool) → 0 < count d (cond c [] (e ∷ [])) → e ≡ d
entry_is d e true here = absurd (omega (arith, here))
entry_is d e false here = grind (arith, nat_tests)

record NewHead (m : Memory) (added : Option ℕ) (e : ℕ) : Type 0 where
  node : ℕ
  side : Side
  of : 0 < count node (listed added)
  is : m (Node (Head side) node) ≡ e

-- each entry of a new node is the head of one of its bundles
new_of : (m : Memory) (added : Option ℕ) (e : ℕ) → 0 < count e (new_entries m added) → NewHead m added e
new_of m None e here = absurd (omega (arith, here))
new_of m (Some k) e here =
    elim (cases_lt 0 (count e (listed_entry (m (Node (Head Left) k))))) as (λ _. NewHead m (Some k) e) [
      | inl left ↦ record { node = k; side = Left; of = one_counted k 0; is = entry_is e (m (Node (Head Left) k)) (eqb (m (Node (Head Left) k)) 0) left }
      | inr none ↦ record {
        node = k;
        side = Right;
        of = one_counted k 0;
        is = entry_is e (m (Node (Head Right) k)) (eqb (m (Node (Head Right) k)) 0)
            (omega (arith, here, none, count-append e (listed_entry (m (Node (Head Left) k))) (listed_entry (m (Node (Head Right) k)))));
      }
    ]

module _ (z : Layout) (m : Memory) (vs : List View) (g : Meaning) (rule : Rule z m vs g) (i : ℕ) (v : View) (u : Update) (known : List Update)
    (move : TreeMove) (tree : NamedTree) (at : IsItem vs i v) (can : CanRaise v u) (all : known ≡ g.updates) (moves : MovesTree m g v u move tree) where
  abbrev s : ℕ
  s = m Stamp

  abbrev stamp : ℕ → ℕ
  stamp d = m (Entry Number d)

  abbrev child : ℕ → ℕ
  child d = m (Entry Child d)

  abbrev next : ℕ → ℕ
  next d = m (Entry Next d)

  abbrev head : Side → ℕ → ℕ
  head w k = m (Node (Head w) k)

  abbrev m' : Memory
  m' = written m Stamp (s + 1)

  abbrev g' : Meaning
  g' = meaning_after m g v u move tree

  abbrev number' : ℕ → ℕ
  number' = raised_numbers g.bundles.number (v.update.pending ++ move.entries) (s + 1)

  abbrev bundle' : Side → ℕ → List ℕ
  bundle' = with_added g.bundles.bundle head move.added

  abbrev v' : View
  v' = raised_view known v s u move

  own_seat : SeatRight z m g v
  own_seat = seat_at z m vs g i v at rule

  -- the pending entries
  old_pending : (d : ℕ) → 0 < count d v.update.pending → IsPending z head stamp g.bundles.number v d → IsPending z head stamp number' v' d
  old_pending d here is = (
    is.0,
    numbered_now z m vs g rule i v u move tree at can moves d (omega (arith, here, count-append d v.update.pending move.entries)),
    record {
      node = is.2.node;
      side = is.2.side;
      there = is.2.there;
      is = is.2.is;
      some = is.2.some;
      of = works_more z m vs g rule i v u known move tree at can moves is.2.node is.2.of;
    },
  )

  -- the new node is a slot
  added_there : (k : ℕ) → 0 < count k (listed move.added) → k ≤ z.nodes
  added_there k here = slot_there z.nodes k (omega (arith, rule.slots.nodes.one k, one_term (own nodes_of k) vs i v at, (moves.added k here).0))

  new_pending : (d : ℕ) → 0 < count d move.entries → IsPending z head stamp number' v' d
  new_pending d here =
      let of = new_of m move.added d (subst (λ es. 0 < count d es) moves.entries here) in (
        (moves.fresh d here).1,
        numbered_now z m vs g rule i v u move tree at can moves d (omega (arith, here, count-append d v.update.pending move.entries)),
        record {
          node = of.node;
          side = of.side;
          there = added_there of.node of.of;
          is = of.is;
          some = free_entry_some z vs g rule.slots i d v at (moves.fresh d here).0;
          of = works_added z m vs g rule i v u known move tree at can moves of.node of.of;
        },
      )

  pending_now : Every (IsPending z head stamp number' v') (v.update.pending ++ move.entries)
  pending_now =
      every_both (IsPending z head stamp number' v') v.update.pending move.entries
      (every_listed (IsPending z head stamp g.bundles.number v) (IsPending z head stamp number' v') v.update.pending old_pending own_seat.pending)
      (every_each (IsPending z head stamp number' v') move.entries new_pending)

  -- another view's pending entries are not these
  other_number : (y : View) (d : ℕ) → Beside vs i y → 0 < count d y.update.pending → number' d ≡ g.bundles.number d
  other_number y d beside here = number_by (has d (v.update.pending ++ move.entries)) refl
    where
      apart : 0 < count d (v.update.pending ++ move.entries) → ⊥
      apart some =
          elim (cases_lt 0 (count d move.entries)) as (λ _. ⊥) [
            | inl new ↦ omega (arith, none_pending z m vs g rule i v u move tree at moves d new, one_term (pending_count d) vs beside.place y beside.at, here)
            | inr old ↦
                omega (arith, rule.single d, two_terms (pending_count d) vs i v y at beside, some, old, count-append d v.update.pending move.entries, here)
          ]

      number_by : (c : Bool) → has d (v.update.pending ++ move.entries) ≡ c → cond c (s + 1) (g.bundles.number d) ≡ g.bundles.number d
      number_by false is = refl
      number_by true is = absurd (apart (has-count d (v.update.pending ++ move.entries) is))

  -- a node that is live has the same entries
  entries_same : (k : ℕ) → IsLive z vs k → entries_of g'.bundles k ≡ entries_of g.bundles k
  entries_same k live =
      ap (λ es. es ++ bundle' Right k) (live_bundle z m vs g rule i v u move tree at moves k Left live)
      ∙ ap (λ es. g.bundles.bundle Left k ++ es) (live_bundle z m vs g rule i v u move tree at moves k Right live)

  nexts_now : (j : ℕ) (y : View) → IsItem vs j y → SeatRight z m g y → Every (IsNextAt m g'.bundles y.held.nodes) y.held.nexts
  nexts_now j y of seat =
      every_map (IsNextAt m g.bundles y.held.nodes) (IsNextAt m g'.bundles y.held.nodes) y.held.nexts
      (λ h is. record {
        is = is.is;
        locked = is.locked;
        here = subst (λ es. 0 < count h.entry es) (sym (entries_same h.node (locked_live z m vs g rule j h.node y of is.locked))) is.here;
        found = is.found;
      }) seat.loaded.nexts

  -- what was taken out is retired, and is still to be marked
  marks_now : MarksRight (λ k. m (Node Mark k)) v'
  marks_now = record {
    retired = λ k waits. elim (cases_lt 0 (count k v.retired.nodes)) as (λ _. (m (Node Mark k) ≡ 1) ⊎ IsTakenOut v' k) [
      | inl old ↦ elim (own_seat.marks.retired k old) as (λ _. (m (Node Mark k) ≡ 1) ⊎ IsTakenOut v' k) [
        | inl marked ↦ inl marked
        | inr out ↦ absurd (no_raise v.update.raised can.raised out.0)
      ]
      | inr none ↦
          let taken : 0 < count k move.taken = omega (arith, none, waits, count-append k v.retired.nodes move.taken) in
          inr (refl, taken, moves.locked k taken)
    ];
    batch = own_seat.marks.batch;
    taken = λ k some. omega (arith, some, count-append k v.retired.nodes move.taken);
  }

  inside : is_even v.section_word ≡ true → ⊥
  inside even = unraised_inside v (λ none. not_done can.entry v.update can.some (own_seat.section.done none)) can.raised (own_seat.section.unlocked even)

  pub own_now : SeatRight z m' g' v'
  own_now = record {
    layout = own_seat.layout;
    section = record {
      section = own_seat.section.section;
      announced = own_seat.section.announced;
      outside = λ even. absurd (inside even);
      unlocked = λ even. absurd (inside even);
      done = λ none. absurd (not_done can.entry v.update can.some (own_seat.section.done none));
      waits = own_seat.section.waits;
    };
    seen = own_seen z m vs g rule i v u known move at can all;
    update = record { raised = (omega arith, omega arith); first = λ none. cc };
    announced = announced_same s (s + 1) v v' (omega arith) refl own_seat.announced;
    version = record {
      past = IfSome_then v.reading.section own_seat.version.past (λ t past. omega (arith, past));
      opened = own_seat.version.opened;
      bare = own_seat.version.bare;
      there = own_seat.version.there;
    };
    tree = tree_now z m vs g rule i v u move tree at can moves i v at;
    locks = own_seat.locks;
    loaded = record { nodes = own_seat.loaded.nodes; nexts = nexts_now i v at own_seat };
    marks = marks_now;
    pending = pending_now;
    place = tt;
    filled = tt;
    links = tt;
  }

  -- where another seat stands, and what it remembers
  passed_by : (y : View) (k d : ℕ) (o : Option ℕ) → IfSome o (λ t. t ≤ s) → IfSome o (λ t. IsLocked y k ⊎ (t < g.bundles.number d))
      → IfSome o (λ t. IsLocked y k ⊎ (t < number' d))
  passed_by y k d None past old = tt
  passed_by y k d (Some t) past (inl locked) = inl locked
  passed_by y k d (Some t) past (inr above) = inr (above_still z m vs g rule i v u move tree at can moves t d past above)

  stands_now : (y : View) (k e : ℕ) (found above : Option ℕ) (es : List ℕ) → IfSome y.reading.section (λ t. t ≤ s)
      → StandsAt stamp es e found above (IsPassed g.bundles.number y k) → StandsAt stamp es e found above (IsPassed number' y k)
  stands_now y k e found above es past old = record {
    front = old.front;
    back = old.back;
    splits = old.splits;
    passed = every_map (IsPassed g.bundles.number y k) (IsPassed number' y k) old.front (λ d is. passed_by y k d y.reading.section past is) old.passed;
    found = old.found;
    falls = old.falls;
  }

  place_now : (j : ℕ) (y : View) (place : Place) → IsItem vs j y → IfSome y.reading.section (λ t. t ≤ s) → PlaceRight z stamp g.bundles y place
      → PlaceRight z stamp g'.bundles y place
  place_now j y (AtEntry k w e found) of past right = record {
    reach = right.reach;
    stands = λ some watched. subst (λ es. StandsAt stamp es e found y.reading.above (IsPassed number' y k))
        (sym (live_bundle z m vs g rule i v u move tree at moves k w (reachable_live z vs g rule.slots j k y of right.reach)))
        (stands_now y k e found y.reading.above (g.bundles.bundle w k) past (right.stands some watched));
  }
  place_now j y _ of past right = tt

  entry_now : (k c entry : ℕ) (w : Side) (o : Option ℕ) → IfSome o (λ t. t ≤ s) → IsLive z vs k
      → EntryRight child g.bundles.number (g.bundles.bundle w k) o c entry → EntryRight child number' (bundle' w k) o c entry
  entry_now k c entry w None past live right = right
  entry_now k c entry w (Some t) past live right = (sym (selects z m vs g rule i v u move tree at can moves t k w past live) ∙ right.0, right.1)

  source_now : (j k c : ℕ) (w : Side) (y : View) (source : LinkSource) → IsItem vs j y → IfSome y.reading.section (λ t. t ≤ s)
      → SourceRight (IsReachable z y k) child g.bundles.number (g.bundles.bundle w k) y.reading.section c source
      → SourceRight (IsReachable z y k) child number' (bundle' w k) y.reading.section c source
  source_now j k c w y (Plain tag above below) of past right = tt
  source_now j k c w y (Bundle entry) of past right = record {
    reach = right.reach;
    selected = entry_now k c entry w y.reading.section past (reachable_live z vs g rule.slots j k y of right.reach) right.selected;
  }

  pub other_now : (y : View) → Beside vs i y → SeatRight z m g y → SeatRight z m' g' y
  other_now y beside of = record {
    layout = of.layout;
    section = of.section;
    seen = seen_more z m vs g rule i v u known move at can all y.history of.seen;
    update = record { raised = IfSome_then y.update.raised of.update.raised (λ r is. (is.0, omega (arith, is.1))); first = of.update.first };
    announced = announced_same s (s + 1) y y (omega arith) refl of.announced;
    version = record {
      past = IfSome_then y.reading.section of.version.past (λ t past. omega (
        arith,
        past,
      ));
      opened = of.version.opened;
      bare = of.version.bare;
      there = of.version.there;
    };
    tree = tree_now z m vs g rule i v u move tree at can moves beside.place y beside.at;
    locks = of.locks;
    loaded = record { nodes = of.loaded.nodes; nexts = nexts_now beside.place y beside.at of };
    marks = of.marks;
    pending = every_listed (IsPending z head stamp g.bundles.number y) (IsPending z head stamp number' y) y.update.pending
        (λ d here is. (is.0, other_number y d beside here ∙ is.1, is.2)) of.pending;
    place = place_now beside.place y y.reading.place beside.at of.version.past of.place;
    filled = every_filled m m' y.free y.free y.update y.update y.reading.filled (λ w is. is) (stamp_apart m y.free y.update (s + 1)) of.filled;
    links = every_map (LinkRight z child g.bundles y) (LinkRight z child g'.bundles y) y.reading.links
        (λ l old. source_now beside.place l.node l.child l.side y l.source beside.at of.version.past old) of.links;
  }
