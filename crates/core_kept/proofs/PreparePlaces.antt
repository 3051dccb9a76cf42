-- Prepare: what a seat reads, and where it stands, once a free entry is put in front of a bundle.
use Rattle.std.proofs.Common.{◌≡◌, ℕ, ◌<◌, ◌≤◌, ◌⊎◌, cond, List, ◌∷◌, ◌++◌, Bool, true, false, eqb, ◌&&◌, arith, refl, ap, ◌∙◌, sym, subst, inl, inr, Option, Some, None}
use Rattle.std.specs.Prelude.{IfSome}
use Rattle.index_words.specs.declared.layout.Layout.{Layout}
use Rattle.index_words.specs.declared.side.Side.{Side}
use Rattle.index_words.specs.declared.view.View.{View}
use Rattle.index_words.specs.declared.view.slots.Slots.{Slots}
use Rattle.index_words.specs.declared.view.reading.Place.{Place}
use Rattle.index_words.specs.declared.view.reading.Place.TheVariants.{Entry as AtEntry}
use Rattle.index_words.specs.declared.view.reading.LinkSource.{LinkSource}
use Rattle.index_words.specs.declared.view.reading.LinkSource.TheVariants.{Bundle, Plain}
use Rattle.index_words.specs.declared.view.update.Held.{Held}
use Rattle.index_words.specs.declared.view.update.Updating.{Updating}
use Rattle.index_words.specs.declared.word.Field.TheVariants.{Head}
use Rattle.index_words.specs.declared.word.Part.TheVariants.{Child, Stamp as Number}
use Rattle.index_words.specs.declared.word.Word.TheVariants.{Stamp, Node, Entry}
use Rattle.index_words.specs.Words.{Memory, written, same_side}
use Rattle.key_map.specs.Lists.{count, Every, IsItem}
use Rattle.index_words.proofs.Seats.{one_term}
use Rattle.core_grace.specs.Holds.{HoldsNode, held_slots, work_nodes, tree_slots, entries_of}
use Rattle.core_links.specs.Bundle.{no_number}
use Rattle.core_invariant.specs.Meanings.{Meaning}
use Rattle.core_invariant.specs.Locks.{IsNextAt}
use Rattle.core_invariant.specs.BundleRule.{IsLive, IsPending, pending_count}
use Rattle.core_invariant.specs.Readers.{IsReachable, IsLocked, IsWatched, StandsAt, IsPassed, PlaceRight, EntryRight, SourceRight, LinkRight}
use Rattle.core_invariant.specs.SeatRule.{TreeRight, SeatRight}
use Rattle.core_invariant.specs.MeaningMoves.{in_front, unnumbered, prepared_meaning}
use Rattle.core_invariant.specs.Rule.{Rule}
use Rattle.core_invariant.proofs.Frames.{every_map, every_listed}
use Rattle.core_invariant.proofs.OneView.{seat_at}
use Rattle.core_invariant.proofs.Owned.{reachable_live}
use Rattle.core_invariant.proofs.TreeNow.{SameNode, reads_frame, read_live}
use Rattle.core_invariant.proofs.Fronts.{count-fronted, numbered_other, numbered_new}
use Rattle.core_invariant.proofs.Needed.{Ready}
use Rattle.core_kept.proofs.PrepareBundles.{not_pending, selects, above_still, pending_head}

module _ (z : Layout) (m : Memory) (vs : List View) (g : Meaning) (rule : Rule z m vs g) (i k e : ℕ) (side : Side) (v : View) (at : IsItem vs i v)
    (ready : Ready m v side k e) where
  abbrev stamp : ℕ → ℕ
  stamp d = m (Entry Number d)

  abbrev head : Side → ℕ → ℕ
  head s j = m (Node (Head s) j)

  abbrev m' : Memory
  m' = written m (Node (Head side) k) e

  abbrev head' : Side → ℕ → ℕ
  head' s j = m' (Node (Head s) j)

  abbrev g' : Meaning
  g' = prepared_meaning g side k e

  abbrev number' : ℕ → ℕ
  number' = unnumbered g.bundles.number e

  low : m Stamp < no_number
  low = omega (arith, rule.history.calls, rule.history.few)

  -- the same is read of a live node, at each number up to the stamp
  pub node_same : (t n : ℕ) → t ≤ m Stamp → IsLive z vs n → SameNode m m' g.bundles g'.bundles t n
  node_same t n past live = record {
    key = refl;
    val = refl;
    entry = λ s. sym ((selects z m vs g rule i k e side v at ready) t n s past live);
    child = λ s. refl;
  }

  -- another view, or the moved one, with what it reads as before
  module _ (j : ℕ) (u : View) (of : IsItem vs j u) (h : Held) (p : Updating) (f : Slots) (locks : held_slots h.nodes ≡ held_slots u.held.nodes)
      (work : work_nodes (record u { held = h; update = p; free = f }) ≡ work_nodes u) where
    abbrev u' : View
    u' = record u { held = h; update = p; free = f }

    seat : SeatRight z m g u
    seat = seat_at z m vs g j u of rule

    reach : (n : ℕ) → IsReachable z u n → IsReachable z u' n
    reach n old = (
      old.0,
      elim old.1 as (λ _. (n ≡ 0) ⊎ HoldsNode u' n) [
        | inl root ↦ inl root
        | inr holds ↦ inr (subst (λ xs. 0 < count n (tree_slots u.reading.tree ++ xs)) (sym work) holds)
      ],
    )

    watched_before : (n : ℕ) → IsWatched u' n → IsWatched u n
    watched_before n watched = elim watched as (λ _. IsWatched u n) [ inl locked ↦ inl (subst (λ xs. 0 < count n xs) locks locked) | inr reads ↦ inr reads ]

    passed_by : (n d : ℕ) (o : Option ℕ) → IfSome o (λ t. t ≤ m Stamp) → IfSome o (λ t. IsLocked u n ⊎ (t < g.bundles.number d))
        → IfSome o (λ t. IsLocked u' n ⊎ (t < number' d))
    passed_by n d None past old = tt
    passed_by n d (Some t) past (inl locked) = inl (subst (λ xs. 0 < count n xs) (sym locks) locked)
    passed_by n d (Some t) past (inr above) = inr ((above_still z m vs g rule i k e side v at ready) t d past above)

    front_by : (n : ℕ) (o : Option ℕ) → IfSome o (λ t. t ≤ m Stamp) → IfSome o (λ t. IsLocked u' n ⊎ (t < number' e))
    front_by n None past = tt
    front_by n (Some t) past = inr (omega (arith, past, low, numbered_new g.bundles.number e))

    stands_same : (n entry : ℕ) (found above : Option ℕ) (es : List ℕ) → StandsAt stamp es entry found above (IsPassed g.bundles.number u n)
        → StandsAt stamp es entry found above (IsPassed number' u' n)
    stands_same n entry found above es old = record {
      front = old.front;
      back = old.back;
      splits = old.splits;
      passed =
          every_map (IsPassed g.bundles.number u n) (IsPassed number' u' n) old.front (λ d is. passed_by n d u.reading.section seat.version.past is) old.passed;
      found = old.found;
      falls = old.falls;
    }

    stands_by : (n entry : ℕ) (found above : Option ℕ) (es : List ℕ) (c : Bool) → StandsAt stamp es entry found above (IsPassed g.bundles.number u n)
        → StandsAt stamp (cond c (e ∷ es) es) entry found above (IsPassed number' u' n)
    stands_by n entry found above es false old = stands_same n entry found above es old
    stands_by n entry found above es true old =
        let rest = stands_same n entry found above es old in
        record {
          front = e ∷ rest.front;
          back = rest.back;
          splits = ap (λ xs. e ∷ xs) rest.splits;
          passed = (front_by n u.reading.section seat.version.past, rest.passed);
          found = rest.found;
          falls = rest.falls;
        }

    pub place_now : (place : Place) → PlaceRight z stamp g.bundles u place → PlaceRight z stamp g'.bundles u' place
    place_now (AtEntry n s entry found) right = record {
      reach = reach n right.reach;
      stands = λ some watched.
          stands_by n entry found u.reading.above (g.bundles.bundle s n) (same_side s side && eqb n k) (right.stands some (watched_before n watched));
    }
    place_now _ right = tt

    entry_now : (n c entry : ℕ) (s : Side) (o : Option ℕ) → IfSome o (λ t. t ≤ m Stamp) → IsLive z vs n
        → EntryRight (λ d. m (Entry Child d)) g.bundles.number (g.bundles.bundle s n) o c entry
        → EntryRight (λ d. m (Entry Child d)) number' (in_front g.bundles.bundle side k e s n) o c entry
    entry_now n c entry s None past live right = right
    entry_now n c entry s (Some t) past live right = ((selects z m vs g rule i k e side v at ready) t n s past live ∙ right.0, right.1)

    source_now : (n c : ℕ) (s : Side) (source : LinkSource)
        → SourceRight (IsReachable z u n) (λ d. m (Entry Child d)) g.bundles.number (g.bundles.bundle s n) u.reading.section c source
        → SourceRight (IsReachable z u' n) (λ d. m (Entry Child d)) number' (in_front g.bundles.bundle side k e s n) u.reading.section c source
    source_now n c s (Plain tag above below) right = tt
    source_now n c s (Bundle entry) right = record {
      reach = reach n right.reach;
      selected = entry_now n c entry s u.reading.section seat.version.past (reachable_live z vs g rule.slots j n u of right.reach) right.selected;
    }

    pub links_now : Every (LinkRight z (λ d. m (Entry Child d)) g'.bundles u') u.reading.links
    links_now = every_map (LinkRight z (λ d. m (Entry Child d)) g.bundles u) (LinkRight z (λ d. m (Entry Child d)) g'.bundles u') u.reading.links
        (λ l old. source_now l.node l.child l.side l.source old) seat.links

    pub tree_now : TreeRight m' g' u.reading.section u.reading.tree
    tree_now = reads_frame m m' g.bundles g'.bundles (λ t. t ≤ m Stamp) g.updates (m Stamp) g.tree u.reading.tree u.reading.section
        (λ t n past here. node_same t n past (read_live z vs g rule.slots (m Stamp) j n u of seat.version here)) (omega arith) seat.version.past seat.tree

    entries_more : (n x : ℕ) → 0 < count x (entries_of g.bundles n) → 0 < count x (entries_of g'.bundles n)
    entries_more n x here = omega (arith, count-fronted g.bundles side k e n x, here)

    pub nexts_now : Every (IsNextAt m g'.bundles h.nodes) u.held.nexts
    nexts_now = every_map (IsNextAt m g.bundles u.held.nodes) (IsNextAt m g'.bundles h.nodes) u.held.nexts
        (λ l old. record {
          is = old.is;
          locked = subst (λ xs. 0 < count l.node xs) (sym locks) old.locked;
          here = entries_more l.node l.entry old.here;
          found = old.found;
        }) seat.loaded.nexts

    pub pending_now : Every (IsPending z head' stamp number' u) u.update.pending
    pending_now = every_listed (IsPending z head stamp g.bundles.number u) (IsPending z head' stamp number' u) u.update.pending
        (λ d within is. (
          is.0,
          numbered_other g.bundles.number e d (λ same.
              omega (
                arith,
                (not_pending z m vs g rule i k e side v at ready),
                one_term (pending_count e) vs j u of,
                subst (λ x. 0 < count x u.update.pending) same within,
              )) ∙ is.1,
          (pending_head z m vs g rule i k e side v at ready) (work_nodes u) (work_nodes u) d refl is.0 is.2,
        )) seat.pending
