-- A view that stands at another place, remembers other links, and has loaded more of the same locked nodes keeps the
-- rule.
use Rattle.std.proofs.Common.{◌≡◌, ℕ, ◌<◌, ◌⊎◌, List, [], ◌∷◌, ◌++◌, length, Bool, true, false, set, arith, refl, ap, ◌∙◌, sym, subst, inl, inr, Option, Some, None}
use Rattle.std.specs.Prelude.{IfSome}
use Rattle.index_words.specs.declared.layout.Layout.{Layout}
use Rattle.index_words.specs.declared.view.View.{View}
use Rattle.index_words.specs.declared.view.history.Counts.{Counts}
use Rattle.index_words.specs.declared.view.reading.Place.{Place}
use Rattle.index_words.specs.declared.view.reading.Place.TheVariants.{Entry as AtEntry}
use Rattle.index_words.specs.declared.view.reading.Link.{Link}
use Rattle.index_words.specs.declared.view.reading.LinkSource.{LinkSource}
use Rattle.index_words.specs.declared.view.reading.LinkSource.TheVariants.{Bundle, Plain}
use Rattle.index_words.specs.declared.view.update.HeldNode.{HeldNode}
use Rattle.index_words.specs.declared.view.update.HeldNext.{HeldNext}
use Rattle.index_words.specs.declared.word.Field.TheVariants.{Mark, Head}
use Rattle.index_words.specs.declared.word.Part.TheVariants.{Child, Stamp as Number}
use Rattle.index_words.specs.declared.word.Word.TheVariants.{Node, Entry}
use Rattle.index_words.specs.Words.{Memory}
use Rattle.key_map.specs.Lists.{count, Every, IsItem}
use Rattle.core_grace.specs.Sections.{is_even}
use Rattle.core_grace.specs.Holds.{HoldsNode, HoldsEntry, held_slots, listed, work_nodes, tree_slots}
use Rattle.core_grace.proofs.RuleMoves.{HoldsFrom}
use Rattle.core_invariant.specs.Meanings.{Meaning, linked_by}
use Rattle.core_invariant.specs.Locks.{IsTakenOut, IsNodeAt, IsNextAt}
use Rattle.core_invariant.specs.BundleRule.{IsPending}
use Rattle.core_invariant.specs.Readers.{IsReachable, IsLocked, IsWatched, StandsAt, IsPassed, IsBelow, PlaceRight, SourceRight, LinkRight}
use Rattle.core_invariant.specs.SeatRule.{SeatRight}
use Rattle.core_events.specs.LoadMoves.{with_held, with_place}
use Rattle.core_invariant.specs.Rule.{Rule}
use Rattle.core_invariant.proofs.Frames.{every_map}
use Rattle.core_invariant.proofs.OneView.{seat_at, quiet_kept}
use Rattle.core_invariant.proofs.Pairs.{pairs_same}

module _ (z : Layout) (m : Memory) (vs : List View) (g : Meaning) (rule : Rule z m vs g) where
  pub inside_only : (v : View) → is_even v.section_word ≡ false → is_even v.section_word ≡ true → ⊥
  inside_only v inside even = apart (is_even v.section_word) inside even
    where
      apart : (c : Bool) → c ≡ false → c ≡ true → ⊥
      apart true f t = cc
      apart false f t = cc

  -- a view that stands at another place, remembers other links, and has loaded more of the same locked nodes
  module _ (i : ℕ) (v : View) (at : IsItem vs i v) (c : Counts) (nodes : List HeldNode) (nexts : List HeldNext) (place : Place) (above : Option ℕ) (links : List Link) (same : held_slots nodes ≡ held_slots v.held.nodes) where
    abbrev pub w : View
    w = record (with_place (with_held v nodes nexts) place above links) { counts = c }

    seat : SeatRight z m g v
    seat = seat_at z m vs g i v at rule

    pub work_same : work_nodes w ≡ work_nodes v
    work_same = ap (λ xs. xs ++ listed v.update.added) same

    pub holds_same : (k : ℕ) → HoldsNode w k → HoldsNode v k
    holds_same k holds = subst (λ xs. 0 < count k (tree_slots v.reading.tree ++ xs)) work_same holds

    pub holds_back : (k : ℕ) → HoldsNode v k → HoldsNode w k
    holds_back k holds = subst (λ xs. 0 < count k (tree_slots v.reading.tree ++ xs)) (sym work_same) holds

    pub reach_back : (k : ℕ) → IsReachable z v k → IsReachable z w k
    reach_back k reach = (reach.0, elim reach.1 as (λ _. (k ≡ 0) ⊎ HoldsNode w k) [ inl root ↦ inl root | inr holds ↦ inr (holds_back k holds) ])

    pub watched_back : (k : ℕ) → IsWatched w k → IsWatched v k
    watched_back k watched = elim watched as (λ _. IsWatched v k) [ inl locked ↦ inl (subst (λ xs. 0 < count k xs) same locked) | inr reads ↦ inr reads ]

    pub passed_back : (k d : ℕ) → IsPassed g.bundles.number v k d → IsPassed g.bundles.number w k d
    passed_back k d passed = passed_by v.reading.section passed
      where
        passed_by : (o : Option ℕ) → IfSome o (λ t. IsLocked v k ⊎ (t < g.bundles.number d)) → IfSome o (λ t. IsLocked w k ⊎ (t < g.bundles.number d))
        passed_by None old = tt
        passed_by (Some t) (inl locked) = inl (subst (λ xs. 0 < count k xs) (sym same) locked)
        passed_by (Some t) (inr above) = inr above

    pub place_back : above ≡ v.reading.above → (p : Place) → PlaceRight z (λ e. m (Entry Number e)) g.bundles v p → PlaceRight z (λ e. m (Entry Number e)) g.bundles w p
    place_back left_same (AtEntry k side e found) right = record {
      reach = reach_back k right.reach;
      stands = λ some watched.
          let stood : StandsAt (λ d. m (Entry Number d)) (g.bundles.bundle side k) e found v.reading.above (IsPassed g.bundles.number v k) = right.stands some (watched_back k watched) in
          record {
            front = stood.front;
            back = stood.back;
            splits = stood.splits;
            passed = every_map (IsPassed g.bundles.number v k) (IsPassed g.bundles.number w k) stood.front (passed_back k) stood.passed;
            found = stood.found;
            falls = subst (IsBelow (λ d. m (Entry Number d)) e) (sym left_same) stood.falls;
          };
    }
    place_back left_same _ right = tt

    moved_holds : HoldsFrom z (linked_by g) HoldsNode (HoldsEntry g.bundles) v w
    moved_holds = record { nodes = λ k holds. inl (holds_same k holds); entries = λ x holds. inl (entries_by x holds) }
      where
        entries_by : (x : ℕ) → HoldsEntry g.bundles w x → HoldsEntry g.bundles v x
        entries_by x (inl reads) = inl reads
        entries_by x (inr stands) = inr (record { node = stands.node; side = stands.side; of = subst (λ xs. 0 < count stands.node xs) work_same stands.of; here = stands.here })

    source_back : (k c : ℕ) (es : List ℕ) (source : LinkSource) → SourceRight (IsReachable z v k) (λ e. m (Entry Child e)) g.bundles.number es v.reading.section c source
        → SourceRight (IsReachable z w k) (λ e. m (Entry Child e)) g.bundles.number es v.reading.section c source
    source_back k c es (Bundle entry) old = record { reach = reach_back k old.reach; selected = old.selected }
    source_back k c es (Plain tag above below) old = tt

    pub links_back : Every (LinkRight z (λ e. m (Entry Child e)) g.bundles w) v.reading.links
    links_back = every_map (LinkRight z (λ e. m (Entry Child e)) g.bundles v) (LinkRight z (λ e. m (Entry Child e)) g.bundles w) v.reading.links
        (λ l old. source_back l.node l.child (g.bundles.bundle l.side l.node) l.source old) seat.links

    pub nexts_back : Every (IsNextAt m g.bundles nodes) v.held.nexts
    nexts_back = every_map (IsNextAt m g.bundles v.held.nodes) (IsNextAt m g.bundles nodes) v.held.nexts
        (λ l old. record { is = old.is; locked = subst (λ xs. 0 < count l.node xs) (sym same) old.locked; here = old.here; found = old.found }) seat.loaded.nexts

    none_held : nodes ≡ [] → v.held.nodes ≡ []
    none_held none = no_slots v.held.nodes (sym same ∙ ap held_slots none)
      where
        no_slots : (hs : List HeldNode) → held_slots hs ≡ [] → hs ≡ []
        no_slots [] e = refl
        no_slots (h ∷ hs) e = absurd (omega (arith, ap length e))

    -- such a move keeps the rule
    pub read_kept : is_even v.section_word ≡ false
        → Every (IsNodeAt m) nodes
        → Every (IsNextAt m g.bundles nodes) nexts
        → PlaceRight z (λ e. m (Entry Number e)) g.bundles w place
        → Every (LinkRight z (λ e. m (Entry Child e)) g.bundles w) links
        → Rule z m (set vs i w) g
    read_kept inside nodes_right nexts_right place_right links_right =
        quiet_kept z m vs g rule i v at w.history w.counts w.reading w.held (pairs_same vs i v w at refl rule.pairs) (record { mine = refl; ended = refl; ended_places = refl; left = refl }) (λ known. known) same moved_holds
        (record {
          layout = seat.layout;
          section = record { section = seat.section.section; announced = seat.section.announced; outside = λ even. absurd (inside_only v inside even); unlocked = λ even. absurd (inside_only v inside even); done = λ none. seat.section.done (none_held none); waits = seat.section.waits };
          seen = seat.seen;
          update = seat.update;
          version = seat.version;
          announced = seat.announced;
          tree = seat.tree;
          locks = λ k locked. seat.locks k (subst (λ xs. 0 < count k xs) same locked);
          loaded = record { nodes = nodes_right; nexts = nexts_right };
          marks = record {
            retired = λ k some. elim (seat.marks.retired k some) as (λ _. (m (Node Mark k) ≡ 1) ⊎ IsTakenOut w k) [
              | inl marked ↦ inl marked
              | inr out ↦ inr (out.0, out.1, subst (λ xs. 0 < count k xs) (sym same) out.2)
            ];
            batch = seat.marks.batch;
            taken = seat.marks.taken;
          };
          pending = every_map (IsPending z (λ s k. m (Node (Head s) k)) (λ e. m (Entry Number e)) g.bundles.number v) (IsPending z (λ s k. m (Node (Head s) k)) (λ e. m (Entry Number e)) g.bundles.number w) v.update.pending
              (λ d old. (old.0, old.1, record { node = old.2.node; side = old.2.side; there = old.2.there; is = old.2.is; some = old.2.some; of = subst (λ xs. 0 < count old.2.node xs) (sym work_same) old.2.of })) seat.pending;
          place = place_right;
          filled = seat.filled;
          links = links_right;
        })
