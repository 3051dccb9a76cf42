-- The same after a fill: a free node is in no search, nor in the plain tree.
use Rattle.std.proofs.Common.{◌≡◌, ℕ, ◌<◌, ◌≤◌, ◌⊎◌, cond, List, [], ◌∷◌, Bool, true, false, not, set, arith, refl, ap, ◌∙◌, sym, subst, inl, inr, Option, Some, None, IfSome}
use Rattle.std.specs.List.{sum_by, flat_map}
use Rattle.std.proofs.lemmas.Bool.{and_parts, cases_lt}
use Rattle.index_words.specs.declared.layout.Layout.{Layout}
use Rattle.index_words.specs.declared.side.Side.{Side}
use Rattle.index_words.specs.declared.side.Side.TheVariants.{Left, Right}
use Rattle.index_words.specs.declared.view.View.{View}
use Rattle.index_words.specs.declared.view.reading.Link.{Link as ViewLink}
use Rattle.index_words.specs.declared.view.reading.LinkSource.{LinkSource}
use Rattle.index_words.specs.declared.view.reading.LinkSource.TheVariants.{Bundle, Plain}
use Rattle.index_words.specs.declared.view.reading.Place.{Place}
use Rattle.index_words.specs.declared.view.reading.Place.TheVariants.{Node as AtNode}
use Rattle.index_words.specs.declared.view.reading.Turn.{Turn}
use Rattle.index_words.specs.declared.word.Field.{Field}
use Rattle.index_words.specs.declared.word.Field.TheVariants.{Key, Val, Mark, Link, Tag}
use Rattle.index_words.specs.declared.word.Word.{Word}
use Rattle.index_words.specs.declared.word.Word.TheVariants.{Node, Entry}
use Rattle.index_words.specs.Words.{Memory, memory, written}
use Rattle.index_words.proofs.Seats.{at_item, one_term}
use Rattle.key_map.specs.Lists.{count, has, Every, IsItem}
use Rattle.key_map.proofs.Counting.{count-append, has-count}
use Rattle.core_grace.specs.Sections.{is_even}
use Rattle.core_grace.specs.Slots.{own, own_free, nodes_of}
use Rattle.core_trees.specs.NamedTree.{NamedTree}
use Rattle.core_trees.specs.Slots.{occurs}
use Rattle.core_trees.specs.SpelledTree.{Graph, IsSpelled}
use Rattle.core_trees.proofs.SpelledTree.{spelled-frame, spelled-same}
use Rattle.core_events.specs.declared.event.Kind.TheVariants.{Fill}
use Rattle.core_events.specs.FillMoves.{used_view, with_filled, filled_with, known_before, filled_view}
use Rattle.core_events.specs.Needs.{is_lock, may_fill}
use Rattle.core_events.specs.Searches.{place_nodes, turn_nodes, source_nodes, link_nodes, search_nodes}
use Rattle.core_events.proofs.Tests.{never}
use Rattle.core_invariant.specs.PlainTree.{SeatInTree}
use Rattle.core_invariant.specs.Reached.{plain_graph, ReachesRight}
use Rattle.core_invariant.specs.Rule.{InRule}
use Rattle.core_invariant.specs.StillRule.{IsSourceStill, IsLinkStill, StaysStill, StillRight, IsSourceKnown, IsLinkKnown, KnownRight}
use Rattle.core_invariant.specs.TurnRule.{PlaceBelow, TurnRight, TurnsRight, LeavesMarked}
use Rattle.core_invariant.proofs.Filled.{node_other}
use Rattle.core_invariant.proofs.Frames.{all_items}
use Rattle.core_invariant.proofs.OneView.{seat_at}
use Rattle.core_kept.specs.TurnLaws.{TurnsKept, TurnsAfter, KeepsTurnsAt}
use Rattle.core_kept.proofs.KnownHeld.{same_known}
use Rattle.core_kept.proofs.PlainNodes.{plain_clear, retired_clear}
use Rattle.core_invariant.proofs.SearchNodes.{links_count, search_count}
use Rattle.core_kept.proofs.TurnFrames.{same_place, TurnStep, step_kept, none_turns, none_known, turns_before, with_tree, stored_turns}
use Rattle.core_kept.proofs.TurnSeats.{has_read_nothing}
use Rattle.core_invariant.proofs.Undone.{in_one}
use Rattle.plain_trees.specs.Reaching.{IsReached}
use Rattle.plain_trees.specs.Turns.{IsBelow, IsPath}

module _ (z : Layout) (words : List ℕ) (vs : List View) (right : InRule z words vs) (i : ℕ) (v : View) (at : IsItem vs i v) (value : ℕ) where
  abbrev m : Memory
  m = memory z words

  abbrev gr0 : Graph
  gr0 = plain_graph m

  abbrev W : NamedTree
  W = right.plain_tree

  -- what of the view is moved
  filled_step : (g : Graph) (tag : Side → ℕ → ℕ) (u : Word) (b : Bool)
      → TurnStep g tag v (cond b (used_view v u) (with_filled (used_view v u) (filled_with (known_before v u) u value)))
  filled_step g tag u true = record {
    left = refl;
    right = refl;
    place = same_place v.reading.place;
    links = λ all. all;
    known = λ hs all. all;
    held = same_known g tag v.held.nodes v.held.nodes refl;
  }
  filled_step g tag u false = record {
    left = refl;
    right = refl;
    place = same_place v.reading.place;
    links = λ all. all;
    known = λ hs all. all;
    held = same_known g tag v.held.nodes v.held.nodes refl;
  }

  filled_by : (g : Graph) (mark : ℕ → ℕ) (tag : Side → ℕ → ℕ) (u : Word) (b : Bool) → TurnsKept z g mark tag vs W
      → TurnsKept z g mark tag (set vs i (cond b (used_view v u) (with_filled (used_view v u) (filled_with (known_before v u) u value)))) W
  filled_by g mark tag u true before = step_kept z g mark tag W vs i v (used_view v u) at before refl refl (λ k. omega arith) (filled_step g tag u true)
  filled_by g mark tag u false before =
      step_kept z g mark tag W vs i v (with_filled (used_view v u) (filled_with (known_before v u) u value)) at before refl refl
      (λ k. omega arith) (filled_step g tag u false)

  filled_kept : (g : Graph) (mark : ℕ → ℕ) (tag : Side → ℕ → ℕ) (u : Word) → TurnsKept z g mark tag vs W
      → TurnsKept z g mark tag (set vs i (filled_view v u value)) W
  filled_kept g mark tag u before = filled_by g mark tag u (is_even v.section_word) before

  module _ (f : Field) (k : ℕ) (free : 0 < count k v.free.nodes) where
    abbrev m1 : Memory
    m1 = written m (Node f k) value

    abbrev gr1 : Graph
    gr1 = plain_graph m1

    other : (h : Field) (j : ℕ) → ¬ (j ≡ k) → m1 (Node h j) ≡ m (Node h j)
    other h j ne = node_other m f h k j value ne

    k_some : 0 < k
    k_some = elim (cases_lt 0 k) as (λ _. 0 < k) [
      | inl more ↦ more
      | inr none ↦ absurd (root_owned (omega (arith, none)))
    ]
      where
        root_owned : k ≡ 0 → ⊥
        root_owned zero = omega (arith, right.rule.slots.nodes.one 0, one_term (own nodes_of 0) vs i v at, subst (λ n. 0 < count n v.free.nodes) zero free)

    -- a node that is free in no view is another one
    not_free : (j : ℕ) → sum_by (own_free nodes_of j) vs ≡ 0 → ¬ (j ≡ k)
    not_free j none is = omega (arith, free, subst (λ n. sum_by (own_free nodes_of n) vs ≡ 0) is none, one_term (own_free nodes_of k) vs i v at)

    in_tree : (j : ℕ) → 0 < occurs j W → ¬ (j ≡ k)
    in_tree j here = not_free j (plain_clear z m vs right.meaning right.rule gr0 W right.trees j here).free

    -- the plain tree is spelled as before
    spelled1 : IsSpelled gr1 (gr1.child Right 0) W
    spelled1 =
        subst (λ c. IsSpelled gr1 c W) (sym (other (Link Right) 0 (λ is. omega (arith, is, k_some))))
        (spelled-frame gr0 gr1 (gr0.child Right 0) W
        (λ j here. record {
          key = sym (other Key j (in_tree j here));
          val = sym (other Val j (in_tree j here));
          left = sym (other (Link Left) j (in_tree j here));
          right = sym (other (Link Right) j (in_tree j here));
        })
        right.trees.spelled)

    -- a seat inside a section
    module _ (t : View) (inside : is_even t.section_word ≡ false) (reaches : ReachesRight z gr0 vs t) where
      held : (a j : ℕ) → 0 < count a (search_nodes (gr0.child Right 0) t.reading) → IsReached gr0 a j → 0 < j → ¬ (j ≡ k)
      held a j searched reached some = not_free j (reaches.unheld j (record { inside = inside; some = some; from = a; searched = searched; reached = reached }))

      apart : (a : ℕ) → 0 < count a (search_nodes (gr0.child Right 0) t.reading) → ¬ (a ≡ k)
      apart a searched is = held a a searched ([], refl) (omega (arith, is, k_some)) is

      -- a path of the links now is one of the links before
      path_before : (nodes : List ℕ) (from to : ℕ) → ((j : ℕ) → IsReached gr0 from j → 0 < j → ¬ (j ≡ k)) → IsPath gr1 W nodes from to
          → IsPath gr0 W nodes from to
      path_before [] from to far way = way
      path_before (n ∷ ns) from to far (e, some, out, inl way) =
          let same : gr1.child Left n ≡ gr0.child Left n = other (Link Left) n (far n ([], e) some) in (
            e,
            some,
            out,
            inl (path_before ns (gr0.child Left n) to (λ j reached. far j (n ∷ reached.0, (e, some, inl reached.1)))
                (subst (λ c. IsPath gr1 W ns c to) same way)),
          )
      path_before (n ∷ ns) from to far (e, some, out, inr way) =
          let same : gr1.child Right n ≡ gr0.child Right n = other (Link Right) n (far n ([], e) some) in (
            e,
            some,
            out,
            inr (path_before ns (gr0.child Right n) to (λ j reached. far j (n ∷ reached.0, (e, some, inr reached.1)))
                (subst (λ c. IsPath gr1 W ns c to) same way)),
          )

      below_filled : (p : Place) → ((a : ℕ) → count a (place_nodes (gr0.child Right 0) p) ≤ count a (search_nodes (gr0.child Right 0) t.reading))
          → (at' : Side) (tn : Turn) → PlaceBelow gr0 W p at' tn → PlaceBelow gr1 W p at' tn
      below_filled (AtNode node key) counts at' tn leads = λ here nodes to way there.
          subst (λ y. IsBelow tn.node tn.key at' to y W) (sym (other Key to (in_tree to there)))
          (leads here nodes to (path_before nodes node to (λ j. held node j (omega (arith, counts node, in_one node []))) way) there)
      below_filled _ counts at' tn leads = tt

      turn_filled : (at' : Side) (o : Option Turn) → ((a : ℕ) → count a (turn_nodes o) ≤ count a (search_nodes (gr0.child Right 0) t.reading))
          → IfSome o (TurnRight gr0 W t.reading.place at') → IfSome o (TurnRight gr1 W t.reading.place at')
      turn_filled at' None counts is = tt
      turn_filled at' (Some tn) counts is = record {
        some = is.some;
        key = other Key tn.node (apart tn.node (omega (arith, counts tn.node, in_one tn.node []))) ∙ is.key;
        below = below_filled t.reading.place (λ a. omega (arith, search_count a (gr0.child Right 0) t.reading)) at' tn is.below;
      }

      turns_inside : TurnsRight gr0 W t → TurnsRight gr1 W t
      turns_inside is = record {
        left = turn_filled Left t.reading.left_turn (λ a. omega (arith, search_count a (gr0.child Right 0) t.reading)) is.left;
        right = turn_filled Right t.reading.right_turn (λ a. omega (arith, search_count a (gr0.child Right 0) t.reading)) is.right;
        begins = is.begins;
      }

      source_filled : (node child : ℕ) (s : Side) (l : LinkSource)
          → ((a : ℕ) → count a (source_nodes node l) ≤ count a (search_nodes (gr0.child Right 0) t.reading))
          → IsSourceStill (gr0.child s node) (m (Node (Tag s) node)) child l → IsSourceStill (gr1.child s node) (m1 (Node (Tag s) node)) child l
      source_filled node child s (Bundle entry) counts is = tt
      source_filled node child s (Plain tag above below) counts is =
          let far : ¬ (node ≡ k) = apart node (omega (arith, counts node, in_one node [])) in
          (other (Link s) node far ∙ is.0, subst (λ y. IfSome tag (λ x. y ≡ x)) (sym (other (Tag s) node far)) is.1)

      source_known : (node child : ℕ) (s : Side) (l : LinkSource)
          → ((a : ℕ) → count a (source_nodes node l) ≤ count a (search_nodes (gr0.child Right 0) t.reading))
          → IsSourceKnown t.held.nodes node s (gr0.child s node) (m (Node (Tag s) node)) child l
          → IsSourceKnown t.held.nodes node s (gr1.child s node) (m1 (Node (Tag s) node)) child l
      source_known node child s (Bundle entry) counts is = tt
      source_known node child s (Plain tag above below) counts is =
          let far : ¬ (node ≡ k) = apart node (omega (arith, counts node, in_one node [])) in
          subst (λ y. IsSourceKnown t.held.nodes node s y (m1 (Node (Tag s) node)) child (Plain tag above below)) (sym (other (Link s) node far))
          (subst (λ y. IsSourceKnown t.held.nodes node s (gr0.child s node) y child (Plain tag above below)) (sym (other (Tag s) node far)) is)

      known_filled : (ls : List ViewLink) → ((a : ℕ) → links_count a ls ≤ count a (search_nodes (gr0.child Right 0) t.reading))
          → Every (IsLinkKnown gr0 (λ s j. m (Node (Tag s) j)) t.held.nodes) ls → Every (IsLinkKnown gr1 (λ s j. m1 (Node (Tag s) j)) t.held.nodes) ls
      known_filled [] counts is = tt
      known_filled (l ∷ ls) counts is = (
        source_known l.node l.child l.side l.source (λ a. omega (arith, counts a, count-append a (link_nodes l) (flat_map link_nodes ls))) is.0,
        known_filled ls (λ a. omega (arith, counts a, count-append a (link_nodes l) (flat_map link_nodes ls))) is.1,
      )

      links_filled : (ls : List ViewLink) → ((a : ℕ) → links_count a ls ≤ count a (search_nodes (gr0.child Right 0) t.reading))
          → Every (IsLinkStill gr0 (λ s j. m (Node (Tag s) j))) ls → Every (IsLinkStill gr1 (λ s j. m1 (Node (Tag s) j))) ls
      links_filled [] counts is = tt
      links_filled (l ∷ ls) counts is = (
        source_filled l.node l.child l.side l.source (λ a. omega (arith, counts a, count-append a (link_nodes l) (flat_map link_nodes ls))) is.0,
        links_filled ls (λ a. omega (arith, counts a, count-append a (link_nodes l) (flat_map link_nodes ls))) is.1,
      )

    reaches_of : (j : ℕ) (t : View) → IsItem vs j t → ReachesRight z gr0 vs t
    reaches_of j t at' = at_item (ReachesRight z gr0 vs) vs j t at' right.reach

    turns_filled : (j : ℕ) (t : View) → IsItem vs j t → TurnsRight gr0 W t → TurnsRight gr1 W t
    turns_filled j t at' is = by (is_even t.section_word) refl
      where
        by : (b : Bool) → is_even t.section_word ≡ b → TurnsRight gr1 W t
        by true even =
            none_turns z gr1 (λ n. m1 (Node Mark n)) (λ s n. m1 (Node (Tag s) n)) W t
            (has_read_nothing t ((seat_at z m vs right.meaning j t at' right.rule).section.outside even))
        by false odd = turns_inside t odd (reaches_of j t at') is

    still_filled : (j : ℕ) (t : View) → IsItem vs j t → StillRight z gr0 (λ s n. m (Node (Tag s) n)) W t → StillRight z gr1 (λ s n. m1 (Node (Tag s) n)) W t
    still_filled j t at' is one inside raised =
        let was : StaysStill gr0 (λ s n. m (Node (Tag s) n)) W t = is one inside raised in
        record {
          links = links_filled t inside (reaches_of j t at') t.reading.links (λ a. omega (arith, search_count a (gr0.child Right 0) t.reading))
              was.links;
          there = was.there;
        }

    known_after : (j : ℕ) (t : View) → IsItem vs j t → KnownRight z gr0 (λ s n. m (Node (Tag s) n)) t → KnownRight z gr1 (λ s n. m1 (Node (Tag s) n)) t
    known_after j t at' is one = by (is_even t.section_word) refl
      where
        by : (b : Bool) → is_even t.section_word ≡ b → Every (IsLinkKnown gr1 (λ s n. m1 (Node (Tag s) n)) t.held.nodes) t.reading.links
        by true even =
            none_known z gr1 (λ n. m1 (Node Mark n)) (λ s n. m1 (Node (Tag s) n)) W t
            (has_read_nothing t ((seat_at z m vs right.meaning j t at' right.rule).section.outside even)) one
        by false odd = known_filled t odd (reaches_of j t at') t.reading.links (λ a. omega (arith, search_count a (gr0.child Right 0) t.reading)) (is one)

    -- a node that was taken out is not free
    leaving_filled : (j : ℕ) (t : View) → IsItem vs j t → LeavesMarked (λ n. m (Node Mark n)) W t → LeavesMarked (λ n. m1 (Node Mark n)) W t
    leaving_filled j t at' is n taken =
        let raise : t.update.raised ≡ None → ⊥
        = λ none. omega (arith, taken, ap (count n) ((at_item (SeatInTree gr0 W right.meaning.tree) vs j t at' right.trees.seats).first none)) in
        let clear = retired_clear z m vs right.meaning right.rule n j t at' ((seat_at z m vs right.meaning j t at' right.rule).marks.taken n taken) raise in
        elim (is n taken) as (λ _. (m1 (Node Mark n) ≡ 1) ⊎ (0 < occurs n W)) [
          | inl marked ↦ inl (other Mark n (not_free n clear.free) ∙ marked)
          | inr there ↦ inr there
        ]

    words_filled : TurnsKept z gr1 (λ n. m1 (Node Mark n)) (λ s n. m1 (Node (Tag s) n)) vs W
    words_filled = record {
      turns = all_items (TurnsRight gr0 W) (TurnsRight gr1 W) vs right.turns turns_filled;
      leaving = all_items (LeavesMarked (λ n. m (Node Mark n)) W) (LeavesMarked (λ n. m1 (Node Mark n)) W) vs right.leaving leaving_filled;
      still = all_items (StillRight z gr0 (λ s n. m (Node (Tag s) n)) W) (StillRight z gr1 (λ s n. m1 (Node (Tag s) n)) W) vs right.still still_filled;
      known = all_items (KnownRight z gr0 (λ s n. m (Node (Tag s) n))) (KnownRight z gr1 (λ s n. m1 (Node (Tag s) n))) vs right.known known_after;
    }

    node_filled : TurnsAfter z m1 (set vs i (filled_view v (Node f k) value))
    node_filled plain spelled =
        subst (TurnsKept z gr1 (λ n. m1 (Node Mark n)) (λ s n. m1 (Node (Tag s) n)) (set vs i (filled_view v (Node f k) value)))
        (spelled-same gr1 (gr1.child Right 0) W plain spelled1 spelled)
        (filled_kept gr1 (λ n. m1 (Node Mark n)) (λ s n. m1 (Node (Tag s) n)) (Node f k) words_filled)

  fill_at : (u : Word) → may_fill v u ≡ true → TurnsAfter z (written m u value) (set vs i (filled_view v u value))
  fill_at (Node f k) met = node_filled f k (has-count k v.free.nodes (and_parts (not (is_lock f)) (has k v.free.nodes) met).1)
  fill_at (Entry p e) met =
      with_tree z words vs right (λ n. m (Node Mark n)) (λ s n. m (Node (Tag s) n)) (set vs i (filled_view v (Entry p e) value))
      (filled_kept gr0 (λ n. m (Node Mark n)) (λ s n. m (Node (Tag s) n)) (Entry p e) (turns_before z words vs right))
  fill_at _ met = absurd (never met)

pub fill_turns : KeepsTurnsAt Fill
fill_turns z words vs right i v at live n w found value o own met =
    stored_turns z words vs right n w found value (set vs i (filled_view v w value)) (fill_at z words vs right i v at value w met)
