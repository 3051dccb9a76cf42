-- The same after a set link, in each of its forms.
use Rattle.std.proofs.Common.{◌≡◌, ℕ, ◌<◌, ◌≤◌, ◌⊎◌, List, [], ◌∷◌, Bool, true, false, not, ◌&&◌, set, arith, refl, ap, ◌∙◌, sym, subst, inl, inr, Option, Some, None, IfSome, cond, map, eqb}
use Rattle.std.specs.List.{list_all}
use Rattle.std.proofs.lemmas.Bool.{and_parts, eqb-true, cases_lt, and_from, eq-eqb}
use Rattle.index_words.specs.declared.layout.Layout.{Layout}
use Rattle.index_words.specs.declared.side.Side.{Side}
use Rattle.index_words.specs.declared.side.Side.TheVariants.{Left, Right}
use Rattle.index_words.specs.declared.view.View.{View}
use Rattle.index_words.specs.declared.view.reading.Place.{Place}
use Rattle.index_words.specs.declared.view.reading.Place.TheVariants.{Node as AtNode}
use Rattle.index_words.specs.declared.view.reading.Turn.{Turn}
use Rattle.index_words.specs.declared.view.update.Unlinking.{Unlinking}
use Rattle.index_words.specs.declared.view.update.UnsetLink.{UnsetLink}
use Rattle.index_words.specs.declared.word.Field.TheVariants.{Mark, Link, Tag}
use Rattle.index_words.specs.declared.word.Word.{Word}
use Rattle.index_words.specs.declared.word.Word.TheVariants.{Node}
use Rattle.index_words.specs.Words.{Memory, memory, written, same_side}
use Rattle.index_words.proofs.Seats.{at_item, all_moved}
use Rattle.key_map.specs.Lists.{count, IsItem}
use Rattle.core_grace.specs.Batches.{all_passed}
use Rattle.core_grace.specs.Holds.{held_slots}
use Rattle.core_grace.specs.Sections.{is_even}
use Rattle.core_trees.specs.NamedTree.{NamedTree}
use Rattle.core_trees.specs.Slots.{occurs}
use Rattle.core_trees.specs.SpelledTree.{Graph}
use Rattle.core_trees.proofs.SpelledTree.{spelled-same}
use Rattle.core_events.specs.declared.event.Kind.TheVariants.{SetLink}
use Rattle.core_events.specs.Needs.{is_marked_node, is_marked_out, is_successor}
use Rattle.core_events.specs.PlainMoves.{link_set, link_known_at}
use Rattle.core_events.specs.PlainNeeds.{sets_to, unlinks_at, may_unlink, may_set_link}
use Rattle.core_events.specs.Searches.{place_nodes, turn_nodes, search_nodes, knows_link, knows_tag}
use Rattle.core_events.specs.Steps.{set_from}
use Rattle.core_events.proofs.Tests.{never, either_true}
use Rattle.core_invariant.specs.PlainRule.{SeatPlain}
use Rattle.core_invariant.specs.PlainTree.{undone, SeatInTree, IsSecondOut}
use Rattle.core_invariant.specs.Reached.{plain_graph}
use Rattle.core_invariant.specs.Rule.{InRule}
use Rattle.core_invariant.specs.SearchRule.{SearchRight}
use Rattle.core_invariant.specs.TurnRule.{PlaceBelow, TurnRight, TurnsRight, LeavesMarked}
use Rattle.core_invariant.proofs.Locked.{same_locker, count-locks}
use Rattle.core_invariant.proofs.OneView.{seat_at}
use Rattle.core_invariant.proofs.TreeSteps.{tested_at}
use Rattle.core_invariant.proofs.WaitNeeds.{CanSet, can_set}
use Rattle.core_kept.specs.TurnLaws.{TurnsKept, TurnsAfter, KeepsTurnsAt}
use Rattle.core_kept.proofs.LinkItems.{ItemOf, SetBy, by_item, by_copy, set_by, now, same_child, child_there, locked_in}
use Rattle.core_kept.proofs.MaySet.{item, of, was_taken, off, asked, there, may, node_is, side_is}
use Rattle.core_invariant.proofs.SearchNodes.{search_count}
use Rattle.core_kept.proofs.SetTree.{gr', old, tree', is_set}
use Rattle.core_kept.proofs.TurnAlone.{nothing_still, others_known}
use Rattle.core_kept.proofs.TurnFrames.{none_turns, stored_turns}
use Rattle.core_kept.proofs.TurnSeats.{has_read_nothing}
use Rattle.core_invariant.proofs.Undone.{copied_is, in_one, in_pair_second}
use Rattle.plain_trees.specs.Matching.{Undone, IsUnset, IsOut, IsBypassed}
use Rattle.plain_trees.specs.Reaching.{IsReached}
use Rattle.plain_trees.specs.Settling.{IsSet, IsNew, MaySet}
use Rattle.plain_trees.proofs.Matched.{spelled-some}
use Rattle.plain_trees.proofs.TurnPaths.{store_turned}
use Rattle.core_invariant.specs.StillRule.{IsSourceKnown, IsLinkKnown, KnownRight}
use Rattle.core_kept.proofs.KnownHeld.{link_kept_links, link_kept_tags, link_known_here}
use Rattle.core_kept.proofs.PlainSets.{SameLink, equal, other, same_link}
use Rattle.std.proofs.lemmas.Option.{IfSome_then}
use Rattle.index_words.specs.declared.view.reading.LinkSource.{LinkSource}
use Rattle.index_words.specs.declared.view.reading.LinkSource.TheVariants.{Bundle, Plain}
use Rattle.index_words.specs.declared.view.update.HeldNode.{HeldNode}
use Rattle.core_invariant.proofs.Frames.{every_map}
use Rattle.core_invariant.proofs.Sides.{same_side-refl}

module _ (z : Layout) (words : List ℕ) (vs : List View) (right : InRule z words vs) (i k : ℕ) (side : Side) (x : ℕ) (v : View) (at : IsItem vs i v)
    (can : CanSet z (memory z words) v k side x) where
  abbrev m : Memory
  m = memory z words

  abbrev W : NamedTree
  W = right.plain_tree

  abbrev N : NamedTree
  N = right.meaning.tree

  abbrev gr0 : Graph
  gr0 = plain_graph m

  abbrev gr1 : Graph
  gr1 = gr' z m vs right.meaning right.rule right.plain W right.trees i k side x v at can

  abbrev tree1 : NamedTree
  tree1 = tree' z m vs right.meaning right.rule right.plain W right.trees i k side x v at can

  abbrev old1 : ℕ
  old1 = old z m vs right.meaning right.rule right.plain W right.trees i k side x v at can

  abbrev u0 : Undone
  u0 = undone gr0 vs

  abbrev u1 : Undone
  u1 = undone gr1 (set vs i (link_set v k side x))

  done : IsSet gr0 gr1 u0 u1 W N tree1 old1 x
  done = is_set z m vs right.meaning right.rule right.plain W right.trees i k side x v at can

  abbrev item1 : UnsetLink
  item1 = item z m vs right.meaning right.rule right.plain W right.trees i k side x v at can

  mine : ItemOf z m vs right.meaning right.rule right.plain W right.trees v item1
  mine = of z m vs right.meaning right.rule right.plain W right.trees i k side x v at can

  may1 : MaySet gr0 (now z m vs right.meaning right.rule right.plain W right.trees) u0 u1 W N k side old1 x
  may1 = may z m vs right.meaning right.rule right.plain W right.trees i k side x v at can

  links_same : (j : ℕ) → 0 < j → occurs j tree1 ≡ 0 → (d : Side) → gr1.child d j ≡ gr0.child d j
  links_same j pos gone d = off z m vs right.meaning right.rule right.plain W right.trees i k side x v at can j d (λ here. elim may1.link as (λ _. ⊥) [
    | inl root ↦ omega (arith, pos, here.0, root.0)
    | inr is ↦ omega (arith, gone, subst (λ n. 0 < occurs n tree1) (sym here.0) (done.keeps k may1.there is))
  ])

  -- the child is in the tree at the stamp
  child_in : 0 < x → 0 < occurs x N
  child_in some =
      let asked_x = asked z m vs right.meaning right.rule right.plain W right.trees i k side x v at can in
      subst (λ n. 0 < occurs n N) asked_x
      (child_there z m vs right.meaning right.rule right.plain W right.trees k side
      (there z m vs right.meaning right.rule right.plain W right.trees i k side x v at can) (subst (λ n. 0 < n) (sym asked_x) some))

  -- a seat's search, inside a section
  module _ (t : View) (inside : is_even t.section_word ≡ false) (search : SearchRight gr0 vs N W t) where
    -- what it reaches, and is in the plain tree then, was in it before
    old_in : (a j : ℕ) → 0 < count a (search_nodes (gr0.child Right 0) t.reading) → IsReached gr0 a j → 0 < occurs j tree1 → 0 < occurs j W
    old_in a j searched reached here =
        let some : 0 < j = spelled-some gr1 j (gr1.child Right 0) tree1 done.spelled here in
        elim (done.nodes j here) as (λ _. 0 < occurs j W) [
          | inl was ↦ was
          | inr is ↦
              search.ahead j (record { inside = inside; some = some; from = a; searched = searched; reached = reached })
              (subst (λ n. 0 < occurs n N) (sym is) (child_in (subst (λ n. 0 < n) is some)))
        ]

    below_set : (p : Place) → ((a : ℕ) → count a (place_nodes (gr0.child Right 0) p) ≤ count a (search_nodes (gr0.child Right 0) t.reading))
        → (at' : Side) (tn : Turn) → 0 < count tn.node (search_nodes (gr0.child Right 0) t.reading) → PlaceBelow gr0 W p at' tn → PlaceBelow gr1 tree1 p at' tn
    below_set (AtNode node key) counts at' tn turned leads =
        store_turned gr0 gr1 (λ j. ¬ IsOut u0 j) (IsBypassed u0) old1 done.successor done.from done.until tn.node tn.key node at' W tree1
        right.trees.spelled (λ j. refl) links_same done.store done.gone
        (λ here. old_in tn.node tn.node turned ([], refl) here)
        (λ j here reached. old_in node j (omega (arith, counts node, in_one node [])) reached here) leads
    below_set _ counts at' tn turned leads = tt

    turn_set : (at' : Side) (o : Option Turn) → ((a : ℕ) → count a (turn_nodes o) ≤ count a (search_nodes (gr0.child Right 0) t.reading))
        → IfSome o (TurnRight gr0 W t.reading.place at') → IfSome o (TurnRight gr1 tree1 t.reading.place at')
    turn_set at' None counts is = tt
    turn_set at' (Some tn) counts is = record {
      some = is.some;
      key = is.key;
      below =
          below_set t.reading.place (λ a. omega (arith, search_count a (gr0.child Right 0) t.reading)) at' tn
          (omega (arith, counts tn.node, in_one tn.node [])) is.below;
    }

    turns_inside : TurnsRight gr0 W t → TurnsRight gr1 tree1 t
    turns_inside is = record {
      left = turn_set Left t.reading.left_turn (λ a. omega (arith, search_count a (gr0.child Right 0) t.reading)) is.left;
      right = turn_set Right t.reading.right_turn (λ a. omega (arith, search_count a (gr0.child Right 0) t.reading)) is.right;
      begins = is.begins;
    }

  turns_set : (j : ℕ) (t : View) → IsItem vs j t → TurnsRight gr0 W t → TurnsRight gr1 tree1 t
  turns_set j t at' is = by (is_even t.section_word) refl
    where
      by : (b : Bool) → is_even t.section_word ≡ b → TurnsRight gr1 tree1 t
      by true even =
          none_turns z gr1 (λ n. m (Node Mark n)) (λ s n. m (Node (Tag s) n)) tree1 t
          (has_read_nothing t ((seat_at z m vs right.meaning j t at' right.rule).section.outside even))
      by false odd = turns_inside t odd (at_item (SearchRight gr0 vs N W) vs j t at' right.searches) is

  -- what this update took out is marked, but for a successor that is still to be unlinked
  taken_marked : (j : ℕ) → 0 < count j v.update.taken → is_successor j v.update.unlinking ≡ false → m (Node Mark j) ≡ 1
  taken_marked j taken stays =
      let tests = (and_parts _ (list_all (is_marked_out m v.update) v.update.taken) can.nothing).1 in
      elim (either_true (is_marked_node m j) (is_successor j v.update.unlinking) (tested_at (is_marked_out m v.update) v.update.taken j tests taken))
      as (λ _. m (Node Mark j) ≡ 1) [
        | inl marked ↦ eqb-true (m (Node Mark j)) 1 marked
        | inr is ↦ absurd (never (sym stays ∙ is))
      ]

  -- a successor is unlinked only where it is marked
  unlinked_marked : (o : Unlinking) → v.update.unlinking ≡ Some o → old1 ≡ o.successor → m (Node Mark old1) ≡ 1
  unlinked_marked o is same = elim (either_true (not (unlinks_at k side v.update.unlinking)) (may_unlink z m v v.update.unlinking) can.unlinks)
      as (λ _. m (Node Mark old1) ≡ 1) [
        | inl away ↦ absurd (clash (unlinks_at k side v.update.unlinking) here away)
        | inr unlinks ↦
            let met : (is_marked_node m o.successor && all_passed z.passes v.number v.update.waiting.passed) ≡ true
            = subst (λ (y : Option Unlinking). may_unlink z m v y ≡ true) is unlinks in
            ap (λ n. m (Node Mark n)) same ∙ eqb-true (m (Node Mark o.successor)) 1
            (and_parts (is_marked_node m o.successor) (all_passed z.passes v.number v.update.waiting.passed) met).0
      ]
    where
      far : v.update.taken ≡ o.replaced ∷ o.successor ∷ []
      far =
          subst (λ (q : Option Unlinking). IfSome q (λ u. v.update.taken ≡ u.replaced ∷ u.successor ∷ [])) is
          (at_item (SeatInTree gr0 W N) vs i v at right.trees.seats).far

      second : IsSecondOut v.update.taken old1
      second = subst (λ (ks : List ℕ). IsSecondOut ks old1) (sym far) same

      here : unlinks_at k side v.update.unlinking ≡ true
      here =
          subst (λ (d : Side). unlinks_at k d v.update.unlinking ≡ true) (side_is z m vs right.meaning right.rule right.plain W right.trees i k side x v at can)
          (subst (λ n. unlinks_at n item1.side v.update.unlinking ≡ true)
          (node_is z m vs right.meaning right.rule right.plain W right.trees i k side x v at can) (mine.1.last second))

      clash : (b : Bool) → b ≡ true → not b ≡ true → ⊥
      clash true is away = cc
      clash false is away = cc

  old_marked : 0 < count old1 v.update.taken → m (Node Mark old1) ≡ 1
  old_marked taken = by v.update.unlinking refl (is_successor old1 v.update.unlinking) refl
    where
      successor_is : (o : Unlinking) → v.update.unlinking ≡ Some o → is_successor old1 v.update.unlinking ≡ true → old1 ≡ o.successor
      successor_is o is it_is = sym (eqb-true o.successor old1 (subst (λ (y : Option Unlinking). is_successor old1 y ≡ true) is it_is))

      by : (o : Option Unlinking) → v.update.unlinking ≡ o → (b : Bool) → is_successor old1 v.update.unlinking ≡ b → m (Node Mark old1) ≡ 1
      by o is false off = taken_marked old1 taken off
      by None is true it_is = absurd (never (subst (λ (y : Option Unlinking). is_successor old1 y ≡ true) is it_is))
      by (Some o) is true it_is = unlinked_marked o is (successor_is o is it_is)

  -- a successor over which the copy passes
  passed_marked : (j behind : ℕ) → IsNew x W → IsUnset u0 x Right j behind → m (Node Mark j) ≡ 1
  passed_marked j behind new is = by (set_by z m vs right.meaning right.rule right.plain W right.trees x Right j behind is)
    where
      by : SetBy z m vs right.meaning right.rule right.plain W right.trees x Right j behind → m (Node Mark j) ≡ 1
      by (by_item s t at' a) =
          absurd (omega (
            arith,
            new.1,
            locked_in z m vs right.meaning right.rule right.plain W right.trees s t at' x
                (subst (λ n. 0 < count n (held_slots t.held.nodes)) a.is.node a.right.0.held) (child_in new.0),
          ))
      by (by_copy s t at' p f) =
          let c = copied_is p.removed x f.item f.passes in
          let here = same_child z m vs right.meaning right.rule right.plain W right.trees k f.item.node side f.item.side x
          (there z m vs right.meaning right.rule right.plain W right.trees i k side x v at can) f.right.0.there
          (asked z m vs right.meaning right.rule right.plain W right.trees i k side x v at can) (f.right.0.asked ∙ c.1) new.0 in
          let me : t ≡ v
          = sym (same_locker z m vs right.meaning right.rule i s k v t at at' can.locked
          (subst (λ n. 0 < count n (held_slots t.held.nodes)) (sym here.0) f.right.0.held)) in
          let taken : 0 < count j t.update.taken
          = subst (λ (ks : List ℕ). 0 < count j ks) (sym p.out)
          (subst (λ n. 0 < count n (p.removed ∷ p.successor ∷ [])) (sym p.only) (in_pair_second p.removed p.successor)) in
          taken_marked j (subst (λ (q : View). 0 < count j q.update.taken) me taken)
          (ap (is_successor j) (ap (λ (q : View). q.update.unlinking) (sym me) ∙ p.near))

  leaving_set : (j : ℕ) (t : View) → IsItem vs j t → LeavesMarked (λ n. m (Node Mark n)) W t → LeavesMarked (λ n. m (Node Mark n)) tree1 t
  leaving_set j t at' is n taken = elim (is n taken) as (λ _. (m (Node Mark n) ≡ 1) ⊎ (0 < occurs n tree1)) [
    | inl marked ↦ inl marked
    | inr before ↦ elim (cases_lt 0 (occurs n tree1)) as (λ _. (m (Node Mark n) ≡ 1) ⊎ (0 < occurs n tree1)) [
      | inl here ↦ inr here
      | inr gone ↦ elim (done.leaves n before (omega (arith, gone))) as (λ _. (m (Node Mark n) ≡ 1) ⊎ (0 < occurs n tree1)) [
        | inl same ↦
            let me = was_taken z m vs right.meaning right.rule right.plain W right.trees i k side x v at can j t at'
            (subst (λ y. 0 < count y t.update.taken) same taken) in
            inl (ap (λ y. m (Node Mark y)) same ∙ old_marked
            (subst (λ (q : View). 0 < count old1 q.update.taken) me.1 (subst (λ y. 0 < count y t.update.taken) same taken)))
        | inr passed ↦ inl (passed_marked n passed.1.0 passed.0 passed.1.1)
      ]
    ]
  ]

  set_raised : v.update.raised ≡ None → ⊥
  set_raised none =
      never (subst (λ (us : List UnsetLink). sets_to k side x us ≡ true)
      ((at_item (SeatPlain (λ s j. m (Node (Link s) j)) (now z m vs right.meaning right.rule right.plain W right.trees).child N) vs i v at
      right.plain.seats).first none).0 can.sets)

  -- the link is known from then on
  abbrev hs' : List HeldNode
  hs' = map (link_known_at k side x) v.held.nodes

  link_by : (node : ℕ) (s : Side) (y : ℕ) → SameLink node k s side → (gr0.child s node ≡ y) ⊎ (knows_link v.held.nodes node s (gr0.child s node) ≡ true)
      → (gr1.child s node ≡ y) ⊎ (knows_link hs' node s (gr1.child s node) ≡ true)
  link_by node s y (equal same at') is =
      let here : gr1.child side k ≡ x
      = ap (λ b. cond b x (m (Node (Link side) k))) (and_from (same_side side side) (eqb k k) (same_side-refl side) (eq-eqb k k refl)) in
      inr (subst (λ n. knows_link hs' n s (gr1.child s n) ≡ true) (sym same) (subst (λ (t : Side). knows_link hs' k t (gr1.child t k) ≡ true) (sym at')
      (ap (knows_link hs' k side) here ∙ link_known_here k side x v.held.nodes (count-locks k v.held.nodes can.locked))))
  link_by node s y (other apart differ) is =
      let same : gr1.child s node ≡ gr0.child s node = ap (λ b. cond b x (m (Node (Link s) node))) apart in
      elim is as (λ _. (gr1.child s node ≡ y) ⊎ (knows_link hs' node s (gr1.child s node) ≡ true)) [
        | inl was ↦ inl (same ∙ was)
        | inr known ↦ inr (ap (knows_link hs' node s) same ∙ link_kept_links k side x v.held.nodes node s (gr0.child s node) (λ n t. absurd (differ n t)) known)
      ]

  source_after : (node : ℕ) (s : Side) (child : ℕ) (l : LinkSource) → IsSourceKnown v.held.nodes node s (gr0.child s node) (m (Node (Tag s) node)) child l
      → IsSourceKnown hs' node s (gr1.child s node) (m (Node (Tag s) node)) child l
  source_after node s child (Bundle entry) is = tt
  source_after node s child (Plain found above below) is = (
    link_by node s child (same_link node k s side) is.0,
    IfSome_then found is.1 (λ y told. elim told as (λ _. (m (Node (Tag s) node) ≡ y) ⊎ (knows_tag hs' node s (m (Node (Tag s) node)) ≡ true)) [
      | inl same ↦ inl same
      | inr known ↦ inr (link_kept_tags k side x v.held.nodes node s (m (Node (Tag s) node)) known)
    ]),
  )

  link_known_after : KnownRight z gr0 (λ s n. m (Node (Tag s) n)) v → KnownRight z gr1 (λ s n. m (Node (Tag s) n)) (link_set v k side x)
  link_known_after is one =
      every_map (IsLinkKnown gr0 (λ s n. m (Node (Tag s) n)) v.held.nodes) (IsLinkKnown gr1 (λ s n. m (Node (Tag s) n)) hs') v.reading.links
      (λ l was. source_after l.node l.side l.child l.source was) (is one)

  set_kept : TurnsKept z gr1 (λ n. m (Node Mark n)) (λ s n. m (Node (Tag s) n)) (set vs i (link_set v k side x)) tree1
  set_kept = record {
    turns =
        all_moved (TurnsRight gr0 W) (TurnsRight gr1 tree1) vs i v (link_set v k side x) at right.turns
        (own (turns_set i v at (at_item (TurnsRight gr0 W) vs i v at right.turns)))
        (λ t beside is. turns_set beside.place t beside.at is);
    leaving = all_moved (LeavesMarked (λ n. m (Node Mark n)) W) (LeavesMarked (λ n. m (Node Mark n)) tree1) vs i v (link_set v k side x) at right.leaving
        (leaving_set i v at (at_item (LeavesMarked (λ n. m (Node Mark n)) W) vs i v at right.leaving)) (λ t beside is. leaving_set beside.place t beside.at is);
    still = nothing_still z words vs right i v at k can.locked set_raised gr1 (λ s n. m (Node (Tag s) n)) tree1 (link_set v k side x) refl;
    known = all_moved (KnownRight z gr0 (λ s n. m (Node (Tag s) n))) (KnownRight z gr1 (λ s n. m (Node (Tag s) n))) vs i v (link_set v k side x) at right.known
        (link_known_after (at_item (KnownRight z gr0 (λ s n. m (Node (Tag s) n))) vs i v at right.known))
        (λ t beside is. others_known z words vs right i v at k can.locked gr1 (λ s n. m (Node (Tag s) n)) t beside);
  }
    where
      own : TurnsRight gr1 tree1 v → TurnsRight gr1 tree1 (link_set v k side x)
      own is = is

  pub set_field : TurnsAfter z (written m (Node (Link side) k) x) (set vs i (link_set v k side x))
  set_field plain spelled =
      subst (TurnsKept z gr1 (λ n. m (Node Mark n)) (λ s n. m (Node (Tag s) n)) (set vs i (link_set v k side x)))
      (spelled-same gr1 (gr1.child Right 0) tree1 plain done.spelled spelled) set_kept

module _ (z : Layout) (words : List ℕ) (vs : List View) (right : InRule z words vs) (i : ℕ) (v : View) (at : IsItem vs i v) (value : ℕ) where
  pub set_at : (u : Word) → may_set_link z (memory z words) v u value ≡ true → TurnsAfter z (written (memory z words) u value) (set vs i (set_from v u value))
  set_at (Node (Link side) k) met = set_field z words vs right i k side value v at (can_set z (memory z words) v k side value met)
  set_at _ met = absurd (never met)

pub set_turns : KeepsTurnsAt SetLink
set_turns z words vs right i v at live n w found value o own met =
    stored_turns z words vs right n w found value (set vs i (set_from v w value)) (set_at z words vs right i v at value w met)
