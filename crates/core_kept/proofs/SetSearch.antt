-- What searches claim, and what they reach, after a set link.
use Rattle.std.proofs.Common.{◌≡◌, ℕ, ◌<◌, ◌≤◌, ◌⊎◌, List, [], ◌∷◌, Bool, true, false, arith, refl, ◌∙◌, sym, subst, inl, inr, Option, Some, None}
use Rattle.std.specs.List.{flat_map, All}
use Rattle.index_words.specs.declared.layout.Layout.{Layout}
use Rattle.index_words.specs.declared.side.Side.{Side}
use Rattle.index_words.specs.declared.side.Side.TheVariants.{Left, Right}
use Rattle.index_words.specs.declared.view.View.{View}
use Rattle.index_words.specs.declared.view.reading.Reading.{Reading}
use Rattle.index_words.specs.declared.view.reading.Place.{Place}
use Rattle.index_words.specs.declared.view.reading.Place.TheVariants.{Node as AtNode, Gap}
use Rattle.index_words.specs.declared.view.reading.Link.{Link as LinkRecord}
use Rattle.index_words.specs.declared.view.reading.LinkSource.{LinkSource}
use Rattle.index_words.specs.declared.view.reading.LinkSource.TheVariants.{Bundle, Plain}
use Rattle.index_words.specs.declared.view.update.UnsetLink.{UnsetLink}
use Rattle.index_words.specs.declared.word.Field.TheVariants.{Link}
use Rattle.index_words.specs.declared.word.Word.TheVariants.{Section, Announced, Node}
use Rattle.index_words.specs.Views.{no_reading}
use Rattle.index_words.specs.Words.{Memory}
use Rattle.key_map.specs.Lists.{count, Every, IsItem}
use Rattle.key_map.proofs.Counting.{count-append}
use Rattle.index_words.proofs.Seats.{Beside, at_item, all_moved}
use Rattle.core_grace.specs.Batches.{is_number}
use Rattle.core_grace.specs.Sections.{is_even}
use Rattle.core_trees.specs.LinkSteps.{IsLinkIn}
use Rattle.core_trees.specs.NamedTree.{NamedTree, Null, Branch}
use Rattle.core_trees.specs.Slots.{occurs}
use Rattle.core_trees.specs.SpelledTree.{Graph, IsSpelled}
use Rattle.core_trees.proofs.Slots.{one_at-same}
use Rattle.core_events.specs.PlainMoves.{link_set}
use Rattle.core_events.specs.PlainNeeds.{sets_to}
use Rattle.core_events.specs.Searches.{turn_key, place_nodes, source_nodes, link_nodes, search_nodes}
use Rattle.core_events.proofs.Tests.{never}
use Rattle.core_invariant.specs.Meanings.{Meaning}
use Rattle.core_invariant.specs.PlainRule.{SeatPlain, PlainRight}
use Rattle.core_invariant.specs.PlainTree.{undone, IsPlainTree}
use Rattle.core_invariant.specs.Reached.{plain_graph, HoldsPlain, ReachRight}
use Rattle.core_invariant.specs.Rule.{Rule}
use Rattle.core_invariant.specs.SearchRule.{ClaimsAt, PlaceClaims, SourceClaims, LinkClaims, SearchRight}
use Rattle.core_invariant.specs.SectionRule.{SectionRight}
use Rattle.core_invariant.proofs.Idle.{nameless_idle, number_low, number_apart}
use Rattle.core_invariant.proofs.OneView.{seat_at}
use Rattle.core_invariant.proofs.WaitNeeds.{CanSet}
use Rattle.core_kept.proofs.LinkItems.{now, child_there}
use Rattle.core_kept.proofs.MaySet.{off, asked, there, may}
use Rattle.core_kept.proofs.PlainNodes.{tree_clear, plain_clear}
use Rattle.core_kept.proofs.ReachMoves.{IsClear, reach_moved}
use Rattle.core_invariant.proofs.SearchNodes.{links_count, search_count, search_top}
use Rattle.core_kept.proofs.SetTree.{gr', ws, old, tree', is_set, tree_keeps}
use Rattle.core_invariant.proofs.Undone.{in_one}
use Rattle.plain_trees.specs.Claims.{IsWay}
use Rattle.plain_trees.specs.Matching.{Undone}
use Rattle.plain_trees.specs.Reaching.{LeadTo, IsReached}
use Rattle.plain_trees.specs.Settling.{IsSet}
use Rattle.plain_trees.specs.Stores.{ReachesNoNew}
use Rattle.plain_trees.proofs.Matched.{reach_law, reached_in, spelled-some}
use Rattle.core_kept.proofs.SetClaims.{claims_set}

-- a way reaches the node at which it ends
way-reaches : (g : Graph) (plain : NamedTree) (x : ℕ) (nodes : List ℕ) (from to : ℕ) → IsWay g plain x nodes from to → LeadTo g nodes from to
way-reaches g plain x [] from to way = way
way-reaches g plain x (m ∷ ms) from to (e, pos, apart, inl on) = (e, pos, inl (way-reaches g plain x ms (g.child Left m) to on.1))
way-reaches g plain x (m ∷ ms) from to (e, pos, apart, inr on) = (e, pos, inr (way-reaches g plain x ms (g.child Right m) to on.1))

module _ (z : Layout) (m : Memory) (vs : List View) (g : Meaning) (rule : Rule z m vs g) (plain : PlainRight m vs g) (W : NamedTree)
    (trees : IsPlainTree (plain_graph m) vs g.tree W)
    (i k : ℕ) (side : Side) (x : ℕ) (v : View) (at : IsItem vs i v) (can : CanSet z m v k side x) where
  abbrev gr0 : Graph
  gr0 = plain_graph m

  abbrev gr1 : Graph
  gr1 = gr' z m vs g rule plain W trees i k side x v at can

  abbrev ws1 : List View
  ws1 = ws z m vs g rule plain W trees i k side x v at can

  abbrev tree1 : NamedTree
  tree1 = tree' z m vs g rule plain W trees i k side x v at can

  abbrev u0 : Undone
  u0 = undone gr0 vs

  abbrev u1 : Undone
  u1 = undone gr1 ws1

  abbrev old1 : ℕ
  old1 = old z m vs g rule plain W trees i k side x v at can

  abbrev done : IsSet gr0 gr1 u0 u1 W g.tree tree1 old1 x
  done = is_set z m vs g rule plain W trees i k side x v at can

  -- a node that is reached from the root's child is in the tree
  root_in : (j : ℕ) → IsReached gr1 (gr1.child Right 0) j → 0 < j → 0 < occurs j tree1
  root_in j way some =
      reached_in gr1 tree1 (gr1.child Right 0) j done.spelled
      (top_in (gr1.child Right 0) tree1 done.spelled (way_some way.0 (gr1.child Right 0) way.1)) some way
    where
      top_in : (c : ℕ) (t : NamedTree) → IsSpelled gr1 c t → 0 < c → 0 < occurs c t
      top_in c Null spelled pos = absurd (omega (arith, spelled, pos))
      top_in c (Branch s key val l r) spelled pos = subst (λ n. 0 < occurs n (Branch s key val l r)) (sym spelled.0) (omega (arith, one_at-same s))

      way_some : (nodes : List ℕ) (from : ℕ) → LeadTo gr1 nodes from j → 0 < from
      way_some [] from way = omega (arith, way, some)
      way_some (m ∷ ms) from way = omega (arith, way.0, way.1)

  link_in1 : IsLinkIn 0 Right tree1 k side
  link_in1 = elim (may z m vs g rule plain W trees i k side x v at can).link as (λ _. IsLinkIn 0 Right tree1 k side) [
    | inl root ↦ inl root
    | inr is ↦ inr (done.keeps k (may z m vs g rule plain W trees i k side x v at can).there is)
  ]

  -- what is reached after the store was reached before, or is in the plain tree
  pub reached_old : (t : View) (j : ℕ) → HoldsPlain gr1 t j → HoldsPlain gr0 t j ⊎ (0 < occurs j tree1)
  reached_old t j holds =
      elim (search_top holds.from (gr1.child Right 0) (gr0.child Right 0) t.reading holds.searched) as (λ _. HoldsPlain gr0 t j ⊎ (0 < occurs j tree1)) [
        | inl top ↦ inr (root_in j (subst (λ n. IsReached gr1 n j) top holds.reached) holds.some)
        | inr there ↦
            elim (reach_law gr0 gr1 tree1 k side (off z m vs g rule plain W trees i k side x v at can) done.spelled link_in1
            holds.from j holds.some holds.reached)
            as (λ _. HoldsPlain gr0 t j ⊎ (0 < occurs j tree1)) [
              | inl way ↦ inl (record { inside = holds.inside; some = holds.some; from = holds.from; searched = there; reached = way })
              | inr here ↦ inr here
            ]
      ]

  ahead_still : (t : View) → ((j : ℕ) → HoldsPlain gr0 t j → 0 < occurs j g.tree → 0 < occurs j W) → (j : ℕ) → HoldsPlain gr1 t j → 0 < occurs j g.tree
      → 0 < occurs j tree1
  ahead_still t ahead j holds here = elim (reached_old t j holds) as (λ _. 0 < occurs j tree1) [
    | inl before ↦ tree_keeps z m vs g rule plain W trees i k side x v at can j here (ahead j before here)
    | inr is ↦ is
  ]

  -- no new node of the plain tree was reached
  fresh_of : (t : View) (y a : ℕ) → is_even t.section_word ≡ false → ((j : ℕ) → HoldsPlain gr0 t j → 0 < occurs j g.tree → 0 < occurs j W)
      → 0 < count a (search_nodes (gr0.child Right 0) t.reading) → ReachesNoNew gr0 W tree1 y a
  fresh_of t y a inside ahead searched j here new nodes way =
      let some : 0 < j = spelled-some gr1 j (gr1.child Right 0) tree1 done.spelled here in
      let holds : HoldsPlain gr0 t j
      = record { inside = inside; some = some; from = a; searched = searched; reached = (nodes, way-reaches gr0 W y nodes a j way) } in
      elim (done.nodes j here) as (λ _. ⊥) [
        | inl before ↦ omega (arith, new, before)
        | inr is ↦ omega (arith, new, ahead j holds (child_in_tree j is some))
      ]
    where
      child_in_tree : (j : ℕ) → j ≡ x → 0 < j → 0 < occurs j g.tree
      child_in_tree j is some =
          let asked_x = asked z m vs g rule plain W trees i k side x v at can in
          subst (λ n. 0 < occurs n g.tree) (asked_x ∙ sym is)
          (child_there z m vs g rule plain W trees k side (there z m vs g rule plain W trees i k side x v at can) (subst (λ n. 0 < n) (is ∙ sym asked_x) some))

  -- another seat's search, inside a section
  module _ (t : View) (beside : Beside vs i t) (n : ℕ) (named : t.number ≡ Some n) (low : n < z.passes) (apart : is_number n v.number ≡ false)
      (inside : is_even t.section_word ≡ false) (before : SearchRight gr0 vs g.tree W t) where
    claims_at : (low high : Option ℕ) (a : ℕ) → 0 < count a (search_nodes (gr0.child Right 0) t.reading) → ClaimsAt gr0 vs W t low high a
        → ClaimsAt gr1 ws1 tree1 t low high a
    claims_at low' high a searched claims y within =
        claims_set z m vs g rule plain W trees i k side x v at can t beside n named low apart y a
        (fresh_of t y a inside before.ahead searched) (claims y within)

    place_set : (p : Place) → ((a top : ℕ) → count a (place_nodes top p) ≤ count a (search_nodes top t.reading))
        → PlaceClaims (ClaimsAt gr0 vs W t) (turn_key t.reading.right_turn) (turn_key t.reading.left_turn) p
        → PlaceClaims (ClaimsAt gr1 ws1 tree1 t) (turn_key t.reading.right_turn) (turn_key t.reading.left_turn) p
    place_set (AtNode node key) counts claims =
        claims_at (turn_key t.reading.right_turn) (turn_key t.reading.left_turn) node (omega (arith, counts node (gr0.child Right 0), in_one node [])) claims
    place_set (Gap node side') counts claims =
        claims_at (turn_key t.reading.right_turn) (turn_key t.reading.left_turn) node (omega (arith, counts node (gr0.child Right 0), in_one node [])) claims
    place_set _ counts claims = tt

    source_set : (node child : ℕ) (s : LinkSource) → ((a : ℕ) → count a (source_nodes node s) ≤ count a (search_nodes (gr0.child Right 0) t.reading))
        → SourceClaims (ClaimsAt gr0 vs W t) node child s → SourceClaims (ClaimsAt gr1 ws1 tree1 t) node child s
    source_set node child (Bundle entry) counts claims = tt
    source_set node child (Plain tag above below) counts claims = λ null. claims_at below above node (omega (arith, counts node, in_one node [])) (claims null)

    links_set : (ls : List LinkRecord) → ((a : ℕ) → links_count a ls ≤ count a (search_nodes (gr0.child Right 0) t.reading))
        → Every (LinkClaims (ClaimsAt gr0 vs W t)) ls → Every (LinkClaims (ClaimsAt gr1 ws1 tree1 t)) ls
    links_set [] counts claims = tt
    links_set (l ∷ ls) counts claims = (
      source_set l.node l.child l.source (λ a. omega (arith, counts a, count-append a (link_nodes l) (flat_map link_nodes ls))) claims.0,
      links_set ls (λ a. omega (arith, counts a, count-append a (link_nodes l) (flat_map link_nodes ls))) claims.1,
    )

    pub lively : SearchRight gr1 ws1 g.tree tree1 t
    lively = record {
      ahead = ahead_still t before.ahead;
      key = before.key;
      keys = before.keys;
      place = λ raised. place_set t.reading.place (λ a top. omega (arith, search_count a top t.reading)) (before.place raised);
      links = λ raised. links_set t.reading.links (λ a. omega (arith, search_count a (gr0.child Right 0) t.reading)) (before.links raised);
    }

  -- a seat that has read nothing searches for nothing
  resting : (t : View) → t.reading ≡ no_reading → SearchRight gr0 vs g.tree W t → SearchRight gr1 ws1 g.tree tree1 t
  resting t none before = record {
    ahead = ahead_still t before.ahead;
    key = before.key;
    keys = before.keys;
    place = λ raised. subst (λ (r : Reading). PlaceClaims (ClaimsAt gr1 ws1 tree1 t) (turn_key r.right_turn) (turn_key r.left_turn) r.place) (sym none) tt;
    links = λ raised. subst (λ (r : Reading). Every (LinkClaims (ClaimsAt gr1 ws1 tree1 t)) r.links) (sym none) tt;
  }

  other_search : (t : View) → Beside vs i t → SearchRight gr0 vs g.tree W t → SearchRight gr1 ws1 g.tree tree1 t
  other_search t beside before = by (is_even t.section_word) refl t.number refl
    where
      section : SectionRight (λ n. m (Section n)) (λ n. m (Announced n)) t
      section = (seat_at z m vs g beside.place t beside.at rule).section

      by : (b : Bool) → is_even t.section_word ≡ b → (o : Option ℕ) → t.number ≡ o → SearchRight gr1 ws1 g.tree tree1 t
      by true even o named = resting t (section.outside even) before
      by false odd None named = resting t (nameless_idle (λ n. m (Section n)) (λ n. m (Announced n)) t section named).reading before
      by false odd (Some n) named =
          lively t beside n named (number_low z vs beside.place t n rule.numbers beside.at named)
          (number_apart z vs i v t n rule.numbers at beside named) odd before

  -- the seat itself has raised, and claims nothing
  raised_own : v.update.raised ≡ None → ⊥
  raised_own none =
      never (subst (λ (us : List UnsetLink). sets_to k side x us ≡ true)
      ((at_item (SeatPlain (λ s j. m (Node (Link s) j)) (now z m vs g rule plain W trees).child g.tree) vs i v at plain.seats).first none).0 can.sets)

  own_search : SearchRight gr0 vs g.tree W v → SearchRight gr1 ws1 g.tree tree1 (link_set v k side x)
  own_search before = record {
    ahead = λ j holds here.
        ahead_still v before.ahead j (record {
          inside = holds.inside;
          some = holds.some;
          from = holds.from;
          searched = holds.searched;
          reached = holds.reached;
        }) here;
    key = before.key;
    keys = before.keys;
    place = λ none. absurd (raised_own none);
    links = λ none. absurd (raised_own none);
  }

  -- what each seat claims after the store
  pub searches_set : All (SearchRight gr0 vs g.tree W) vs → All (SearchRight gr1 ws1 g.tree tree1) ws1
  searches_set all =
      all_moved (SearchRight gr0 vs g.tree W) (SearchRight gr1 ws1 g.tree tree1) vs i v (link_set v k side x) at all
      (own_search (at_item (SearchRight gr0 vs g.tree W) vs i v at all)) other_search

  -- and reaches
  tree_clear1 : (j : ℕ) → 0 < occurs j tree1 → IsClear z vs j
  tree_clear1 j here = elim (done.nodes j here) as (λ _. IsClear z vs j) [
    | inl before ↦ plain_clear z m vs g rule gr0 W trees j before
    | inr is ↦
        let asked_x = asked z m vs g rule plain W trees i k side x v at can in
        let some : 0 < j = spelled-some gr1 j (gr1.child Right 0) tree1 done.spelled here in
        tree_clear z m vs g rule j (subst (λ n. 0 < occurs n g.tree) (asked_x ∙ sym is)
        (child_there z m vs g rule plain W trees k side (there z m vs g rule plain W trees i k side x v at can) (subst (λ n. 0 < n) (is ∙ sym asked_x) some)))
  ]

  pub reach_set : ReachRight z gr0 vs → ReachRight z gr1 ws1
  reach_set right =
      reach_moved z gr0 gr1 vs i v (link_set v k side x) at
      (record { free = λ j. omega arith; batch = refl; grace = refl; number = refl; own = λ none. absurd (raised_own none) })
      (record {
        own = λ j holds.
            elim (reached_old v j (record { inside = holds.inside; some = holds.some; from = holds.from; searched = holds.searched; reached = holds.reached }))
            as (λ _. (HoldsPlain gr0 v j × (v.section_word ≡ v.section_word)) ⊎ IsClear z vs j) [
              | inl before ↦ inl (before, refl)
              | inr here ↦ inr (tree_clear1 j here)
            ];
        others = λ t beside j holds. elim (reached_old t j holds) as (λ _. HoldsPlain gr0 t j ⊎ IsClear z vs j) [
          | inl before ↦ inl before
          | inr here ↦ inr (tree_clear1 j here)
        ];
      }) right
