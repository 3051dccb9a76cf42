-- The same after a load of a plain link: a search that stands there turns, and goes on.
use Rattle.std.proofs.Common.{◌≡◌, ℕ, ◌<◌, cond, List, [], ◌∷◌, Bool, true, false, eqb, set, arith, refl, ap, ◌∙◌, sym, subst, inl, inr, Option, Some, None, IfSome, map}
use Rattle.std.proofs.lemmas.Bool.{and_parts, eqb-true}
use Rattle.std.proofs.lemmas.Option.{IfSome_then}
use Rattle.index_words.specs.declared.layout.Layout.{Layout}
use Rattle.index_words.specs.declared.side.Side.{Side}
use Rattle.index_words.specs.declared.side.Side.TheVariants.{Left, Right}
use Rattle.index_words.specs.declared.view.View.{View}
use Rattle.index_words.specs.declared.view.reading.Place.{Place}
use Rattle.index_words.specs.declared.view.reading.Place.TheVariants.{Nowhere, Node as AtNode, Gap}
use Rattle.index_words.specs.declared.view.reading.Turn.{Turn}
use Rattle.index_words.specs.declared.word.Field.TheVariants.{Mark, Link, Tag}
use Rattle.index_words.specs.declared.word.Word.{Word}
use Rattle.index_words.specs.declared.word.Word.TheVariants.{Node}
use Rattle.index_words.specs.Words.{Memory, memory}
use Rattle.index_words.proofs.Seats.{at_item}
use Rattle.key_map.specs.Lists.{count, IsItem}
use Rattle.core_grace.proofs.RuleMoves.{every_push}
use Rattle.core_trees.specs.NamedTree.{NamedTree, Null, Branch}
use Rattle.core_trees.specs.Slots.{occurs}
use Rattle.core_trees.specs.SpelledTree.{Graph, IsSpelled}
use Rattle.core_trees.proofs.Slots.{one_at-same}
use Rattle.core_events.specs.declared.event.Kind.TheVariants.{LoadLink}
use Rattle.core_events.specs.PlainMoves.{link_known_at, link_loaded}
use Rattle.core_events.specs.Searches.{turn_key, goes_on_at, searches_at, turned, left_turn_after, right_turn_after, place_after, plain_link, walked, search_nodes}
use Rattle.core_events.specs.Steps.{link_from}
use Rattle.core_events.proofs.Tests.{never, positive}
use Rattle.core_invariant.specs.Reached.{plain_graph}
use Rattle.core_invariant.specs.Rule.{InRule}
use Rattle.core_invariant.specs.SearchRule.{PlaceKey, SearchRight}
use Rattle.core_invariant.specs.StillRule.{IsLinkStill, StaysStill, StillRight, IsLinkKnown, KnownRight}
use Rattle.core_invariant.specs.TurnRule.{PlaceBelow, TurnRight, NoTurns, TurnsRight}
use Rattle.core_kept.specs.TurnLaws.{TurnsKept, TurnsAfter, KeepsTurnsAt}
use Rattle.core_invariant.proofs.SearchNodes.{search_top}
use Rattle.core_kept.proofs.KnownHeld.{KeepsKnown, same_known, links_known, link_kept_links, link_kept_tags}
use Rattle.core_kept.proofs.TurnFrames.{same_place, same_kept, step_kept, one_moved, own_leaving, turns_before, with_tree}
use Rattle.core_kept.proofs.WalkSteps.{walk_reach}
use Rattle.plain_trees.specs.Reaching.{LeadTo, IsReached}
use Rattle.plain_trees.specs.Turns.{LeadsBelow}
use Rattle.plain_trees.proofs.Matched.{reached_in}
use Rattle.plain_trees.proofs.TurnPaths.{turns_here, turn_stays}

-- nodes of a search on plain links that spell this tree
module _ (g : Graph) (W : NamedTree) (spelled : IsSpelled g (g.child Right 0) W) where
  pub top_in : (c : ℕ) (t : NamedTree) → IsSpelled g c t → 0 < c → 0 < occurs c t
  top_in c Null is pos = absurd (omega (arith, is, pos))
  top_in c (Branch s key val l r) is pos = subst (λ n. 0 < occurs n (Branch s key val l r)) (sym is.0) (omega (arith, one_at-same s))

  reach_some : (nodes : List ℕ) (from to : ℕ) → LeadTo g nodes from to → 0 < to → 0 < from
  reach_some [] from to way some = omega (arith, way, some)
  reach_some (n ∷ ns) from to way some = omega (arith, way.0, way.1)

  -- a node of the place after a step by this link
  after_begins : (k x : ℕ) (side : Side) (left right : Option Turn) → NoTurns (place_after k side x) left right
  after_begins k x side left right = by (eqb x 0)
    where
      by : (b : Bool) → NoTurns (cond b (Gap k side) (AtNode x None)) left right
      by true = tt
      by false = tt

  after_below : (k x : ℕ) (side at : Side) (t : Turn) → (0 < x → LeadsBelow g W t.node t.key at x) → PlaceBelow g W (place_after k side x) at t
  after_below k x side at t leads = by (eqb x 0) refl
    where
      by : (b : Bool) → eqb x 0 ≡ b → PlaceBelow g W (cond b (Gap k side) (AtNode x None)) at t
      by true is = tt
      by false is = leads (positive x is)

module _ (z : Layout) (words : List ℕ) (vs : List View) (right : InRule z words vs) (i : ℕ) (v : View) (at : IsItem vs i v) where
  abbrev m : Memory
  m = memory z words

  abbrev gr0 : Graph
  gr0 = plain_graph m

  abbrev tags : Side → ℕ → ℕ
  tags side k = m (Node (Tag side) k)

  abbrev marks : ℕ → ℕ
  marks k = m (Node Mark k)

  abbrev W : NamedTree
  W = right.plain_tree

  abbrev Kept : List View → Type 0
  Kept ws = TurnsKept z gr0 marks tags ws W

  before : Kept vs
  before = turns_before z words vs right

  turns : TurnsRight gr0 W v
  turns = at_item (TurnsRight gr0 W) vs i v at right.turns

  search : SearchRight gr0 vs right.meaning.tree W v
  search = at_item (SearchRight gr0 vs right.meaning.tree W) vs i v at right.searches

  module _ (k : ℕ) (side : Side) where
    abbrev x : ℕ
    x = gr0.child side k

    abbrev after : Place
    after = place_after k side x

    abbrev with_walk : Bool → View
    with_walk b = record (link_loaded v k side x) { reading = walked b v.reading k side x }

    -- a turn that was made before, where the search stood at the link's node
    other_turn : (key : Option ℕ) (at' : Side) (t : Turn) → 0 < k → TurnRight gr0 W (AtNode k key) at' t → TurnRight gr0 W after at' t
    other_turn key at' t some is = record {
      some = is.some;
      key = is.key;
      below = after_below gr0 W right.trees.spelled k x side at' t (λ child. turn_stays gr0 W t.node t.key k at' side right.trees.spelled some child is.below);
    }

    -- the turn there
    new_turn : (key : ℕ) → 0 < k → gr0.key k ≡ key → TurnRight gr0 W after side (record { node = k; key = key })
    new_turn key some is = record {
      some = some;
      key = is;
      below = after_below gr0 W right.trees.spelled k x side side (record { node = k; key = key })
          (λ child. subst (λ y. LeadsBelow gr0 W k y side x) is (turns_here gr0 W k side right.trees.spelled some child));
    }

    -- it stood at the node
    module _ (key : ℕ) (is : v.reading.place ≡ AtNode k (Some key)) (some : 0 < k) (key_is : gr0.key k ≡ key) where
      turned_left : turned v.reading.place v.reading.left_turn ≡ Some (record { node = k; key = key })
      turned_left = ap (λ (p : Place). turned p v.reading.left_turn) is

      turned_right : turned v.reading.place v.reading.right_turn ≡ Some (record { node = k; key = key })
      turned_right = ap (λ (p : Place). turned p v.reading.right_turn) is

      here : (at' : Side) (o : Option Turn) → IfSome o (TurnRight gr0 W v.reading.place at') → IfSome o (TurnRight gr0 W after at')
      here at' o all = IfSome_then o all (λ t told. other_turn (Some key) at' t some (subst (λ (p : Place). TurnRight gr0 W p at' t) is told))

      left_here : (s : Side) → s ≡ side → IfSome (left_turn_after s v.reading) (TurnRight gr0 W after Left)
      left_here Left e =
          subst (λ (o : Option Turn). IfSome o (TurnRight gr0 W after Left)) (sym turned_left)
          (subst (λ (s : Side). TurnRight gr0 W after s (record { node = k; key = key })) (sym e) (new_turn key some key_is))
      left_here Right e = here Left v.reading.left_turn turns.left

      right_here : (s : Side) → s ≡ side → IfSome (right_turn_after s v.reading) (TurnRight gr0 W after Right)
      right_here Left e = here Right v.reading.right_turn turns.right
      right_here Right e =
          subst (λ (o : Option Turn). IfSome o (TurnRight gr0 W after Right)) (sym turned_right)
          (subst (λ (s : Side). TurnRight gr0 W after s (record { node = k; key = key })) (sym e) (new_turn key some key_is))

    -- it began at the root
    module _ (is : v.reading.place ≡ Nowhere) where
      none : (v.reading.left_turn ≡ None) × (v.reading.right_turn ≡ None)
      none = subst (λ (p : Place). NoTurns p v.reading.left_turn v.reading.right_turn) is turns.begins

      none_left : (s : Side) → left_turn_after s v.reading ≡ None
      none_left Left = ap (λ (p : Place). turned p v.reading.left_turn) is ∙ none.0
      none_left Right = none.0

      none_right : (s : Side) → right_turn_after s v.reading ≡ None
      none_right Left = none.1
      none_right Right = ap (λ (p : Place). turned p v.reading.right_turn) is ∙ none.1

    walk_turns : (p : Place) → v.reading.place ≡ p → searches_at v.reading p k side ≡ true → PlaceKey gr0.key p → TurnsRight gr0 W (with_walk true)
    walk_turns Nowhere is stands known = record {
      left = subst (λ (o : Option Turn). IfSome o (TurnRight gr0 W after Left)) (sym (none_left is side)) tt;
      right = subst (λ (o : Option Turn). IfSome o (TurnRight gr0 W after Right)) (sym (none_right is side)) tt;
      begins = after_begins gr0 W right.trees.spelled k x side (left_turn_after side v.reading) (right_turn_after side v.reading);
    }
    walk_turns (AtNode node (Some key)) is stands known =
        let named : node ≡ k = eqb-true node k (and_parts (eqb node k) (goes_on_at v.reading (Some key)) stands).0 in
        let at_k : v.reading.place ≡ AtNode k (Some key) = is ∙ ap (λ n. AtNode n (Some key)) named in
        let some : 0 < k = subst (λ n. 0 < n) named known.0 in
        let key_is : gr0.key k ≡ key = subst (λ n. gr0.key n ≡ key) named known.1 in
        record {
          left = left_here key at_k some key_is side refl;
          right = right_here key at_k some key_is side refl;
          begins = after_begins gr0 W right.trees.spelled k x side (left_turn_after side v.reading) (right_turn_after side v.reading);
        }
    walk_turns (AtNode node None) is stands known = absurd (never (and_parts (eqb node k) (goes_on_at v.reading None) stands).1)
    walk_turns _ is stands known = absurd (never stands)

    -- its nodes are in the plain tree, if they were
    walk_there : searches_at v.reading v.reading.place k side ≡ true → ((j : ℕ) → 0 < j → 0 < count j (search_nodes 0 v.reading) → 0 < occurs j W)
        → (j : ℕ) → 0 < j → 0 < count j (search_nodes 0 (with_walk true).reading) → 0 < occurs j W
    walk_there stands there j some searched = elim (search_top j 0 (gr0.child Right 0) (with_walk true).reading searched) as (λ _. 0 < occurs j W) [
      | inl zero ↦ absurd (omega (arith, zero, some))
      | inr with_top ↦ from_before (walk_reach gr0 v.reading k side search.key stands j some j with_top ([], refl))
    ]
      where
        in_tree : (b : ℕ) → 0 < b → 0 < count b (search_nodes (gr0.child Right 0) v.reading) → 0 < occurs b W
        in_tree b pos here = elim (search_top b (gr0.child Right 0) 0 v.reading here) as (λ _. 0 < occurs b W) [
          | inl top ↦
              subst (λ n. 0 < occurs n W) (sym top) (top_in gr0 W right.trees.spelled (gr0.child Right 0) W right.trees.spelled (subst (λ n. 0 < n) top pos))
          | inr was ↦ there b pos was
        ]

        from_before : (b : ℕ) × (0 < count b (search_nodes (gr0.child Right 0) v.reading)) × IsReached gr0 b j → 0 < occurs j W
        from_before step =
            reached_in gr0 W step.0 j right.trees.spelled
            (in_tree step.0 (reach_some gr0 W right.trees.spelled step.2.0 step.0 j step.2.1 some) step.1) some step.2

    walk_still : searches_at v.reading v.reading.place k side ≡ true → StillRight z gr0 tags W v → StillRight z gr0 tags W (with_walk true)
    walk_still stands still one inside raised =
        let was : StaysStill gr0 tags W v = still one inside raised in
        record {
          links =
              every_push (IsLinkStill gr0 tags) v.reading.links
              (plain_link k side x (turn_key (left_turn_after side v.reading)) (turn_key (right_turn_after side v.reading))) was.links (refl, tt);
          there = walk_there stands was.there;
        }

    -- the link is known with a locked node
    link_knows : KeepsKnown gr0 tags v.held.nodes (map (link_known_at k side x) v.held.nodes)
    link_knows = record {
      links = λ j t.
          link_kept_links k side x v.held.nodes j t (gr0.child t j) (λ node at'. ap (gr0.child side) (sym node) ∙ ap (λ (s : Side). gr0.child s j) (sym at'));
      tags = λ j t. link_kept_tags k side x v.held.nodes j t (tags t j);
    }

    walk_known : KnownRight z gr0 tags v → KnownRight z gr0 tags (with_walk true)
    walk_known was one =
        every_push (IsLinkKnown gr0 tags (map (link_known_at k side x) v.held.nodes)) v.reading.links
        (plain_link k side x (turn_key (left_turn_after side v.reading)) (turn_key (right_turn_after side v.reading)))
        (links_known gr0 tags v.held.nodes (map (link_known_at k side x) v.held.nodes) link_knows v.reading.links (was one)) (inl refl, tt)

    walk_kept : (b : Bool) → searches_at v.reading v.reading.place k side ≡ b → Kept (set vs i (with_walk b))
    walk_kept false is =
        step_kept z gr0 marks tags W vs i v (with_walk false) at before refl refl (λ j. omega arith)
        (record { left = refl; right = refl; place = same_place v.reading.place; links = λ all. all; known = λ hs all. all; held = link_knows })
    walk_kept true is =
        one_moved z gr0 marks tags W vs i v (with_walk true) at before (walk_turns v.reading.place refl is search.key)
        (own_leaving z gr0 marks tags W vs i v (with_walk true) at before) (walk_still is (at_item (StillRight z gr0 tags W) vs i v at right.still))
        (walk_known (at_item (KnownRight z gr0 tags) vs i v at right.known))

  still_kept : Kept (set vs i v)
  still_kept = same_kept z gr0 marks tags W vs i v v at before refl refl refl refl (same_known gr0 tags v.held.nodes v.held.nodes refl)

  link_kept : (w : Word) → Kept (set vs i (link_from v w (m w)))
  link_kept (Node (Link side) k) = walk_kept k side (searches_at v.reading v.reading.place k side) refl
  link_kept _ = still_kept

  link_after : (w : Word) → TurnsAfter z m (set vs i (link_from v w (m w)))
  link_after w = with_tree z words vs right marks tags (set vs i (link_from v w (m w))) (link_kept w)

pub link_turns : KeepsTurnsAt LoadLink
link_turns z words vs right i v at live n w found value o own met = link_after z words vs right i v at w
