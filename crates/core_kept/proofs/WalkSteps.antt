-- A search on plain links goes on by one link: what it claims then, and what it reaches.
use Rattle.std.proofs.Common.{◌≡◌, ℕ, ◌+◌, ◌<◌, ◌⊎◌, cond, [], ◌∷◌, Bool, true, false, eqb, ltb, arith, refl, ap, ◌∙◌, sym, subst, inl, inr, Option, Some, None, IfSome}
use Rattle.std.proofs.lemmas.Bool.{and_parts, eqb-true, cases_lt}
use Rattle.std.proofs.lemmas.Bool.Decides.{nat_tests, eqb_tells}
use Rattle.index_words.specs.declared.side.Side.{Side}
use Rattle.index_words.specs.declared.side.Side.TheVariants.{Left, Right}
use Rattle.index_words.specs.declared.view.reading.Reading.{Reading}
use Rattle.index_words.specs.declared.view.reading.Turn.{Turn}
use Rattle.index_words.specs.declared.view.reading.Place.{Place}
use Rattle.index_words.specs.declared.view.reading.Place.TheVariants.{Nowhere, Node as AtNode, Gap}
use Rattle.key_map.specs.Lists.{count, Every}
use Rattle.core_grace.proofs.RuleMoves.{every_push}
use Rattle.core_trees.specs.NamedTree.{NamedTree}
use Rattle.core_trees.specs.Slots.{occurs}
use Rattle.core_trees.specs.SpelledTree.{Graph, IsSpelled}
use Rattle.index_words.specs.Words.{same_side}
use Rattle.core_events.proofs.Tests.{never, positive}
use Rattle.core_events.specs.Searches.{turn_key, is_above_turn, is_under_turn, is_between, goes_on_at, searches_at, turned, left_turn_after, right_turn_after, place_after, plain_link, walked, place_nodes, turn_nodes, search_nodes}
use Rattle.core_invariant.specs.SearchRule.{PlaceClaims, LinkClaims, PlaceKey, LinkKeys}
use Rattle.core_invariant.proofs.Sides.{same_side-true}
use Rattle.core_invariant.proofs.SearchNodes.{links_count, links_push, search_count}
use Rattle.core_invariant.proofs.Undone.{in_one}
use Rattle.plain_trees.specs.Claims.{IsWaiting, Claims, ClaimsInTurns}
use Rattle.plain_trees.specs.Matching.{Undone, IsBypassed}
use Rattle.plain_trees.specs.NullLinks.{turn_of}
use Rattle.plain_trees.specs.Points.{point_of, IsAbove, IsUnder, IsInTurns}
use Rattle.plain_trees.specs.Reaching.{IsReached}
use Rattle.plain_trees.specs.Walks.{low_turn, high_turn}
use Rattle.plain_trees.proofs.Matched.{spelled-some}
use Rattle.plain_trees.proofs.NullLinks.{begin_law, walk_law}

above_is : (low : Option ℕ) (key : ℕ) → is_above_turn low key ≡ true → IsAbove low (point_of key)
above_is None key is = tt
above_is (Some low) key is = by is
  where
    by : ltb low key ≡ true → low + low < key + key
    by lower = grind (arith, nat_tests)

under_is : (high : Option ℕ) (key : ℕ) → is_under_turn high key ≡ true → IsUnder high (point_of key)
under_is None key is = tt
under_is (Some high) key is = by is
  where
    by : ltb key high ≡ true → key + key < high + high
    by lower = grind (arith, nat_tests)

pub between_is : (low high : Option ℕ) (key : ℕ) → is_between low high key ≡ true → IsInTurns low high (point_of key)
between_is low high key is = let parts = and_parts (is_above_turn low key) (is_under_turn high key) is in (above_is low key parts.0, under_is high key parts.1)

-- the key at which a search goes on
pub record GoesOn (r : Reading) (key : Option ℕ) : Type 0 where
  pub at : ℕ
  pub known : key ≡ Some at
  pub between : IsInTurns (turn_key r.right_turn) (turn_key r.left_turn) (point_of at)

goes_on_is : (r : Reading) (key : Option ℕ) → goes_on_at r key ≡ true → GoesOn r key
goes_on_is r None is = absurd (never is)
goes_on_is r (Some at) is = record { at = at; known = refl; between = between_is (turn_key r.right_turn) (turn_key r.left_turn) at is }

-- the keys of the turns after a turn
right_key : (side : Side) (r : Reading) (node at : ℕ) → r.place ≡ AtNode node (Some at)
    → turn_key (right_turn_after side r) ≡ low_turn side at (turn_key r.right_turn)
right_key Left r node at is = refl
right_key Right r node at is = ap (λ (p : Place). turn_key (turned p r.right_turn)) is

left_key : (side : Side) (r : Reading) (node at : ℕ) → r.place ≡ AtNode node (Some at)
    → turn_key (left_turn_after side r) ≡ high_turn side at (turn_key r.left_turn)
left_key Left r node at is = ap (λ (p : Place). turn_key (turned p r.left_turn)) is
left_key Right r node at is = refl

own_turn : (side : Side) (at : ℕ) (low high : Option ℕ) → turn_of side (low_turn side at low) (high_turn side at high) ≡ Some at
own_turn Left at low high = refl
own_turn Right at low high = refl

-- points between the new turns are between the old ones
within : (side : Side) (key : ℕ) (low high : Option ℕ) (x : ℕ) → IsInTurns low high (point_of key)
    → IsInTurns (low_turn side key low) (high_turn side key high) x → IsInTurns low high x
within Left key low None x inside new = (new.0, tt)
within Left key low (Some high) x inside new = (new.0, omega (arith, new.1, inside.1))
within Right key None high x inside new = (tt, new.1)
within Right key (Some low) high x inside new = (omega (arith, new.0, inside.0), new.1)

module _ (g : Graph) (u : Undone) (waits : ℕ → ℕ → Bool) (plain : NamedTree) (spelled : IsSpelled g (g.child Right 0) plain) where
  abbrev C : Option ℕ → Option ℕ → ℕ → Type 0
  C low high a = ClaimsInTurns g (IsBypassed u) (IsWaiting waits) plain low high a

  none_zero : occurs 0 plain ≡ 0
  none_zero = elim (cases_lt 0 (occurs 0 plain)) as (λ _. occurs 0 plain ≡ 0) [
    | inl some ↦ absurd (omega (arith, spelled-some g 0 (g.child Right 0) plain spelled some))
    | inr none ↦ omega (arith, none)
  ]

  -- of the root anything is claimed
  root_claims : (low high : Option ℕ) → C low high 0
  root_claims low high x inside [] node way here = absurd (omega (arith, here, none_zero, ap (λ n. occurs n plain) way))
  root_claims low high x inside (n ∷ ns) node way here = absurd (omega (arith, way.0, way.1))

  -- a walk from the node `k`, which the search may leave on this side to `x`
  pub record Walk (r : Reading) (k : ℕ) (side : Side) (x : ℕ) : Type 0 where
    pub place : C (turn_key (right_turn_after side r)) (turn_key (left_turn_after side r)) k
    pub child : 0 < x → C (turn_key (right_turn_after side r)) (turn_key (left_turn_after side r)) x
    pub root : k ≡ 0 → side ≡ Right
    pub turn : ¬ (k ≡ 0) → turn_of side (turn_key (right_turn_after side r)) (turn_key (left_turn_after side r)) ≡ Some (g.key k)

  pub walk_of : (r : Reading) (p : Place) (k : ℕ) (side : Side) → r.place ≡ p → searches_at r p k side ≡ true
      → PlaceClaims C (turn_key r.right_turn) (turn_key r.left_turn) p → PlaceKey g.key p → Walk r k side (g.child side k)
  walk_of r Nowhere k side is stands claims key =
      let parts = and_parts (eqb k 0) (same_side side Right) stands in
      let zero : k ≡ 0 = eqb-true k 0 parts.0 in
      let right : side ≡ Right = same_side-true side Right parts.1 in
      record {
        place =
            subst (C (turn_key (right_turn_after side r)) (turn_key (left_turn_after side r))) (sym zero)
            (root_claims (turn_key (right_turn_after side r)) (turn_key (left_turn_after side r)));
        child = λ some. λ y inside.
            subst (λ (s : Side). Claims g (IsBypassed u) (IsWaiting waits) plain y (g.child s k)) (sym right)
            (subst (λ n. Claims g (IsBypassed u) (IsWaiting waits) plain y (g.child Right n)) (sym zero)
            (begin_law g u waits plain spelled (subst (λ n. 0 < g.child Right n) zero (subst (λ (s : Side). 0 < g.child s k) right some)) y (tt, tt)));
        root = λ _. right;
        turn = λ ne. absurd (ne zero);
      }
  walk_of r (AtNode node key) k side is stands claims known =
      let parts = and_parts (eqb node k) (goes_on_at r key) stands in
      let named : node ≡ k = eqb-true node k parts.0 in
      let on : GoesOn r key = goes_on_is r key parts.1 in
      let at_place : r.place ≡ AtNode node (Some on.at) = is ∙ ap (AtNode node) on.known in
      let key_is : g.key node ≡ on.at = subst (λ (o : Option ℕ). IfSome o (λ x. g.key node ≡ x)) on.known known.1 in
      let low = turn_key r.right_turn in
      let high = turn_key r.left_turn in
      let rk = right_key side r node on.at at_place in
      let lk = left_key side r node on.at at_place in
      record {
        place =
            subst (λ (h : Option ℕ). C (turn_key (right_turn_after side r)) h k) (sym lk) (subst (λ (l : Option ℕ). C l (high_turn side on.at high) k) (sym rk)
            (λ y inside. subst (Claims g (IsBypassed u) (IsWaiting waits) plain y) named (claims y (within side on.at low high y on.between inside))));
        child = λ some.
            subst (λ (h : Option ℕ). C (turn_key (right_turn_after side r)) h (g.child side k)) (sym lk)
            (subst (λ (l : Option ℕ). C l (high_turn side on.at high) (g.child side k)) (sym rk)
            (subst (λ n. C (low_turn side on.at low) (high_turn side on.at high) (g.child side n)) named
            (walk_law g u waits plain low high node on.at side spelled known.0 key_is on.between (subst (λ n. 0 < g.child side n) (sym named) some) claims)));
        root = λ zero. absurd (omega (arith, known.0, named, zero));
        turn = λ ne.
            ap (λ (h : Option ℕ). turn_of side (turn_key (right_turn_after side r)) h) lk
            ∙ (ap (λ (l : Option ℕ). turn_of side l (high_turn side on.at high)) rk
            ∙ (own_turn side on.at low high ∙ ap Some (sym key_is ∙ ap g.key named)));
      }
  walk_of r _ k side is stands claims key = absurd (never stands)

  -- what is said of the place after the step
  pub place_walked : (r : Reading) (k : ℕ) (side : Side) (x : ℕ) → Walk r k side x
      → PlaceClaims C (turn_key (right_turn_after side r)) (turn_key (left_turn_after side r)) (place_after k side x) × PlaceKey g.key (place_after k side x)
  place_walked r k side x walk = by (eqb x 0) refl
    where
      by : (b : Bool) → eqb x 0 ≡ b → PlaceClaims C (turn_key (right_turn_after side r)) (turn_key (left_turn_after side r))
          (cond b (Gap k side) (AtNode x None)) × PlaceKey g.key (cond b (Gap k side) (AtNode x None))
      by true none = (walk.place, tt)
      by false some = let pos : 0 < x = positive x some in (walk.child pos, (pos, tt))

  -- and of the links
  pub links_walked : (r : Reading) (k : ℕ) (side : Side) (x : ℕ) → Walk r k side x → Every (LinkClaims C) r.links
      → Every (LinkClaims C) (walked true r k side x).links
  links_walked r k side x walk all =
      every_push (LinkClaims C) r.links (plain_link k side x (turn_key (left_turn_after side r)) (turn_key (right_turn_after side r))) all (λ null. walk.place)

  pub keys_walked : (r : Reading) (k : ℕ) (side : Side) (x : ℕ) → Walk r k side x → Every (LinkKeys g.key) r.links
      → Every (LinkKeys g.key) (walked true r k side x).links
  keys_walked r k side x walk all =
      every_push (LinkKeys g.key) r.links (plain_link k side x (turn_key (left_turn_after side r)) (turn_key (right_turn_after side r))) all
      (walk.root, walk.turn)

-- the keys of the link that a walk remembers
pub walk_keys : (g : Graph) (r : Reading) (p : Place) (k : ℕ) (side : Side) → r.place ≡ p → searches_at r p k side ≡ true → PlaceKey g.key p
    → LinkKeys g.key (plain_link k side (g.child side k) (turn_key (left_turn_after side r)) (turn_key (right_turn_after side r)))
walk_keys g r Nowhere k side is stands key =
    let parts = and_parts (eqb k 0) (same_side side Right) stands in
    (λ _. same_side-true side Right parts.1, λ ne. absurd (ne (eqb-true k 0 parts.0)))
walk_keys g r (AtNode node key) k side is stands known =
    let parts = and_parts (eqb node k) (goes_on_at r key) stands in
    let named : node ≡ k = eqb-true node k parts.0 in
    let on : GoesOn r key = goes_on_is r key parts.1 in
    let at_place : r.place ≡ AtNode node (Some on.at) = is ∙ ap (AtNode node) on.known in
    let key_is : g.key node ≡ on.at = subst (λ (o : Option ℕ). IfSome o (λ x. g.key node ≡ x)) on.known known.1 in (
      λ zero. absurd (omega (arith, known.0, named, zero)),
      λ ne. ap (λ (h : Option ℕ). turn_of side (turn_key (right_turn_after side r)) h) (left_key side r node on.at at_place)
          ∙ (ap (λ (l : Option ℕ). turn_of side l (high_turn side on.at (turn_key r.left_turn))) (right_key side r node on.at at_place)
          ∙ (own_turn side on.at (turn_key r.right_turn) (turn_key r.left_turn) ∙ ap Some (sym key_is ∙ ap g.key named))),
    )
walk_keys g r _ k side is stands key = absurd (never stands)

-- what is reached after the step was reached before
module _ (g : Graph) (r : Reading) (k : ℕ) (side : Side) where
  abbrev r' : Reading
  r' = walked true r k side (g.child side k)

  -- each node of the search is one of before, the root, the child, or the node
  pub data WalkNode (a : ℕ) : Type 0 where
    was_searched : 0 < count a (search_nodes (g.child Right 0) r) → WalkNode a
    is_node : a ≡ k → WalkNode a
    is_child : a ≡ g.child side k → WalkNode a

  one_is : (a b : ℕ) → 0 < count a (b ∷ []) → a ≡ b
  one_is a b some = by (eqb b a) refl some
    where
      by : (c : Bool) → eqb b a ≡ c → 0 < cond c 1 0 + 0 → a ≡ b
      by true is here = sym (eqb-true b a is)
      by false is here = absurd (omega (arith, here))

  turned_count : (a : ℕ) (t : Option Turn) → 0 < count a (turn_nodes (turned r.place t))
      → (0 < count a (turn_nodes t)) ⊎ (0 < count a (place_nodes (g.child Right 0) r.place))
  turned_count a t some = by r.place some
    where
      by : (p : Place) → 0 < count a (turn_nodes (turned p t)) → (0 < count a (turn_nodes t)) ⊎ (0 < count a (place_nodes (g.child Right 0) p))
      by (AtNode node (Some key)) here = inr here
      by _ here = inl here

  left_count : (s : Side) (a : ℕ) → 0 < count a (turn_nodes (left_turn_after s r)) → 0 < count a (search_nodes (g.child Right 0) r)
  left_count Left a some = elim (turned_count a r.left_turn some) as (λ _. 0 < count a (search_nodes (g.child Right 0) r)) [
    | inl here ↦ omega (arith, here, search_count a (g.child Right 0) r)
    | inr here ↦ omega (arith, here, search_count a (g.child Right 0) r)
  ]
  left_count Right a some = omega (arith, some, search_count a (g.child Right 0) r)

  right_count : (s : Side) (a : ℕ) → 0 < count a (turn_nodes (right_turn_after s r)) → 0 < count a (search_nodes (g.child Right 0) r)
  right_count Left a some = omega (arith, some, search_count a (g.child Right 0) r)
  right_count Right a some = elim (turned_count a r.right_turn some) as (λ _. 0 < count a (search_nodes (g.child Right 0) r)) [
    | inl here ↦ omega (arith, here, search_count a (g.child Right 0) r)
    | inr here ↦ omega (arith, here, search_count a (g.child Right 0) r)
  ]

  place_count : (x a : ℕ) → 0 < count a (place_nodes (g.child Right 0) (place_after k side x)) → (a ≡ k) ⊎ (a ≡ x)
  place_count x a some = by (eqb x 0) some
    where
      by : (b : Bool) → 0 < count a (place_nodes (g.child Right 0) (cond b (Gap k side) (AtNode x None))) → (a ≡ k) ⊎ (a ≡ x)
      by true here = inl (one_is a k here)
      by false here = inr (one_is a x here)

  walk_node : (a : ℕ) → 0 < count a (search_nodes (g.child Right 0) r') → WalkNode a
  walk_node a some =
      elim (cases_lt 0 (count a (place_nodes (g.child Right 0) r'.place))) as (λ _. WalkNode a) [
        | inl here ↦ elim (place_count (g.child side k) a here) as (λ _. WalkNode a) [ inl is ↦ is_node is | inr is ↦ is_child is ]
        | inr no_place ↦ elim (cases_lt 0 (count a (turn_nodes r'.left_turn))) as (λ _. WalkNode a) [
          | inl here ↦ was_searched (left_count side a here)
          | inr no_left ↦ elim (cases_lt 0 (count a (turn_nodes r'.right_turn))) as (λ _. WalkNode a) [
            | inl here ↦ was_searched (right_count side a here)
            | inr no_right ↦ elim (cases_lt 0 (links_count a r.links)) as (λ _. WalkNode a) [
              | inl here ↦ was_searched (omega (arith, here, search_count a (g.child Right 0) r))
              | inr no_links ↦ is_node (one_is a k (omega (
                arith,
                some,
                no_place,
                no_left,
                no_right,
                no_links,
                search_count a (g.child Right 0) r',
                links_push a r.links (plain_link k side (g.child side k) (turn_key (left_turn_after side r)) (turn_key (right_turn_after side r))),
              )))
            ]
          ]
        ]
      ]

  -- the node at which the search stands: the root, or one of its nodes
  stands_node : (p : Place) → r.place ≡ p → PlaceKey g.key p → searches_at r p k side ≡ true
      → ((k ≡ 0) × (0 < count (g.child side k) (search_nodes (g.child Right 0) r))) ⊎ ((0 < k) × (0 < count k (search_nodes (g.child Right 0) r)))
  stands_node Nowhere is key stands =
      let parts = and_parts (eqb k 0) (same_side side Right) stands in
      let zero : k ≡ 0 = eqb-true k 0 parts.0 in
      let child : g.child side k ≡ g.child Right 0 = ap (λ (s : Side). g.child s k) (same_side-true side Right parts.1) ∙ ap (g.child Right) zero in
      inl (
        zero,
        subst (λ n. 0 < count n (search_nodes (g.child Right 0) r)) (sym child)
            (omega (
              arith,
              in_one (g.child Right 0) [],
              search_count (g.child Right 0) (g.child Right 0) r,
              ap (λ (p : Place). count (g.child Right 0) (place_nodes (g.child Right 0) p)) is,
            )),
      )
  stands_node (AtNode node known) is key stands =
      let named : node ≡ k = eqb-true node k (and_parts (eqb node k) (goes_on_at r known) stands).0 in
      inr (
        subst (λ n. 0 < n) named key.0,
        subst (λ n. 0 < count n (search_nodes (g.child Right 0) r)) named
            (omega (arith, in_one node [], search_count node (g.child Right 0) r, ap (λ (p : Place). count node (place_nodes (g.child Right 0) p)) is)),
      )
  stands_node _ is key stands = absurd (never stands)

  step_to : (s : Side) (j : ℕ) → 0 < k → IsReached g (g.child s k) j → IsReached g k j
  step_to Left j pos way = (k ∷ way.0, (refl, pos, inl way.1))
  step_to Right j pos way = (k ∷ way.0, (refl, pos, inr way.1))

  zero_reach : (j : ℕ) → 0 < j → IsReached g 0 j → ⊥
  zero_reach j some ([], way) = omega (arith, some, way)
  zero_reach j some (n ∷ ns, way) = omega (arith, way.0, way.1)

  pub walk_reach : PlaceKey g.key r.place → searches_at r r.place k side ≡ true → (j : ℕ) → 0 < j → (a : ℕ) → 0 < count a (search_nodes (g.child Right 0) r')
      → IsReached g a j
      → (b : ℕ) × (0 < count b (search_nodes (g.child Right 0) r)) × IsReached g b j
  walk_reach key stands j some a searched way = by (walk_node a searched)
    where
      from_node : IsReached g k j → (b : ℕ) × (0 < count b (search_nodes (g.child Right 0) r)) × IsReached g b j
      from_node reached = elim (eqb_tells k 0) as (λ _. (b : ℕ) × (0 < count b (search_nodes (g.child Right 0) r)) × IsReached g b j) [
        | inl zero ↦ absurd (zero_reach j some (subst (λ n. IsReached g n j) zero.1 reached))
        | inr ne ↦ elim (stands_node r.place refl key stands) as (λ _. (b : ℕ) × (0 < count b (search_nodes (g.child Right 0) r)) × IsReached g b j) [
          | inl root ↦ absurd (ne.1 root.0)
          | inr here ↦ (k, here.1, reached)
        ]
      ]

      by : WalkNode a → (b : ℕ) × (0 < count b (search_nodes (g.child Right 0) r)) × IsReached g b j
      by (was_searched had) = (a, had, way)
      by (is_node is) = from_node (subst (λ n. IsReached g n j) is way)
      by (is_child is) =
          let reached : IsReached g (g.child side k) j = subst (λ n. IsReached g n j) is way in
          elim (eqb_tells k 0) as (λ _. (b : ℕ) × (0 < count b (search_nodes (g.child Right 0) r)) × IsReached g b j) [
            | inr ne ↦ from_node (step_to side j (omega (arith, ne.1)) reached)
            | inl zero ↦ elim (stands_node r.place refl key stands) as (λ _. (b : ℕ) × (0 < count b (search_nodes (g.child Right 0) r)) × IsReached g b j) [
              | inl root ↦ (g.child side k, root.1, reached)
              | inr here ↦ absurd (omega (arith, here.0, zero.1))
            ]
          ]
