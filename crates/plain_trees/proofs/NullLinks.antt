-- How a search on plain links begins and goes on, and what a seat has found where it ends at a null link.
use Rattle.std.proofs.Common.{◌≡◌, ℕ, ◌<◌, ◌⊎◌, inl, inr, refl, sym, ◌∙◌, subst, arith, [], ◌∷◌, Option, Some, None, Bool, ◌^◌, ap}
use Rattle.std.proofs.lemmas.Bool.Decides.{eqb_tells}
use Rattle.index_words.specs.declared.side.Side.{Side}
use Rattle.index_words.specs.declared.side.Side.TheVariants.{Left, Right}
use Rattle.core_links.proofs.Compare.{compared, less, more, same}
use Rattle.core_trees.specs.NamedTree.{NamedTree, Null, Branch, IsLawful}
use Rattle.core_trees.specs.Slots.{occurs}
use Rattle.core_trees.specs.SpelledTree.{Graph, IsSpelled}
use Rattle.core_trees.specs.Gaps.{IsNull, IsGapLink}
use Rattle.core_trees.specs.Search.{EndsAt, end_node}
use Rattle.core_trees.specs.TreeStep.{subtree_at}
use Rattle.core_trees.proofs.Gaps.{null-lacks, absent_gap}
use Rattle.core_trees.proofs.Updates.{subtree_at-left, subtree_at-right, end_node-left, end_node-right, end_side-left, end_side-right}
use Rattle.plain_trees.specs.Points.{point_of, EndsAtNull, Meets, IsOn, IsInTurns, IsAbove, IsUnder}
use Rattle.plain_trees.specs.Matching.{Undone, IsUnset, IsOut, IsBypassed, IsOrderly, Same, Replaced, Copied, LiftedRight, LiftedLeft, Matches}
use Rattle.plain_trees.proofs.Points.{null-ends, leads-ends, leads-in, null-leads, leads-sub}
use Rattle.plain_trees.specs.Claims.{IsWaiting, IsExcepted, Claims}
use Rattle.plain_trees.specs.Walks.{low_turn, high_turn, BeginLaw, WalkLaw}
use Rattle.plain_trees.proofs.Ways.{meets-in, top-meets, on-left, on-right}
use Rattle.plain_trees.specs.Successors.{LeadsTo}
use Rattle.plain_trees.specs.NullLinks.{turn_of, EndedAt, NullLinkLaw}

module _ (u : Undone) (orderly : IsOrderly u)
    (x node : ℕ) (side : Side) (there : ¬ IsOut u node) (settled : (was child : ℕ) → IsUnset u node side was child → ⊥) where
  -- the link at which the plain tree hangs is the one at which the tree at the stamp hangs, or its node is out
  at-null : (a p : ℕ) (w d : Side) → (node ≡ a) × (side ≡ w) → IsOut u a ⊎ ((a ≡ p) × (w ≡ d)) → (node ≡ p) × (side ≡ d)
  at-null a p w d here (inl o) = absurd (there (subst (IsOut u) (sym here.0) o))
  at-null a p w d here (inr e) = (here.0 ∙ e.0, here.1 ∙ e.1)

  pub ends-now : (a p : ℕ) (w d : Side) (plain now : NamedTree) → Matches u p d plain now → EndsAtNull x node side a w plain
      → IsOut u a ⊎ ((a ≡ p) × (w ≡ d)) → EndsAtNull x node side p d now
  ends-now a p w d Null Null h ends at = at-null a p w d ends at
  ends-now a p w d Null (Branch m k v l r) (inl h) ends at = absurd h
  ends-now a p w d Null (Branch m k v l r) (inr h) ends at =
      let here : (node ≡ p) × (side ≡ d) = at-null a p w d ends at in
      absurd (settled 0 m (subst (λ n. IsUnset u n side 0 m) (sym here.0) (subst (λ s. IsUnset u p s 0 m) (sym here.1) h.2)))
  -- the same node
  ends-now a p w d (Branch c k v l r) Null (Same h) ends at = absurd h
  ends-now a p w d (Branch c k v l r) (Branch m key val l' r') (Same h) (inl left) at =
      inl (
        subst (λ z. x < point_of z) (sym h.1) left.0,
        subst (λ z. EndsAtNull x node side z Left l') (sym h.0)
            (ends-now c c Left Left l l' h.2 left.1 (inr (refl, refl))),
      )
  ends-now a p w d (Branch c k v l r) (Branch m key val l' r') (Same h) (inr right) at =
      inr (
        subst (λ z. point_of z < x) (sym h.1) right.0,
        subst (λ z. EndsAtNull x node side z Right r') (sym h.0)
            (ends-now c c Right Right r r' h.3 right.1 (inr (refl, refl))),
      )
  -- a replaced node
  ends-now a p w d (Branch c k v l r) Null (Replaced o h) ends at = absurd h
  ends-now a p w d (Branch c k v l r) (Branch m key val l' r') (Replaced o h) (inl left) at =
      inl (subst (λ z. x < point_of z) (sym h.0) left.0, ends-now c m Left Left l l' h.2 left.1 (inl o))
  ends-now a p w d (Branch c k v l r) (Branch m key val l' r') (Replaced o h) (inr right) at =
      inr (subst (λ z. point_of z < x) (sym h.0) right.0, ends-now c m Right Right r r' h.3 right.1 (inl o))
  -- a node whose place a copy of its successor takes
  ends-now a p w d (Branch c k v l r) Null (Copied o h) ends at = absurd h
  ends-now a p w d (Branch c k v l r) (Branch m key val l' r') (Copied o h) (inl left) at =
      inl (omega (arith, left.0, h.0), ends-now c m Left Left l l' h.4 left.1 (inl o))
  ends-now a p w d (Branch c k v l r) (Branch m key val l' r') (Copied o h) (inr right) at =
      elim (compared (point_of key) x) as (λ _. EndsAtNull x node side p d (Branch m key val l' r')) [
        | less b ↦ inr (b, ends-now c m Right Right r r' h.5 right.1 (inl o))
        | more b ↦ absurd (there (never (leads-ends (IsBypassed u) x h.3.0 node c side Right r (h.3.2 x right.0 (omega (arith, b))) right.1)))
        | same e ↦ absurd (there (never (leads-ends (IsBypassed u) x h.3.0 node c side Right r (h.3.2 x right.0 (omega (arith, e))) right.1)))
      ]
    where
      never : (node ≡ h.3.0) ⊎ IsBypassed u node → IsOut u node
      never (inl e) = subst (IsOut u) (sym e) (orderly.heirs c h.3.0 h.3.1)
      never (inr b) = orderly.passes node b
  -- a node that is bypassed to its right
  ends-now a p w d (Branch c k v l r) now (LiftedRight o h) (inl left) at =
      absurd (there (subst (IsOut u) (sym (null-ends x node c side Left l h.1 left.1).0) o))
  ends-now a p w d (Branch c k v l r) now (LiftedRight o h) (inr right) at =
      ends-now c p Right d r now h.4 right.1 (inl o)
  -- and to its left
  ends-now a p w d (Branch c k v l r) now (LiftedLeft o h) (inl left) at =
      ends-now c p Left d l now h.3 left.1 (inl o)
  ends-now a p w d (Branch c k v l r) now (LiftedLeft o h) (inr right) at =
      absurd (there (subst (IsOut u) (sym (null-ends x node c side Right r h.0 right.1).0) o))

-- A search on plain links begins, and goes on.

-- a node of the plain tree that the search meets, or at which the point is excepted
told-claims : (g : Graph) (bypassed : ℕ → Type 0) (waits : ℕ → ℕ → Type 0) (plain : NamedTree) (x a : ℕ)
    → Meets x a plain ⊎ IsExcepted g bypassed waits plain x a → Claims g bypassed waits plain x a
told-claims g bypassed waits plain x a h [] c way o = subst (λ z. Meets x z plain ⊎ IsExcepted g bypassed waits plain x z) way h
told-claims g bypassed waits plain x a (inl h) (m ∷ ms) c way o = absurd (omega (arith, way.2, subst (λ z. 0 < occurs z plain) way.0 (meets-in x a plain h)))
told-claims g bypassed waits plain x a (inr h) (m ∷ ms) c way o =
    absurd (omega (arith, way.2, subst (λ z. 0 < occurs z plain) way.0 (leads-in bypassed x h.successor a plain h.leads)))

-- the search goes on: what is claimed of the node at which it stands is claimed of the child on the point's side
pub walks-left : (g : Graph) (bypassed : ℕ → Type 0) (waits : ℕ → ℕ → Type 0) (plain : NamedTree) (x a : ℕ) → IsSpelled g (g.child Right 0) plain
    → Claims g bypassed waits plain x a → 0 < a → x < point_of (g.key a) → 0 < g.child Left a → Claims g bypassed waits plain x (g.child Left a)
walks-left g bypassed waits plain x a spelled claims some on there =
    elim (eqb_tells (occurs a plain) 0) as (λ _. Claims g bypassed waits plain x (g.child Left a)) [
      | inl n ↦ λ ms c way o. claims (a ∷ ms) c (refl, some, n.1, inl (on, way)) o
      | inr ne ↦ told-claims g bypassed waits plain x (g.child Left a) (on-left g bypassed waits plain x spelled a (claims [] a refl (omega (arith, ne.1))) on there)
    ]

pub walks-right : (g : Graph) (bypassed : ℕ → Type 0) (waits : ℕ → ℕ → Type 0) (plain : NamedTree) (x a : ℕ) → IsSpelled g (g.child Right 0) plain
    → Claims g bypassed waits plain x a → 0 < a → point_of (g.key a) < x → 0 < g.child Right a → Claims g bypassed waits plain x (g.child Right a)
walks-right g bypassed waits plain x a spelled claims some on there =
    elim (eqb_tells (occurs a plain) 0) as (λ _. Claims g bypassed waits plain x (g.child Right a)) [
      | inl n ↦ λ ms c way o. claims (a ∷ ms) c (refl, some, n.1, inr (on, way)) o
      | inr ne ↦ told-claims g bypassed waits plain x (g.child Right a) (on-right g bypassed waits plain x spelled a (claims [] a refl (omega (arith, ne.1))) on there)
    ]

-- after a turn to this side at a key between the turns, each point between the new turns is between the old ones, and
-- on this side
narrows : (side : Side) (key : ℕ) (low high : Option ℕ) (x : ℕ) → IsInTurns low high (point_of key) → IsInTurns (low_turn side key low) (high_turn side key high) x
    → IsInTurns low high x × IsOn side key x
narrows Left key low None x inside new = ((new.0, tt), new.1)
narrows Left key low (Some high) x inside new = ((new.0, omega (arith, new.1, inside.1)), new.1)
narrows Right key None high x inside new = ((tt, new.1), new.0)
narrows Right key (Some low) high x inside new = ((omega (arith, new.0, inside.0), new.1), new.0)

pub begin_law : BeginLaw
begin_law g u waits plain spelled some x inside =
    told-claims g (IsBypassed u) (IsWaiting waits) plain x (g.child Right 0) (inl (top-meets g x (g.child Right 0) plain some spelled))

pub walk_law : WalkLaw
walk_law g u waits plain low high node key Left spelled some keys inside there claims x new =
    let on : IsInTurns low high x × IsOn Left key x = narrows Left key low high x inside new in
    walks-left g (IsBypassed u) (IsWaiting waits) plain x node spelled (claims x on.0) some (subst (λ z. IsOn Left z x) (sym keys) on.1) there
walk_law g u waits plain low high node key Right spelled some keys inside there claims x new =
    let on : IsInTurns low high x × IsOn Right key x = narrows Right key low high x inside new in
    walks-right g (IsBypassed u) (IsWaiting waits) plain x node spelled (claims x on.0) some (subst (λ z. IsOn Right z x) (sym keys) on.1) there

-- What a seat has found at a null link holds of the tree at the stamp.

-- the tree that hangs at a null link
null-tree : (g : Graph) (c : ℕ) (t : NamedTree) → c ≡ 0 → IsSpelled g c t → t ≡ Null
null-tree g c Null e h = refl
null-tree g c (Branch s k v l r) e h = absurd (omega (arith, e, h.0, h.1))

-- a search that meets a node with a null link on the point's side ends there
meets-null : (g : Graph) (x node a p : ℕ) (side d : Side) (t : NamedTree) → IsSpelled g a t → Meets x node t → g.child side node ≡ 0 → IsOn side (g.key node) x
    → EndsAtNull x node side p d t
meets-null g x node a p side d Null spelled meets null on = absurd meets
meets-null g x node a p Left d (Branch s k v l r) spelled (inl e) null on =
    inl (
      omega (arith, on, sym (ap g.key (sym e)) ∙ spelled.2),
      subst (EndsAtNull x node Left s Left) (sym (null-tree g (g.child Left s) l (ap (g.child Left) (sym e) ∙ null) spelled.4)) (e, refl),
    )
meets-null g x node a p Right d (Branch s k v l r) spelled (inl e) null on =
    inr (
      omega (arith, on, sym (ap g.key (sym e)) ∙ spelled.2),
      subst (EndsAtNull x node Right s Right) (sym (null-tree g (g.child Right s) r (ap (g.child Right) (sym e) ∙ null) spelled.5)) (e, refl),
    )
meets-null g x node a p side d (Branch s k v l r) spelled (inr (inl left)) null on =
    inl (left.0, meets-null g x node (g.child Left s) s side Left l spelled.4 left.1 null on)
meets-null g x node a p side d (Branch s k v l r) spelled (inr (inr right)) null on =
    inr (right.0, meets-null g x node (g.child Right s) s side Right r spelled.5 right.1 null on)

-- no search goes on to a successor from a node of the tree at the stamp on the side of a null link
never-leads : (g : Graph) (u : Undone) (x s node : ℕ) (side : Side) (t : NamedTree) → IsOrderly u → IsOut u s → ¬ IsOut u node
    → IsSpelled g node t → LeadsTo (IsBypassed u) x s t → g.child side node ≡ 0 → IsOn side (g.key node) x → ⊥
never-leads g u x s node side Null orderly o there spelled leads null on = leads
never-leads g u x s node side (Branch m k v l r) orderly o there spelled (inl here) null on = there (subst (IsOut u) (here.0 ∙ sym spelled.0) o)
never-leads g u x s node Left (Branch m k v l r) orderly o there spelled (inr (inl down)) null on =
    null-leads (IsBypassed u) x s l (subst IsNull (sym (null-tree g (g.child Left m) l (ap (g.child Left) (sym spelled.0) ∙ null) spelled.4)) tt) down.1
never-leads g u x s node Right (Branch m k v l r) orderly o there spelled (inr (inl down)) null on =
    omega (arith, on, down.0, ap g.key spelled.0 ∙ spelled.2)
never-leads g u x s node side (Branch m k v l r) orderly o there spelled (inr (inr past)) null on =
    there (subst (IsOut u) (sym spelled.0) (orderly.passes m past.0))

-- a search for a key that ends at a null link ends there as searches for keys do
pub ends-key : (key node p : ℕ) (side d : Side) (t : NamedTree) → EndsAtNull (point_of key) node side p d t → EndsAt key node side p d t × IsNull (subtree_at key t)
ends-key key node p side d Null h = ((sym h.0, sym h.1), tt)
ends-key key node p side d (Branch s k v l r) (inl left) =
    let b : key < k = omega (arith, left.0) in
    let below : EndsAt key node side s Left l × IsNull (subtree_at key l) = ends-key key node s side Left l left.1 in
    ((end_node-left key s k v l r p b ∙ below.0.0, end_side-left key s k v l r d b ∙ below.0.1), subst IsNull (sym (subtree_at-left key s k v l r b)) below.1)
ends-key key node p side d (Branch s k v l r) (inr right) =
    let b : k < key = omega (arith, right.0) in
    let below : EndsAt key node side s Right r × IsNull (subtree_at key r) = ends-key key node s side Right r right.1 in
    ((end_node-right key s k v l r p b ∙ below.0.0, end_side-right key s k v l r d b ∙ below.0.1), subst IsNull (sym (subtree_at-right key s k v l r b)) below.1)

pub ends-gap : (key node : ℕ) (side : Side) (t : NamedTree) → IsLawful t → EndsAtNull (point_of key) node side 0 Right t → IsGapLink key node side 0 Right t
ends-gap key node side t lawful h =
    let ends : EndsAt key node side 0 Right t × IsNull (subtree_at key t) = ends-key key node 0 side Right t h in
    subst (λ n. IsGapLink key n side 0 Right t) ends.0.0
    (subst (λ w. IsGapLink key (end_node key 0 t) w 0 Right t) ends.0.1 (absent_gap key 0 Right t lawful (null-lacks key 0 (2 ^ 64) t lawful ends.1)))

on-turn : (side : Side) (low high : Option ℕ) (key x : ℕ) → turn_of side low high ≡ Some key → IsInTurns low high x → IsOn side key x
on-turn Left low high key x e inside = subst (λ t. IsUnder t x) e inside.1
on-turn Right low high key x e inside = subst (λ t. IsAbove t x) e inside.0

-- there the search for each key between the turns ends in the plain tree
pub ends-plain : (g : Graph) (u : Undone) (waits : ℕ → ℕ → Bool) (plain : NamedTree) (node key : ℕ) (side : Side) (low high : Option ℕ)
    → IsOrderly u → ((removed successor : ℕ) → IsWaiting waits removed successor → IsOut u successor) → IsSpelled g (g.child Right 0) plain
    → EndedAt g u waits plain node side low high → IsInTurns low high (point_of key) → EndsAtNull (point_of key) node side 0 Right plain
ends-plain g u waits plain node key side low high orderly waiting spelled h inside = elim (eqb_tells node 0) [ inl e ↦ at-root e.1 | inr e ↦ within e.1 ]
  where
    at-root : node ≡ 0 → EndsAtNull (point_of key) node side 0 Right plain
    at-root e =
        subst (EndsAtNull (point_of key) node side 0 Right)
        (sym (null-tree g (g.child Right 0) plain (ap (g.child Right) (sym e) ∙ ap (λ w. g.child w node) (sym (h.root e)) ∙ h.null) spelled)) (e, h.root e)

    on : ¬ (node ≡ 0) → IsOn side (g.key node) (point_of key)
    on ne = on-turn side low high (g.key node) (point_of key) (h.turned ne) inside

    met : ¬ (node ≡ 0) → 0 < occurs node plain → Meets (point_of key) node plain ⊎ IsExcepted g (IsBypassed u) (IsWaiting waits) plain (point_of key) node
        → EndsAtNull (point_of key) node side 0 Right plain
    met ne o (inl m) = meets-null g (point_of key) node (g.child Right 0) 0 side Right plain spelled m h.null (on ne)
    met ne o (inr x) =
        let found : (sub : NamedTree) × IsSpelled g node sub × LeadsTo (IsBypassed u) (point_of key) x.successor sub
        = leads-sub g (IsBypassed u) (point_of key) x.successor node (g.child Right 0) plain spelled x.leads in
        absurd (never-leads g u (point_of key) x.successor node side found.0 orderly (waiting x.removed x.successor x.waiting) h.there found.1 found.2 h.null (on ne))

    within : ¬ (node ≡ 0) → EndsAtNull (point_of key) node side 0 Right plain
    within ne = elim h.reached [ inl e ↦ absurd (ne e) | inr o ↦ met ne o (h.claims (point_of key) inside [] node refl o) ]

pub null_link : NullLinkLaw
null_link g u waits plain now node key side low high orderly waiting spelled matches lawful h inside =
    ends-gap key node side now lawful
    (ends-now u orderly (point_of key) node side h.there h.settled 0 0 Right Right plain now matches
    (ends-plain g u waits plain node key side low high orderly waiting spelled h inside) (inr (refl, refl)))
