-- Trees that are spelled, and trees that match: which nodes stand in both, at which links, and which are reached.
use Rattle.std.proofs.Common.{◌≡◌, ℕ, ◌<◌, ◌≤◌, inl, inr, refl, ap, sym, ◌∙◌, subst, arith, ◌⊎◌, ◌+◌, List, [], ◌∷◌}
use Rattle.std.proofs.lemmas.Bool.Decides.{eqb_tells}
use Rattle.index_words.specs.declared.side.Side.{Side}
use Rattle.index_words.specs.declared.side.Side.TheVariants.{Left, Right}
use Rattle.core_trees.specs.NamedTree.{NamedTree, Null, Branch}
use Rattle.core_trees.specs.Gaps.{IsNull}
use Rattle.core_trees.specs.Slots.{occurs, one_at, NamesOnce}
use Rattle.core_trees.specs.SpelledTree.{Graph, IsSpelled}
use Rattle.core_trees.proofs.Slots.{one_at-same, one_at-other}
use Rattle.core_trees.specs.LinkSteps.{IsLinkIn, IsLink}
use Rattle.plain_trees.specs.Matching.{Undone, IsUnset, IsOut, Same, Replaced, Copied, LiftedRight, LiftedLeft, Matches}
use Rattle.plain_trees.specs.Reaching.{LeadTo, IsReached, ReachLaw, ReachedInLaw}
use Rattle.plain_trees.specs.Resting.{RestLaw}

pub null-occurs : (x : ℕ) (t : NamedTree) → IsNull t → occurs x t ≡ 0
null-occurs x Null n = refl
null-occurs x (Branch _ _ _ _ _) n = absurd n

-- no node of a spelled tree is 0
pub spelled-some : (g : Graph) (m c : ℕ) (t : NamedTree) → IsSpelled g c t → 0 < occurs m t → 0 < m
spelled-some g m c Null spelled i = absurd (omega (arith, i))
spelled-some g m c (Branch s k v l r) spelled i = elim (eqb_tells m s) as (λ _. 0 < m) [
  | inl e ↦ omega (arith, e.1, spelled.1)
  | inr ne ↦ elim (eqb_tells (occurs m l) 0) as (λ _. 0 < m) [
    | inl z ↦ spelled-some g m (g.child Right s) r spelled.5 (omega (arith, i, z.1, one_at-other m s ne.1))
    | inr z ↦ spelled-some g m (g.child Left s) l spelled.4 (omega (arith, z.1))
  ]
]

-- two children at which the same tree hangs are the same
pub same-child : (g g' : Graph) (a b : ℕ) (t : NamedTree) → IsSpelled g a t → IsSpelled g' b t → a ≡ b
same-child g g' a b Null one two = one ∙ sym two
same-child g g' a b (Branch s k v l r) one two = one.0 ∙ sym two.0

pub one_at-most : (x s : ℕ) → one_at x s ≤ 1
one_at-most x s = elim (eqb_tells x s) as (λ _. one_at x s ≤ 1) [ inl e ↦ omega (arith, subst (λ z. one_at z s ≡ 1) (sym e.1) (one_at-same s)) | inr ne ↦ omega (arith, one_at-other x s ne.1) ]

pub null-is : (t : NamedTree) → IsNull t → t ≡ Null
null-is Null n = refl
null-is (Branch _ _ _ _ _) n = absurd n

-- a node that was not taken out is in the tree at the stamp as often as in the plain tree, or more often
pub stays-in : (u : Undone) (x : ℕ) → ¬ IsOut u x → (p : ℕ) (d : Side) (plain now : NamedTree) → Matches u p d plain now → occurs x plain ≤ occurs x now
stays-in u x there p d Null now h = omega arith
stays-in u x there p d (Branch c k v l r) Null (Same h) = absurd h
stays-in u x there p d (Branch c k v l r) Null (Replaced o h) = absurd h
stays-in u x there p d (Branch c k v l r) Null (Copied o h) = absurd h
stays-in u x there p d (Branch c k v l r) (Branch m k' v' l' r') (Same h) =
    omega (arith, ap (one_at x) h.0, stays-in u x there c Left l l' h.2, stays-in u x there c Right r r' h.3)
stays-in u x there p d (Branch c k v l r) (Branch m k' v' l' r') (Replaced o h) =
    omega (arith, one_at-other x c (λ e. there (subst (IsOut u) (sym e) o)), stays-in u x there m Left l l' h.2, stays-in u x there m Right r r' h.3)
stays-in u x there p d (Branch c k v l r) (Branch m k' v' l' r') (Copied o h) =
    omega (arith, one_at-other x c (λ e. there (subst (IsOut u) (sym e) o)), stays-in u x there m Left l l' h.4, stays-in u x there m Right r r' h.5)
stays-in u x there p d (Branch c k v l r) now (LiftedRight o h) =
    omega (arith, one_at-other x c (λ e. there (subst (IsOut u) (sym e) o)), null-occurs x l h.1, stays-in u x there p d r now h.4)
stays-in u x there p d (Branch c k v l r) now (LiftedLeft o h) =
    omega (arith, one_at-other x c (λ e. there (subst (IsOut u) (sym e) o)), null-occurs x r h.0, stays-in u x there p d l now h.3)

-- if no link of the tops is still to be set, both trees hang at the same child
pub tops : (g h : Graph) (u : Undone) (p : ℕ) (d : Side) (x y : ℕ) (plain now : NamedTree)
    → ((was child : ℕ) → IsUnset u p d was child → (0 < was) × (occurs was plain ≡ 0)) → IsSpelled g x plain → IsSpelled h y now → Matches u p d plain now → x ≡ y
tops g h u p d x y Null Null calm sp sn matches = sp ∙ sym sn
tops g h u p d x y Null (Branch m k' v' l' r') calm sp sn (inl matches) = absurd matches
tops g h u p d x y Null (Branch m k' v' l' r') calm sp sn (inr matches) = absurd (omega (arith, (calm 0 m matches.2).0))
tops g h u p d x y (Branch c k v l r) Null calm sp sn (Same matches) = absurd matches
tops g h u p d x y (Branch c k v l r) Null calm sp sn (Replaced o matches) = absurd matches
tops g h u p d x y (Branch c k v l r) Null calm sp sn (Copied o matches) = absurd matches
tops g h u p d x y (Branch c k v l r) (Branch m k' v' l' r') calm sp sn (Same matches) = sp.0 ∙ sym matches.0 ∙ sym sn.0
tops g h u p d x y (Branch c k v l r) (Branch m k' v' l' r') calm sp sn (Replaced o matches) = absurd (omega (arith, (calm c m matches.1).1, one_at-same c))
tops g h u p d x y (Branch c k v l r) (Branch m k' v' l' r') calm sp sn (Copied o matches) = absurd (omega (arith, (calm c m matches.1).1, one_at-same c))
tops g h u p d x y (Branch c k v l r) now calm sp sn (LiftedRight o matches) = absurd (omega (arith, (calm c matches.3.0 matches.3.1).1, one_at-same c))
tops g h u p d x y (Branch c k v l r) now calm sp sn (LiftedLeft o matches) = absurd (omega (arith, (calm c matches.2.0 matches.2.1).1, one_at-same c))

-- Which nodes stand in the plain tree and in the tree at the stamp, where the two match.
null-none : (x : ℕ) (t : NamedTree) → IsNull t → occurs x t ≡ 0
null-none x Null n = refl
null-none x (Branch _ _ _ _ _) n = absurd n

-- a node of a tree is its top, or below it
pub top-or-below : (x c k v : ℕ) (l r : NamedTree) → 0 < occurs x (Branch c k v l r) → (x ≡ c) ⊎ ((0 < occurs x l) ⊎ (0 < occurs x r))
top-or-below x c k v l r i = elim (eqb_tells x c) as (λ _. (x ≡ c) ⊎ ((0 < occurs x l) ⊎ (0 < occurs x r))) [
  | inl e ↦ inl e.1
  | inr ne ↦ elim (eqb_tells (occurs x l) 0) as (λ _. (x ≡ c) ⊎ ((0 < occurs x l) ⊎ (0 < occurs x r))) [
    | inl z ↦ inr (inr (omega (arith, i, z.1, one_at-other x c ne.1)))
    | inr z ↦ inr (inl (omega (arith, z.1)))
  ]
]

below-or-out : (out : Type 0) (x m k v : ℕ) (l l' r r' : NamedTree) → (0 < occurs x l → (0 < occurs x l') ⊎ out) → (0 < occurs x r → (0 < occurs x r') ⊎ out)
    → (0 < occurs x l) ⊎ (0 < occurs x r) → (0 < occurs x (Branch m k v l' r')) ⊎ out
below-or-out out x m k v l l' r r' left right (inl i) = elim (left i) as (λ _. (0 < occurs x (Branch m k v l' r')) ⊎ out) [ inl here ↦ inl (omega (arith, here)) | inr is ↦ inr is ]
below-or-out out x m k v l l' r r' left right (inr i) = elim (right i) as (λ _. (0 < occurs x (Branch m k v l' r')) ⊎ out) [ inl here ↦ inl (omega (arith, here)) | inr is ↦ inr is ]

-- a node of the plain tree is one of the tree at the stamp, or was taken out
pub in-now : (u : Undone) (x p : ℕ) (d : Side) (plain now : NamedTree) → Matches u p d plain now → 0 < occurs x plain → (0 < occurs x now) ⊎ IsOut u x
in-now u x p d Null now h i = absurd (omega (arith, i))
in-now u x p d (Branch c k v l r) Null (Same e) i = absurd e
in-now u x p d (Branch c k v l r) Null (Replaced o e) i = absurd e
in-now u x p d (Branch c k v l r) Null (Copied o e) i = absurd e
in-now u x p d (Branch c k v l r) (Branch m k' v' l' r') (Same e) i =
    elim (top-or-below x c k v l r i) as (λ _. (0 < occurs x (Branch m k' v' l' r')) ⊎ IsOut u x) [
      | inl is ↦ inl (omega (arith, subst (λ z. one_at z m ≡ 1) (e.0 ∙ sym is) (one_at-same m)))
      | inr below ↦ below-or-out (IsOut u x) x m k' v' l l' r r' (λ j. in-now u x c Left l l' e.2 j) (λ j. in-now u x c Right r r' e.3 j) below
    ]
in-now u x p d (Branch c k v l r) (Branch m k' v' l' r') (Replaced o e) i =
    elim (top-or-below x c k v l r i) as (λ _. (0 < occurs x (Branch m k' v' l' r')) ⊎ IsOut u x) [
      | inl is ↦ inr (subst (IsOut u) (sym is) o)
      | inr below ↦ below-or-out (IsOut u x) x m k' v' l l' r r' (λ j. in-now u x m Left l l' e.2 j) (λ j. in-now u x m Right r r' e.3 j) below
    ]
in-now u x p d (Branch c k v l r) (Branch m k' v' l' r') (Copied o e) i =
    elim (top-or-below x c k v l r i) as (λ _. (0 < occurs x (Branch m k' v' l' r')) ⊎ IsOut u x) [
      | inl is ↦ inr (subst (IsOut u) (sym is) o)
      | inr below ↦ below-or-out (IsOut u x) x m k' v' l l' r r' (λ j. in-now u x m Left l l' e.4 j) (λ j. in-now u x m Right r r' e.5 j) below
    ]
in-now u x p d (Branch c k v l r) now (LiftedRight o e) i =
    elim (top-or-below x c k v l r i) as (λ _. (0 < occurs x now) ⊎ IsOut u x) [
      | inl is ↦ inr (subst (IsOut u) (sym is) o)
      | inr (inl left) ↦ absurd (omega (arith, left, null-none x l e.1))
      | inr (inr right) ↦ in-now u x p d r now e.4 right
    ]
in-now u x p d (Branch c k v l r) now (LiftedLeft o e) i =
    elim (top-or-below x c k v l r i) as (λ _. (0 < occurs x now) ⊎ IsOut u x) [
      | inl is ↦ inr (subst (IsOut u) (sym is) o)
      | inr (inl left) ↦ in-now u x p d l now e.3 left
      | inr (inr right) ↦ absurd (omega (arith, right, null-none x r e.0))
    ]

-- A node of a tree hangs at one link.

-- a link of a tree with a top is the one at which it hangs, or one of the two trees below
abbrev IsBelow : ℕ → NamedTree → NamedTree → ℕ → Side → Type 0
IsBelow s l r k side = IsLinkIn s Left l k side ⊎ IsLinkIn s Right r k side

at-top : (s : ℕ) (l r : NamedTree) (k : ℕ) (side : Side) → k ≡ s → IsBelow s l r k side
at-top s l r k Left e = inl (inl (e, refl))
at-top s l r k Right e = inr (inl (e, refl))

link-below : (s k v : ℕ) (l r : NamedTree) (x : ℕ) (side : Side) → 0 < occurs x (Branch s k v l r) → IsBelow s l r x side
link-below s k v l r x side i = elim (top-or-below x s k v l r i) as (λ _. IsBelow s l r x side) [ inl e ↦ at-top s l r x side e | inr (inl left) ↦ inl (inr left) | inr (inr right) ↦ inr (inr right) ]

module _ (h : Graph) where
  top-there : (c x : ℕ) (t : NamedTree) → IsSpelled h c t → c ≡ x → 0 < x → 0 < occurs x t
  top-there c x Null spelled e some = absurd (omega (arith, spelled, e, some))
  top-there c x (Branch s k v l r) spelled e some = subst (λ z. 0 < occurs z (Branch s k v l r)) (sym spelled.0 ∙ e) (omega (arith, one_at-same s))

  -- a node to which a link leads is in the tree
  pub led-in : (p : ℕ) (d : Side) (t : NamedTree) → IsSpelled h (h.child d p) t → (k : ℕ) (side : Side) (x : ℕ) → IsLinkIn p d t k side → h.child side k ≡ x → 0 < x → 0 < occurs x t
  led-in p d t spelled k side x (inl root) leads some =
      top-there (h.child d p) x t spelled (sym (ap (h.child d) root.0) ∙ (sym (ap (λ w. h.child w k) root.1) ∙ leads)) some
  led-in p d Null spelled k side x (inr i) leads some = absurd (omega (arith, i))
  led-in p d (Branch s key v l r) spelled k side x (inr i) leads some =
      elim (link-below s key v l r k side i) as (λ _. 0 < occurs x (Branch s key v l r)) [
        | inl left ↦ omega (arith, led-in s Left l spelled.4 k side x left leads some)
        | inr right ↦ omega (arith, led-in s Right r spelled.5 k side x right leads some)
      ]

  -- below the top no link leads to it
  not-top : (s key v : ℕ) (l r : NamedTree) → IsSpelled h (h.child Left s) l → IsSpelled h (h.child Right s) r → (one : one_at s s + (occurs s l + occurs s r) ≤ 1)
      → (k : ℕ) (side : Side) → IsBelow s l r k side → h.child side k ≡ s → 0 < s → ⊥
  not-top s key v l r left right one k side (inl link) leads some = omega (arith, one, one_at-same s, led-in s Left l left k side s link leads some)
  not-top s key v l r left right one k side (inr link) leads some = omega (arith, one, one_at-same s, led-in s Right r right k side s link leads some)

  pub one-link : (p : ℕ) (d : Side) (t : NamedTree) → IsSpelled h (h.child d p) t → NamesOnce p t → (k k' : ℕ) (side side' : Side) (x : ℕ)
      → IsLinkIn p d t k side → IsLinkIn p d t k' side' → h.child side k ≡ x → h.child side' k' ≡ x → 0 < x → (k ≡ k') × (side ≡ side')
  one-link p d t spelled once k k' side side' x (inl a) (inl b) one two some = (a.0 ∙ sym b.0, a.1 ∙ sym b.1)
  one-link p d Null spelled once k k' side side' x (inl a) (inr b) one two some = absurd (omega (arith, b))
  one-link p d Null spelled once k k' side side' x (inr a) b one two some = absurd (omega (arith, a))
  one-link p d (Branch s key v l r) spelled once k k' side side' x (inl a) (inr b) one two some =
      let is : x ≡ s = sym one ∙ (ap (λ w. h.child w k) a.1 ∙ (ap (h.child d) a.0 ∙ spelled.0)) in
      absurd (not-top s key v l r spelled.4 spelled.5 (omega (arith, once s)) k' side' (link-below s key v l r k' side' b) (two ∙ is) spelled.1)
  one-link p d (Branch s key v l r) spelled once k k' side side' x (inr a) (inl b) one two some =
      let is : x ≡ s = sym two ∙ (ap (λ w. h.child w k') b.1 ∙ (ap (h.child d) b.0 ∙ spelled.0)) in
      absurd (not-top s key v l r spelled.4 spelled.5 (omega (arith, once s)) k side (link-below s key v l r k side a) (one ∙ is) spelled.1)
  one-link p d (Branch s key v l r) spelled once k k' side side' x (inr a) (inr b) one two some =
      elim (link-below s key v l r k side a) as (λ _. (k ≡ k') × (side ≡ side')) [
        | inl la ↦ elim (link-below s key v l r k' side' b) as (λ _. (k ≡ k') × (side ≡ side')) [
          | inl lb ↦ one-link s Left l spelled.4 (λ y. omega (arith, once y)) k k' side side' x la lb one two some
          | inr rb ↦ absurd (omega (arith, once x, led-in s Left l spelled.4 k side x la one some, led-in s Right r spelled.5 k' side' x rb two some))
        ]
        | inr ra ↦ elim (link-below s key v l r k' side' b) as (λ _. (k ≡ k') × (side ≡ side')) [
          | inl lb ↦ absurd (omega (arith, once x, led-in s Right r spelled.5 k side x ra one some, led-in s Left l spelled.4 k' side' x lb two some))
          | inr rb ↦ one-link s Right r spelled.5 (λ y. omega (arith, once y)) k k' side side' x ra rb one two some
        ]
      ]

-- Which nodes are reached when a plain link is set.
top-in : (g : Graph) (a : ℕ) (t : NamedTree) → IsSpelled g a t → 0 < a → 0 < occurs a t
top-in g a Null spelled some = absurd (omega (arith, spelled, some))
top-in g a (Branch s k v l r) spelled some = subst (λ z. 0 < occurs z (Branch s k v l r)) (sym spelled.0) (omega (arith, one_at-same s))

-- a child of a node of the tree is in the tree
child-in : (g : Graph) (a m : ℕ) (side : Side) (t : NamedTree) → IsSpelled g a t → 0 < occurs m t → 0 < g.child side m → 0 < occurs (g.child side m) t
child-in g a m side Null spelled is some = absurd (omega (arith, is))
child-in g a m side (Branch s k v l r) spelled is some =
    elim (eqb_tells m s) as (λ _. 0 < occurs (g.child side m) (Branch s k v l r)) [
      | inl e ↦ subst (λ z. 0 < occurs (g.child side z) (Branch s k v l r)) (sym e.1) (at side (subst (λ z. 0 < g.child side z) e.1 some))
      | inr ne ↦ elim (eqb_tells (occurs m l) 0) as (λ _. 0 < occurs (g.child side m) (Branch s k v l r)) [
        | inl none ↦ omega (arith, child-in g (g.child Right s) m side r spelled.5 (omega (arith, is, none.1, one_at-other m s ne.1)) some)
        | inr here ↦ omega (arith, child-in g (g.child Left s) m side l spelled.4 (omega (arith, here.1)) some)
      ]
    ]
  where
    at : (w : Side) → 0 < g.child w s → 0 < occurs (g.child w s) (Branch s k v l r)
    at Left there = omega (arith, top-in g (g.child Left s) l spelled.4 there)
    at Right there = omega (arith, top-in g (g.child Right s) r spelled.5 there)

lead-some : (g : Graph) (nodes : List ℕ) (from to : ℕ) → LeadTo g nodes from to → 0 < to → 0 < from
lead-some g [] from to way some = omega (arith, way, some)
lead-some g (m ∷ ms) from to way some = omega (arith, way.0, way.1)

lead-in : (g : Graph) (a : ℕ) (t : NamedTree) → IsSpelled g a t → (nodes : List ℕ) (from to : ℕ) → 0 < occurs from t → 0 < to → LeadTo g nodes from to → 0 < occurs to t
lead-in g a t spelled [] from to is some way = subst (λ z. 0 < occurs z t) way is
lead-in g a t spelled (m ∷ ms) from to is some (e, pos, inl way) =
    lead-in g a t spelled ms (g.child Left m) to
    (child-in g a m Left t spelled (subst (λ z. 0 < occurs z t) e is) (lead-some g ms (g.child Left m) to way some)) some way
lead-in g a t spelled (m ∷ ms) from to is some (e, pos, inr way) =
    lead-in g a t spelled ms (g.child Right m) to
    (child-in g a m Right t spelled (subst (λ z. 0 < occurs z t) e is) (lead-some g ms (g.child Right m) to way some)) some way

pub reached_in : ReachedInLaw
reached_in g plain from to spelled is some reached = lead-in g (g.child Right 0) plain spelled reached.0 from to is some reached.1

module _ (g g' : Graph) (plain' : NamedTree) (node : ℕ) (side : Side)
    (others : (m : ℕ) (top : Side) → ¬ IsLink node side m top → g'.child top m ≡ g.child top m)
    (spelled : IsSpelled g' (g'.child Right 0) plain') (link : IsLinkIn 0 Right plain' node side) (to : ℕ) (some : 0 < to) where
  -- a node above 0 whose link is the one that was set is in the tree
  node-in : (m : ℕ) → 0 < m → m ≡ node → 0 < occurs m plain'
  node-in m pos e = elim link as (λ _. 0 < occurs m plain') [ inl root ↦ absurd (omega (arith, pos, e, root.0)) | inr is ↦ subst (λ z. 0 < occurs z plain') (sym e) is ]

  goes-left : (m from : ℕ) → from ≡ m → 0 < m → IsReached g (g.child Left m) to ⊎ (0 < occurs to plain') → IsReached g from to ⊎ (0 < occurs to plain')
  goes-left m from e pos (inl way) = inl (m ∷ way.0, (e, pos, inl way.1))
  goes-left m from e pos (inr is) = inr is

  goes-right : (m from : ℕ) → from ≡ m → 0 < m → IsReached g (g.child Right m) to ⊎ (0 < occurs to plain') → IsReached g from to ⊎ (0 < occurs to plain')
  goes-right m from e pos (inl way) = inl (m ∷ way.0, (e, pos, inr way.1))
  goes-right m from e pos (inr is) = inr is

  leads : (nodes : List ℕ) (from : ℕ) → LeadTo g' nodes from to → IsReached g from to ⊎ (0 < occurs to plain')
  leads [] from way = inl ([], way)
  leads (m ∷ ms) from (e, pos, inl on) =
      elim (eqb_tells m node) as (λ _. IsReached g from to ⊎ (0 < occurs to plain')) [
        | inl is ↦ inr (lead-in g' (g'.child Right 0) plain' spelled (m ∷ ms) from to (subst (λ z. 0 < occurs z plain') (sym e) (node-in m pos is.1)) some (e, pos, inl on))
        | inr ne ↦ goes-left m from e pos (leads ms (g.child Left m) (subst (λ z. LeadTo g' ms z to) (others m Left (λ is. ne.1 is.0)) on))
      ]
  leads (m ∷ ms) from (e, pos, inr on) =
      elim (eqb_tells m node) as (λ _. IsReached g from to ⊎ (0 < occurs to plain')) [
        | inl is ↦ inr (lead-in g' (g'.child Right 0) plain' spelled (m ∷ ms) from to (subst (λ z. 0 < occurs z plain') (sym e) (node-in m pos is.1)) some (e, pos, inr on))
        | inr ne ↦ goes-right m from e pos (leads ms (g.child Right m) (subst (λ z. LeadTo g' ms z to) (others m Right (λ is. ne.1 is.0)) on))
      ]

pub reach_law : ReachLaw
reach_law g g' plain' node side others spelled link from to some reached = leads g g' plain' node side others spelled link to some reached.0 from reached.1

-- At rest the plain tree is the tree at the stamp.
module _ (g h : Graph) (u : Undone) (vals : (m : ℕ) → g.val m ≡ h.val m)
    (none : (p : ℕ) (d : Side) (was child : ℕ) → IsUnset u p d was child → ⊥) where
  same-trees : (a b p : ℕ) (d : Side) (plain now : NamedTree) → IsSpelled g a plain → IsSpelled h b now → Matches u p d plain now → plain ≡ now
  same-trees a b p d Null Null sp sn matches = refl
  same-trees a b p d Null (Branch m k' v' l' r') sp sn (inl matches) = absurd matches
  same-trees a b p d Null (Branch m k' v' l' r') sp sn (inr matches) = absurd (none p d 0 m matches.2)
  same-trees a b p d (Branch c k v l r) Null sp sn (Same matches) = absurd matches
  same-trees a b p d (Branch c k v l r) Null sp sn (Replaced o matches) = absurd matches
  same-trees a b p d (Branch c k v l r) Null sp sn (Copied o matches) = absurd matches
  same-trees a b p d (Branch c k v l r) (Branch m k' v' l' r') sp sn (Same matches) =
      let slots : m ≡ c = matches.0 in
      let keys : k' ≡ k = matches.1 in
      let values : v' ≡ v = sym sn.3 ∙ ap h.val slots ∙ sym (vals c) ∙ sp.3 in
      let lefts : l ≡ l' = same-trees (g.child Left c) (h.child Left m) c Left l l' sp.4 sn.4 matches.2 in
      let rights : r ≡ r' = same-trees (g.child Right c) (h.child Right m) c Right r r' sp.5 sn.5 matches.3 in
      cc
  same-trees a b p d (Branch c k v l r) (Branch m k' v' l' r') sp sn (Replaced o matches) = absurd (none p d c m matches.1)
  same-trees a b p d (Branch c k v l r) (Branch m k' v' l' r') sp sn (Copied o matches) = absurd (none p d c m matches.1)
  same-trees a b p d (Branch c k v l r) now sp sn (LiftedRight o matches) = absurd (none p d c matches.3.0 matches.3.1)
  same-trees a b p d (Branch c k v l r) now sp sn (LiftedLeft o matches) = absurd (none p d c matches.2.0 matches.2.1)

pub rest_law : RestLaw
rest_law g h u plain now vals sp sn none matches = same-trees g h u vals none (g.child Right 0) (h.child Right 0) 0 Right plain now sp sn matches
