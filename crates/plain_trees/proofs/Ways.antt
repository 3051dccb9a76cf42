-- What a seat's search claims of its way stays when a plain link is set, and when the search goes on.
use Rattle.std.proofs.Common.{◌≡◌, ℕ, ◌<◌, ◌⊎◌, inl, inr, List, [], ◌∷◌, ap, sym, ◌∙◌, subst, arith}
use Rattle.std.proofs.lemmas.Bool.Decides.{eqb_tells}
use Rattle.index_words.specs.declared.side.Side.{Side}
use Rattle.index_words.specs.declared.side.Side.TheVariants.{Left, Right}
use Rattle.core_trees.specs.NamedTree.{NamedTree, Null, Branch}
use Rattle.core_trees.specs.Gaps.{IsNull}
use Rattle.core_trees.specs.Slots.{occurs}
use Rattle.core_trees.specs.SpelledTree.{Graph, IsSpelled}
use Rattle.core_trees.proofs.Slots.{one_at-same}
use Rattle.plain_trees.specs.Points.{point_of, Meets}
use Rattle.plain_trees.specs.Successors.{LeadsTo, LeadsFrom}
use Rattle.plain_trees.specs.Claims.{IsWay, IsExcepted, Claims}

pub meets-in : (x c : ℕ) (t : NamedTree) → Meets x c t → 0 < occurs c t
meets-in x c Null h = absurd h
meets-in x c (Branch s k v l r) (inl e) = subst (λ z. 0 < occurs z (Branch s k v l r)) (sym e) (omega (arith, one_at-same s))
meets-in x c (Branch s k v l r) (inr (inl h)) = omega (arith, meets-in x c l h.1)
meets-in x c (Branch s k v l r) (inr (inr h)) = omega (arith, meets-in x c r h.1)

-- a child that is there is the top of the tree that hangs at its link
pub top-meets : (g : Graph) (x c : ℕ) (t : NamedTree) → 0 < c → IsSpelled g c t → Meets x c t
top-meets g x c Null some h = absurd (omega (arith, some, h))
top-meets g x c (Branch s k v l r) some h = inl h.0

-- a search in the tree goes on to the child on the point's side
module _ (g : Graph) (x c : ℕ) where
  pub met-left : (a : ℕ) (t : NamedTree) → IsSpelled g a t → Meets x c t → x < point_of (g.key c) → 0 < g.child Left c → Meets x (g.child Left c) t
  met-left a Null spelled meets on some = absurd meets
  met-left a (Branch s k v l r) spelled (inl e) on some =
      inr (inl (omega (arith, on, ap g.key e ∙ spelled.2), top-meets g x (g.child Left c) l some (subst (λ z. IsSpelled g (g.child Left z) l) (sym e) spelled.4)))
  met-left a (Branch s k v l r) spelled (inr (inl h)) on some = inr (inl (h.0, met-left (g.child Left s) l spelled.4 h.1 on some))
  met-left a (Branch s k v l r) spelled (inr (inr h)) on some = inr (inr (h.0, met-left (g.child Right s) r spelled.5 h.1 on some))

  pub met-right : (a : ℕ) (t : NamedTree) → IsSpelled g a t → Meets x c t → point_of (g.key c) < x → 0 < g.child Right c → Meets x (g.child Right c) t
  met-right a Null spelled meets on some = absurd meets
  met-right a (Branch s k v l r) spelled (inl e) on some =
      inr (inr (omega (arith, on, ap g.key e ∙ spelled.2), top-meets g x (g.child Right c) r some (subst (λ z. IsSpelled g (g.child Right z) r) (sym e) spelled.5)))
  met-right a (Branch s k v l r) spelled (inr (inl h)) on some = inr (inl (h.0, met-right (g.child Left s) l spelled.4 h.1 on some))
  met-right a (Branch s k v l r) spelled (inr (inr h)) on some = inr (inr (h.0, met-right (g.child Right s) r spelled.5 h.1 on some))

  -- the way to a successor, too
  top-from : (bypassed : ℕ → Type 0) (s a : ℕ) (t : NamedTree) → IsSpelled g a t → LeadsTo bypassed x s t → LeadsFrom bypassed x s a t
  top-from bypassed s a Null spelled h = absurd h
  top-from bypassed s a (Branch m k v l r) spelled h = inl (spelled.0, h)

  no-tree : (bypassed : ℕ → Type 0) (s a : ℕ) (t : NamedTree) → IsSpelled g a t → IsNull t → 0 < a → ⊥
  no-tree bypassed s a Null spelled n some = omega (arith, spelled, some)
  no-tree bypassed s a (Branch _ _ _ _ _) spelled n some = n

  pub from-left : (bypassed : ℕ → Type 0) (s a : ℕ) (t : NamedTree) → IsSpelled g a t → LeadsFrom bypassed x s c t → x < point_of (g.key c) → 0 < g.child Left c
      → LeadsFrom bypassed x s (g.child Left c) t
  from-left bypassed s a Null spelled h on some = absurd h
  from-left bypassed s a (Branch m k v l r) spelled (inr (inl h)) on some = inr (inl (from-left bypassed s (g.child Left m) l spelled.4 h on some))
  from-left bypassed s a (Branch m k v l r) spelled (inr (inr h)) on some = inr (inr (from-left bypassed s (g.child Right m) r spelled.5 h on some))
  from-left bypassed s a (Branch m k v l r) spelled (inl (e, inl here)) on some =
      absurd (no-tree bypassed s (g.child Left m) l spelled.4 here.1 (subst (λ z. 0 < g.child Left z) e some))
  from-left bypassed s a (Branch m k v l r) spelled (inl (e, inr (inl down))) on some =
      inr (inl (subst (λ z. LeadsFrom bypassed x s (g.child Left z) l) (sym e) (top-from bypassed s (g.child Left m) l spelled.4 down.1)))
  from-left bypassed s a (Branch m k v l r) spelled (inl (e, inr (inr past))) on some =
      absurd (no-tree bypassed s (g.child Left m) l spelled.4 past.1 (subst (λ z. 0 < g.child Left z) e some))

  pub from-right : (bypassed : ℕ → Type 0) (s a : ℕ) (t : NamedTree) → IsSpelled g a t → LeadsFrom bypassed x s c t → point_of (g.key c) < x → 0 < g.child Right c
      → LeadsFrom bypassed x s (g.child Right c) t
  from-right bypassed s a Null spelled h on some = absurd h
  from-right bypassed s a (Branch m k v l r) spelled (inr (inl h)) on some = inr (inl (from-right bypassed s (g.child Left m) l spelled.4 h on some))
  from-right bypassed s a (Branch m k v l r) spelled (inr (inr h)) on some = inr (inr (from-right bypassed s (g.child Right m) r spelled.5 h on some))
  from-right bypassed s a (Branch m k v l r) spelled (inl (e, inl here)) on some = absurd (omega (arith, on, here.2, ap g.key e ∙ spelled.2))
  from-right bypassed s a (Branch m k v l r) spelled (inl (e, inr (inl down))) on some = absurd (omega (arith, on, down.0, ap g.key e ∙ spelled.2))
  from-right bypassed s a (Branch m k v l r) spelled (inl (e, inr (inr past))) on some =
      inr (inr (subst (λ z. LeadsFrom bypassed x s (g.child Right z) r) (sym e) (top-from bypassed s (g.child Right m) r spelled.5 past.2)))

-- if a way goes on, it goes on to a node
way-some : (g : Graph) (plain : NamedTree) (x a c : ℕ) (ms : List ℕ) → IsWay g plain x ms a c → 0 < c → 0 < a
way-some g plain x a c [] way some = omega (arith, way, some)
way-some g plain x a c (m ∷ ms) way some = omega (arith, way.0, way.1)

-- what is said of a node of the plain tree is said of its child on the point's side
module _ (g : Graph) (bypassed : ℕ → Type 0) (waits : ℕ → ℕ → Type 0) (plain : NamedTree) (x : ℕ) (spelled : IsSpelled g (g.child Right 0) plain) where
  pub on-left : (m : ℕ) → Meets x m plain ⊎ IsExcepted g bypassed waits plain x m → x < point_of (g.key m) → 0 < g.child Left m
      → Meets x (g.child Left m) plain ⊎ IsExcepted g bypassed waits plain x (g.child Left m)
  on-left m (inl h) on there = inl (met-left g x m (g.child Right 0) plain spelled h on there)
  on-left m (inr h) on there = inr (record {
    removed = h.removed;
    successor = h.successor;
    waiting = h.waiting;
    above = h.above;
    leads = from-left g x m bypassed h.successor (g.child Right 0) plain spelled h.leads on there;
  })

  pub on-right : (m : ℕ) → Meets x m plain ⊎ IsExcepted g bypassed waits plain x m → point_of (g.key m) < x → 0 < g.child Right m
      → Meets x (g.child Right m) plain ⊎ IsExcepted g bypassed waits plain x (g.child Right m)
  on-right m (inl h) on there = inl (met-right g x m (g.child Right 0) plain spelled h on there)
  on-right m (inr h) on there = inr (record {
    removed = h.removed;
    successor = h.successor;
    waiting = h.waiting;
    above = h.above;
    leads = from-right g x m bypassed h.successor (g.child Right 0) plain spelled h.leads on there;
  })

-- a plain link is set: `plain` is the plain tree before it, and `plain'` the one after it
module _ (g g' : Graph) (bypassed bypassed' : ℕ → Type 0) (waits waits' : ℕ → ℕ → Type 0) (plain plain' : NamedTree) (x : ℕ)
    (spelled : IsSpelled g (g.child Right 0) plain)
    (some : (m : ℕ) → 0 < occurs m plain' → 0 < m)
    (keys : (m : ℕ) → g'.key m ≡ g.key m)
    (links : (m : ℕ) → 0 < m → occurs m plain' ≡ 0 → (side : Side) → g'.child side m ≡ g.child side m)
    (met : (c : ℕ) → Meets x c plain → 0 < occurs c plain' → Meets x c plain' ⊎ IsExcepted g' bypassed' waits' plain' x c)
    (excepted : (c : ℕ) → IsExcepted g bypassed waits plain x c → 0 < occurs c plain' → IsExcepted g' bypassed' waits' plain' x c) where
  Old : ℕ → Type 0
  Old c = Meets x c plain ⊎ IsExcepted g bypassed waits plain x c

  New : ℕ → Type 0
  New c = Meets x c plain' ⊎ IsExcepted g' bypassed' waits' plain' x c

  -- no new node is reached
  Fresh : ℕ → Type 0
  Fresh a = (m : ℕ) → 0 < occurs m plain' → occurs m plain ≡ 0 → (ms : List ℕ) → IsWay g plain x ms a m → ⊥

  ends : (c : ℕ) → Meets x c plain ⊎ IsExcepted g bypassed waits plain x c → 0 < occurs c plain' → Meets x c plain' ⊎ IsExcepted g' bypassed' waits' plain' x c
  ends c (inl h) o = met c h o
  ends c (inr h) o = inr (excepted c h o)

  -- the way inside of the tree before
  inner : (ms : List ℕ) (a c : ℕ) → Meets x a plain ⊎ IsExcepted g bypassed waits plain x a → IsWay g' plain' x ms a c → 0 < occurs c plain'
      → Meets x c plain' ⊎ IsExcepted g' bypassed' waits' plain' x c
  inner [] a c old way o = ends c (subst (λ z. Meets x z plain ⊎ IsExcepted g bypassed waits plain x z) way old) o
  inner (m ∷ ms) a c old (e, pos, apart, inl left) o =
      let way : IsWay g' plain' x ms (g.child Left m) c = subst (λ z. IsWay g' plain' x ms z c) (links m pos apart Left) left.1 in
      inner ms (g.child Left m) c (on-left g bypassed waits plain x spelled m (subst (λ z. Meets x z plain ⊎ IsExcepted g bypassed waits plain x z) e old) (omega (arith, left.0, keys m))
      (way-some g' plain' x (g.child Left m) c ms way (some c o))) way o
  inner (m ∷ ms) a c old (e, pos, apart, inr right) o =
      let way : IsWay g' plain' x ms (g.child Right m) c = subst (λ z. IsWay g' plain' x ms z c) (links m pos apart Right) right.1 in
      inner ms (g.child Right m) c (on-right g bypassed waits plain x spelled m (subst (λ z. Meets x z plain ⊎ IsExcepted g bypassed waits plain x z) e old) (omega (arith, right.0, keys m))
      (way-some g' plain' x (g.child Right m) c ms way (some c o))) way o

  -- and the way up to there
  pub outer : (ms : List ℕ) (a c : ℕ) → Claims g bypassed waits plain x a
      → ((m : ℕ) → 0 < occurs m plain' → occurs m plain ≡ 0 → (ks : List ℕ) → IsWay g plain x ks a m → ⊥)
      → IsWay g' plain' x ms a c → 0 < occurs c plain' → Meets x c plain' ⊎ IsExcepted g' bypassed' waits' plain' x c
  outer [] a c claims fresh way o =
      elim (eqb_tells (occurs c plain) 0) as (λ _. Meets x c plain' ⊎ IsExcepted g' bypassed' waits' plain' x c) [
        | inl e ↦ absurd (fresh c o e.1 [] way)
        | inr ne ↦ ends c (claims [] c way (omega (arith, ne.1))) o
      ]
  outer (m ∷ ms) a c claims fresh (e, pos, apart, inl left) o =
      let way : IsWay g' plain' x ms (g.child Left m) c = subst (λ z. IsWay g' plain' x ms z c) (links m pos apart Left) left.1 in
      let on : x < point_of (g.key m) = omega (arith, left.0, keys m) in
      elim (eqb_tells (occurs m plain) 0) as (λ _. Meets x c plain' ⊎ IsExcepted g' bypassed' waits' plain' x c) [
        | inl n ↦ outer ms (g.child Left m) c (λ ks d w. claims (m ∷ ks) d (e, pos, n.1, inl (on, w))) (λ d i n' ks w. fresh d i n' (m ∷ ks) (e, pos, n.1, inl (on, w))) way o
        | inr ne ↦ inner ms (g.child Left m) c (on-left g bypassed waits plain x spelled m (claims [] m e (omega (arith, ne.1))) on (way-some g' plain' x (g.child Left m) c ms way (some c o))) way o
      ]
  outer (m ∷ ms) a c claims fresh (e, pos, apart, inr right) o =
      let way : IsWay g' plain' x ms (g.child Right m) c = subst (λ z. IsWay g' plain' x ms z c) (links m pos apart Right) right.1 in
      let on : point_of (g.key m) < x = omega (arith, right.0, keys m) in
      elim (eqb_tells (occurs m plain) 0) as (λ _. Meets x c plain' ⊎ IsExcepted g' bypassed' waits' plain' x c) [
        | inl n ↦ outer ms (g.child Right m) c (λ ks d w. claims (m ∷ ks) d (e, pos, n.1, inr (on, w))) (λ d i n' ks w. fresh d i n' (m ∷ ks) (e, pos, n.1, inr (on, w))) way o
        | inr ne ↦ inner ms (g.child Right m) c (on-right g bypassed waits plain x spelled m (claims [] m e (omega (arith, ne.1))) on (way-some g' plain' x (g.child Right m) c ms way (some c o))) way o
      ]
