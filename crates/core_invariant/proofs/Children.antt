-- The links of a tree with the children to which they lead, and which of them an update keeps: all but the link at
-- which its search ends, the link to the successor of a removed node, and those of a new node.
use Rattle.std.proofs.Common.{◌≡◌, ℕ, ◌+◌, ◌<◌, ◌≤◌, ◌⊎◌, cond, Bool, true, false, eqb, ltb, arith, refl, ap, ◌∙◌, sym, subst, inl, inr}
use Rattle.std.proofs.lemmas.Bool.Decides.{nat_tests, eqb_tells}
use Rattle.index_words.specs.declared.side.Side.{Side}
use Rattle.index_words.specs.declared.side.Side.TheVariants.{Left, Right}
use Rattle.core_trees.specs.NamedTree.{NamedTree, Null, Branch}
use Rattle.core_trees.specs.LinkSteps.{IsLinkIn}
use Rattle.core_trees.specs.Search.{end_node, end_side}
use Rattle.core_trees.specs.Slots.{occurs, one_at}
use Rattle.core_trees.specs.SpelledTree.{Graph, IsSpelled}
use Rattle.core_trees.specs.TreeStep.{update, subtree_at, without_first}
use Rattle.core_events.specs.PlainWork.{first_node, first_parent, first_rest}
use Rattle.core_events.specs.Versions.{top_slot}

-- in a tree that hangs at the link of `root` on `top`, the link of `k` on `side` leads to the child, 0 for none
abbrev pub IsChildAt : ℕ → Side → NamedTree → ℕ → Side → ℕ → Type 0
IsChildAt root top Null k side c = (root ≡ k) × (top ≡ side) × (c ≡ 0)
IsChildAt root top (Branch s key val l r) k side c =
    ((root ≡ k) × (top ≡ side) × (c ≡ s)) ⊎ (IsChildAt s Left l k side c ⊎ IsChildAt s Right r k side c)

one_there : (k : ℕ) (n : ℕ) → 0 < one_at k k + n
one_there k n = grind (arith, nat_tests)

-- the link at which the tree hangs leads to its top
pub top_link : (root : ℕ) (top : Side) (tree : NamedTree) → IsChildAt root top tree root top (top_slot tree)
top_link root top Null = (refl, refl, refl)
top_link root top (Branch s key val l r) = inl (refl, refl, refl)

-- the same subtree at another link
pub moved_link : (a b : ℕ) (d e : Side) (tree : NamedTree) (k : ℕ) (side : Side) (c : ℕ) → IsChildAt a d tree k side c → IsChildAt b e tree k side c ⊎ ((a ≡ k) × (d ≡ side))
moved_link a b d e Null k side c is = inr (is.0, is.1)
moved_link a b d e (Branch s key val l r) k side c (inl own) = inr (own.0, own.1)
moved_link a b d e (Branch s key val l r) k side c (inr below) = inl (inr below)

-- what is spelled leads there
pub spelled_child : (g : Graph) (root : ℕ) (top : Side) (tree : NamedTree) (k : ℕ) (side : Side) (c : ℕ) → IsSpelled g (g.child top root) tree
    → IsChildAt root top tree k side c → g.child side k ≡ c
spelled_child g root top Null k side c spelled is = ap (λ w. g.child w k) (sym is.1) ∙ ap (g.child top) (sym is.0) ∙ spelled ∙ sym is.2
spelled_child g root top (Branch s key val l r) k side c spelled (inl own) =
    ap (λ w. g.child w k) (sym own.1) ∙ ap (g.child top) (sym own.0) ∙ spelled.0 ∙ sym own.2
spelled_child g root top (Branch s key val l r) k side c spelled (inr (inl left)) = spelled_child g s Left l k side c spelled.4 left
spelled_child g root top (Branch s key val l r) k side c spelled (inr (inr right)) = spelled_child g s Right r k side c spelled.5 right

-- each link of the tree leads somewhere
pub link_leads : (root : ℕ) (top : Side) (tree : NamedTree) (k : ℕ) (side : Side) → IsLinkIn root top tree k side → (c : ℕ) × IsChildAt root top tree k side c
link_leads root top Null k side (inl own) = (0, (sym own.0, sym own.1, refl))
link_leads root top Null k side (inr there) = absurd (omega (arith, there))
link_leads root top (Branch s key val l r) k side (inl own) = (s, inl (sym own.0, sym own.1, refl))
link_leads root top (Branch s key val l r) k side (inr there) =
    elim (eqb_tells k s) as (λ _. (c : ℕ) × IsChildAt root top (Branch s key val l r) k side c) [
      | inl here ↦ subst (λ n. (c : ℕ) × IsChildAt root top (Branch s key val l r) n side c) (sym here.1) (own_link side)
      | inr other ↦
          elim (rest k s (occurs k l) (occurs k r) other.0 there) as (λ _. (c : ℕ) × IsChildAt root top (Branch s key val l r) k side c) [
            | inl some ↦ let is = link_leads s Left l k side (inr some) in (is.0, inr (inl is.1))
            | inr some ↦ let is = link_leads s Right r k side (inr some) in (is.0, inr (inr is.1))
          ]
    ]
  where
    own_link : (w : Side) → (c : ℕ) × IsChildAt root top (Branch s key val l r) s w c
    own_link Left = (top_slot l, inr (inl (top_link s Left l)))
    own_link Right = (top_slot r, inr (inr (top_link s Right r)))

    rest : (k s a b : ℕ) → eqb k s ≡ false → 0 < one_at k s + (a + b) → (0 < a) ⊎ (0 < b)
    rest k s a b other some = grind (arith, nat_tests)

-- a link that leads somewhere is one of the tree
pub leads_link : (root : ℕ) (top : Side) (tree : NamedTree) (k : ℕ) (side : Side) (c : ℕ) → IsChildAt root top tree k side c → IsLinkIn root top tree k side
leads_link root top Null k side c is = inl (sym is.0, sym is.1)
leads_link root top (Branch s key val l r) k side c (inl own) = inl (sym own.0, sym own.1)
leads_link root top (Branch s key val l r) k side c (inr (inl left)) =
    elim (leads_link s Left l k side c left) as (λ _. IsLinkIn root top (Branch s key val l r) k side) [
      | inl own ↦ inr (subst (λ n. 0 < occurs n (Branch s key val l r)) (sym own.0) (one_there s (occurs s l + occurs s r)))
      | inr there ↦ inr (omega (arith, there))
    ]
leads_link root top (Branch s key val l r) k side c (inr (inr right)) =
    elim (leads_link s Right r k side c right) as (λ _. IsLinkIn root top (Branch s key val l r) k side) [
      | inl own ↦ inr (subst (λ n. 0 < occurs n (Branch s key val l r)) (sym own.0) (one_there s (occurs s l + occurs s r)))
      | inr there ↦ inr (omega (arith, there))
    ]

-- what a change at the link at which a search ends keeps: the links outside of the changed subtree
abbrev pub Changed : ℕ → (NamedTree → NamedTree) → ℕ → Side → ℕ → ℕ → Side → NamedTree → Type 0
Changed key f k side c n w t =
    IsChildAt n w (update key f t) k side c → IsChildAt n w t k side c ⊎ IsChildAt (end_node key n t) (end_side key w t) (f (subtree_at key t)) k side c

pub changed_child : (key : ℕ) (f : NamedTree → NamedTree) (root : ℕ) (top : Side) (tree : NamedTree) (k : ℕ) (side : Side) (c : ℕ) → Changed key f k side c root top tree
changed_child key f root top Null k side c is = inr is
changed_child key f root top (Branch s kk v l r) k side c is =
    by (changed_child key f s Left l k side c) (changed_child key f s Right r k side c) (ltb key kk) (ltb kk key) is
  where
    by : Changed key f k side c s Left l → Changed key f k side c s Right r → (a b : Bool) → IsChildAt root top (cond a (Branch s kk v (update key f l) r) (cond b (Branch s kk v l (update key f r)) (f (Branch s kk v l r)))) k side c
        → IsChildAt root top (Branch s kk v l r) k side c
        ⊎ IsChildAt (cond a (end_node key s l) (cond b (end_node key s r) root)) (cond a (end_side key Left l) (cond b (end_side key Right r) top))
        (f (cond a (subtree_at key l) (cond b (subtree_at key r) (Branch s kk v l r)))) k side c
    by lefts rights true b (inl own) = inl (inl own)
    by lefts rights true b (inr (inr right)) = inl (inr (inr right))
    by lefts rights true b (inr (inl left)) =
        elim (lefts left) [
          | inl old ↦ inl (inr (inl old))
          | inr new ↦ inr new
        ]
    by lefts rights false true (inl own) = inl (inl own)
    by lefts rights false true (inr (inl left)) = inl (inr (inl left))
    by lefts rights false true (inr (inr right)) =
        elim (rights right) [
          | inl old ↦ inl (inr (inr old))
          | inr new ↦ inr new
        ]
    by lefts rights false false is = inr is

-- the links of the changed subtree are links of the changed tree
abbrev pub Inside : ℕ → (NamedTree → NamedTree) → ℕ → Side → ℕ → ℕ → Side → NamedTree → Type 0
Inside key f k side c n w t = IsChildAt (end_node key n t) (end_side key w t) (f (subtree_at key t)) k side c → IsChildAt n w (update key f t) k side c

pub inside_child : (key : ℕ) (f : NamedTree → NamedTree) (root : ℕ) (top : Side) (tree : NamedTree) (k : ℕ) (side : Side) (c : ℕ) → Inside key f k side c root top tree
inside_child key f root top Null k side c is = is
inside_child key f root top (Branch s kk v l r) k side c is =
    by (inside_child key f s Left l k side c) (inside_child key f s Right r k side c) (ltb key kk) (ltb kk key) is
  where
    by : Inside key f k side c s Left l → Inside key f k side c s Right r → (a b : Bool)
        → IsChildAt (cond a (end_node key s l) (cond b (end_node key s r) root)) (cond a (end_side key Left l) (cond b (end_side key Right r) top))
        (f (cond a (subtree_at key l) (cond b (subtree_at key r) (Branch s kk v l r)))) k side c
        → IsChildAt root top (cond a (Branch s kk v (update key f l) r) (cond b (Branch s kk v l (update key f r)) (f (Branch s kk v l r)))) k side c
    by lefts rights true b is = inr (inl (lefts is))
    by lefts rights false true is = inr (inr (rights is))
    by lefts rights false false is = is

-- the links of the subtree at which a search ends are links of the tree
abbrev pub Below : ℕ → ℕ → Side → ℕ → ℕ → Side → NamedTree → Type 0
Below key k side c n w t = IsChildAt (end_node key n t) (end_side key w t) (subtree_at key t) k side c → IsChildAt n w t k side c

pub subtree_child : (key root : ℕ) (top : Side) (tree : NamedTree) (k : ℕ) (side : Side) (c : ℕ) → Below key k side c root top tree
subtree_child key root top Null k side c is = is
subtree_child key root top (Branch s kk v l r) k side c is =
    by (subtree_child key s Left l k side c) (subtree_child key s Right r k side c) (ltb key kk) (ltb kk key) is
  where
    by : Below key k side c s Left l → Below key k side c s Right r → (a b : Bool)
        → IsChildAt (cond a (end_node key s l) (cond b (end_node key s r) root)) (cond a (end_side key Left l) (cond b (end_side key Right r) top))
        (cond a (subtree_at key l) (cond b (subtree_at key r) (Branch s kk v l r))) k side c
        → IsChildAt root top (Branch s kk v l r) k side c
    by lefts rights true b is = inr (inl (lefts is))
    by lefts rights false true is = inr (inr (rights is))
    by lefts rights false false is = is

-- the node at whose link a search ends is the one at which the tree hangs, or is in the tree outside of the subtree at
-- that link
abbrev pub Outside : ℕ → ℕ → NamedTree → Type 0
Outside key n t = occurs (end_node key n t) (subtree_at key t) + 1 ≤ one_at (end_node key n t) n + occurs (end_node key n t) t

pub end_outside : (key root : ℕ) (tree : NamedTree) → Outside key root tree
end_outside key root Null = omega (arith, one_there root 0)
end_outside key root (Branch s kk v l r) = by (end_outside key s l) (end_outside key s r) (ltb key kk) (ltb kk key)
  where
    by : Outside key s l → Outside key s r → (a b : Bool) → let n : ℕ = cond a (end_node key s l) (cond b (end_node key s r) root) in
        occurs n (cond a (subtree_at key l) (cond b (subtree_at key r) (Branch s kk v l r))) + 1 ≤ one_at n root + occurs n (Branch s kk v l r)
    by lefts rights true b = omega (arith, lefts)
    by lefts rights false true = omega (arith, rights)
    by lefts rights false false = omega (arith, one_there root 0)

-- the tree at the left of a node without its first node: all links stay but the one to that node
pub rest_child : (parent slot key val : ℕ) (l r : NamedTree) (k : ℕ) (side : Side) (c : ℕ) → IsChildAt parent Left (without_first (Branch slot key val l r)) k side c
    → IsChildAt parent Left (Branch slot key val l r) k side c ⊎ ((first_parent parent slot l ≡ k) × (Left ≡ side))
rest_child parent slot key val Null r k side c is =
    elim (moved_link parent slot Left Right r k side c is) [
      | inl old ↦ inl (inr (inr old))
      | inr link ↦ inr link
    ]
rest_child parent slot key val (Branch s kk v ll lr) r k side c (inl own) = inl (inl own)
rest_child parent slot key val (Branch s kk v ll lr) r k side c (inr (inr right)) = inl (inr (inr right))
rest_child parent slot key val (Branch s kk v ll lr) r k side c (inr (inl left)) =
    elim (rest_child slot s kk v ll lr k side c left) [
      | inl old ↦ inl (inr (inl old))
      | inr link ↦ inr link
    ]

-- that link leads to the first node before, and to the right child of that node after
pub first_leads : (parent slot key val : ℕ) (l r : NamedTree) → IsChildAt parent Left (Branch slot key val l r) (first_parent parent slot l) Left (first_node slot l)
first_leads parent slot key val Null r = inl (refl, refl, refl)
first_leads parent slot key val (Branch s kk v ll lr) r = inr (inl (first_leads slot s kk v ll lr))

pub rest_leads : (parent slot key val : ℕ) (l r : NamedTree) → IsChildAt parent Left (without_first (Branch slot key val l r)) (first_parent parent slot l) Left (first_rest l r)
rest_leads parent slot key val Null r = top_link parent Left r
rest_leads parent slot key val (Branch s kk v ll lr) r = inr (inl (rest_leads slot s kk v ll lr))

-- its node is in the tree
pub parent_there : (parent slot key val : ℕ) (l r : NamedTree)
    → 0 < one_at (first_parent parent slot l) parent + occurs (first_parent parent slot l) (Branch slot key val l r)
parent_there parent slot key val Null r = one_there parent (occurs parent (Branch slot key val Null r))
parent_there parent slot key val (Branch s kk v ll lr) r = omega (arith, parent_there slot s kk v ll lr)

-- the first node of a spelled tree is a slot
pub first_some : (g : Graph) (c slot key val : ℕ) (l r : NamedTree) → IsSpelled g c (Branch slot key val l r) → 0 < first_node slot l
first_some g c slot key val Null r spelled = spelled.1
first_some g c slot key val (Branch s kk v ll lr) r spelled = first_some g (g.child Left slot) s kk v ll lr spelled.4
