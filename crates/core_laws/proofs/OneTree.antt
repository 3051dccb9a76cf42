-- A tree is determined by the list of its nodes.
use Rattle.std.proofs.Common.{◌≡◌, ℕ, zero, suc, ◌+◌, ◌<◌, ◌≤◌, cond, List, [], ◌∷◌, ◌++◌, eqb, arith, refl, ap, ◌∙◌, sym, subst, inl, inr}
use Rattle.std.proofs.lemmas.Bool.{cases_lt}
use Rattle.std.proofs.lemmas.Bool.Decides.{nat_tests}
use Rattle.index_words.specs.declared.view.reading.TreeNode.{TreeNode}
use Rattle.key_map.specs.Lists.{count, IsItem}
use Rattle.key_map.proofs.Counting.{count-append}
use Rattle.core_grace.specs.Holds.{tree_slots}
use Rattle.core_trees.specs.NamedTree.{NamedTree, Null, Branch}
use Rattle.core_laws.specs.Found.{OneTreeLaw}
use Rattle.core_events.specs.Versions.{top_slot, tree_nodes, slots_of}
use Rattle.core_invariant.proofs.TreeNow.{tree_slots-append}

-- 1 where the two numbers are the same
abbrev same_at : ℕ → ℕ → ℕ
same_at k x = cond (eqb x k) 1 0

-- how often the slot is a child of one of these nodes
abbrev child_count : ℕ → List TreeNode → ℕ
child_count k [] = 0
child_count k (n ∷ ns) = same_at k n.left + same_at k n.right + child_count k ns

child_count-append : (k : ℕ) (xs ys : List TreeNode) → child_count k (xs ++ ys) ≡ child_count k xs + child_count k ys
child_count-append k [] ys = omega arith
child_count-append k (x ∷ xs) ys = omega (arith, child_count-append k xs ys)

at_none : (k : ℕ) → 0 < k → same_at k 0 ≡ 0
at_none k some = grind (arith, nat_tests)

-- each slot is the top, or a child of one node
placed : (k : ℕ) (tree : NamedTree) → 0 < k → same_at k (top_slot tree) + child_count k (tree_nodes tree) ≡ count k (slots_of tree)
placed k Null some = omega (arith, at_none k some)
placed k (Branch slot key val left right) some =
    let node : TreeNode = record { slot = slot; key = key; val = val; left = top_slot left; right = top_slot right } in
    omega (
      arith,
      child_count-append k (tree_nodes left) (node ∷ tree_nodes right),
      ap (count k) (tree_slots-append (tree_nodes left) (node ∷ tree_nodes right)),
      count-append k (slots_of left) (slot ∷ slots_of right),
      placed k left some,
      placed k right some,
    )

at_same : (k : ℕ) → same_at k k ≡ 1
at_same k = grind (arith, nat_tests)

same_of : (k x : ℕ) → 0 < same_at k x → x ≡ k
same_of k x some = grind (arith, nat_tests)

top_count : (slot key val : ℕ) (left right : NamedTree) → 0 < count slot (slots_of (Branch slot key val left right))
top_count slot key val left right =
    let node : TreeNode = record { slot = slot; key = key; val = val; left = top_slot left; right = top_slot right } in
    omega (
      arith,
      ap (count slot) (tree_slots-append (tree_nodes left) (node ∷ tree_nodes right)),
      count-append slot (slots_of left) (slot ∷ slots_of right),
      at_same slot,
    )

-- so trees with the same nodes have the same top
pub one_top : (tree other : NamedTree) → count 0 (slots_of tree) ≡ 0 → tree_nodes tree ≡ tree_nodes other → top_slot tree ≡ top_slot other
one_top Null Null none same = refl
one_top Null (Branch s k v l r) none same = absurd (omega (arith, top_count s k v l r, ap (λ ns. count s (tree_slots ns)) same))
one_top (Branch slot key val left right) other none same =
    let tree : NamedTree = Branch slot key val left right in
    elim (cases_lt 0 slot) as (λ _. slot ≡ top_slot other) [
      | inl some ↦
          let counts = ap (λ ns. count slot (tree_slots ns)) same in
          let children = ap (child_count slot) same in
          sym (same_of slot (top_slot other) (omega (arith, placed slot tree some, placed slot other some, counts, children, at_same slot)))
      | inr low ↦
          let is : 0 ≡ slot = omega (arith, low) in
          absurd (omega (arith, none, subst (λ x. 0 < count x (slots_of tree)) (sym is) (top_count slot key val left right)))
    ]

-- lists in which a slot stands once, cut at the node with that slot
record SameCut (xs ys : List TreeNode) (x y : TreeNode) (xs' ys' : List TreeNode) : Type 0 where
  front : xs ≡ xs'
  item : x ≡ y
  back : ys ≡ ys'

head_of : (x y : TreeNode) (xs ys : List TreeNode) → (x ∷ xs) ≡ (y ∷ ys) → x ≡ y
head_of x y xs ys same = cc

tail_of : (x y : TreeNode) (xs ys : List TreeNode) → (x ∷ xs) ≡ (y ∷ ys) → xs ≡ ys
tail_of x y xs ys same = cc

cut_once : (s : ℕ) (xs ys : List TreeNode) (x y : TreeNode) (xs' ys' : List TreeNode) → x.slot ≡ s → y.slot ≡ s
    → count s (tree_slots (xs ++ x ∷ ys)) ≤ 1 → (xs ++ x ∷ ys) ≡ (xs' ++ y ∷ ys') → SameCut xs ys x y xs' ys'
cut_once s [] ys x y [] ys' is also once same = record { front = refl; item = head_of x y ys ys' same; back = tail_of x y ys ys' same }
cut_once s [] ys x y (n ∷ xs') ys' is also once same =
    let first : x ≡ n = head_of x n ys (xs' ++ y ∷ ys') same in
    let rest : ys ≡ xs' ++ y ∷ ys' = tail_of x n ys (xs' ++ y ∷ ys') same in
    let more = ap (λ ns. count s (tree_slots ns)) rest in
    let split = ap (count s) (tree_slots-append xs' (y ∷ ys')) in
    absurd (omega (arith, once, more, split, count-append s (tree_slots xs') (y.slot ∷ tree_slots ys'), ap (same_at s) is, ap (same_at s) also, at_same s))
cut_once s (n ∷ xs) ys x y [] ys' is also once same =
    let first : n ≡ y = head_of n y (xs ++ x ∷ ys) ys' same in
    let split = ap (count s) (tree_slots-append xs (x ∷ ys)) in
    let at_first = ap (λ (k : TreeNode). same_at s k.slot) first in
    absurd (omega (arith, once, split, count-append s (tree_slots xs) (x.slot ∷ tree_slots ys), ap (same_at s) is, ap (same_at s) also, at_first, at_same s))
cut_once s (n ∷ xs) ys x y (k ∷ xs') ys' is also once same =
    let rest = cut_once s xs ys x y xs' ys' is also (omega (arith, once)) (tail_of n k (xs ++ x ∷ ys) (xs' ++ y ∷ ys') same) in
    record { front = ap (λ ns. n ∷ ns) rest.front ∙ ap (λ j. j ∷ xs') (head_of n k (xs ++ x ∷ ys) (xs' ++ y ∷ ys') same); item = rest.item; back = rest.back }

branch_same : (s k v s' k' v' : ℕ) (l l' r r' : NamedTree) → s ≡ s' → k ≡ k' → v ≡ v' → l ≡ l' → r ≡ r' → Branch s k v l r ≡ Branch s' k' v' l' r'
branch_same s k v s' k' v' l l' r r' a b c d e =
    ap (λ x. Branch x k v l r) a ∙ ap (λ x. Branch s' x v l r) b ∙ ap (λ x. Branch s' k' x l r) c ∙ ap (λ x. Branch s' k' v' x r) d ∙ ap (λ x. Branch s' k' v' l' x) e

pub one_tree : OneTreeLaw
one_tree Null Null once none same = refl
one_tree Null (Branch s k v l r) once none same = absurd (omega (arith, top_count s k v l r, ap (λ ns. count s (tree_slots ns)) same))
one_tree (Branch s k v l r) Null once none same = absurd (omega (arith, top_count s k v l r, ap (λ ns. count s (tree_slots ns)) same))
one_tree (Branch s k v l r) (Branch s' k' v' l' r') once none same =
    let x : TreeNode = record { slot = s; key = k; val = v; left = top_slot l; right = top_slot r } in
    let y : TreeNode = record { slot = s'; key = k'; val = v'; left = top_slot l'; right = top_slot r' } in
    let top : s ≡ s' = one_top (Branch s k v l r) (Branch s' k' v' l' r') none same in
    let cut = cut_once s (tree_nodes l) (tree_nodes r) x y (tree_nodes l') (tree_nodes r') refl (sym top) (once s) same in
    let counts : (j : ℕ) → count j (slots_of (Branch s k v l r)) ≡ count j (slots_of l) + count j (s ∷ slots_of r) =
    λ j. ap (count j) (tree_slots-append (tree_nodes l) (x ∷ tree_nodes r)) ∙ count-append j (slots_of l) (s ∷ slots_of r) in
    branch_same s k v s' k' v' l l' r r' top (ap (λ (n : TreeNode). n.key) cut.item) (ap (λ (n : TreeNode). n.val) cut.item)
    (one_tree l l' (λ j. omega (arith, once j, counts j)) (omega (arith, none, counts 0)) cut.front)
    (one_tree r r' (λ j. omega (arith, once j, counts j)) (omega (arith, none, counts 0)) cut.back)

item_child : (k : ℕ) (ns : List TreeNode) (j : ℕ) (n : TreeNode) → IsItem ns j n → 0 < same_at k n.left + same_at k n.right → 0 < child_count k ns
item_child k [] j n at some = absurd (omega (arith, at.within))
item_child k (x ∷ xs) zero n at some = let here : 0 < same_at k x.left + same_at k x.right = subst (λ (y : TreeNode). 0 < same_at k y.left + same_at k y.right) (sym (at.is x)) some in omega (arith, here)
item_child k (x ∷ xs) (suc j) n at some = omega (arith, item_child k xs j n (record { within = omega (arith, at.within); is = λ d. at.is d }) some)

-- the top and each child is a slot of the tree, where it is not 0
pub record PlacedAt (tree : NamedTree) : Type 0 where
  pub top : 0 < top_slot tree → 0 < count (top_slot tree) (slots_of tree)
  pub left : (j : ℕ) (n : TreeNode) → IsItem (tree_nodes tree) j n → 0 < n.left → 0 < count n.left (slots_of tree)
  pub right : (j : ℕ) (n : TreeNode) → IsItem (tree_nodes tree) j n → 0 < n.right → 0 < count n.right (slots_of tree)

pub placed_at : (tree : NamedTree) → PlacedAt tree
placed_at tree = record {
  top = λ some. omega (arith, placed (top_slot tree) tree some, at_same (top_slot tree));
  left = λ j n at some. omega (arith, placed n.left tree some, item_child n.left (tree_nodes tree) j n at (omega (arith, at_same n.left)));
  right = λ j n at some. omega (arith, placed n.right tree some, item_child n.right (tree_nodes tree) j n at (omega (arith, at_same n.right)));
}
