-- A node, and a link, of the tree that a pass reads.
use Rattle.std.proofs.Common.{◌≡◌, ℕ, zero, suc, ◌+◌, ◌<◌, ◌⊎◌, inl, inr, List, [], ◌∷◌, ◌++◌, cond, Bool, true, false, eqb, refl, ap, ◌∙◌, sym, subst, arith}
use Rattle.std.proofs.lemmas.Bool.Decides.{nat_tests}
use Rattle.std.proofs.lemmas.List.{map-append}
use Rattle.index_words.specs.declared.side.Side.{Side}
use Rattle.index_words.specs.declared.side.Side.TheVariants.{Left, Right}
use Rattle.index_words.specs.declared.view.View.{View}
use Rattle.index_words.specs.declared.view.reading.TreeNode.{TreeNode}
use Rattle.key_map.specs.Lists.{count, IsItem}
use Rattle.key_map.proofs.Counting.{count-append}
use Rattle.core_grace.specs.Holds.{tree_slots}
use Rattle.core_trees.specs.declared.link.Link.{Link}
use Rattle.core_trees.specs.NamedTree.{NamedTree, Null, Branch}
use Rattle.core_events.specs.Versions.{top_slot, tree_nodes}
use Rattle.core_laws.specs.Found.{LeadsTo, child_on}
use Rattle.link_check.specs.TreeLinks.{IsInTree, IsLinkOfTree, ReadsOn}

own_node : (k : ℕ) (ks : List ℕ) → 0 < count k (k ∷ ks)
own_node k ks = counted k (count k ks)
  where
    counted : (k n : ℕ) → 0 < cond (eqb k k) 1 0 + n
    counted k n = grind (arith, nat_tests)

pub node_on : (v w : View) (k : ℕ) → ReadsOn v w → IsInTree v k → IsInTree w k
node_on v w k on is = subst (λ (ns : List TreeNode). 0 < count k (tree_slots ns)) (sym on.tree) is

pub link_on : (v w : View) (l : Link) → ReadsOn v w → IsLinkOfTree v l → IsLinkOfTree w l
link_on v w l on is =
    subst (λ (ns : List TreeNode). ((l.node ≡ 0) × (l.side ≡ Right)) ⊎ (0 < count l.node (tree_slots ns))) (sym on.tree) is

-- the child of a link of the tree is a node of the tree
top_there : (t : NamedTree) → 0 < top_slot t → 0 < count (top_slot t) (tree_slots (tree_nodes t))
top_there Null some = absurd (omega (arith, some))
top_there (Branch slot key val left right) some =
    let node : TreeNode = record { slot = slot; key = key; val = val; left = top_slot left; right = top_slot right } in
    omega (
      arith,
      ap (count slot) (map-append (λ (n : TreeNode). n.slot) (tree_nodes left) (node ∷ tree_nodes right)),
      count-append slot (tree_slots (tree_nodes left)) (slot ∷ tree_slots (tree_nodes right)),
      own_node slot (tree_slots (tree_nodes right)),
    )

-- an item of two lists one after the other
item_of : {X : Type 0} (xs ys : List X) (i : ℕ) (x : X) → IsItem (xs ++ ys) i x → ((j : ℕ) × IsItem xs j x) ⊎ ((j : ℕ) × IsItem ys j x)
item_of [] ys i x at = inr (i, at)
item_of (y ∷ xs) ys zero x at = inl (0, record { within = omega arith; is = λ d. at.is d })
item_of (y ∷ xs) ys (suc i) x at =
    elim (item_of xs ys i x (record { within = omega (arith, at.within); is = λ d. at.is d })) as (λ _. ((j : ℕ) × IsItem (y ∷ xs) j x) ⊎ ((j : ℕ) × IsItem ys j x)) [
      | inl here ↦ inl (suc here.0, record { within = omega (arith, here.1.within); is = λ d. here.1.is d })
      | inr there ↦ inr there
    ]

more_there : (d slot : ℕ) (left right : NamedTree) (node : TreeNode) → node.slot ≡ slot
    → (0 < count d (tree_slots (tree_nodes left))) ⊎ (0 < count d (tree_slots (tree_nodes right))) → 0 < count d (tree_slots (tree_nodes left ++ node ∷ tree_nodes right))
more_there d slot left right node is there =
    let parts : count d (tree_slots (tree_nodes left ++ node ∷ tree_nodes right)) ≡ count d (tree_slots (tree_nodes left)) + count d (node.slot ∷ tree_slots (tree_nodes right))
    = ap (count d) (map-append (λ (n : TreeNode). n.slot) (tree_nodes left) (node ∷ tree_nodes right)) ∙ count-append d (tree_slots (tree_nodes left)) (node.slot ∷ tree_slots (tree_nodes right)) in
    elim there as (λ _. 0 < count d (tree_slots (tree_nodes left ++ node ∷ tree_nodes right))) [ inl low ↦ omega (arith, low, parts) | inr high ↦ omega (arith, high, parts) ]

child_there : (t : NamedTree) (j : ℕ) (n : TreeNode) (side : Side) → IsItem (tree_nodes t) j n → 0 < child_on side n → 0 < count (child_on side n) (tree_slots (tree_nodes t))
child_there Null j n side at some = absurd (omega (arith, at.within))
child_there (Branch slot key val left right) j n side at some =
    let node : TreeNode = record { slot = slot; key = key; val = val; left = top_slot left; right = top_slot right } in
    elim (item_of (tree_nodes left) (node ∷ tree_nodes right) j n at) as (λ _. 0 < count (child_on side n) (tree_slots (tree_nodes left ++ node ∷ tree_nodes right))) [
      | inl low ↦ more_there (child_on side n) slot left right node refl (inl (child_there left low.0 n side low.1 some))
      | inr rest ↦ by rest.0 rest.1 (λ i is. child_there right i n side is some)
    ]
  where
    here : (s : Side) (x : TreeNode) → x ≡ record { slot = slot; key = key; val = val; left = top_slot left; right = top_slot right } → 0 < child_on s x
        → (0 < count (child_on s x) (tree_slots (tree_nodes left))) ⊎ (0 < count (child_on s x) (tree_slots (tree_nodes right)))
    here Left x is' some' = inl (subst (λ (y : TreeNode). 0 < count y.left (tree_slots (tree_nodes left))) (sym is') (top_there left (subst (λ (y : TreeNode). 0 < y.left) is' some')))
    here Right x is' some' = inr (subst (λ (y : TreeNode). 0 < count y.right (tree_slots (tree_nodes right))) (sym is') (top_there right (subst (λ (y : TreeNode). 0 < y.right) is' some')))

    by : (i : ℕ) → IsItem (record { slot = slot; key = key; val = val; left = top_slot left; right = top_slot right } ∷ tree_nodes right) i n
        → ((i : ℕ) → IsItem (tree_nodes right) i n → 0 < count (child_on side n) (tree_slots (tree_nodes right)))
        → 0 < count (child_on side n) (tree_slots (tree_nodes left ++ record { slot = slot; key = key; val = val; left = top_slot left; right = top_slot right } ∷ tree_nodes right))
    by zero top below =
        more_there (child_on side n) slot left right (record { slot = slot; key = key; val = val; left = top_slot left; right = top_slot right }) refl
        (here side n (sym (top.is n)) some)
    by (suc i) later below =
        more_there (child_on side n) slot left right (record { slot = slot; key = key; val = val; left = top_slot left; right = top_slot right }) refl
        (inr (below i (record { within = omega (arith, later.within); is = λ d. later.is d })))

node_item : (ns : List TreeNode) (k : ℕ) → 0 < count k (tree_slots ns) → (j : ℕ) × (n : TreeNode) × IsItem ns j n × (n.slot ≡ k)
node_item [] k some = absurd (omega (arith, some))
node_item (x ∷ ns) k some = by (eqb x.slot k) refl some (λ more. node_item ns k more)
  where
    same : (a b : ℕ) → eqb a b ≡ true → a ≡ b
    same a b e = grind (arith, nat_tests)

    by : (b : Bool) → eqb x.slot k ≡ b → 0 < cond b 1 0 + count k (tree_slots ns) → (0 < count k (tree_slots ns) → (j : ℕ) × (n : TreeNode) × IsItem ns j n × (n.slot ≡ k))
        → (j : ℕ) × (n : TreeNode) × IsItem (x ∷ ns) j n × (n.slot ≡ k)
    by true e some' rest = (0, x, record { within = omega arith; is = λ d. refl }, same x.slot k e)
    by false e some' rest =
        let below = rest (omega (arith, some')) in
        (suc below.0, below.1, record { within = omega (arith, below.2.within); is = λ d. below.2.is d }, below.3)

pub child_in_tree : (v : View) (tree : NamedTree) (l : Link) (child : ℕ) → v.reading.tree ≡ tree_nodes tree → IsLinkOfTree v l → LeadsTo tree l.node l.side child → 0 < child
    → 0 < count child (tree_slots v.reading.tree)
child_in_tree v tree l child read is leads some =
    subst (λ (ns : List TreeNode). 0 < count child (tree_slots ns)) (sym read)
    (elim is as (λ _. 0 < count child (tree_slots (tree_nodes tree))) [
      | inl root ↦ let top = leads.top root.0 root.1 in subst (λ d. 0 < count d (tree_slots (tree_nodes tree))) (sym top) (top_there tree (subst (λ d. 0 < d) top some))
      | inr there ↦
          let item = node_item (tree_nodes tree) l.node (subst (λ (ns : List TreeNode). 0 < count l.node (tree_slots ns)) read there) in
          let same = leads.below item.0 item.1 item.2 item.3 in
          subst (λ d. 0 < count d (tree_slots (tree_nodes tree))) (sym same) (child_there tree item.0 item.1 l.side item.2 (subst (λ d. 0 < d) same some))
    ])
