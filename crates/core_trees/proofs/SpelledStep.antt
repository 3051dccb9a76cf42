-- The laws of the tree step on a spelled tree.
use Rattle.std.proofs.Common.{◌≡◌, ℕ, ◌+◌, ◌<◌, ◌≤◌, refl, ap, sym, ◌∙◌, subst}
use Rattle.index_words.specs.declared.side.Side.{Side}
use Rattle.index_words.specs.declared.side.Side.TheVariants.{Left, Right}
use Rattle.core_trees.specs.NamedTree.{NamedTree, Null, Branch, IsWithin}
use Rattle.core_trees.specs.TreeStep.{update, subtree_at, put_here, remove_here, joined, first_pair, without_first}
use Rattle.core_trees.specs.Search.{end_node, end_side}
use Rattle.core_trees.specs.Slots.{NamesOnce}
use Rattle.core_trees.specs.SpelledTree.{Graph, IsSpelled, KeepsOutside}
use Rattle.core_trees.specs.SpelledStep.{end_child, IsNodeOf, behind_first, SubtreeLaw, UpdateEndLaw, PutEndLaw, GrowLaw, ReplaceLaw, LiftRightLaw, LiftLeftLaw, JoinLaw, UnlinkLaw}
use Rattle.core_links.proofs.Compare.{compared, less, more, same}
use Rattle.core_trees.proofs.Bounds.{first-within}
use Rattle.core_trees.proofs.Updates.{update-left, update-right, update-here, subtree_at-left, subtree_at-right, subtree_at-here, end_node-left, end_node-right, end_node-here, end_side-left, end_side-right, end_side-here}
use Rattle.core_trees.proofs.SpelledTree.{spelled-frame, spelled-swap}

-- a changed subtree that is spelled at one link is spelled at the link at which the search ends, if the two links are
-- the same
along : (g : Graph) (key root root' : ℕ) (top top' : Side) (f : NamedTree → NamedTree) (tree tree' : NamedTree)
    → end_node key root tree ≡ end_node key root' tree' → end_side key top tree ≡ end_side key top' tree'
    → subtree_at key tree ≡ subtree_at key tree'
    → IsSpelled g (end_child g key root' top' tree') (f (subtree_at key tree'))
    → IsSpelled g (end_child g key root top tree) (f (subtree_at key tree))
along g key root root' top top' f tree tree' node side sub h =
    subst (λ n. IsSpelled g (g.child (end_side key top tree) n) (f (subtree_at key tree))) (sym node)
    (subst (λ w. IsSpelled g (g.child w (end_node key root' tree')) (f (subtree_at key tree))) (sym side)
    (subst (λ t. IsSpelled g (end_child g key root' top' tree') (f t)) (sym sub) h))

pub update_end_law : UpdateEndLaw
update_end_law g root key top f Null h = h
update_end_law g root key top f (Branch s k v l r) h =
    elim (compared key k) [
      | less b ↦
          let changed : IsSpelled g (g.child top root) (Branch s k v (update key f l) r)
          = subst (IsSpelled g (g.child top root)) (update-left key f s k v l r b) h in
          along g key root s top Left f (Branch s k v l r) l (end_node-left key s k v l r root b) (end_side-left key s k v l r top b)
          (subtree_at-left key s k v l r b) (update_end_law g s key Left f l changed.4)
      | more b ↦
          let changed : IsSpelled g (g.child top root) (Branch s k v l (update key f r))
          = subst (IsSpelled g (g.child top root)) (update-right key f s k v l r b) h in
          along g key root s top Right f (Branch s k v l r) r (end_node-right key s k v l r root b) (end_side-right key s k v l r top b)
          (subtree_at-right key s k v l r b) (update_end_law g s key Right f r changed.5)
      | same e ↦
          subst (λ n. IsSpelled g (g.child (end_side key top (Branch s k v l r)) n) (f (subtree_at key (Branch s k v l r)))) (sym (end_node-here key s k v l r root e))
          (subst (λ w. IsSpelled g (g.child w root) (f (subtree_at key (Branch s k v l r)))) (sym (end_side-here key s k v l r top e))
          (subst (λ t. IsSpelled g (g.child top root) (f t)) (sym (subtree_at-here key s k v l r e))
          (subst (IsSpelled g (g.child top root)) (update-here key f s k v l r e) h)))
    ]

-- an update that changes nothing leaves the tree
update-same : (key : ℕ) (tree : NamedTree) → update key (λ t. t) tree ≡ tree
update-same key Null = refl
update-same key (Branch s k v l r) =
    elim (compared key k) [
      | less b ↦ update-left key (λ t. t) s k v l r b ∙ ap (λ t. Branch s k v t r) (update-same key l)
      | more b ↦ update-right key (λ t. t) s k v l r b ∙ ap (λ t. Branch s k v l t) (update-same key r)
      | same e ↦ update-here key (λ t. t) s k v l r e
    ]

pub subtree_law : SubtreeLaw
subtree_law g root key top tree h =
    update_end_law g root key top (λ t. t) tree (subst (IsSpelled g (g.child top root)) (sym (update-same key tree)) h)

-- the top of a put at the end of its search is the new node
put-top : (g : Graph) (c slot key val : ℕ) (tree : NamedTree) → IsSpelled g c (put_here slot key val tree) → (c ≡ slot) × (0 < slot)
put-top g c slot key val Null h = (h.0, h.1)
put-top g c slot key val (Branch s k v l r) h = (h.0, h.1)

pub put_end_law : PutEndLaw
put_end_law g root slot key val top tree h =
    put-top g (end_child g key root top tree) slot key val (subtree_at key tree) (update_end_law g root key top (put_here slot key val) tree h)

-- the swap, if it is known what the subtree is
swapped : (g g' : Graph) (root key : ℕ) (top : Side) (f : NamedTree → NamedTree) (tree sub : NamedTree) → NamesOnce root tree
    → IsSpelled g (g.child top root) tree → KeepsOutside g g' key root top tree → subtree_at key tree ≡ sub
    → IsSpelled g' (end_child g' key root top tree) (f sub) → IsSpelled g' (g'.child top root) (update key f tree)
swapped g g' root key top f tree sub once spelled kept e new =
    spelled-swap g g' root key top f tree once spelled kept (subst (λ t. IsSpelled g' (end_child g' key root top tree) (f t)) (sym e) new)

-- the old subtree, spelled at its link
old : (g : Graph) (root key : ℕ) (top : Side) (tree sub : NamedTree) → IsSpelled g (g.child top root) tree → subtree_at key tree ≡ sub
    → IsSpelled g (end_child g key root top tree) sub
old g root key top tree sub spelled e = subst (IsSpelled g (end_child g key root top tree)) e (subtree_law g root key top tree spelled)

-- a node with two spelled children
made : (g : Graph) (c slot key val left right : ℕ) (l r : NamedTree) → c ≡ slot → IsNodeOf g slot key val left right
    → IsSpelled g left l → IsSpelled g right r → IsSpelled g c (Branch slot key val l r)
made g c slot key val left right l r e node hl hr =
    (e, node.taken, node.key, node.val, subst (λ x. IsSpelled g x l) (sym node.left) hl, subst (λ x. IsSpelled g x r) (sym node.right) hr)

pub grow_law : GrowLaw
grow_law g g' root slot key val top tree once spelled kept sub node link =
    swapped g g' root key top (put_here slot key val) tree Null once spelled kept sub
    (made g' (end_child g' key root top tree) slot key val 0 0 Null Null link node refl refl)

pub replace_law : ReplaceLaw
replace_law g g' root slot key val s k v top l r tree once spelled kept sub same_l same_r node link =
    let was : IsSpelled g (end_child g key root top tree) (Branch s k v l r) = old g root key top tree (Branch s k v l r) spelled sub in
    swapped g g' root key top (put_here slot key val) tree (Branch s k v l r) once spelled kept sub
    (made g' (end_child g' key root top tree) slot key val (g.child Left s) (g.child Right s) l r link node
    (spelled-frame g g' (g.child Left s) l same_l was.4) (spelled-frame g g' (g.child Right s) r same_r was.5))

pub lift_right_law : LiftRightLaw
lift_right_law g g' root slot key s k v top r tree once spelled kept sub same_r link =
    let was : IsSpelled g (end_child g key root top tree) (Branch s k v Null r) = old g root key top tree (Branch s k v Null r) spelled sub in
    swapped g g' root key top (remove_here slot) tree (Branch s k v Null r) once spelled kept sub
    (subst (λ c. IsSpelled g' c r) (sym link) (spelled-frame g g' (g.child Right s) r same_r was.5))

-- without a right child the left tree takes the place of the node
joined-left : (slot : ℕ) (l : NamedTree) → joined slot l Null ≡ l
joined-left slot Null = refl
joined-left slot (Branch s k v l r) = refl

pub lift_left_law : LiftLeftLaw
lift_left_law g g' root slot key s k v top l tree once spelled kept sub same_l link =
    let was : IsSpelled g (end_child g key root top tree) (Branch s k v l Null) = old g root key top tree (Branch s k v l Null) spelled sub in
    swapped g g' root key top (remove_here slot) tree (Branch s k v l Null) once spelled kept sub
    (subst (IsSpelled g' (end_child g' key root top tree)) (sym (joined-left slot l))
    (subst (λ c. IsSpelled g' c l) (sym link) (spelled-frame g g' (g.child Left s) l same_l was.4)))

pub join_law : JoinLaw
join_law g g' root slot key s k v ls lk lv rs rk rv c top ll lr rl rr tree once spelled kept sub same_l node rest link =
    let was : IsSpelled g (end_child g key root top tree) (Branch s k v (Branch ls lk lv ll lr) (Branch rs rk rv rl rr))
    = old g root key top tree (Branch s k v (Branch ls lk lv ll lr) (Branch rs rk rv rl rr)) spelled sub in
    swapped g g' root key top (remove_here slot) tree (Branch s k v (Branch ls lk lv ll lr) (Branch rs rk rv rl rr)) once spelled kept sub
    (made g' (end_child g' key root top tree) slot (first_pair rk rv rl).key (first_pair rk rv rl).val (g.child Left s) c
    (Branch ls lk lv ll lr) (without_first (Branch rs rk rv rl rr)) link node
    (spelled-frame g g' (g.child Left s) (Branch ls lk lv ll lr) same_l was.4) rest)

-- removing the first node is removing its key
first-removed : (low high s k v : ℕ) (l r : NamedTree) → IsWithin low high (Branch s k v l r)
    → update (first_pair k v l).key (remove_here 0) (Branch s k v l r) ≡ without_first (Branch s k v l r)
first-removed low high s k v Null r h = update-here k (remove_here 0) s k v Null r refl
first-removed low high s k v (Branch t c d l' r') r h =
    let first : (low ≤ (first_pair c d l').key) × ((first_pair c d l').key < k) × IsWithin ((first_pair c d l').key + 1) k (without_first (Branch t c d l' r'))
    = first-within low k t c d l' r' h.2 in
    update-left (first_pair c d l').key (remove_here 0) s k v (Branch t c d l' r') r first.1
    ∙ ap (λ t. Branch s k v t r) (first-removed low k t c d l' r' h.2)

first-behind : (low high s k v : ℕ) (l r : NamedTree) → IsWithin low high (Branch s k v l r)
    → remove_here 0 (subtree_at (first_pair k v l).key (Branch s k v l r)) ≡ behind_first (Branch s k v l r)
first-behind low high s k v Null r h = ap (remove_here 0) (subtree_at-here k s k v Null r refl)
first-behind low high s k v (Branch t c d l' r') r h =
    let first : (low ≤ (first_pair c d l').key) × ((first_pair c d l').key < k) × IsWithin ((first_pair c d l').key + 1) k (without_first (Branch t c d l' r'))
    = first-within low k t c d l' r' h.2 in
    ap (remove_here 0) (subtree_at-left (first_pair c d l').key s k v (Branch t c d l' r') r first.1)
    ∙ first-behind low k t c d l' r' h.2

pub unlink_law : UnlinkLaw
unlink_law g g' root low high s k v top l r within once spelled kept new =
    subst (IsSpelled g' (g'.child top root)) (first-removed low high s k v l r within)
    (spelled-swap g g' root (first_pair k v l).key top (remove_here 0) (Branch s k v l r) once spelled kept
    (subst (IsSpelled g' (end_child g' (first_pair k v l).key root top (Branch s k v l r))) (sym (first-behind low high s k v l r within)) new))
