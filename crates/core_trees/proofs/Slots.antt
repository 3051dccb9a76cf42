-- Sums over the slots of a tree, at the tree step.
use Rattle.std.proofs.Common.{◌≡◌, ℕ, ◌+◌, ◌≤◌, [], ◌∷◌, refl, ap, sym, subst, arith}
use Rattle.std.specs.Prelude.{sum_by}
use Rattle.std.proofs.lemmas.Bool.{eq-eqb, ne_eqb}
use Rattle.std.proofs.lemmas.List.Sums.{sum_by-cons}
use Rattle.core_trees.specs.NamedTree.{NamedTree, Null, Branch}
use Rattle.core_trees.specs.TreeStep.{subtree_at, update, put_here, remove_here, without_first, tree_put, tree_remove}
use Rattle.core_trees.specs.Slots.{tally, top_slots, first_slots, removed_slots, added_slots, put_takes, remove_takes, remove_brings, MovesSlots, one_at, UpdateTallyLaw}
use Rattle.core_links.proofs.Compare.{compared, less, more, same}
use Rattle.core_trees.proofs.Updates.{update-left, update-right, update-here, subtree_at-left, subtree_at-right, subtree_at-here}

pub update_tally : UpdateTallyLaw
update_tally h key f Null = omega arith
update_tally h key f (Branch s k v l r) =
    elim (compared key k) [
      | less b ↦
          let step : tally h (update key f (Branch s k v l r)) ≡ h s + (tally h (update key f l) + tally h r) = ap (tally h) (update-left key f s k v l r b) in
          let here : subtree_at key (Branch s k v l r) ≡ subtree_at key l = subtree_at-left key s k v l r b in
          subst (λ t. tally h (update key f (Branch s k v l r)) + tally h t ≡ tally h (Branch s k v l r) + tally h (f t)) (sym here)
          (omega (arith, step, update_tally h key f l))
      | more b ↦
          let step : tally h (update key f (Branch s k v l r)) ≡ h s + (tally h l + tally h (update key f r)) = ap (tally h) (update-right key f s k v l r b) in
          let here : subtree_at key (Branch s k v l r) ≡ subtree_at key r = subtree_at-right key s k v l r b in
          subst (λ t. tally h (update key f (Branch s k v l r)) + tally h t ≡ tally h (Branch s k v l r) + tally h (f t)) (sym here)
          (omega (arith, step, update_tally h key f r))
      | same e ↦
          let step : tally h (update key f (Branch s k v l r)) ≡ tally h (f (Branch s k v l r)) = ap (tally h) (update-here key f s k v l r e) in
          let here : subtree_at key (Branch s k v l r) ≡ Branch s k v l r = subtree_at-here key s k v l r e in
          subst (λ t. tally h (update key f (Branch s k v l r)) + tally h t ≡ tally h (Branch s k v l r) + tally h (f t)) (sym here)
          (omega (arith, step))
    ]

-- the subtree is part of the tree
pub subtree_tally : (h : ℕ → ℕ) (key : ℕ) (tree : NamedTree) → tally h (subtree_at key tree) ≤ tally h tree
subtree_tally h key Null = omega arith
subtree_tally h key (Branch s k v l r) =
    elim (compared key k) [
      | less b ↦ subst (λ t. tally h t ≤ tally h (Branch s k v l r)) (sym (subtree_at-left key s k v l r b)) (omega (arith, subtree_tally h key l))
      | more b ↦ subst (λ t. tally h t ≤ tally h (Branch s k v l r)) (sym (subtree_at-right key s k v l r b)) (omega (arith, subtree_tally h key r))
      | same e ↦ subst (λ t. tally h t ≤ tally h (Branch s k v l r)) (sym (subtree_at-here key s k v l r e)) (omega arith)
    ]

put_here-tally : (h : ℕ → ℕ) (slot key val : ℕ) (tree : NamedTree)
    → (tally h (put_here slot key val tree) + sum_by h (top_slots tree) ≡ tally h tree + (h slot + 0)) × (sum_by h (top_slots tree) ≤ tally h tree)
put_here-tally h slot key val Null = (omega arith, omega arith)
put_here-tally h slot key val (Branch s k v l r) = (omega arith, omega arith)

without_first-tally : (h : ℕ → ℕ) (tree : NamedTree) → tally h (without_first tree) + sum_by h (first_slots tree) ≡ tally h tree
without_first-tally h Null = refl
without_first-tally h (Branch s k v Null r) = omega arith
without_first-tally h (Branch s k v (Branch t c d l r') r) =
    let rest : tally h (without_first (Branch t c d l r')) + sum_by h (first_slots (Branch t c d l r')) ≡ tally h (Branch t c d l r') = without_first-tally h (Branch t c d l r') in
    omega (arith, rest)

remove_here-tally : (h : ℕ → ℕ) (slot : ℕ) (tree : NamedTree)
    → (tally h (remove_here slot tree) + sum_by h (removed_slots tree) ≡ tally h tree + sum_by h (added_slots slot tree)) × (sum_by h (removed_slots tree) ≤ tally h tree)
remove_here-tally h slot (Branch s k v (Branch t c d l l') (Branch u e x r r')) =
    let rest : tally h (without_first (Branch u e x r r')) + sum_by h (first_slots (Branch u e x r r')) ≡ tally h (Branch u e x r r') = without_first-tally h (Branch u e x r r') in
    let out : sum_by h (removed_slots (Branch s k v (Branch t c d l l') (Branch u e x r r'))) ≡ h s + sum_by h (first_slots (Branch u e x r r')) = sum_by-cons h s (first_slots (Branch u e x r r')) in
    (omega (arith, rest, out), omega (arith, rest, out))
remove_here-tally h slot _ = (omega arith, omega arith)

pub put_slots : (slot key val : ℕ) (tree : NamedTree) → MovesSlots (put_takes key tree) (slot ∷ []) tree (tree_put slot key val tree)
put_slots slot key val tree h =
    let here : (tally h (put_here slot key val (subtree_at key tree)) + sum_by h (put_takes key tree) ≡ tally h (subtree_at key tree) + (h slot + 0)) × (sum_by h (put_takes key tree) ≤ tally h (subtree_at key tree))
    = put_here-tally h slot key val (subtree_at key tree) in
    (omega (arith, here.0, update_tally h key (put_here slot key val) tree), omega (arith, here.1, subtree_tally h key tree))

pub remove_slots : (slot key : ℕ) (tree : NamedTree) → MovesSlots (remove_takes key tree) (remove_brings slot key tree) tree (tree_remove slot key tree)
remove_slots slot key tree h =
    let here : (tally h (remove_here slot (subtree_at key tree)) + sum_by h (remove_takes key tree) ≡ tally h (subtree_at key tree) + sum_by h (remove_brings slot key tree)) × (sum_by h (remove_takes key tree) ≤ tally h (subtree_at key tree))
    = remove_here-tally h slot (subtree_at key tree) in
    (omega (arith, here.0, update_tally h key (remove_here slot) tree), omega (arith, here.1, subtree_tally h key tree))

-- a slot stands at itself, and nowhere else
pub one_at-same : (x : ℕ) → one_at x x ≡ 1
one_at-same x = rw (eq-eqb x x refl)

pub one_at-other : (x s : ℕ) → ¬ (x ≡ s) → one_at x s ≡ 0
one_at-other x s h = rw (ne_eqb x s h)
