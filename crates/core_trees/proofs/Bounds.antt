-- The bounds of a lawful tree, and that the tree step keeps them.
use Rattle.std.proofs.Common.{ℕ, ◌+◌, ◌<◌, ◌≤◌, sym, subst, arith}
use Rattle.core_trees.specs.NamedTree.{NamedTree, Null, Branch, contents, IsWithin}
use Rattle.core_trees.specs.TreeStep.{put_here, remove_here, tree_put, tree_remove, joined, first_pair, without_first}
use Rattle.core_links.proofs.Compare.{compared, less, more, same}
use Rattle.core_trees.proofs.MapSteps.{AllBelow, AllFrom, AllBelow-append, AllFrom-append, AllBelow-more, AllFrom-less}
use Rattle.core_trees.proofs.Updates.{update-left, update-right, update-here}

pub IsWithin-wider : (low high lower higher : ℕ) (tree : NamedTree) → lower ≤ low → high ≤ higher → IsWithin low high tree → IsWithin lower higher tree
IsWithin-wider low high lower higher Null _ _ _ = tt
IsWithin-wider low high lower higher (Branch s k v l r) le ge h =
    (omega (arith, h.0), omega (arith, h.1), IsWithin-wider low k lower k l le (omega arith) h.2, IsWithin-wider (k + 1) high (k + 1) higher r (omega arith) ge h.3)

pub contents-below : (low high : ℕ) (tree : NamedTree) → IsWithin low high tree → AllBelow high (contents tree)
contents-below low high Null _ = tt
contents-below low high (Branch s k v l r) h =
    AllBelow-append high (contents l) _ (AllBelow-more k high (contents l) (omega (arith, h.1)) (contents-below low k l h.2))
    (h.1, contents-below (k + 1) high r h.3)

pub contents-from : (low high : ℕ) (tree : NamedTree) → IsWithin low high tree → AllFrom low (contents tree)
contents-from low high Null _ = tt
contents-from low high (Branch s k v l r) h =
    AllFrom-append low (contents l) _ (contents-from low k l h.2)
    (h.0, AllFrom-less (k + 1) low (contents r) (omega (arith, h.0)) (contents-from (k + 1) high r h.3))

-- the first node's key, and what is left
pub first-within : (low high s k v : ℕ) (l r : NamedTree) → IsWithin low high (Branch s k v l r)
    → (low ≤ (first_pair k v l).key) × ((first_pair k v l).key < high) × IsWithin ((first_pair k v l).key + 1) high (without_first (Branch s k v l r))
first-within low high s k v Null r h = (h.0, h.1, h.3)
first-within low high s k v (Branch t c d l' r') r h =
    let first : (low ≤ (first_pair c d l').key) × ((first_pair c d l').key < k) × IsWithin ((first_pair c d l').key + 1) k (without_first (Branch t c d l' r'))
    = first-within low k t c d l' r' h.2 in
    (first.0, omega (arith, first.1, h.1), (omega (arith, first.1), h.1, first.2, h.3))

pub joined-within : (slot low key high : ℕ) (l r : NamedTree) → low ≤ key → key < high → IsWithin low key l → IsWithin (key + 1) high r
    → IsWithin low high (joined slot l r)
joined-within slot low key high Null r le lt hl hr = IsWithin-wider (key + 1) high low high r (omega arith) (omega arith) hr
joined-within slot low key high (Branch s k v l l') Null le lt hl hr = IsWithin-wider low key low high (Branch s k v l l') (omega arith) (omega arith) hl
joined-within slot low key high (Branch s k v l l') (Branch t c d r r') le lt hl hr =
    let first : (key + 1 ≤ (first_pair c d r).key) × ((first_pair c d r).key < high) × IsWithin ((first_pair c d r).key + 1) high (without_first (Branch t c d r r'))
    = first-within (key + 1) high t c d r r' hr in
    (omega (arith, first.0), first.1, IsWithin-wider low key low (first_pair c d r).key (Branch s k v l l') (omega arith) (omega (arith, first.0)) hl, first.2)

pub put-within : (slot key val low high : ℕ) (tree : NamedTree) → low ≤ key → key < high → IsWithin low high tree → IsWithin low high (tree_put slot key val tree)
put-within slot key val low high Null le lt _ = (le, lt, tt, tt)
put-within slot key val low high (Branch s k v l r) le lt h =
    elim (compared key k) [
      | less b ↦ subst (IsWithin low high) (sym (update-left key (put_here slot key val) s k v l r b)) (h.0, h.1, put-within slot key val low k l le b h.2, h.3)
      | more b ↦ subst (IsWithin low high) (sym (update-right key (put_here slot key val) s k v l r b)) (h.0, h.1, h.2, put-within slot key val (k + 1) high r (omega arith) lt h.3)
      | same e ↦ subst (IsWithin low high) (sym (update-here key (put_here slot key val) s k v l r e))
          (le, lt, subst (λ x. IsWithin low x l) (sym e) h.2, subst (λ x. IsWithin (x + 1) high r) (sym e) h.3)
    ]

pub remove-within : (slot key low high : ℕ) (tree : NamedTree) → IsWithin low high tree → IsWithin low high (tree_remove slot key tree)
remove-within slot key low high Null _ = tt
remove-within slot key low high (Branch s k v l r) h =
    elim (compared key k) [
      | less b ↦ subst (IsWithin low high) (sym (update-left key (remove_here slot) s k v l r b)) (h.0, h.1, remove-within slot key low k l h.2, h.3)
      | more b ↦ subst (IsWithin low high) (sym (update-right key (remove_here slot) s k v l r b)) (h.0, h.1, h.2, remove-within slot key (k + 1) high r h.3)
      | same e ↦ subst (IsWithin low high) (sym (update-here key (remove_here slot) s k v l r e)) (joined-within slot low k high l r h.0 h.1 h.2 h.3)
    ]
