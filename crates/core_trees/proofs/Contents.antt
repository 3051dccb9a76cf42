-- The contents of a put and of a removal are the map's, and the first pair from a key on.
use Rattle.std.proofs.Common.{◌≡◌, ℕ, ◌+◌, ◌∷◌, ◌++◌, refl, ap, sym, ◌∙◌, arith, append-nil}
use Rattle.key_map.specs.Map.{pair, map_put, map_remove}
use Rattle.core_trees.specs.NamedTree.{NamedTree, Null, Branch, contents, IsWithin}
use Rattle.core_trees.specs.TreeStep.{put_here, remove_here, tree_put, tree_remove, joined, first_pair, without_first}
use Rattle.core_links.proofs.Compare.{compared, less, more, same}
use Rattle.core_trees.proofs.MapSteps.{AllBelow-more, AllFrom-less, map_put-left, map_put-found, map_put-past, map_remove-left, map_remove-found, map_remove-past}
use Rattle.core_trees.proofs.Updates.{update-left, update-right, update-here}
use Rattle.core_trees.proofs.Bounds.{contents-below, contents-from}

pub contents-first : (s k v : ℕ) (l r : NamedTree) → first_pair k v l ∷ contents (without_first (Branch s k v l r)) ≡ contents (Branch s k v l r)
contents-first s k v Null r = refl
contents-first s k v (Branch t c d l' r') r = ap (λ xs. xs ++ pair k v ∷ contents r) (contents-first t c d l' r')

pub contents-joined : (slot : ℕ) (l r : NamedTree) → contents (joined slot l r) ≡ contents l ++ contents r
contents-joined slot Null r = refl
contents-joined slot (Branch s k v l l') Null = sym (append-nil (contents (Branch s k v l l')))
contents-joined slot (Branch s k v l l') (Branch t c d r r') = ap (λ xs. contents (Branch s k v l l') ++ xs) (contents-first t c d r r')

pub contents-put : (slot key val low high : ℕ) (tree : NamedTree) → IsWithin low high tree
    → contents (tree_put slot key val tree) ≡ map_put key val (contents tree)
contents-put slot key val low high Null h = refl
contents-put slot key val low high (Branch s k v l r) h =
    elim (compared key k) [
      | less b ↦ ap contents (update-left key (put_here slot key val) s k v l r b)
          ∙ ap (λ xs. xs ++ pair k v ∷ contents r) (contents-put slot key val low k l h.2)
          ∙ sym (map_put-left key val (pair k v) (contents l) (contents r) b)
      | more b ↦ ap contents (update-right key (put_here slot key val) s k v l r b)
          ∙ ap (λ xs. contents l ++ pair k v ∷ xs) (contents-put slot key val (k + 1) high r h.3)
          ∙ sym (map_put-past key val (pair k v) (contents l) (contents r) (AllBelow-more k key (contents l) (omega arith) (contents-below low k l h.2)) b)
      | same e ↦ ap contents (update-here key (put_here slot key val) s k v l r e)
          ∙ sym (map_put-found key val (pair k v) (contents l) (contents r) (AllBelow-more k key (contents l) (omega arith) (contents-below low k l h.2)) (sym e))
    ]

pub contents-remove : (slot key low high : ℕ) (tree : NamedTree) → IsWithin low high tree
    → contents (tree_remove slot key tree) ≡ map_remove key (contents tree)
contents-remove slot key low high Null h = refl
contents-remove slot key low high (Branch s k v l r) h =
    elim (compared key k) [
      | less b ↦ ap contents (update-left key (remove_here slot) s k v l r b)
          ∙ ap (λ xs. xs ++ pair k v ∷ contents r) (contents-remove slot key low k l h.2)
          ∙ sym (map_remove-left key (contents l) (pair k v ∷ contents r) (omega arith, AllFrom-less (k + 1) (key + 1) (contents r) (omega arith) (contents-from (k + 1) high r h.3)))
      | more b ↦ ap contents (update-right key (remove_here slot) s k v l r b)
          ∙ ap (λ xs. contents l ++ pair k v ∷ xs) (contents-remove slot key (k + 1) high r h.3)
          ∙ sym (map_remove-past key (pair k v) (contents l) (contents r) (AllBelow-more k key (contents l) (omega arith) (contents-below low k l h.2)) b)
      | same e ↦ ap contents (update-here key (remove_here slot) s k v l r e)
          ∙ contents-joined slot l r
          ∙ sym (map_remove-found key (pair k v) (contents l) (contents r) (AllBelow-more k key (contents l) (omega arith) (contents-below low k l h.2)) (sym e))
    ]
