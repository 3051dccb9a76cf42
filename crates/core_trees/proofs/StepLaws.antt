-- The laws of the tree step, in the forms that the contracts of `put`, `remove` and `first_from` state.
use Rattle.std.proofs.Common.{◌≡◌, ℕ, ◌+◌, ◌^◌, ◌<◌, refl, ap, sym, ◌∙◌, subst, arith}
use Rattle.std.specs.Prelude.{Some}
use Rattle.key_map.specs.Map.{pair, map_put, map_remove, first_from}
use Rattle.core_trees.specs.NamedTree.{NamedTree, Null, Branch, contents, IsWithin, IsLawful}
use Rattle.core_trees.specs.TreeStep.{tree_put, tree_remove}
use Rattle.core_trees.proofs.MapSteps.{AllBelow-more, first_from-right, first_from-left}
use Rattle.core_trees.proofs.Bounds.{contents-below, put-within, remove-within}
use Rattle.core_trees.proofs.Updates.{search_from-left, search_from-right}
use Rattle.core_links.proofs.Compare.{compared, less, more, same}
use Rattle.core_trees.specs.Search.{search_from}
use Rattle.std.specs.Option.{option_or}
use Rattle.core_trees.specs.Gaps.{WidensOtherGaps, WidensGaps}
use Rattle.core_trees.specs.Slots.{MovesSlots, put_takes, remove_takes, remove_brings}
use Rattle.core_trees.proofs.Gaps.{put-widens, remove-widens}
use Rattle.core_trees.proofs.Slots.{put_slots, remove_slots}
use Rattle.std.proofs.Common.{[], ◌∷◌}
use Rattle.core_trees.proofs.Contents.{contents-put, contents-remove}

pub put_contents : (slot key val : ℕ) (tree new : NamedTree) → new ≡ tree_put slot key val tree → IsLawful tree → contents new ≡ map_put key val (contents tree)
put_contents slot key val tree new e h = ap contents e ∙ contents-put slot key val 0 (2 ^ 64) tree h

pub put_lawful : (slot key val : ℕ) (tree new : NamedTree) → new ≡ tree_put slot key val tree → key < 2 ^ 64 → IsLawful tree → IsLawful new
put_lawful slot key val tree new e lt h = subst IsLawful (sym e) (put-within slot key val 0 (2 ^ 64) tree (omega arith) lt h)

pub remove_contents : (slot key : ℕ) (tree new : NamedTree) → new ≡ tree_remove slot key tree → IsLawful tree → contents new ≡ map_remove key (contents tree)
remove_contents slot key tree new e h = ap contents e ∙ contents-remove slot key 0 (2 ^ 64) tree h

pub remove_lawful : (slot key : ℕ) (tree new : NamedTree) → new ≡ tree_remove slot key tree → IsLawful tree → IsLawful new
remove_lawful slot key tree new e h = subst IsLawful (sym e) (remove-within slot key 0 (2 ^ 64) tree h)

-- the first pair from a key on is the one that the search reaches
search-contents : (key low high : ℕ) (tree : NamedTree) → IsWithin low high tree → search_from key tree ≡ first_from key (contents tree)
search-contents key low high Null _ = refl
search-contents key low high (Branch s k v l r) h =
    elim (compared k key) [
      | less b ↦ search_from-right key s k v l r b ∙ search-contents key (k + 1) high r h.3
          ∙ sym (first_from-right key (pair k v) (contents l) (contents r) (AllBelow-more k key (contents l) (omega arith) (contents-below low k l h.2)) b)
      | more b ↦ search_from-left key s k v l r (omega arith) ∙ ap (λ o. option_or o (Some (pair k v))) (search-contents key low k l h.2)
          ∙ sym (first_from-left key (pair k v) (contents l) (contents r) (omega arith))
      | same e ↦ search_from-left key s k v l r (omega arith) ∙ ap (λ o. option_or o (Some (pair k v))) (search-contents key low k l h.2)
          ∙ sym (first_from-left key (pair k v) (contents l) (contents r) (omega arith))
    ]

pub search_contents : (key : ℕ) (tree : NamedTree) → IsLawful tree → search_from key tree ≡ first_from key (contents tree)
search_contents key tree h = search-contents key 0 (2 ^ 64) tree h

pub put_gaps : (slot key val : ℕ) (tree new : NamedTree) → new ≡ tree_put slot key val tree → WidensOtherGaps key tree new
put_gaps slot key val tree new e = subst (WidensOtherGaps key tree) (sym e) (put-widens slot key val tree)

pub remove_gaps : (slot key : ℕ) (tree new : NamedTree) → new ≡ tree_remove slot key tree → WidensGaps tree new
remove_gaps slot key tree new e = subst (WidensGaps tree) (sym e) (remove-widens slot key tree)

pub put_moves : (slot key val : ℕ) (tree new : NamedTree) → new ≡ tree_put slot key val tree → MovesSlots (put_takes key tree) (slot ∷ []) tree new
put_moves slot key val tree new e = subst (MovesSlots (put_takes key tree) (slot ∷ []) tree) (sym e) (put_slots slot key val tree)

pub remove_moves : (slot key : ℕ) (tree new : NamedTree) → new ≡ tree_remove slot key tree → MovesSlots (remove_takes key tree) (remove_brings slot key tree) tree new
remove_moves slot key tree new e = subst (MovesSlots (remove_takes key tree) (remove_brings slot key tree) tree) (sym e) (remove_slots slot key tree)
