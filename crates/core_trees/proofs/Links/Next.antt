-- The node after another one is the first node of that one's right tree.
use Rattle.std.proofs.Common.{◌≡◌, ℕ, ◌+◌, ◌^◌, ◌<◌, ◌≤◌, [], ◌∷◌, ap, sym, ◌∙◌, subst, arith}
use Rattle.index_words.specs.declared.side.Side.{Side}
use Rattle.index_words.specs.declared.side.Side.TheVariants.{Left, Right}
use Rattle.core_trees.specs.NamedTree.{NamedTree, Null, Branch, IsWithin}
use Rattle.core_trees.specs.TreeStep.{subtree_at, first_pair}
use Rattle.core_trees.specs.Search.{end_node, end_side, EndsAt}
use Rattle.core_trees.specs.Gaps.{IsGapLink}
use Rattle.core_trees.specs.Slots.{first_slots}
use Rattle.core_trees.specs.SpelledTree.{Graph}
use Rattle.core_trees.specs.SpelledStep.{behind_first}
use Rattle.core_trees.specs.LinkSteps.{IsTreeAt, IsChildLink, IsNext}
use Rattle.core_links.proofs.Compare.{compared, less, more, same}
use Rattle.core_trees.proofs.Bounds.{first-within}
use Rattle.core_trees.proofs.Links.Ends.{HangsAt, Through, through, IsFirst, first_is, clear_node}
use Rattle.core_trees.proofs.Updates.{subtree_at-right, end_node-right, end_side-right}
use Rattle.core_trees.proofs.Links.Parts.{not_branch, at_link}

-- the next node is the first one of the right tree
pub record NextIs (g : Graph) (next s k v : ℕ) (l r : NamedTree) : Type 0 where
  pub slots : first_slots (Branch s k v l r) ≡ next ∷ []
  pub key : (first_pair k v l).key ≡ g.key next
  pub val : (first_pair k v l).val ≡ g.val next
  pub found : subtree_at (g.key next) (Branch s k v l r) ≡ Branch next (g.key next) (g.val next) Null (behind_first (Branch s k v l r))

gap_apart : (x node root s k v : ℕ) (top : Side) (l r tree : NamedTree) → IsGapLink x node Left root top tree → ¬ (subtree_at x tree ≡ Branch s k v l r)
gap_apart x node root s k v top l r Null gap = not_branch s k v l r
gap_apart x node root s k v top l r (Branch t c d l' r') gap = λ is. clear_node Left gap.0 x x s k v l r (Branch t c d l' r') gap.2.1 is (omega arith, gap.2.0)

slot_of_top : (s k v s' k' v' : ℕ) (l r l' r' : NamedTree) → Branch s k v l r ≡ Branch s' k' v' l' r' → (s ≡ s') × (v ≡ v')
slot_of_top s k v s' k' v' l r l' r' e = (cc, cc)

module _ (g : Graph) (root parent node below next : ℕ) (top side turn : Side) (tree : NamedTree) (at : IsTreeAt g root top tree) (leads : IsChildLink g root top tree parent side node)
    (goes : IsNext g root top tree node below turn next) where
  abbrev low : ℕ
  low = g.key node

  abbrev here : HangsAt g 0 (2 ^ 64) parent side node root top tree
  here = at_link g root parent node top side tree at leads

  abbrev next_at : HangsAt g 0 (2 ^ 64) below turn next root top tree
  next_at = at_link g root below next top turn tree at goes.at

  pub bounds : Through 0 (2 ^ 64) low root top tree
  bounds = through 0 (2 ^ 64) low root top tree at.lawful

  within_node : IsWithin bounds.low' bounds.high' (Branch node low (g.val node) here.left here.right)
  within_node = subst (IsWithin bounds.low' bounds.high') here.sub bounds.within

  -- a search for a greater key within the bounds goes through the right tree
  goes_right : (x : ℕ) → low < x → x < bounds.high' → subtree_at x tree ≡ subtree_at x here.right
  goes_right x above high =
      bounds.sub x (omega (arith, above, within_node.0)) high ∙ ap (subtree_at x) here.sub
      ∙ subtree_at-right x node low (g.val node) here.left here.right above

  ends_right : (x : ℕ) → low < x → x < bounds.high' → EndsAt x (end_node x node here.right) (end_side x Right here.right) root top tree
  ends_right x above high =
      let from : bounds.low' ≤ x = omega (arith, above, within_node.0) in (
        bounds.node x from high ∙ ap (end_node x (end_node low root tree)) here.sub
            ∙ end_node-right x node low (g.val node) here.left here.right (end_node low root tree) above,
        bounds.side x from high ∙ ap (end_side x (end_side low top tree)) here.sub
            ∙ end_side-right x node low (g.val node) here.left here.right (end_side low top tree) above,
      )

  module _ (s k v : ℕ) (l r : NamedTree) (is : here.right ≡ Branch s k v l r) where
    abbrev first_key : ℕ
    first_key = (first_pair k v l).key

    pub within_right : IsWithin (low + 1) bounds.high' (Branch s k v l r)
    within_right = subst (IsWithin (low + 1) bounds.high') is within_node.3

    first_bounds : (low + 1 ≤ first_key) × (first_key < bounds.high')
    first_bounds = let b = first-within (low + 1) bounds.high' s k v l r within_right in (b.0, b.1)

    first : IsFirst (low + 1) s k v l r
    first = first_is (low + 1) bounds.high' s k v l r within_right

    first_found : subtree_at first_key tree ≡ Branch first.slot first_key (first_pair k v l).val Null (behind_first (Branch s k v l r))
    first_found = goes_right first_key (omega (arith, first_bounds.0)) first_bounds.1 ∙ ap (subtree_at first_key) is ∙ first.found

    next_key : first_key ≡ g.key next
    next_key =
        elim (compared first_key (g.key next)) as (λ _. first_key ≡ g.key next) [
          | less b ↦ absurd (gap_apart first_key next root first.slot first_key (first_pair k v l).val top Null (behind_first (Branch s k v l r)) tree
              (goes.gap first_key (omega (arith, first_bounds.0)) b) first_found)
          | more b ↦
              let none : subtree_at (g.key next) tree ≡ Null
              = goes_right (g.key next) goes.above (omega (arith, b, first_bounds.1)) ∙ ap (subtree_at (g.key next)) is ∙ first.before (g.key next) (omega (arith, goes.above)) b in
              absurd (not_branch next (g.key next) (g.val next) next_at.left next_at.right (sym none ∙ next_at.sub))
          | same e ↦ e
        ]

    same_top : (first.slot ≡ next) × ((first_pair k v l).val ≡ g.val next)
    same_top =
        slot_of_top first.slot first_key (first_pair k v l).val next (g.key next) (g.val next) Null (behind_first (Branch s k v l r)) next_at.left next_at.right
        (sym first_found ∙ ap (λ x. subtree_at x tree) next_key ∙ next_at.sub)

    pub next_is : NextIs g next s k v l r
    next_is = record {
      slots = first.slots ∙ ap (λ x. x ∷ []) same_top.0;
      key = next_key;
      val = same_top.1;
      found = ap (λ x. subtree_at x (Branch s k v l r)) (sym next_key) ∙ first.found
          ∙ ap (λ x. Branch x first_key (first_pair k v l).val Null (behind_first (Branch s k v l r))) same_top.0
          ∙ ap (λ x. Branch next x (first_pair k v l).val Null (behind_first (Branch s k v l r))) next_key
          ∙ ap (λ x. Branch next (g.key next) x Null (behind_first (Branch s k v l r))) same_top.1;
    }

    -- in the right tree too the search for the next node's key ends at the link to it
    pub next_ends : EndsAt (g.key next) below turn node Right here.right
    next_ends =
        let ends = ends_right (g.key next) goes.above (omega (arith, next_key, first_bounds.1)) in
        (sym ends.0 ∙ next_at.ends.0, sym ends.1 ∙ next_at.ends.1)
