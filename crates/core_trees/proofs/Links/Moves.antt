-- What each step takes out, and what it brings in, by links.
use Rattle.std.proofs.Common.{◌≡◌, ℕ, ◌^◌, ◌<◌, inl, inr, List, [], ◌∷◌, refl, ap, sym, ◌∙◌, subst, arith}
use Rattle.index_words.specs.declared.side.Side.{Side}
use Rattle.index_words.specs.declared.side.Side.TheVariants.{Left, Right}
use Rattle.core_trees.specs.NamedTree.{NamedTree, Null, Branch, IsLawful}
use Rattle.core_trees.specs.Gaps.{IsGapLink}
use Rattle.core_trees.specs.Slots.{top_slots, removed_slots, added_slots, put_takes, remove_takes, remove_brings}
use Rattle.core_trees.specs.SpelledTree.{Graph, IsSpelled}
use Rattle.core_trees.specs.LinkSteps.{IsOtherChild, IsTreeAt, IsChildLink, IsNext}
use Rattle.core_trees.proofs.Links.Ends.{HangsAt}
use Rattle.core_trees.proofs.Links.Parts.{Which, is_null, is_branch, which, gap_ends, at_link, spelled_below, no_child}
use Rattle.core_trees.proofs.Links.Next.{next_is}

-- what each step takes out, and what it brings in
pub grow_takes : (key node root : ℕ) (side top : Side) (tree : NamedTree) → IsLawful tree → IsGapLink key node side root top tree → put_takes key tree ≡ []
grow_takes key node root side top tree lawful gap = ap top_slots (gap_ends key node 0 (2 ^ 64) root side top tree lawful gap).1

module _ (g : Graph) (root parent node : ℕ) (top side : Side) (tree : NamedTree) (at : IsTreeAt g root top tree) (leads : IsChildLink g root top tree parent side node) where
  abbrev f : HangsAt g 0 (2 ^ 64) parent side node root top tree
  f = at_link g root parent node top side tree at leads

  pub replace_takes : put_takes (g.key node) tree ≡ node ∷ []
  replace_takes = ap top_slots f.sub

  abbrev Moves : ℕ → NamedTree → NamedTree → List ℕ → List ℕ → Type 0
  Moves slot l r out brought = (removed_slots (Branch node (g.key node) (g.val node) l r) ≡ out) × (added_slots slot (Branch node (g.key node) (g.val node) l r) ≡ brought)

  moves_there : (slot : ℕ) (out brought : List ℕ) → Moves slot f.left f.right out brought
      → (remove_takes (g.key node) tree ≡ out) × (remove_brings slot (g.key node) tree ≡ brought)
  moves_there slot out brought moves = (ap removed_slots f.sub ∙ moves.0, ap (added_slots slot) f.sub ∙ moves.1)

  right_none : (slot : ℕ) (l : NamedTree) → Moves slot l Null (node ∷ []) []
  right_none slot Null = (refl, refl)
  right_none slot (Branch s k v l r) = (refl, refl)

  pub lift_moves : (slot child : ℕ) → IsOtherChild g node child → (remove_takes (g.key node) tree ≡ node ∷ []) × (remove_brings slot (g.key node) tree ≡ [])
  lift_moves slot child (inl one) =
      let below = spelled_below g root parent node top side tree at leads in
      let none : f.left ≡ Null = no_child g (g.child Left node) f.left below.4 one.0 in
      moves_there slot (node ∷ []) [] (subst (λ l. Moves slot l f.right (node ∷ []) []) (sym none) (refl, refl))
  lift_moves slot child (inr one) =
      let below = spelled_below g root parent node top side tree at leads in
      let none : f.right ≡ Null = no_child g (g.child Right node) f.right below.5 one.0 in
      moves_there slot (node ∷ []) [] (subst (λ r. Moves slot f.left r (node ∷ []) []) (sym none) (right_none slot f.left))

  pub join_moves : (slot below next : ℕ) (turn : Side) → 0 < g.child Left node → 0 < g.child Right node → IsNext g root top tree node below turn next
      → (remove_takes (g.key node) tree ≡ node ∷ next ∷ []) × (remove_brings slot (g.key node) tree ≡ slot ∷ [])
  join_moves slot below next turn left right goes = moves_there slot (node ∷ next ∷ []) (slot ∷ []) (by (which f.left) (which f.right))
    where
      by : Which f.left → Which f.right → Moves slot f.left f.right (node ∷ next ∷ []) (slot ∷ [])
      by (is_null none) whole = absurd (omega (arith, left, subst (IsSpelled g (g.child Left node)) none (spelled_below g root parent node top side tree at leads).4))
      by (is_branch ls lk lv ll lr some) (is_null none) = absurd (omega (arith, right, subst (IsSpelled g (g.child Right node)) none (spelled_below g root parent node top side tree at leads).5))
      by (is_branch ls lk lv ll lr some) (is_branch rs rk rv rl rr is) =
          let first = next_is g root parent node below next top side turn tree at leads goes rs rk rv rl rr is in
          subst (λ l. Moves slot l f.right (node ∷ next ∷ []) (slot ∷ [])) (sym some)
          (subst (λ r. Moves slot (Branch ls lk lv ll lr) r (node ∷ next ∷ []) (slot ∷ [])) (sym is) (ap (λ ks. node ∷ ks) first.slots, refl))
