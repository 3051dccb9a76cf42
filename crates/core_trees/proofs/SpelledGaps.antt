-- Null links and gaps of a spelled tree.
use Rattle.std.proofs.Common.{◌≡◌, ℕ, zero, suc, ◌+◌, ◌<◌, ◌⊎◌, inl, inr, ap, ◌∙◌, subst, arith}
use Rattle.index_words.specs.declared.side.Side.{Side}
use Rattle.index_words.specs.declared.side.Side.TheVariants.{Left, Right}
use Rattle.core_trees.specs.NamedTree.{NamedTree, Null, Branch}
use Rattle.core_trees.specs.Gaps.{child_of, IsNull, HasNullLink}
use Rattle.core_trees.specs.Search.{end_side}
use Rattle.core_trees.specs.Slots.{occurs}
use Rattle.core_trees.specs.SpelledTree.{Graph, IsSpelled}
use Rattle.core_trees.specs.SpelledStep.{end_child}
use Rattle.core_trees.specs.SpelledGaps.{NullLinkLaw, StillNullLaw}
use Rattle.core_links.proofs.Compare.{compared, less, more, same}
use Rattle.core_trees.proofs.Gaps.{other_link}
use Rattle.core_trees.proofs.Slots.{one_at-other}
use Rattle.core_trees.proofs.SpelledStep.{put_end_law}

-- what is spelled from no child on is null
null-spelled : (g : Graph) (c : ℕ) (tree : NamedTree) → IsSpelled g c tree → c ≡ 0 → IsNull tree
null-spelled g c Null h e = tt
null-spelled g c (Branch s k v l r) h e = absurd (omega (arith, h.0, h.1))

null-child : (g : Graph) (side : Side) (s : ℕ) (l r : NamedTree) → IsSpelled g (g.child Left s) l → IsSpelled g (g.child Right s) r
    → g.child side s ≡ 0 → IsNull (child_of side l r)
null-child g Left s l r hl hr e = null-spelled g (g.child Left s) l hl e
null-child g Right s l r hl hr e = null-spelled g (g.child Right s) r hr e

-- one of two numbers is above 0 if their sum is
one-above : (a b : ℕ) → 0 < a + b → (0 < a) ⊎ (0 < b)
one-above zero b h = inr (omega (arith, h))
one-above (suc a) b h = inl (omega arith)

pub null_link_law : NullLinkLaw
null_link_law g c node side Null h is none = absurd (omega (arith, is))
null_link_law g c node side (Branch s k v l r) h is none =
    let below : ¬ (node ≡ s) → HasNullLink node (g.key node) side (Branch s k v l r)
    = λ (apart : ¬ (node ≡ s)). elim (one-above (occurs node l) (occurs node r) (omega (arith, is, one_at-other node s apart))) [
      | inl left ↦ inr (inl (null_link_law g (g.child Left s) node side l h.4 left none))
      | inr right ↦ inr (inr (null_link_law g (g.child Right s) node side r h.5 right none))
    ] in
    elim (compared node s) [
      | less b ↦ below (λ e. omega arith)
      | more b ↦ below (λ e. omega arith)
      | same e ↦ inl (e, ap g.key e ∙ h.2, null-child g side s l r h.4 h.5 (subst (λ n. g.child side n ≡ 0) e none))
    ]

pub still_null_law : StillNullLaw
still_null_law g root slot put val node k z top side tree lawful link gap spelled none =
    other_link slot put val node k z root side top tree lawful link gap
    (λ ends.
    let new : (end_child g put root top tree ≡ slot) × (0 < slot) = put_end_law g root slot put val top tree spelled in
    let there : end_child g put root top tree ≡ 0
    = ap (λ n. g.child (end_side put top tree) n) ends.0 ∙ ap (λ w. g.child w node) ends.1 ∙ none in
    absurd (omega (arith, new.0, new.1, there)))
