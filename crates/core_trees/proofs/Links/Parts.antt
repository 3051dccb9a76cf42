-- What a link of a spelled tree shows: where the search ends, what is below the node, and what stays outside.
use Rattle.std.proofs.Common.{◌≡◌, ℕ, ◌^◌, ◌<◌, ◌⊎◌, inl, inr, refl, ap, sym, ◌∙◌, subst, arith}
use Rattle.index_words.specs.declared.side.Side.{Side}
use Rattle.index_words.specs.declared.side.Side.TheVariants.{Left, Right}
use Rattle.core_trees.specs.NamedTree.{NamedTree, Null, Branch, IsWithin}
use Rattle.core_trees.specs.TreeStep.{subtree_at}
use Rattle.core_trees.specs.Search.{end_node, end_side, EndsAt}
use Rattle.core_trees.specs.Gaps.{IsBeside, IsBetween, IsGapLink}
use Rattle.core_trees.specs.Slots.{occurs, one_at, NamesOnce}
use Rattle.core_trees.specs.SpelledTree.{Graph, IsSpelled, IsOutside, KeepsOutside}
use Rattle.core_trees.specs.SpelledStep.{end_child, IsNodeOf, SameIn}
use Rattle.core_trees.specs.LinkSteps.{IsTreeAt, IsChildLink, KeepsLinks, IsLink}
use Rattle.core_links.proofs.Compare.{compared, less, more, same}
use Rattle.core_trees.proofs.Gaps.{gap-ends}
use Rattle.core_trees.proofs.Slots.{subtree_tally, one_at-same}
use Rattle.core_trees.proofs.SpelledTree.{end-cases}
use Rattle.core_trees.proofs.SpelledStep.{subtree_law}
use Rattle.core_trees.proofs.Links.Ends.{HangsAt, hangs, clear_node}
use Rattle.core_trees.proofs.Updates.{subtree_at-left, subtree_at-right, subtree_at-here, end_node-left, end_node-right, end_node-here}

pub not_branch : (s k v : ℕ) (l r : NamedTree) → Null ≡ Branch s k v l r → ⊥
not_branch s k v l r e = cc

-- the link at which a search ends is no link of a node of the subtree there
pub end_outside : (key root : ℕ) (tree : NamedTree) → NamesOnce root tree → occurs (end_node key root tree) (subtree_at key tree) ≡ 0
end_outside key root Null once = refl
end_outside key root (Branch s k v l r) once =
    elim (compared key k) as (λ _. occurs (end_node key root (Branch s k v l r)) (subtree_at key (Branch s k v l r)) ≡ 0) [
      | less b ↦ subst (λ n. occurs n (subtree_at key (Branch s k v l r)) ≡ 0) (sym (end_node-left key s k v l r root b))
          (subst (λ t. occurs (end_node key s l) t ≡ 0) (sym (subtree_at-left key s k v l r b)) (end_outside key s l (λ x. omega (arith, once x))))
      | more b ↦ subst (λ n. occurs n (subtree_at key (Branch s k v l r)) ≡ 0) (sym (end_node-right key s k v l r root b))
          (subst (λ t. occurs (end_node key s r) t ≡ 0) (sym (subtree_at-right key s k v l r b)) (end_outside key s r (λ x. omega (arith, once x))))
      | same e ↦ subst (λ n. occurs n (subtree_at key (Branch s k v l r)) ≡ 0) (sym (end_node-here key s k v l r root e))
          (subst (λ t. occurs root t ≡ 0) (sym (subtree_at-here key s k v l r e)) (omega (arith, once root, one_at-same root)))
    ]

-- what stays outside of a subtree, if the only changed link there is the one at which the search ends
pub keeps_outside : (g g' : Graph) (changed : ℕ → Side → Type 0) (key root : ℕ) (top : Side) (tree : NamedTree) → NamesOnce root tree → KeepsLinks g g' changed root tree
    → ((x : ℕ) → IsOutside key root tree x → (w : Side) → changed x w → IsLink (end_node key root tree) (end_side key top tree) x w)
    → KeepsOutside g g' key root top tree
keeps_outside g g' changed key root top tree once keeps only =
    let here : ℕ = end_node key root tree in
    let inside : (x : ℕ) → IsOutside key root tree x → (x ≡ root) ⊎ (0 < occurs x tree)
    = λ x out. elim out as (λ _. (x ≡ root) ⊎ (0 < occurs x tree)) [ inl is ↦ inl is | inr is ↦ inr (omega (arith, is)) ] in
    let out_end : IsOutside key root tree here
    = elim (end-cases key root top tree) as (λ _. IsOutside key root tree here) [ inl is ↦ inl is.0 | inr is ↦ inr (omega (arith, is, end_outside key root tree once)) ] in
    record {
      keys = λ x out. keeps.keys x;
      vals = λ x out. keeps.vals x;
      others = λ x out apart w. keeps.children x (inside x out) w (λ is. apart (only x out w is).0);
      other = λ w apart. keeps.children here (inside here out_end) w (λ is. apart (only here out_end w is).1);
    }

-- the nodes of a part of a tree stay, if none of their links is changed
pub same_in : (g g' : Graph) (changed : ℕ → Side → Type 0) (root : ℕ) (tree part : NamedTree) → KeepsLinks g g' changed root tree
    → ((x : ℕ) → 0 < occurs x part → 0 < occurs x tree) → ((x : ℕ) → 0 < occurs x part → (w : Side) → ¬ changed x w) → SameIn g g' part
same_in g g' changed root tree part keeps inside apart x is = record {
  key = keeps.keys x;
  val = keeps.vals x;
  left = keeps.children x (inr (inside x is)) Left (apart x is Left);
  right = keeps.children x (inr (inside x is)) Right (apart x is Right);
}

-- a tree is null, or is not
pub data Which (tree : NamedTree) : Type 0 where
  is_null : tree ≡ Null → Which tree
  is_branch : (s k v : ℕ) (l r : NamedTree) → tree ≡ Branch s k v l r → Which tree

pub which : (tree : NamedTree) → Which tree
which Null = is_null refl
which (Branch s k v l r) = is_branch s k v l r refl

-- a key in the gap of a link is not in the tree, and the search for it ends there
beside_between : (w : Side) (k key : ℕ) → IsBeside w k key → IsBetween w k key key
beside_between Left k key low = (omega arith, low)
beside_between Right k key high = (high, omega arith)

pub gap_ends : (key node low high root : ℕ) (side top : Side) (tree : NamedTree) → IsWithin low high tree → IsGapLink key node side root top tree
    → EndsAt key node side root top tree × (subtree_at key tree ≡ Null)
gap_ends key node low high root side top Null within gap = ((sym gap.0, sym gap.1), refl)
gap_ends key node low high root side top (Branch s k v l r) within gap = (
  gap-ends node gap.0 key low high root side top (Branch s k v l r) within gap.1 gap.2,
  elim (which (subtree_at key (Branch s k v l r))) as (λ _. subtree_at key (Branch s k v l r) ≡ Null) [
    | is_null is ↦ is
    | is_branch t c d l' r' is ↦ absurd (clear_node side gap.0 key key t c d l' r' (Branch s k v l r) gap.2.1 is (beside_between side gap.0 key gap.2.0))
  ],
)

-- what is known if a link leads to a node
module _ (g : Graph) (root parent node : ℕ) (top side : Side) (tree : NamedTree) (at : IsTreeAt g root top tree) (leads : IsChildLink g root top tree parent side node) where
  abbrev key : ℕ
  key = g.key node

  pub at_link : HangsAt g 0 (2 ^ 64) parent side node root top tree
  at_link = hangs g parent side node leads.some leads.child 0 (2 ^ 64) root top tree at.lawful at.spelled leads.link

  -- what is below the node is in the tree, and the link is no link of it
  pub below_in : (x : ℕ) → 0 < occurs x (subtree_at key tree) → 0 < occurs x tree
  below_in x is = omega (arith, is, subtree_tally (one_at x) key tree)

  pub below_apart : (x : ℕ) → 0 < occurs x (subtree_at key tree) → ¬ (x ≡ parent)
  below_apart x is equal =
      let none : occurs parent (subtree_at key tree) ≡ 0 = subst (λ n. occurs n (subtree_at key tree) ≡ 0) at_link.ends.0 (end_outside key root tree at.once) in
      let here : 0 < occurs parent (subtree_at key tree) = subst (λ n. 0 < occurs n (subtree_at key tree)) equal is in
      omega (arith, none, here)

  pub spelled_below : IsSpelled g (end_child g key root top tree) (Branch node key (g.val node) at_link.left at_link.right)
  spelled_below = subst (IsSpelled g (end_child g key root top tree)) at_link.sub (subtree_law g root key top tree at.spelled)

  -- the child that another graph has at the link
  pub end_is : (h : Graph) (c : ℕ) → h.child side parent ≡ c → end_child h key root top tree ≡ c
  end_is h c is = ap (λ n. h.child (end_side key top tree) n) at_link.ends.0 ∙ ap (λ w. h.child w parent) at_link.ends.1 ∙ is

  pub in_left : (x : ℕ) → 0 < occurs x at_link.left → 0 < occurs x (subtree_at key tree)
  in_left x is = subst (λ t. 0 < occurs x t) (sym at_link.sub) (omega (arith, is))

  pub in_right : (x : ℕ) → 0 < occurs x at_link.right → 0 < occurs x (subtree_at key tree)
  in_right x is = subst (λ t. 0 < occurs x t) (sym at_link.sub) (omega (arith, is))

  -- if only that link is changed
  module _ (g' : Graph) (keeps : KeepsLinks g g' (IsLink parent side) root tree) where
    pub outside : KeepsOutside g g' key root top tree
    outside = keeps_outside g g' (IsLink parent side) key root top tree at.once keeps (λ x out w is. (is.0 ∙ sym at_link.ends.0, is.1 ∙ sym at_link.ends.1))

    pub part_stays : (part : NamedTree) → ((x : ℕ) → 0 < occurs x part → 0 < occurs x (subtree_at key tree)) → SameIn g g' part
    part_stays part inside = same_in g g' (IsLink parent side) root tree part keeps (λ x is. below_in x (inside x is)) (λ x is w c. below_apart x (inside x is) c.0)

-- what hangs at no child is null
pub no_child : (g : Graph) (c : ℕ) (tree : NamedTree) → IsSpelled g c tree → c ≡ 0 → tree ≡ Null
no_child g c Null spelled none = refl
no_child g c (Branch s k v l r) spelled none = absurd (omega (arith, spelled.0, spelled.1, none))

-- the pair of a node, under other names
pub node_as : (g : Graph) (slot k v k' v' l r : ℕ) → k ≡ k' → v ≡ v' → IsNodeOf g slot k v l r → IsNodeOf g slot k' v' l r
node_as g slot k v k' v' l r keys vals is = record { taken = is.taken; key = is.key ∙ keys; val = is.val ∙ vals; left = is.left; right = is.right }

-- what is found at its own key is the top
pub alone : (g : Graph) (s k v : ℕ) (l r b : NamedTree) → subtree_at k (Branch s k v l r) ≡ Branch s k v Null b → l ≡ Null
alone g s k v l r b is = left_of_same s k v l r b (sym (subtree_at-here k s k v l r refl) ∙ is)
  where
    left_of_same : (s k v : ℕ) (l r b : NamedTree) → Branch s k v l r ≡ Branch s k v Null b → l ≡ Null
    left_of_same s k v l r b e = cc
