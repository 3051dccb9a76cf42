-- What the tests of a raise find of listed entries, of a new node's heads, and of the node at a link.
use Rattle.std.proofs.Common.{◌≡◌, ℕ, ◌<◌, ◌⊎◌, inl, inr, cond, [], ◌∷◌, Bool, true, false, not, eqb, ◌||◌, refl, ap, ◌∙◌, arith}
use Rattle.std.proofs.lemmas.Bool.{eq-eqb}
use Rattle.std.proofs.lemmas.Bool.Decides.{nat_tests, eqb_tells}
use Rattle.index_words.specs.declared.side.Side.{Side}
use Rattle.key_map.specs.Lists.{count}
use Rattle.core_trees.specs.NamedTree.{NamedTree}
use Rattle.core_trees.specs.TreeStep.{subtree_at}
use Rattle.core_trees.specs.SpelledTree.{Graph}
use Rattle.core_trees.specs.LinkSteps.{IsTreeAt, IsChildLink}
use Rattle.core_trees.proofs.Links.Parts.{at_link}
use Rattle.core_events.specs.TreeMoves.{is_branch}
use Rattle.core_events.specs.UpdateMoves.{listed_entry}
use Rattle.core_invariant.proofs.TreeSteps.{count-listed}

-- a listed entry is the one that is listed
pub entry_is : (x e : ℕ) → 0 < count x (listed_entry e) → e ≡ x
entry_is x e some = by x e (omega (arith, some, count-listed x e))
  where
    by : (x e : ℕ) → 0 < cond (eqb e 0) 0 (cond (eqb e x) 1 0) → e ≡ x
    by x e some = grind (arith, nat_tests)

pub no_entry : (x : ℕ) → 0 < count x (listed_entry 0) → ⊥
no_entry x some = omega (arith, some)

-- one of two numbers
pub of_two : (x a b : ℕ) → 0 < count x (a ∷ b ∷ []) → (a ≡ x) ⊎ (b ≡ x)
of_two x a b some =
    elim (eqb_tells a x) as (λ _. (a ≡ x) ⊎ (b ≡ x)) [
      | inl is ↦ inl is.1
      | inr other ↦ inr (by x a b other.0 some)
    ]
  where
    by : (x a b : ℕ) → eqb a x ≡ false → 0 < count x (a ∷ b ∷ []) → b ≡ x
    by x a b other some = grind (arith, nat_tests)

-- the heads of a new node's bundles are different, or none
pub heads_apart : (a b : ℕ) → (a ≡ b → a ≡ 0) → (eqb a 0 || not (eqb a b)) ≡ true
heads_apart a b apart =
    elim (eqb_tells a b) as (λ _. (eqb a 0 || not (eqb a b)) ≡ true) [
      | inl equal ↦ ap (λ c. c || not (eqb a b)) (eq-eqb a 0 (apart equal.1))
      | inr other ↦ ap (λ c. eqb a 0 || not c) other.0 ∙ or_last (eqb a 0)
    ]
  where
    or_last : (c : Bool) → (c || true) ≡ true
    or_last true = refl
    or_last false = refl

-- a link that leads to a node leads to a node of the tree
pub found_there : (g : Graph) (root parent node : ℕ) (top side : Side) (tree : NamedTree) → IsTreeAt g root top tree → IsChildLink g root top tree parent side node
    → is_branch (subtree_at (g.key node) tree) ≡ true
found_there g root parent node top side tree at leads = ap is_branch (at_link g root parent node top side tree at leads).sub
