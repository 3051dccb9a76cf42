-- Two sides compared, and a link compared with another one.
use Rattle.std.proofs.Common.{◌≡◌, ℕ, cond, List, Bool, true, false, eqb, ◌&&◌, refl, sym, subst}
use Rattle.std.proofs.lemmas.Bool.{and_parts, eq-eqb, eqb-true}
use Rattle.index_words.specs.declared.side.Side.{Side}
use Rattle.index_words.specs.declared.side.Side.TheVariants.{Left, Right}
use Rattle.index_words.specs.Words.{same_side}
use Rattle.core_invariant.specs.MeaningMoves.{with_bundle}

pub same_side-refl : (s : Side) → same_side s s ≡ true
same_side-refl Left = refl
same_side-refl Right = refl

pub same_side-true : (s t : Side) → same_side s t ≡ true → s ≡ t
same_side-true Left Right e = cc
same_side-true Right Left e = cc
same_side-true _ _ e = refl

not_both : (a b : Bool) → (a && b) ≡ false → a ≡ true → b ≡ true → ⊥
not_both true true off one two = cc
not_both _ _ off one two = cc

-- if one link's bundle is another list: what holds of that list, and of each other link's bundle
pub by_link : (P : Side → ℕ → List ℕ → Type 0) (bundle : Side → ℕ → List ℕ) (side : Side) (k : ℕ) (es : List ℕ) → P side k es
    → ((s : Side) (j : ℕ) → (s ≡ side → j ≡ k → ⊥) → P s j (bundle s j)) → (s : Side) (j : ℕ) → P s j (with_bundle bundle side k es s j)
by_link P bundle side k es here other s j = by (same_side s side && eqb j k) refl
  where
    by : (c : Bool) → (same_side s side && eqb j k) ≡ c → P s j (cond c es (bundle s j))
    by true is =
        let parts = and_parts (same_side s side) (eqb j k) is in
        subst (λ t. P t j es) (sym (same_side-true s side parts.0)) (subst (λ n. P side n es) (sym (eqb-true j k parts.1)) here)
    by false is =
        other s j (λ sides nodes.
        not_both (same_side s side) (eqb j k) is (subst (λ t. same_side t side ≡ true) (sym sides) (same_side-refl side)) (eq-eqb j k nodes))
