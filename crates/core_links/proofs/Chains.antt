-- Chains and selection.
use Rattle.std.proofs.Common.{◌≡◌, ℕ, ◌<◌, ◌≤◌, inl, inr, List, [], ◌∷◌, ◌++◌, refl, ap, sym, ◌∙◌, subst, arith}
use Rattle.std.specs.List.{AllByRecursion}
use Rattle.std.proofs.lemmas.Bool.{lt-leb, le-leb}
use Rattle.std.specs.Prelude.{◌==◌}
use Rattle.core_links.specs.Bundle.{IsFirstAtMost, IsChain, select, AgreeAt, OneChainLaw, ChainFrameLaw, SelectLaw, FrontLaw, WalkLaw, CutLaw}
use Rattle.core_links.proofs.Compare.{compared, less, more, same}

pub chain-same : (next : ℕ → ℕ) (head : ℕ) (xs ys : List ℕ) → IsChain next head xs → IsChain next head ys → xs ≡ ys
chain-same next head [] [] hx hy = refl
chain-same next head [] (y ∷ ys) hx hy = absurd (omega (arith, hx, hy.0, hy.1))
chain-same next head (x ∷ xs) [] hx hy = absurd (omega (arith, hy, hx.0, hx.1))
chain-same next head (x ∷ xs) (y ∷ ys) hx hy =
    let e : x ≡ y = sym hx.0 ∙ hy.0 in
    let rest : xs ≡ ys = chain-same next (next x) xs ys hx.2 (subst (λ z. IsChain next (next z) ys) (sym e) hy.2) in
    ap (λ z. z ∷ xs) e ∙ ap (λ zs. y ∷ zs) rest

pub chain_frame : ChainFrameLaw
chain_frame next next' head [] agree h = h
chain_frame next next' head (e ∷ es) agree h =
    (h.0, h.1, subst (λ z. IsChain next' z es) agree.0 (chain_frame next next' (next e) es agree.1 h.2))

-- the first entry is selected, or passed
pub select-here : (number : ℕ → ℕ) (t e : ℕ) (es : List ℕ) → number e ≤ t → select number t (e ∷ es) ≡ e
select-here number t e es h = rw (le-leb (number e) t h)

pub select-behind : (number : ℕ → ℕ) (t e : ℕ) (es : List ℕ) → t < number e → select number t (e ∷ es) ≡ select number t es
select-behind number t e es h = rw (lt-leb (number e) t h)

-- selection follows the numbering if the two agree
pub select-agree : (t : ℕ) (number number' : ℕ → ℕ) (es : List ℕ) → AllByRecursion (AgreeAt t number number') es
    → select number t es ≡ select number' t es
select-agree t number number' [] agree = refl
select-agree t number number' (e ∷ es) agree =
    elim agree.0 [
      | inl e' ↦ elim (compared t (number e)) [
        | less b ↦ select-behind number t e es b ∙ select-agree t number number' es agree.1 ∙ sym (select-behind number' t e es (omega (arith, e')))
        | more b ↦ select-here number t e es (omega arith) ∙ sym (select-here number' t e es (omega (arith, e')))
        | same b ↦ select-here number t e es (omega arith) ∙ sym (select-here number' t e es (omega (arith, e')))
      ]
      | inr both ↦ select-behind number t e es both.0 ∙ select-agree t number number' es agree.1 ∙ sym (select-behind number' t e es both.1)
    ]

pub one_chain : OneChainLaw
one_chain next head es chain others too = chain-same next head others es too chain

pub select_law : SelectLaw
select_law number t es number' agree = sym (select-agree t number number' es agree)

pub front_law : FrontLaw
front_law number t es number' e above agree = select-behind number' t e es above ∙ sym (select-agree t number number' es agree)

pub walked : (number : ℕ → ℕ) (t : ℕ) (front es : List ℕ) → AllByRecursion (λ e. t < number e) front → select number t (front ++ es) ≡ select number t es
walked number t [] es above = refl
walked number t (e ∷ front) es above = select-behind number t e (front ++ es) above.0 ∙ walked number t front es above.1

pub walk_law : WalkLaw
walk_law number t es front above = walked number t front es above

pub cut_law : CutLaw
cut_law number t e [] back h = select-here number t e back h ∙ sym (select-here number t e [] h)
cut_law number t e (x ∷ front) back h =
    elim (compared t (number x)) [
      | less b ↦ select-behind number t x (front ++ e ∷ back) b ∙ cut_law number t e front back h ∙ sym (select-behind number t x (front ++ e ∷ []) b)
      | more b ↦ select-here number t x (front ++ e ∷ back) (omega arith) ∙ sym (select-here number t x (front ++ e ∷ []) (omega arith))
      | same b ↦ select-here number t x (front ++ e ∷ back) (omega arith) ∙ sym (select-here number t x (front ++ e ∷ []) (omega arith))
    ]

first-behind : (number : ℕ → ℕ) (t e : ℕ) (es : List ℕ) (x : ℕ) → t < number e → IsFirstAtMost number t es x → IsFirstAtMost number t (e ∷ es) x
first-behind number t e es x b (inl h) = inl ((b, h.0), h.1)
first-behind number t e es x b (inr h) = inr (e ∷ h.0, h.1, ap (λ zs. e ∷ zs) h.2, (b, h.3), h.4)

pub select_first : (number : ℕ → ℕ) (t : ℕ) (es : List ℕ) → IsFirstAtMost number t es (select number t es)
select_first number t [] = inl (tt, refl)
select_first number t (e ∷ es) =
    elim (compared t (number e)) [
      | less b ↦ subst (IsFirstAtMost number t (e ∷ es)) (sym (select-behind number t e es b)) (first-behind number t e es (select number t es) b (select_first number t es))
      | more b ↦ subst (IsFirstAtMost number t (e ∷ es)) (sym (select-here number t e es (omega arith))) (inr ([], es, refl, tt, omega arith))
      | same b ↦ subst (IsFirstAtMost number t (e ∷ es)) (sym (select-here number t e es (omega arith))) (inr ([], es, refl, tt, omega arith))
    ]
