-- One bundle, if what it reads stays the same at its entries.
use Rattle.std.proofs.Common.{◌≡◌, ℕ, ◌+◌, ◌<◌, ◌≤◌, ◌⊎◌, List, [], ◌∷◌, eqb, arith, refl, ◌∙◌, sym, subst, inl, inr}
use Rattle.std.proofs.lemmas.Bool.Decides.{eqb_tells}
use Rattle.std.specs.List.{AllByRecursion}
use Rattle.std.proofs.lemmas.Bool.{cases_lt}
use Rattle.key_map.specs.Lists.{count, Every}
use Rattle.core_links.specs.Bundle.{IsChain, select, AgreeAt}
use Rattle.core_links.proofs.Chains.{chain_frame, select-here, select-behind, select-agree}
use Rattle.core_invariant.specs.BundleRule.{BundleRight, IsNumbered, TailWritten, Falls}
use Rattle.core_invariant.proofs.Frames.{every_listed, one_counted, not_counted}

-- a property of each number of a list
pub listed_all : (P : ℕ → Type 0) (xs : List ℕ) → ((x : ℕ) → 0 < count x xs → P x) → AllByRecursion P xs
listed_all P [] all = tt
listed_all P (x ∷ xs) all = (all x (one_counted x (count x xs)), listed_all P xs (λ y within. all y (omega (arith, within))))

tail_frame : (stamp stamp' : ℕ → ℕ) (es : List ℕ) → ((d : ℕ) → 0 < count d es → stamp' d ≡ stamp d) → TailWritten stamp es → TailWritten stamp' es
tail_frame stamp stamp' [] same right = tt
tail_frame stamp stamp' (e ∷ es) same right =
    every_listed (λ d. 0 < stamp d) (λ d. 0 < stamp' d) es (λ d within low. omega (arith, same d (omega (arith, within)), low)) right

pub bundle_frame : (s : ℕ) (next next' stamp stamp' number : ℕ → ℕ) (P : ℕ → Type 0) (head : ℕ) (es : List ℕ)
    → ((d : ℕ) → 0 < count d es → (next' d ≡ next d) × (stamp' d ≡ stamp d))
    → BundleRight s next stamp number P head es → BundleRight s next' stamp' number P head es
bundle_frame s next next' stamp stamp' number P head es same right = record {
  chain = chain_frame next next' head es (listed_all (λ d. next d ≡ next' d) es (λ d within. sym (same d within).0)) right.chain;
  numbers = every_listed (IsNumbered s stamp number) (IsNumbered s stamp' number) es
      (λ d within known some.
      let is : stamp' d ≡ stamp d = (same d within).1 in
      let old = known (omega (arith, is, some)) in
      (old.0 ∙ sym is, omega (arith, is, old.1))) right.numbers;
  tail = tail_frame stamp stamp' es (λ d within. (same d within).1) right.tail;
  falls = right.falls;
  owned = every_listed (λ d. stamp d ≡ 0 → P d) (λ d. stamp' d ≡ 0 → P d) es (λ d within known none. known (sym (same d within).1 ∙ none)) right.owned;
}

-- a selected entry stands in the bundle, or is 0
pub select_in : (number : ℕ → ℕ) (t : ℕ) (es : List ℕ) → (select number t es ≡ 0) ⊎ (0 < count (select number t es) es)
select_in number t [] = inl refl
select_in number t (e ∷ es) =
    elim (cases_lt t (number e)) as (λ _. (select number t (e ∷ es) ≡ 0) ⊎ (0 < count (select number t (e ∷ es)) (e ∷ es))) [
      | inl above ↦ elim (select_in number t es) as (λ _. (select number t (e ∷ es) ≡ 0) ⊎ (0 < count (select number t (e ∷ es)) (e ∷ es))) [
        | inl none ↦ inl (select-behind number t e es above ∙ none)
        | inr some ↦ inr (subst (λ d. 0 < count d (e ∷ es)) (sym (select-behind number t e es above)) (omega (arith, some)))
      ]
      | inr here ↦ inr (subst (λ d. 0 < count d (e ∷ es)) (sym (select-here number t e es here)) (one_counted e (count e es)))
    ]

-- its number is at most the one that selects it
pub select_low : (number : ℕ → ℕ) (t : ℕ) (es : List ℕ) → (select number t es ≡ 0) ⊎ (number (select number t es) ≤ t)
select_low number t [] = inl refl
select_low number t (e ∷ es) =
    elim (cases_lt t (number e)) as (λ _. (select number t (e ∷ es) ≡ 0) ⊎ (number (select number t (e ∷ es)) ≤ t)) [
      | inl above ↦ subst (λ d. (d ≡ 0) ⊎ (number d ≤ t)) (sym (select-behind number t e es above)) (select_low number t es)
      | inr here ↦ inr (subst (λ d. number d ≤ t) (sym (select-here number t e es here)) here)
    ]

-- the next number selects the same entry, or one of the bundle whose number it is
abbrev pub IsNext : (ℕ → ℕ) → ℕ → ℕ → List ℕ → Type 0
IsNext number t d es = (d ≡ select number t es) ⊎ ((0 < count d es) × (number d ≡ t + 1))

pub select_next : (number : ℕ → ℕ) (t : ℕ) (es : List ℕ) → IsNext number t (select number (t + 1) es) es
select_next number t [] = inl refl
select_next number t (e ∷ es) =
    elim (cases_lt (t + 1) (number e)) as (λ _. IsNext number t (select number (t + 1) (e ∷ es)) (e ∷ es)) [
      | inl above ↦
          subst (λ d. IsNext number t d (e ∷ es)) (sym (select-behind number (t + 1) e es above))
          (elim (select_next number t es) as (λ _. IsNext number t (select number (t + 1) es) (e ∷ es)) [
            | inl same ↦ inl (same ∙ sym (select-behind number t e es (omega (arith, above))))
            | inr new ↦ inr (omega (arith, new.0), new.1)
          ])
      | inr here ↦
          subst (λ d. IsNext number t d (e ∷ es)) (sym (select-here number (t + 1) e es here))
          (elim (cases_lt t (number e)) as (λ _. IsNext number t e (e ∷ es)) [
            | inl new ↦ inr (one_counted e (count e es), omega (arith, here, new))
            | inr old ↦ inl (sym (select-here number t e es old))
          ])
    ]

-- an entry of a bundle is not 0
pub chain_some : (next : ℕ → ℕ) (head e : ℕ) (es : List ℕ) → IsChain next head es → 0 < count e es → 0 < e
chain_some next head e [] chain here = absurd (omega (arith, here))
chain_some next head e (d ∷ es) chain here =
    elim (eqb_tells d e) as (λ _. 0 < e) [
      | inl same ↦ subst (λ x. 0 < x) same.1 chain.1
      | inr other ↦ chain_some next (next d) e es chain.2 (not_counted (eqb d e) (count e es) other.0 here)
    ]

-- the numbers fall if they stay the same at the bundle's entries
pub falls_frame : (number number' : ℕ → ℕ) (top : ℕ) (es : List ℕ) → ((d : ℕ) → 0 < count d es → number' d ≡ number d) → Falls number top es → Falls number' top es
falls_frame number number' top [] same right = tt
falls_frame number number' top (e ∷ es) same right =
    let here : number' e ≡ number e = same e (one_counted e (count e es)) in
    (omega (arith, here, right.0), subst (λ n. Falls number' n es) (sym here) (falls_frame number number' (number e) es (λ d within. same d (omega (arith, within))) right.1))

-- a whole bundle has written numbers if its head has one
pub all_written : (next stamp : ℕ → ℕ) (head : ℕ) (es : List ℕ) → IsChain next head es → TailWritten stamp es → (head ≡ 0) ⊎ (0 < stamp head) → Every (λ d. 0 < stamp d) es
all_written next stamp head [] chain tail old = tt
all_written next stamp head (e ∷ es) chain tail old = (
  elim old as (λ _. 0 < stamp e) [
    | inl none ↦ absurd (omega (arith, chain.0, chain.1, none))
    | inr written ↦ subst (λ d. 0 < stamp d) chain.0 written
  ],
  tail,
)

-- written numbers lie below what is above the stamp
pub falls_below : (s top big : ℕ) (stamp number : ℕ → ℕ) (es : List ℕ) → s < big → Every (IsNumbered s stamp number) es → Every (λ d. 0 < stamp d) es → Falls number top es → Falls number big es
falls_below s top big stamp number [] low numbers written right = tt
falls_below s top big stamp number (e ∷ es) low numbers written right =
    let here = numbers.0 written.0 in
    (omega (arith, low, here.0, here.1), right.1)

pub select_frame : (t : ℕ) (number number' : ℕ → ℕ) (es : List ℕ) → ((d : ℕ) → 0 < count d es → AgreeAt t number number' d) → select number t es ≡ select number' t es
select_frame t number number' es same = select-agree t number number' es (listed_all (AgreeAt t number number') es same)
