-- How many entries of a bundle are kept, and what a number selects among them.
use Rattle.std.proofs.Common.{◌≡◌, ℕ, zero, suc, ◌+◌, ◌<◌, ◌≤◌, List, [], ◌∷◌, length, take, refl, ap, sym, ◌∙◌, arith, slice_index}
use Rattle.core_links.specs.declared.entry.Entry.{Entry}
use Rattle.core_links.specs.Bundle.{select}
use Rattle.core_links.specs.Selection.{NumberedAbove, IsFirstPlace, IsKept, KeepsSelected}
use Rattle.core_links.proofs.Compare.{compared, less, more, same}
use Rattle.core_links.proofs.Chains.{select-here, select-behind}

-- a placeholder where no place of a bundle is read
no_entry : Entry
no_entry = record { child = 0; stamp = 0 }

one_place : (t : ℕ) (bundle : List Entry) (p q : ℕ) → IsFirstPlace t bundle p → IsFirstPlace t bundle q → p ≡ q
one_place t bundle p q here there =
    elim (compared p q) as (λ _. p ≡ q) [
      | less low ↦ absurd (omega (arith, there.passed p no_entry low, here.selected no_entry))
      | more low ↦ absurd (omega (arith, here.passed q no_entry low, there.selected no_entry))
      | same is ↦ is
    ]

not_above : (least : ℕ) (bundle : List Entry) (place : ℕ) → NumberedAbove least bundle → IsFirstPlace least bundle place → ⊥
not_above least bundle place above first = omega (arith, above place no_entry first.within, first.selected no_entry)

pub kept_some : (least : ℕ) (bundle : List Entry) (place : ℕ) → IsFirstPlace least bundle place → IsKept least bundle (place + 1)
kept_some least bundle place first = record {
  all = λ above. absurd (not_above least bundle place above first);
  upto = λ other also. ap (λ n. n + 1) (one_place least bundle place other first also);
}

pub kept_all : (least : ℕ) (bundle : List Entry) → NumberedAbove least bundle → IsKept least bundle (length bundle)
kept_all least bundle above = record { all = λ _. refl; upto = λ place first. absurd (not_above least bundle place above first) }

-- no entry after the first one that may be selected is selected
select-take : (number : ℕ → ℕ) (t place : ℕ) (names : List ℕ) → place < length names → number (slice_index names place) ≤ t
    → select number t (take (suc place) names) ≡ select number t names
select-take number t place [] within low = absurd (omega (arith, within))
select-take number t zero (e ∷ es) within low = select-here number t e [] low ∙ sym (select-here number t e es low)
select-take number t (suc place) (e ∷ es) within low =
    elim (compared t (number e)) as (λ _. select number t (take (suc (suc place)) (e ∷ es)) ≡ select number t (e ∷ es)) [
      | less above ↦
          select-behind number t e (take (suc place) es) above ∙ select-take number t place es (omega (arith, within)) low
          ∙ sym (select-behind number t e es above)
      | more above ↦ select-here number t e (take (suc place) es) (omega (arith, above)) ∙ sym (select-here number t e es (omega (arith, above)))
      | same is ↦ select-here number t e (take (suc place) es) (omega (arith, is)) ∙ sym (select-here number t e es (omega (arith, is)))
    ]

pub selected_some : (least : ℕ) (bundle : List Entry) (place : ℕ) → IsFirstPlace least bundle place → KeepsSelected least bundle (place + 1)
selected_some least bundle place first number names t named low =
    let within : place < length names = omega (arith, named.long, first.within) in
    let next : place + 1 ≡ suc place = omega arith in
    ap (λ n. select number t (take n names)) next
    ∙ select-take number t place names within (omega (arith, named.numbers place no_entry within, first.selected no_entry, low))
