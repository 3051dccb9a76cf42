-- The place that a number selects, and the entry there by name.
use Rattle.std.proofs.Common.{◌≡◌, ℕ, zero, suc, ◌<◌, ◌≤◌, List, [], ◌∷◌, length, refl, ◌∙◌, arith, Option, Some, None, IsNone, IfSome, slice_index}
use Rattle.core_links.specs.declared.entry.Entry.{Entry}
use Rattle.core_links.specs.Bundle.{select}
use Rattle.core_links.specs.Selection.{NumberedAbove, IsFirstPlace, IsSelection}
use Rattle.core_links.proofs.Chains.{select-here, select-behind}

select-none : (number : ℕ → ℕ) (t : ℕ) (es : List ℕ) → ((k : ℕ) → k < length es → t < number (slice_index es k)) → select number t es ≡ 0
select-none number t [] above = refl
select-none number t (e ∷ es) above =
    select-behind number t e es (above 0 (omega arith)) ∙ select-none number t es (λ k within. above (suc k) (omega (arith, within)))

select-place : (number : ℕ → ℕ) (t place : ℕ) (es : List ℕ) → place < length es → number (slice_index es place) ≤ t
    → ((k : ℕ) → k < place → t < number (slice_index es k)) → select number t es ≡ slice_index es place
select-place number t place [] within at above = absurd (omega (arith, within))
select-place number t zero (e ∷ es) within at above = select-here number t e es at
select-place number t (suc place) (e ∷ es) within at above =
    select-behind number t e es (above 0 (omega arith)) ∙ select-place number t place es (omega (arith, within)) at (λ k low. above (suc k) (omega (arith, low)))

pub selection : (t : ℕ) (bundle : List Entry) (place : Option ℕ) → (IsNone place → NumberedAbove t bundle) → IfSome place (IsFirstPlace t bundle) → IsSelection t bundle place
selection t bundle None above first number names named =
    select-none number t names (λ k within.
    let d : Entry = record { child = 0; stamp = 0 } in
    omega (arith, named.numbers k d within, above refl k d (omega (arith, named.long, within))))
selection t bundle (Some place) above first number names named =
    let d : Entry = record { child = 0; stamp = 0 } in
    select-place number t place names (omega (arith, named.long, first.within))
    (omega (arith, named.numbers place d (omega (arith, named.long, first.within)), first.selected d))
    (λ k low. omega (arith, named.numbers k d (omega (arith, named.long, first.within, low)), first.passed k d low))

-- if every entry has a greater number, none is selected
pub none-selected : (t : ℕ) (bundle : List Entry) (place : Option ℕ) → IfSome place (IsFirstPlace t bundle) → NumberedAbove t bundle → IsNone place
none-selected t bundle None first above = refl
none-selected t bundle (Some place) first above =
    let d : Entry = record { child = 0; stamp = 0 } in
    absurd (omega (arith, first.selected d, above place d first.within))
