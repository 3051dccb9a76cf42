-- What idle views hold, and what the rule says of two views with numbers.
use Rattle.std.proofs.Common.{◌≡◌, ℕ, ◌+◌, ◌<◌, ◌≤◌, ◌⊎◌, cond, List, [], Bool, true, false, eqb, ltb, arith, refl, ap, subst, inl, inr, Option, Some, None, is_some}
use Rattle.std.proofs.lemmas.Bool.Decides.{nat_tests}
use Rattle.std.proofs.lemmas.Bool.{eq-eqb}
use Rattle.index_words.specs.declared.layout.Layout.{Layout}
use Rattle.index_words.specs.declared.view.View.{View}
use Rattle.index_words.specs.declared.view.slots.Slots.{Slots}
use Rattle.key_map.specs.Lists.{count, IsItem}
use Rattle.index_words.proofs.Seats.{Beside, two_terms, one_term}
use Rattle.core_grace.specs.Sections.{is_even}
use Rattle.core_grace.specs.Batches.{is_number}
use Rattle.core_grace.specs.Holds.{Bundles, held_nodes, work_nodes, ReadsAt, HoldsNode, HoldsEntry}
use Rattle.core_grace.specs.Slots.{HoldsNone}
use Rattle.core_events.specs.Moves.{own_number}
use Rattle.core_invariant.specs.Numbers.{number_count, NumbersRight}
use Rattle.core_invariant.specs.SectionRule.{IsIdle, IsWaiting, IsOwnWord, SectionRight}

pub idle_work : (v : View) → IsIdle v → work_nodes v ≡ []
idle_work v idle = rw idle.held (rw idle.update refl)

pub idle_nodes : (v : View) → IsIdle v → held_nodes v ≡ []
idle_nodes v idle = rw idle.reading (rw idle.held (rw idle.update refl))

pub idle_entry : (b : Bundles) (v : View) (e : ℕ) → IsIdle v → HoldsEntry b v e → ⊥
idle_entry b v e idle (inl reads) = let none : ReadsAt b None [] e = rw idle.reading at reads in none
idle_entry b v e idle (inr stands) = omega (arith, stands.of, ap (count stands.node) (idle_work v idle))

pub idle_none : (b : Bundles) (s : Slots) (v : View) → IsIdle v → HoldsNone HoldsNode (HoldsEntry b) s v
idle_none b s v idle = record {
  nodes = λ k some holds. omega (arith, holds, ap (count k) (idle_nodes v idle));
  entries = λ e some holds. idle_entry b v e idle holds;
}

own_none : (word : ℕ → ℕ) (number : Option ℕ) (held : ℕ) → number ≡ None → IsOwnWord word number held → held ≡ 0
own_none word None held is own = own
own_none word (Some n) held is own = cc

-- a view outside a section is idle, or waits
pub outside_cases : (s a : ℕ → ℕ) (v : View) → SectionRight s a v → is_even v.section_word ≡ true → IsIdle v ⊎ IsWaiting v
outside_cases s a v right even =
    elim (right.unlocked even) as (λ _. IsIdle v ⊎ IsWaiting v) [
      | inl none ↦ inl (record { reading = right.outside even; held = none; update = right.done none })
      | inr waits ↦ inr waits
    ]

-- one without a number is idle
pub nameless_idle : (s a : ℕ → ℕ) (v : View) → SectionRight s a v → v.number ≡ None → IsIdle v
nameless_idle s a v right none =
    elim (outside_cases s a v right (ap is_even (own_none s v.number v.section_word none right.section))) as (λ _. IsIdle v) [
      | inl idle ↦ idle
      | inr waits ↦ absurd (nameless v.number none waits.named)
    ]
  where
    nameless : (o : Option ℕ) → o ≡ None → is_some o ≡ true → ⊥
    nameless None is some = cc
    nameless (Some n) is some = cc

own_some : (word : ℕ → ℕ) (number : Option ℕ) (n held : ℕ) → number ≡ Some n → IsOwnWord word number held → word n ≡ held
own_some word None n held is own = cc
own_some word (Some k) n held is own = let same : k ≡ n = cc in subst (λ x. word x ≡ held) same own

-- the section word of a pass is what its view has
pub section_of : (s a : ℕ → ℕ) (v : View) (n : ℕ) → SectionRight s a v → v.number ≡ Some n → s n ≡ v.section_word
section_of s a v n right is = own_some s v.number n v.section_word is right.section

not_counted : (b : Bool) → cond b 1 0 + 0 ≡ 0 → b ≡ false
not_counted true none = absurd (omega arith)
not_counted false none = refl

pub own_count : (n : ℕ) (number : Option ℕ) → number ≡ Some n → count n (own_number number) ≡ 1
own_count n None is = cc
own_count n (Some k) is = let same : k ≡ n = cc in rw same (ap (λ b. cond b 1 0 + 0) (eq-eqb n n refl))

not_own : (n : ℕ) (number : Option ℕ) → count n (own_number number) ≡ 0 → is_number n number ≡ false
not_own n None none = refl
not_own n (Some k) none = not_counted (eqb k n) none

cond-lt : (a b : ℕ) → 0 < cond (ltb a b) 1 0 → a < b
cond-lt a b h = grind (arith, nat_tests)

pub cond-le : (b : Bool) → cond b 1 0 ≤ 1
cond-le true = omega arith
cond-le false = omega arith

-- a number is below the number of passes, and no other view has it
pub number_low : (z : Layout) (vs : List View) (i : ℕ) (v : View) (n : ℕ) → NumbersRight z vs → IsItem vs i v → v.number ≡ Some n → n < z.passes
number_low z vs i v n right at is = cond-lt n z.passes (omega (arith, own_count n v.number is, one_term (number_count n) vs i v at, right n))

pub number_apart : (z : Layout) (vs : List View) (i : ℕ) (v u : View) (n : ℕ) → NumbersRight z vs → IsItem vs i v → Beside vs i u → u.number ≡ Some n → is_number n v.number ≡ false
number_apart z vs i v u n right at beside is =
    not_own n v.number (omega (arith, own_count n u.number is, two_terms (number_count n) vs i v u at beside, right n, cond-le (ltb n z.passes)))
