-- A seat inside a section has a pass number, and where there is one pass alone no other view has one.
use Rattle.std.proofs.Common.{◌≡◌, ℕ, ◌<◌, List, false, arith, ap, ◌∙◌, sym, inl, inr, Option, Some, None}
use Rattle.std.proofs.lemmas.Bool.{eq-eqb}
use Rattle.std.proofs.lemmas.Bool.Decides.{eqb_tells}
use Rattle.index_words.specs.declared.layout.Layout.{Layout}
use Rattle.index_words.specs.declared.view.View.{View}
use Rattle.index_words.specs.declared.view.update.Updating.{Updating}
use Rattle.index_words.specs.declared.word.Word.TheVariants.{Section, Announced}
use Rattle.index_words.specs.Words.{Memory}
use Rattle.key_map.specs.Lists.{count, IsItem}
use Rattle.core_grace.specs.Batches.{is_number}
use Rattle.core_grace.specs.Sections.{is_even}
use Rattle.core_events.proofs.Tests.{never}
use Rattle.core_invariant.specs.Meanings.{Meaning}
use Rattle.core_invariant.specs.Rule.{Rule}
use Rattle.core_invariant.specs.SectionRule.{IsOwnWord}
use Rattle.core_invariant.proofs.Frames.{same_item}
use Rattle.core_invariant.proofs.Idle.{nameless_idle, number_low, number_apart}
use Rattle.core_invariant.proofs.OneView.{seat_at}
use Rattle.core_laws.proofs.CountFacts.{number_some}

no_own_word : (word : ℕ → ℕ) (o : Option ℕ) (held : ℕ) → o ≡ None → IsOwnWord word o held → held ≡ 0
no_own_word word None held none own = own
no_own_word word (Some n) held none own = cc

named_own : (n : ℕ) (o : Option ℕ) → o ≡ Some n → is_number n o ≡ false → ⊥
named_own n None is other = cc
named_own n (Some k) is other = let same : k ≡ n = cc in never (sym other ∙ eq-eqb k n same)

module _ (z : Layout) (m : Memory) (vs : List View) (g : Meaning) (rule : Rule z m vs g) where
  pub inside_number : (i : ℕ) (v : View) → IsItem vs i v → is_even v.section_word ≡ false → (n : ℕ) × (v.number ≡ Some n)
  inside_number i v at inside =
      number_some v.number
      (λ none. never (sym inside ∙ ap is_even (no_own_word (λ n. m (Section n)) v.number v.section_word none (seat_at z m vs g i v at rule).section.section)))

  -- and so has one whose update has taken out a node
  pub taker_number : (j k : ℕ) (u : View) → IsItem vs j u → 0 < count k u.update.taken → (n : ℕ) × (u.number ≡ Some n)
  taker_number j k u of some =
      number_some u.number
      (λ none.
      let idle = nameless_idle (λ n. m (Section n)) (λ n. m (Announced n)) u (seat_at z m vs g j u of rule).section none in
      omega (arith, some, ap (λ (x : Updating). count k x.taken) idle.update))

  -- two views that have numbers are one, on a table of one pass
  pub one_view : z.passes ≡ 1 → (i j a b : ℕ) (v u : View) → IsItem vs i v → IsItem vs j u → v.number ≡ Some a → u.number ≡ Some b → v ≡ u
  one_view one i j a b v u at of mine its =
      let same : b ≡ a = omega (arith, one, number_low z vs i v a rule.numbers at mine, number_low z vs j u b rule.numbers of its) in
      elim (eqb_tells j i) as (λ _. v ≡ u) [
        | inl here ↦ same_item vs i j v u at of here.1
        | inr other ↦
            absurd (named_own a v.number mine (number_apart z vs i v u a rule.numbers at (record { place = j; at = of; other = other.1 }) (its ∙ ap Some same)))
      ]
