-- The law on links, from what the words of two tables mean to the words themselves.
use Rattle.std.proofs.Common.{◌≡◌, ℕ, ◌+◌, ◌<◌, ◌≤◌, ◌⊎◌, cond, List, [], ◌∷◌, suc, Bool, true, false, eqb, arith, refl, ap, ◌∙◌, sym, inl, inr}
use Rattle.std.specs.List.{All, sum_by}
use Rattle.std.proofs.lemmas.Bool.{eqb-true, cases_lt}
use Rattle.std.proofs.lemmas.Bool.Decides.{nat_tests}
use Rattle.std.proofs.lemmas.List.Sums.{sum_by-cons}
use Rattle.index_words.specs.declared.layout.Layout.{Layout}
use Rattle.index_words.specs.declared.side.Side.{Side}
use Rattle.index_words.specs.declared.view.View.{View}
use Rattle.index_words.specs.declared.word.Field.TheVariants.{Head}
use Rattle.index_words.specs.declared.word.Part.TheVariants.{Stamp as Number, Next}
use Rattle.index_words.specs.declared.word.Word.TheVariants.{Stamp, Node, Entry}
use Rattle.index_words.specs.Words.{Memory}
use Rattle.key_map.specs.Lists.{count, has, Every}
use Rattle.key_map.proofs.Counting.{has-count, count-has}
use Rattle.core_links.specs.Bundle.{select}
use Rattle.core_links.proofs.Chains.{chain-same}
use Rattle.core_events.specs.Numbered.{shown, raised_number, entry_number}
use Rattle.core_invariant.specs.Meanings.{Meaning}
use Rattle.core_invariant.specs.BundleRule.{IsLive, IsPendingAt, IsNumbered, IsPending, pending_count}
use Rattle.core_invariant.specs.Rule.{Rule}
use Rattle.core_invariant.specs.LinkLaw.{IsBundleOf, IsRead, SelectsSame}
use Rattle.core_invariant.proofs.Frames.{every_at}
use Rattle.core_invariant.proofs.BundleFrames.{select_frame}

module _ (z : Layout) (m : Memory) (g : Meaning) where
  -- each pending entry of these views has the number of its raise
  abbrev Pends : View → Type 0
  Pends v = Every (IsPending z (λ s k. m (Node (Head s) k)) (λ d. m (Entry Number d)) g.bundles.number v) v.update.pending

  raised_by : (e : ℕ) (v : View) (vs : List View) (c : Bool) → has e v.update.pending ≡ c → Pends v → (0 < sum_by (pending_count e) vs → raised_number vs e ≡ g.bundles.number e)
      → 0 < pending_count e v + sum_by (pending_count e) vs → cond c (shown v.update.raised) (raised_number vs e) ≡ g.bundles.number e
  raised_by e v vs true is pends rest some =
      sym (every_at (IsPending z (λ s k. m (Node (Head s) k)) (λ d. m (Entry Number d)) g.bundles.number v) e v.update.pending pends (has-count e v.update.pending is)).1
  raised_by e v vs false is pends rest some = rest (omega (arith, some, none (cases_lt 0 (pending_count e v))))
    where
      apart : (c : Bool) → c ≡ false → c ≡ true → ⊥
      apart true f t = cc
      apart false f t = cc

      none : (0 < pending_count e v) ⊎ (pending_count e v ≤ 0) → pending_count e v ≡ 0
      none (inl more) = absurd (apart (has e v.update.pending) is (count-has e v.update.pending more))
      none (inr less) = omega (arith, less)

  raised_is : (e : ℕ) (vs : List View) → All Pends vs → 0 < sum_by (pending_count e) vs → raised_number vs e ≡ g.bundles.number e
  raised_is e [] all some = absurd (omega (arith, some))
  raised_is e (v ∷ vs) all some =
      raised_by e v vs (has e v.update.pending) refl (all 0 v (omega arith)) (λ more. raised_is e vs (λ k d within. all (suc k) d (omega (arith, within))) more)
      (omega (arith, some, sum_by-cons (pending_count e) v vs))

  module _ (vs : List View) (rule : Rule z m vs g) where
    number_by : (e : ℕ) (c : Bool) → eqb (m (Entry Number e)) 0 ≡ c → IsNumbered (m Stamp) (λ d. m (Entry Number d)) g.bundles.number e
        → (m (Entry Number e) ≡ 0 → 0 < sum_by (pending_count e) vs) → cond c (raised_number vs e) (m (Entry Number e)) ≡ g.bundles.number e
    number_by e true is numbered owned = raised_is e vs (λ k d within. (rule.seats k d within).pending) (owned (eqb-true (m (Entry Number e)) 0 is))
    number_by e false is numbered owned = sym (numbered (positive (m (Entry Number e)) is)).0
      where
        positive : (x : ℕ) → eqb x 0 ≡ false → 0 < x
        positive x p = grind (arith, nat_tests)

    -- the numbers of a bundle's entries
    pub number_is : (k d : ℕ) (side : Side) → IsLive z vs k → 0 < count d (g.bundles.bundle side k) → entry_number m vs d ≡ g.bundles.number d
    number_is k d side live here =
        let right = rule.bundles k live side in
        number_by d (eqb (m (Entry Number d)) 0) refl
        (every_at (IsNumbered (m Stamp) (λ x. m (Entry Number x)) g.bundles.number) d (g.bundles.bundle side k) right.numbers here)
        (λ none. let pends = every_at (λ x. m (Entry Number x) ≡ 0 → IsPendingAt vs k x) d (g.bundles.bundle side k) right.owned here none in omega (arith, pends.0))

    pub selection_is : (n k : ℕ) (side : Side) (es : List ℕ) → IsLive z vs k → IsBundleOf m side k es → select (entry_number m vs) n es ≡ select g.bundles.number n (g.bundles.bundle side k)
    selection_is n k side es live chain =
        ap (select (entry_number m vs) n) (chain-same (λ d. m (Entry Next d)) (m (Node (Head side) k)) es (g.bundles.bundle side k) chain (rule.bundles k live side).chain)
        ∙ select_frame n (entry_number m vs) g.bundles.number (g.bundles.bundle side k) (λ d here. inl (number_is k d side live here))

-- if two meanings select the same, so do the words
pub selections_kept : (z : Layout) (m m' : Memory) (vs ws : List View) (g h : Meaning) → Rule z m vs g → Rule z m' ws h → SelectsSame z (IsRead (m Stamp) vs) vs g ws h
    → (n k : ℕ) (side : Side) (es fs : List ℕ) → IsRead (m Stamp) vs n → IsLive z vs k → IsLive z ws k → IsBundleOf m side k es → IsBundleOf m' side k fs
    → select (entry_number m vs) n es ≡ select (entry_number m' ws) n fs
selections_kept z m m' vs ws g h rule rule' same n k side es fs past live live' chain chain' =
    selection_is z m g vs rule n k side es live chain ∙ same n k side past live live' ∙ sym (selection_is z m' h ws rule' n k side fs live' chain')
