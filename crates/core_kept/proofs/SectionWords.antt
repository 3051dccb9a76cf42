-- The section words and the announcements of passes: an enter, a leave and an announcement alone store to one, and to
-- their own.
use Rattle.std.proofs.Common.{◌≡◌, ◌≢◌, ℕ, ◌+◌, ◌<◌, ◌⊎◌, cond, List, [], ◌∷◌, length, Bool, true, false, ltb, set, arith, refl, ap, ◌∙◌, sym, subst, inl, inr, Option, Some, None}
use Rattle.std.specs.List.{All, slice_get}
use Rattle.std.proofs.lemmas.Bool.{eqb-true, eq-eqb}
use Rattle.std.proofs.lemmas.Bool.Decides.{eqb_tells}
use Rattle.std.proofs.lemmas.List.Elements.{All-set, All-push}
use Rattle.index_words.specs.declared.layout.Layout.{Layout}
use Rattle.key_map.specs.declared.update.Update.{Update}
use Rattle.index_words.specs.declared.view.View.{View}
use Rattle.index_words.specs.declared.word.Word.{Word}
use Rattle.index_words.specs.declared.word.Word.TheVariants.{Section, Announced}
use Rattle.index_words.specs.Words.{Memory, memory, word_at, word_count}
use Rattle.index_words.specs.Views.{spent_view}
use Rattle.key_map.specs.Lists.{count, Every, IsItem}
use Rattle.index_words.proofs.Seats.{at_item, all_moved, one_term, two_terms}
use Rattle.core_grace.specs.Batches.{is_number}
use Rattle.core_events.specs.declared.event.Kind.{Kind}
use Rattle.core_events.specs.declared.event.Kind.TheVariants.{MakeSeat, SplitSeat, JoinSeat, Enter, Leave, Announce}
use Rattle.core_events.specs.Moves.{split_left, split_right, joined_with}
use Rattle.core_invariant.specs.Numbers.{number_count, IsSpare}
use Rattle.core_events.specs.Steps.{needs, view_after, views_after, words_after, join_found}
use Rattle.core_invariant.specs.Rule.{InRule}
use Rattle.core_invariant.proofs.OneView.{item_from_get, set_same}
use Rattle.core_invariant.proofs.Frames.{same_item}
use Rattle.core_invariant.proofs.Joins.{every_append}
use Rattle.core_invariant.proofs.Idle.{cond-le, own_count}
use Rattle.core_invariant.proofs.KeptViews.{to_give_kept}
use Rattle.core_invariant.proofs.WordPrints.{stores, word_keeps}

-- two memories say the same of the section words of some passes, and of the announcements of some
pub record SameWords (sections announced : ℕ → Type 0) (m m' : Memory) : Type 0 where
  pub section : (n : ℕ) → sections n → m' (Section n) ≡ m (Section n)
  pub announcement : (n : ℕ) → announced n → m' (Announced n) ≡ m (Announced n)

-- an event of the kind leaves the section word of the pass
abbrev pub LeavesSection : Kind → View → ℕ → Type 0
LeavesSection kind v n = ((kind ≢ Enter) × (kind ≢ Leave)) ⊎ (is_number n v.number ≡ false)

-- and its announcement
abbrev pub LeavesAnnouncement : Kind → View → ℕ → Type 0
LeavesAnnouncement kind v n = (kind ≢ Announce) ⊎ (is_number n v.number ≡ false)

module _ (z : Layout) (words : List ℕ) (vs : List View) (i : ℕ) (v : View) (at : ℕ) (w : Word) (long : length words ≡ word_count z)
    (found : word_at z at ≡ Some w) (value : ℕ) (o : Option Update) where
  abbrev m : Memory
  m = memory z words

  section_off : (kind : Kind) (n : ℕ) → LeavesSection kind v n → stores kind v (Section n) ≡ false
  section_off Enter n (inl neither) = absurd (neither.0 refl)
  section_off Enter n (inr other) = other
  section_off Leave n (inl neither) = absurd (neither.1 refl)
  section_off Leave n (inr other) = other
  section_off _ n other = refl

  announced_off : (kind : Kind) (n : ℕ) → LeavesAnnouncement kind v n → stores kind v (Announced n) ≡ false
  announced_off Announce n (inl other) = absurd (other refl)
  announced_off Announce n (inr other) = other
  announced_off _ n other = refl

  -- no event changes another pass's section word, or its announcement
  pub same_words : (kind : Kind) → needs kind z m vs i v w value o ≡ true
      → SameWords (LeavesSection kind v) (LeavesAnnouncement kind v) m (memory z (words_after kind words at value))
  same_words kind met = record {
    section = λ n other. word_keeps z words vs i v at w long found value o kind (Section n) (section_off kind n other) met;
    announcement = λ n other. word_keeps z words vs i v at w long found value o kind (Announced n) (announced_off kind n other) met;
  }

-- what holds of each number of a list, under an implication at the numbers that stand in it
every_in : (P Q : ℕ → Type 0) (xs : List ℕ) → ((n : ℕ) → 0 < count n xs → P n → Q n) → Every P xs → Every Q xs
every_in P Q [] step all = tt
every_in P Q (x ∷ xs) step all =
    (step x (omega (arith, ap (λ (b : Bool). cond b 1 0 + count x xs) (eq-eqb x x refl))) all.0, every_in P Q xs (λ n some. step n (omega (arith, some))) all.1)

module _ (z : Layout) (words : List ℕ) (vs : List View) (right : InRule z words vs) (i : ℕ) (v : View) (of : IsItem vs i v) (at : ℕ) (w : Word)
    (found : word_at z at ≡ Some w) (value : ℕ) (o : Option Update) where
  abbrev old : Memory
  old = memory z words

  -- a number that is still to be given is no pass's
  not_given_yet : (j n : ℕ) (u : View) → IsItem vs j u → 0 < count n u.to_give → is_number n v.number ≡ false
  not_given_yet j n u item some = tells (is_number n v.number) refl
    where
      twice : v.number ≡ Some n → ⊥
      twice named =
          elim (eqb_tells j i) as (λ _. ⊥) [
            | inl here ↦
                let same : v ≡ u = same_item vs i j v u of item here.1 in
                omega (
                  arith,
                  some,
                  own_count n v.number named,
                  one_term (number_count n) vs i v of,
                  right.rule.numbers n,
                  cond-le (ltb n z.passes),
                  ap (λ (x : View). count n x.to_give) same,
                )
            | inr other ↦
                omega (
                  arith,
                  some,
                  own_count n v.number named,
                  two_terms (number_count n) vs i v u of (record { place = j; at = item; other = other.1 }),
                  right.rule.numbers n,
                  cond-le (ltb n z.passes),
                )
          ]

      named_by : (number : Option ℕ) → is_number n number ≡ true → number ≡ Some n
      named_by None e = cc
      named_by (Some k) e = ap Some (eqb-true k n e)

      tells : (b : Bool) → is_number n v.number ≡ b → is_number n v.number ≡ false
      tells true e = absurd (twice (named_by v.number e))
      tells false e = e

  spare_words : (m' : Memory) → SameWords (λ n. is_number n v.number ≡ false) (λ n. is_number n v.number ≡ false) old m' → (j : ℕ) (u : View) → IsItem vs j u
      → IsSpare old u → IsSpare m' u
  spare_words m' same j u item spare =
      every_in (λ n. (old (Section n) ≡ 0) × (old (Announced n) ≡ 0)) (λ n. (m' (Section n) ≡ 0) × (m' (Announced n) ≡ 0)) u.to_give
      (λ n some none. (same.section n (not_given_yet j n u item some) ∙ none.0, same.announcement n (not_given_yet j n u item some) ∙ none.1)) spare

  all_spare : (m' : Memory) → SameWords (λ n. is_number n v.number ≡ false) (λ n. is_number n v.number ≡ false) old m' → All (IsSpare m') vs
  all_spare m' same =
      subst (All (IsSpare m')) (set_same vs i v of)
      (all_moved (IsSpare old) (IsSpare m') vs i v v of right.spare (spare_words m' same i v of (at_item (IsSpare old) vs i v of right.spare))
      (λ u beside spare. spare_words m' same beside.place u beside.at spare))

  module _ (m' : Memory) (all : All (IsSpare m') vs) where
    own_spare : IsSpare m' v
    own_spare = at_item (IsSpare m') vs i v of all

    moved_spare : (u : View) → u.to_give ≡ v.to_give → All (IsSpare m') (set vs i u)
    moved_spare u same = All-set (IsSpare m') vs i u (subst (Every (λ n. (m' (Section n) ≡ 0) × (m' (Announced n) ≡ 0))) (sym same) own_spare) all

    joined_spare : (found' : Option View) → slice_get vs value ≡ found' → All (IsSpare m') (join_found vs i v value found')
    joined_spare None is = all
    joined_spare (Some u) is =
        All-set (IsSpare m') (set vs i (joined_with v u)) value spent_view tt
        (All-set (IsSpare m') vs i (joined_with v u)
        (every_append (λ n. (m' (Section n) ≡ 0) × (m' (Announced n) ≡ 0)) v.to_give u.to_give own_spare
        (at_item (IsSpare m') vs value u (item_from_get vs value u is) all)) all)

    still_spare : (kind : Kind) → All (IsSpare m') (set vs i (view_after kind z old vs v w (old w) value o))
    still_spare kind = moved_spare (view_after kind z old vs v w (old w) value o) (to_give_kept z old vs v w (old w) value o kind)

    views_spare : (kind : Kind) → All (IsSpare m') (views_after kind z old vs i v w value o)
    views_spare MakeSeat = all
    views_spare SplitSeat = All-push (IsSpare m') (set vs i (split_left v value)) (split_right v value) (moved_spare (split_left v value) refl) tt
    views_spare JoinSeat = joined_spare (slice_get vs value) refl
    views_spare kind = still_spare kind

  -- the words of a number that is still to be given are 0 after an event whose needs are met
  pub spare_after : (kind : Kind) → needs kind z old vs i v w value o ≡ true
      → All (IsSpare (memory z (words_after kind words at value))) (views_after kind z old vs i v w value o)
  spare_after kind met =
      let m' = memory z (words_after kind words at value) in
      let same = same_words z words vs i v at w right.size found value o kind met in
      views_spare m' (all_spare m' (record { section = λ n other. same.section n (inr other); announcement = λ n other. same.announcement n (inr other) })) kind
