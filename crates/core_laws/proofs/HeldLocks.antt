-- A lock word that is found held by a seat that has not locked the node names another pass.
use Rattle.std.proofs.Common.{◌≡◌, ℕ, ◌+◌, ◌<◌, cond, List, Bool, true, false, eqb, ◌&&◌, not, arith, refl, ap, inl, inr, Option, Some, None}
use Rattle.std.proofs.lemmas.Bool.{eq-eqb, eqb-true}
use Rattle.std.proofs.lemmas.Bool.Decides.{nat_tests, eqb_tells}
use Rattle.index_words.specs.declared.layout.Layout.{Layout}
use Rattle.index_words.specs.declared.view.View.{View}
use Rattle.index_words.specs.declared.word.Field.TheVariants.{Lock}
use Rattle.index_words.specs.declared.word.Word.TheVariants.{Node}
use Rattle.index_words.specs.Words.{Memory}
use Rattle.key_map.specs.Lists.{IsItem}
use Rattle.core_grace.specs.Batches.{is_number}
use Rattle.core_invariant.specs.Meanings.{Meaning}
use Rattle.core_invariant.specs.Locks.{NamesHolder, lock_count}
use Rattle.core_events.specs.LockMoves.{names_other}
use Rattle.core_invariant.specs.Rule.{Rule}
use Rattle.core_invariant.proofs.Frames.{Term, term_of, same_item}
use Rattle.core_invariant.proofs.Idle.{number_apart}
use Rattle.core_invariant.proofs.OneView.{seat_at}

held_word : (x : ℕ) → 0 < x → 0 < 0 + cond (eqb x 0) 0 1
held_word x low = grind (arith, nat_tests)

-- the number that a lock word names
holder_number : (word n : ℕ) (o : Option ℕ) → NamesHolder word o → word ≡ n + 1 → o ≡ Some n
holder_number word n None names is = absurd names
holder_number word n (Some k) names is = let same : k ≡ n = omega (arith, names, is) in ap Some same

own_number_is : (n : ℕ) (o : Option ℕ) → o ≡ Some n → is_number n o ≡ false → ⊥
own_number_is n None is other = cc
own_number_is n (Some k) is other = let same : k ≡ n = cc in cc (eq-eqb k n same)

module _ (z : Layout) (m : Memory) (vs : List View) (g : Meaning) (rule : Rule z m vs g) (i k n : ℕ) (v : View) (at : IsItem vs i v) (named : v.number ≡ Some n) (unlocked : lock_count k v ≡ 0) (held : 0 < m (Node Lock k)) where
  names_apart : m (Node Lock k) ≡ n + 1 → ⊥
  names_apart is =
      let term : Term (lock_count k) vs = term_of (lock_count k) vs (omega (arith, rule.locks k, held_word (m (Node Lock k)) held)) in
      let u : View = term.item in
      let own : u.number ≡ Some n = holder_number (m (Node Lock k)) n u.number ((seat_at z m vs g term.place u term.at rule).locks k term.some).1 is in
      elim (eqb_tells term.place i) as (λ _. ⊥) [
        | inl same ↦ omega (arith, unlocked, ap (lock_count k) (same_item vs i term.place v u at term.at same.1), term.some)
        | inr other ↦ own_number_is n v.number named (number_apart z vs i v u n rule.numbers at (record { place = term.place; at = term.at; other = other.1 }) own)
      ]

  -- so a try of the lock is counted as busy
  pub counted_busy : names_other (n + 1) (m (Node Lock k)) ≡ true
  counted_busy = both_by (eqb (m (Node Lock k)) 0) (eqb (m (Node Lock k)) (n + 1)) refl refl
    where
      both_by : (b c : Bool) → eqb (m (Node Lock k)) 0 ≡ b → eqb (m (Node Lock k)) (n + 1) ≡ c → (not b && not c) ≡ true
      both_by true c e f = absurd (omega (arith, held, eqb-true (m (Node Lock k)) 0 e))
      both_by false true e f = absurd (names_apart (eqb-true (m (Node Lock k)) (n + 1) f))
      both_by false false e f = refl
