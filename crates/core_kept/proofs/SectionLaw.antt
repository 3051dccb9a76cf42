-- What an event does to the section words and the announcements of passes: an enter makes the own section word odd, a
-- leave even.
use Rattle.std.proofs.Common.{◌≡◌, ℕ, ◌+◌, List, cond, Bool, true, false, not, eqb, ◌&&◌, length, set, refl, ap, ◌∙◌, sym, subst, inl, inr, Option, Some}
use Rattle.std.specs.List.{slice_get}
use Rattle.std.proofs.lemmas.Bool.{and_parts, eqb-true, eq-eqb}
use Rattle.std.proofs.lemmas.Option.{same_Some}
use Rattle.index_words.specs.declared.view.View.{View}
use Rattle.index_words.specs.declared.word.Word.{Word}
use Rattle.index_words.specs.declared.word.Word.TheVariants.{Section, Announced}
use Rattle.index_words.specs.Words.{Memory, memory, written, word_at}
use Rattle.key_map.specs.Lists.{IsItem}
use Rattle.index_words.proofs.Store.{stored_at}
use Rattle.core_grace.specs.Sections.{is_even}
use Rattle.core_grace.specs.Batches.{is_number}
use Rattle.core_grace.proofs.Parity.{odd_next, even_left}
use Rattle.core_events.specs.declared.event.Event.{Event}
use Rattle.core_events.specs.declared.event.Kind.{Kind}
use Rattle.core_events.specs.declared.event.Kind.TheVariants.{Enter, Leave}
use Rattle.core_events.specs.Needs.{is_outside, is_own_section, may_enter}
use Rattle.core_events.specs.Waits.{may_leave}
use Rattle.core_invariant.proofs.WaitNeeds.{can_leave}
use Rattle.core_events.specs.Tables.{Table, held_by}
use Rattle.core_invariant.specs.Rule.{IsRight}
use Rattle.core_events.specs.Steps.{needs, carries, allowed, allowed_at, after, after_at, words_after}
use Rattle.core_kept.specs.SectionMoves.{section_of, MovesSections}
use Rattle.core_events.proofs.Tests.{never}
use Rattle.core_invariant.proofs.Needed.{OwnSection}
use Rattle.core_invariant.proofs.OneView.{item_from_get, seat_at}
use Rattle.core_invariant.proofs.Frames.{same_item}
use Rattle.core_invariant.proofs.Idle.{section_of as own_word}
use Rattle.core_kept.proofs.SectionWords.{same_words}
use Rattle.core_invariant.proofs.WordPrints.{own_enter}

module _ (t : Table) (e : Event) (right : IsRight t) (v : View) (at : IsItem t.views e.seat v) (w : Word) (found : word_at t.layout e.word ≡ Some w) where
  -- the own word holds what the view says, and what is stored to it is what is found after
  own_held : (n : ℕ) → v.number ≡ Some n → section_of t n ≡ v.section_word
  own_held n named =
      own_word (λ k. held_by t (Section k)) (λ k. held_by t (Announced k)) v n
      (seat_at t.layout (held_by t) t.views right.meaning e.seat v at right.rule).section named

  own_after : (n x : ℕ) → v.number ≡ Some n → (own : OwnSection v.number w) → memory t.layout (set t.words e.word x) (Section n) ≡ x
  own_after n x named own =
      let same : n ≡ own.n = same_Some n own.n (sym named ∙ own.named) in
      ap (λ (m : Memory). m (Section n)) (stored_at t.layout t.words e.word w x right.size found)
      ∙ ap (λ (u : Word). written (held_by t) u x (Section n)) own.word
      ∙ ap (λ (b : Bool). cond b x (held_by t (Section n))) (eq-eqb n own.n same)

  entered_word : (n : ℕ) → v.number ≡ Some n → may_enter v w e.value ≡ true
      → (is_even (section_of t n) ≡ true) × (is_even (memory t.layout (set t.words e.word e.value) (Section n)) ≡ false)
  entered_word n named met =
      let parts = and_parts (is_own_section v.number w && is_outside v) (eqb e.value (v.section_word + 1)) met in
      let out = (and_parts (is_own_section v.number w) (is_outside v) parts.0).1 in
      let even : is_even v.section_word ≡ true = (and_parts (is_even v.section_word) (eqb (length v.held.nodes) 0) out).0 in
      let value : e.value ≡ v.section_word + 1 = eqb-true e.value (v.section_word + 1) parts.1 in (
        ap is_even (own_held n named) ∙ even,
        ap is_even (own_after n e.value named (own_enter v w e.value met) ∙ value) ∙ odd_next v.section_word even,
      )

  left_own : (n : ℕ) → v.number ≡ Some n → may_leave (held_by t) v w e.value ≡ true
      → (is_even (section_of t n) ≡ false) × (is_even (memory t.layout (set t.words e.word e.value) (Section n)) ≡ true)
  left_own n named met =
      let can = can_leave (held_by t) v w e.value met in (
        ap is_even (own_held n named) ∙ can.inside,
        ap is_even (own_after n e.value named can.own ∙ can.value_is) ∙ even_left v.section_word can.inside,
      )

moves_at : (t : Table) (e : Event) (a : Option View) (b : Option Word) → slice_get t.views e.seat ≡ a → word_at t.layout e.word ≡ b → IsRight t
    → allowed_at t e a b ≡ true → MovesSections t e (after_at t e a b)
moves_at t e (Some v) (Some w) is found right met =
    let z = t.layout in
    let m = held_by t in
    let at = item_from_get t.views e.seat v is in
    let need = (and_parts (carries e.kind v e.update && not v.joined) (needs e.kind z m t.views e.seat v w e.value e.update) met).1 in
    let met_of : (k : Kind) → e.kind ≡ k → needs k z m t.views e.seat v w e.value e.update ≡ true
    = λ k same. subst (λ (j : Kind). needs j z m t.views e.seat v w e.value e.update ≡ true) same need in
    let words_of : (k : Kind) → e.kind ≡ k → words_after k t.words e.word e.value ≡ words_after e.kind t.words e.word e.value
    = λ k same. ap (λ (j : Kind). words_after j t.words e.word e.value) (sym same) in
    let same = same_words z t.words t.views e.seat v e.word w right.size found e.value e.update e.kind need in
    let other_pass : (x : View) (n : ℕ) → IsItem t.views e.seat x → is_number n x.number ≡ false → is_number n v.number ≡ false
    = λ x n item other. ap (λ (u : View). is_number n u.number) (sym (same_item t.views e.seat e.seat x v item at refl)) ∙ other in
    record {
      enters = λ kind x n item named.
          let own : x ≡ v = same_item t.views e.seat e.seat x v item at refl in
          subst (λ (ws : List ℕ). (is_even (section_of t n) ≡ true) × (is_even (memory z ws (Section n)) ≡ false)) (words_of Enter kind)
          (entered_word t e right v at w found n (ap (λ (u : View). u.number) (sym own) ∙ named) (met_of Enter kind));
      leaves = λ kind x n item named.
          let own : x ≡ v = same_item t.views e.seat e.seat x v item at refl in
          subst (λ (ws : List ℕ). (is_even (section_of t n) ≡ false) × (is_even (memory z ws (Section n)) ≡ true)) (words_of Leave kind)
          (left_own t e right v at w found n (ap (λ (u : View). u.number) (sym own) ∙ named) (met_of Leave kind));
      kept = λ enter leave n. same.section n (inl (enter, leave));
      others = λ x n item other. same.section n (inr (other_pass x n item other));
      announced = λ other n. same.announcement n (inl other);
      others_announced = λ x n item other. same.announcement n (inr (other_pass x n item other));
    }
moves_at t e _ _ is found right met = absurd (never met)

-- what an allowed event does to these words
pub moves_sections : (t : Table) (e : Event) → IsRight t → allowed t e ≡ true → MovesSections t e (after t e)
moves_sections t e right met = moves_at t e (slice_get t.views e.seat) (word_at t.layout e.word) refl refl right met
