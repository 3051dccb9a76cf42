-- A look at an announcement, or a cut, that is allowed keeps the rule.
use Rattle.std.proofs.Common.{◌≡◌, ℕ, List, true, eqb, not, ◌&&◌, set, is_some, refl, ap, ◌∙◌, sym, subst, Some, None}
use Rattle.std.proofs.lemmas.Bool.{and_parts}
use Rattle.index_words.specs.declared.layout.Layout.{Layout}
use Rattle.index_words.specs.declared.view.View.{View}
use Rattle.index_words.specs.declared.view.reading.Reading.{Reading}
use Rattle.index_words.specs.declared.word.Part.{Part}
use Rattle.index_words.specs.declared.word.Part.TheVariants.{Next}
use Rattle.index_words.specs.declared.word.Word.{Word}
use Rattle.index_words.specs.declared.word.Word.TheVariants.{Announced, Entry}
use Rattle.index_words.specs.Words.{memory, written, word_at}
use Rattle.key_map.specs.Lists.{IsItem}
use Rattle.core_grace.specs.Sections.{is_even}
use Rattle.core_grace.specs.Batches.{is_number}
use Rattle.core_events.specs.declared.event.Kind.TheVariants.{LookAnn, Cut}
use Rattle.core_events.specs.Announcing.{may_look_ann, ann_loaded}
use Rattle.core_events.specs.CutNeeds.{may_cut}
use Rattle.core_events.specs.CutMoves.{cut_off, cut_view}
use Rattle.core_events.specs.Steps.{cut_from, views_after}
use Rattle.core_events.proofs.Tests.{never}
use Rattle.core_invariant.specs.Rule.{InRule}
use Rattle.core_invariant.specs.LinkLaw.{Kept}
use Rattle.core_invariant.specs.KeptRule.{After, KeepsRuleAt}
use Rattle.core_invariant.proofs.OneView.{seat_at}
use Rattle.core_invariant.proofs.KeptViews.{store_right, load_right}
use Rattle.core_invariant.proofs.AtEntries.{IsCutAt, cut_at}
use Rattle.core_kept.proofs.LooksAtAnn.{look_ann_kept}
use Rattle.core_kept.proofs.CutSeats.{cut_kept}
use Rattle.core_kept.proofs.PlainKept.{quiet_work, plain_quiet}

module _ (z : Layout) (words : List ℕ) (vs : List View) (right : InRule z words vs) (i : ℕ) (v : View) (at : IsItem vs i v) where
  abbrev m : Word → ℕ
  m = memory z words

  -- a seat with a section number is inside a section
  reads_inside : is_some v.reading.section ≡ true → is_even v.section_word ≡ true → ⊥
  reads_inside reads even =
      never (ap (λ (r : Reading). is_some r.section) (sym ((seat_at z m vs right.meaning i v at right.rule).section.outside even)) ∙ reads)

  look_found : (w : Word) (value : ℕ) → may_look_ann v w value ≡ true → After z words vs right words (views_after LookAnn z m vs i v w value None)
  look_found (Announced p) value met =
      let one = and_parts (is_some v.reading.section && not (is_number p v.number)) (eqb value 0) met in
      let reads = (and_parts (is_some v.reading.section) (not (is_number p v.number)) one.0).0 in
      load_right z words vs right (set vs i (ann_loaded v p (m (Announced p)))) (look_ann_kept z m vs right.meaning right.rule i v at p (reads_inside reads))
      (plain_quiet m right.meaning vs i v (ann_loaded v p (m (Announced p))) at (quiet_work v _ refl refl refl refl))
  look_found _ value met = absurd (never met)

  cut_word : (p : Part) (e value : ℕ) → may_cut z m vs v (Entry p e) value ≡ true
      → Kept z m vs right.meaning (written m (Entry p e) value) (set vs i (cut_view v e (cut_off z m e)))
  cut_word Next e value met =
      let parts = cut_at z m vs right.meaning right.rule i v at e value met in
      let cut : IsCutAt z m vs right.meaning v e = parts.1 in
      subst (λ x. Kept z m vs right.meaning (written m (Entry Next e) x) (set vs i (cut_view v e (cut_off z m e)))) (sym parts.0)
      (subst (λ es. Kept z m vs right.meaning (written m (Entry Next e) 0) (set vs i (cut_view v e es))) (sym cut.off)
      (cut_kept z m vs right.meaning right.rule i v at e cut))
  cut_word _ e value met = absurd (never met)

  cut_found : (n : ℕ) (w : Word) → word_at z n ≡ Some w → (value : ℕ) → may_cut z m vs v w value ≡ true
      → After z words vs right (set words n value) (set vs i (cut_from z m v w))
  cut_found n (Entry p e) found value met =
      store_right z words vs n value (Entry p e) right (set vs i (cut_from z m v (Entry p e))) found (cut_word p e value met)
  cut_found n _ found value met = absurd (never met)

pub look_ann_law : KeepsRuleAt LookAnn
look_ann_law z words vs right i v at live n w found value o own met = look_found z words vs right i v at w value met

pub cut_law : KeepsRuleAt Cut
cut_law z words vs right i v at live n w found value o own met = cut_found z words vs right i v at n w found value met
