-- Each kind of event keeps the rule where its needs are met.
use Rattle.std.proofs.Common.{◌≡◌, ℕ, cond, List, Bool, true, false, set, refl, ap, ◌∙◌, subst, Some, []}
use Rattle.std.proofs.lemmas.List.{set-set}
use Rattle.index_words.specs.declared.layout.Layout.{Layout}
use Rattle.index_words.specs.declared.view.View.{View}
use Rattle.index_words.specs.declared.word.Word.TheVariants.{Section}
use Rattle.index_words.specs.Views.{no_slots, no_looks}
use Rattle.index_words.specs.Words.{Memory, written}
use Rattle.key_map.specs.Lists.{IsItem}
use Rattle.index_words.proofs.Seats.{item_set}
use Rattle.core_grace.specs.Batches.{is_empty, batch_taken, settled, looked_at, looked, is_number}
use Rattle.core_events.specs.Needs.{is_outside}
use Rattle.core_events.specs.Moves.{nowhere, in_section, entered}
use Rattle.core_invariant.specs.SectionRule.{IsIdle}
use Rattle.core_invariant.specs.Meanings.{Meaning}
use Rattle.core_invariant.specs.Rule.{Rule}
use Rattle.core_invariant.proofs.OneView.{taken, settled_right, look_right}
use Rattle.core_kept.proofs.Stores.{section_stored}
use Rattle.core_invariant.proofs.Needed.{outside_idle}
use Rattle.core_invariant.proofs.WaitNeeds.{outside_none}
use Rattle.core_kept.proofs.PlainWork.{work_kept}
use Rattle.core_events.specs.Waits.{looked_waiting}
use Rattle.core_grace.specs.Sections.{is_even}

taken_idle_by : (v : View) (b : Bool) → IsIdle v → IsIdle (cond b (record v { retired = no_slots; batch = v.retired; grace = no_looks }) v)
taken_idle_by v true idle = record { reading = idle.reading; held = idle.held; update = idle.update }
taken_idle_by v false idle = idle

taken_idle : (v : View) → IsIdle v → IsIdle (batch_taken v)
taken_idle v idle = taken_idle_by v (is_empty v.batch) idle

taken_number_by : (v : View) (b : Bool) → (cond b (record v { retired = no_slots; batch = v.retired; grace = no_looks }) v).number ≡ v.number
taken_number_by v true = refl
taken_number_by v false = refl

pub taken_number : (v : View) → (batch_taken v).number ≡ v.number
taken_number v = taken_number_by v (is_empty v.batch)

module _ (z : Layout) (m : Memory) (vs : List View) (g : Meaning) where
  -- enter keeps the rule
  pub enter_kept : (i n value : ℕ) (v : View) → IsItem vs i v → Rule z m vs g → v.number ≡ Some n → is_outside v ≡ true
      → Rule z (written m (Section n) value) (set vs i (entered z.passes v value)) g
  enter_kept i n value v at rule named out =
      let m' : Memory = written m (Section n) value in
      let idle = outside_idle z m vs g i v at rule out in
      let v1 : View = in_section v value in
      let idle1 : IsIdle v1 = record { reading = ap nowhere idle.reading; held = idle.held; update = idle.update } in
      let vs1 : List View = set vs i v1 in
      let rule1 : Rule z m' vs1 g = section_stored z m vs g i n value v (nowhere v.reading) at rule named idle1 in
      let at1 : IsItem vs1 i v1 = item_set vs i v v1 at in
      let v2 : View = batch_taken v1 in
      let vs2 : List View = set vs1 i v2 in
      let rule2 : Rule z m' vs2 g = taken z m' vs1 g i v1 at1 rule1 idle1 in
      let at2 : IsItem vs2 i v2 = item_set vs1 i v1 v2 at1 in
      let rule3 : Rule z m' (set vs2 i (settled z.passes v2)) g = settled_right z m' vs2 g i v2 at2 rule2 (taken_idle v1 idle1) in
      subst (λ (ws : List View). Rule z m' ws g) (set-set vs1 i v2 (settled z.passes v2) ∙ set-set vs i v1 (settled z.passes v2)) rule3

  -- a look for slots keeps the rule
  pub look_kept : (i pass : ℕ) (v : View) → IsItem vs i v → Rule z m vs g → is_number pass v.number ≡ false → is_outside v ≡ true
      → Rule z m (set vs i (looked z.passes v pass (m (Section pass)))) g
  look_kept i pass v at rule other out =
      let idle = outside_idle z m vs g i v at rule out in
      let v1 : View = batch_taken v in
      let vs1 : List View = set vs i v1 in
      let rule1 : Rule z m vs1 g = taken z m vs g i v at rule idle in
      let at1 : IsItem vs1 i v1 = item_set vs i v v1 at in
      let other1 : is_number pass v1.number ≡ false = ap (is_number pass) (taken_number v) ∙ other in
      let v2 : View = record v1 { grace = looked_at v1.grace pass (m (Section pass)) } in
      let vs2 : List View = set vs1 i v2 in
      let rule2 : Rule z m vs2 g
      = look_right z m vs1 g i v1 pass at1 rule1 other1 (λ u beside even. outside_none z m vs1 g rule1 beside.place u beside.at i v1 at1 even) in
      let at2 : IsItem vs2 i v2 = item_set vs1 i v1 v2 at1 in
      let idle1 : IsIdle v1 = taken_idle v idle in
      let idle2 : IsIdle v2 = record { reading = idle1.reading; held = idle1.held; update = idle1.update } in
      let rule3 : Rule z m (set vs2 i (settled z.passes v2)) g = settled_right z m vs2 g i v2 at2 rule2 idle2 in
      subst (λ (ws : List View). Rule z m ws g) (set-set vs1 i v2 (settled z.passes v2) ∙ set-set vs i v1 (settled z.passes v2)) rule3

  -- so does a look at a wait
  pub look_waiting_kept : (i pass : ℕ) (v : View) → IsItem vs i v → Rule z m vs g → is_even v.section_word ≡ true → (v.held.nodes ≡ [] → ⊥)
      → Rule z m (set vs i (looked_waiting v pass (m (Section pass)))) g
  look_waiting_kept i pass v at rule even holds =
      work_kept z m vs g rule i v at v.update.unset v.update.owed v.update.unlinking (looked_at v.update.waiting pass (m (Section pass))) holds
      (λ odd. absurd (apart (is_even v.section_word) even odd))
    where
      apart : (b : Bool) → b ≡ true → b ≡ false → ⊥
      apart true on off = cc
      apart false on off = cc
