-- The table after an allowed event, as the code makes it.
use Rattle.std.proofs.Common.{◌≡◌, ℕ, List, Bool, true, false, ap, ◌∙◌, sym, subst, Option, Some, None, is_some, Result, Ok, Err, OnOk, OnErr, is_err}
use Rattle.std.specs.Prelude.{IfSome}
use Rattle.std.specs.List.{slice_get}
use Rattle.index_words.specs.declared.layout.Layout.{Layout}
use Rattle.index_words.specs.declared.view.View.{View}
use Rattle.index_words.specs.declared.word.Word.{Word}
use Rattle.index_words.specs.declared.word.Field.TheVariants.{Head}
use Rattle.index_words.specs.declared.word.Part.TheVariants.{Next}
use Rattle.index_words.specs.declared.word.Word.TheVariants.{Node, Entry}
use Rattle.index_words.specs.Words.{memory, word_at, address}
use Rattle.core_events.specs.declared.event.Event.{Event}
use Rattle.core_events.specs.Steps.{allowed, allowed_at, after, after_at, views_after, words_after, IsChange}
use Rattle.core_events.specs.Tables.{Table, held_by}
use Rattle.core_events.specs.Numbered.{entry_number}
use Rattle.core_events.proofs.Allowed.{needed}
use Rattle.core_invariant.specs.LinkLaw.{KeepsSelections}
use Rattle.core_invariant.specs.Rule.{IsRight}
use Rattle.core_links.specs.Bundle.{select}
use Rattle.core_links.proofs.Chains.{chain-same}
use Rattle.machine_needs.specs.declared.step.Step.{Step}
use Rattle.machine_needs.specs.StepParts.{Parts, parts_of}
use Rattle.machine_steps.specs.Changes.{IsMet, IsStepped}

-- an event whose word has this name
pub allowed_word : (t : Table) (e : Event) (w : Word) → word_at t.layout e.word ≡ Some w → allowed t e ≡ allowed_at t e (slice_get t.views e.seat) (Some w)
allowed_word t e w found = ap (allowed_at t e (slice_get t.views e.seat)) found

stepped : (t : Table) (e : Event) (w : Word) (changed : List View) → word_at t.layout e.word ≡ Some w → allowed_at t e (slice_get t.views e.seat) (Some w) ≡ true
    → IsChange t.layout t.words t.views e w changed
    → record { layout = t.layout; words = words_after e.kind t.words e.word e.value; views = changed } ≡ after t e
stepped t e w changed found met is =
    let need = needed t e w met in
    ap (λ (vs : List View). record { layout = t.layout; words = words_after e.kind t.words e.word e.value; views = vs }) (is need.v need.is)
    ∙ sym (ap (λ o. after_at t e o (word_at t.layout e.word)) need.is ∙ ap (after_at t e (Some need.v)) found)

-- the step is that of the event at the word
abbrev pub IsStepOf : Event → Word → Step → Type 0
IsStepOf e w s = parts_of s ≡ record { kind = e.kind; word = w; value = e.value; update = e.update }

-- an allowed event stays allowed whatever the number of its word is, if the word has the same name
same_allowed : (t : Table) (e : Event) (n : ℕ) (w : Word) (o : Option View)
    → allowed_at t e o (Some w) ≡ true → allowed_at t (record { seat = e.seat; kind = e.kind; word = n; value = e.value; update = e.update }) o (Some w) ≡ true
same_allowed t e n w None met = met
same_allowed t e n w (Some v) met = met

step_met : (z : Layout) (words : List ℕ) (views : List View) (e : Event) (w : Word) (s : Step) → IsStepOf e w s
    → allowed_at (record { layout = z; words = words; views = views }) e (slice_get views e.seat) (Some w) ≡ true → IsMet z words views e.seat s
step_met z words views e w s is met =
    let t : Table = record { layout = z; words = words; views = views } in
    subst (λ (p : Parts). allowed_at t (record { seat = e.seat; kind = p.kind; word = address z p.word; value = p.value; update = p.update }) (slice_get views e.seat) (Some p.word) ≡ true) (sym is)
    (same_allowed t e (address z w) w (slice_get views e.seat) met)

-- what the code has found and made on the way to the table after an event
pub record Taken (z : Layout) (words : List ℕ) (views : List View) (e : Event) (stored : List ℕ) (changed : List View) : Type 0 where
  pub w : Word
  pub found : word_at z e.word ≡ Some w
  pub met : allowed_at (record { layout = z; words = words; views = views }) e (slice_get views e.seat) (Some w) ≡ true
  pub change : IsChange z words views e w changed
  pub stores : stored ≡ words_after e.kind words e.word e.value

-- the test for what is allowed, over the table itself
module _ (z : Layout) (words ws : List ℕ) (views vs : List View) (e : Event) (w : Word) (s : Step) (o : Option Step) (same_words : ws ≡ words) (same_views : vs ≡ views)
    (is_met : is_some o ≡ allowed_at (record { layout = z; words = ws; views = vs }) e (slice_get vs e.seat) (Some w)) (made : o ≡ Some s) where
  pub met_now : allowed_at (record { layout = z; words = words; views = views }) e (slice_get views e.seat) (Some w) ≡ true
  met_now =
      subst (λ (xs : List View). allowed_at (record { layout = z; words = words; views = xs }) e (slice_get xs e.seat) (Some w) ≡ true) same_views
      (subst (λ (xs : List ℕ). allowed_at (record { layout = z; words = xs; views = vs }) e (slice_get vs e.seat) (Some w) ≡ true) same_words (sym is_met ∙ ap is_some made))

  module _ (parts : IfSome o (IsStepOf e w)) where
    pub step_is : IsStepOf e w s
    step_is = subst (λ (x : Option Step). IfSome x (IsStepOf e w)) made parts

    pub is_met_by : (us : List ℕ) → us ≡ words → IsMet z us views e.seat s
    is_met_by us same = subst (λ (xs : List ℕ). IsMet z xs views e.seat s) (sym same) (step_met z words views e w s step_is met_now)

    pub taken : {T E : Type 0} (us stored : List ℕ) (bad : Bool) (r : Result T E) (changed : List View) → Some w ≡ word_at z e.word → us ≡ words → bad ≡ is_err r → bad ≡ false
        → OnOk r (IsStepped z us views e.seat s changed) → stored ≡ words_after (parts_of s).kind words e.word (parts_of s).value → Taken z words views e stored changed
    taken us stored bad (Err x) changed found same is_bad good is stores = cc
    taken us stored bad (Ok x) changed found same is_bad good is stores = record {
      w = w;
      found = sym found;
      met = met_now;
      change = subst (λ (xs : List ℕ). IsChange z xs views e w changed) same
          (subst (λ (p : Parts). (v : View) → slice_get views e.seat ≡ Some v → changed ≡ views_after p.kind z (memory z us) views e.seat v p.word p.value p.update) step_is is);
      stores = stores ∙ ap (λ (p : Parts). words_after p.kind words e.word p.value) step_is;
    }

-- a law on each allowed event, from what the code has found and made
pub taken_law : (Q : Table → Event → Table → Type 0) → ((t : Table) (e : Event) → IsRight t → allowed t e ≡ true → Q t e (after t e))
    → (z : Layout) (words : List ℕ) (views : List View) (e : Event) (stored : List ℕ) (changed : List View) → IsRight (record { layout = z; words = words; views = views })
    → Taken z words views e stored changed → Q (record { layout = z; words = words; views = views }) e (record { layout = z; words = stored; views = changed })
taken_law Q law z words views e stored changed right h =
    let t : Table = record { layout = z; words = words; views = views } in
    subst (λ (xs : List ℕ). Q t e (record { layout = z; words = xs; views = changed })) (sym h.stores)
    (subst (Q t e) (sym (stepped t e h.w changed h.found h.met h.change)) (law t e right (allowed_word t e h.w h.found ∙ h.met)))

-- a table that stays as it is selects the same
pub same_selections : (t : Table) → KeepsSelections t t
same_selections t n k side es fs past live live' chain chain' =
    ap (select (entry_number (held_by t) t.views) n) (chain-same (λ d. held_by t (Entry Next d)) (held_by t (Node (Head side) k)) es fs chain chain')

pub refused_selections : {T E : Type 0} (t : Table) (changed : List View) (bad : Bool) (r : Result T E) → bad ≡ is_err r → bad ≡ true → OnErr r (changed ≡ t.views)
    → KeepsSelections t (record { layout = t.layout; words = t.words; views = changed })
refused_selections t changed bad (Ok x) is held same = cc
refused_selections t changed bad (Err x) is held same =
    subst (λ (vs : List View). KeepsSelections t (record { layout = t.layout; words = t.words; views = vs })) (sym same) (same_selections t)

-- a table that a refusal leaves as it was meets the rule as before
pub refused_right : {T E : Type 0} (t : Table) (changed : List View) (bad : Bool) (r : Result T E) → IsRight t → bad ≡ is_err r → bad ≡ true → OnErr r (changed ≡ t.views)
    → IsRight (record { layout = t.layout; words = t.words; views = changed })
refused_right t changed bad (Ok x) right is held same = cc
refused_right t changed bad (Err x) right is held same =
    subst (λ (vs : List View). IsRight (record { layout = t.layout; words = t.words; views = vs })) (sym same) right
