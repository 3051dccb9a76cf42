-- A look at a section word lets nobody pass that is inside the section in which it was found.
use Rattle.std.proofs.Common.{◌≡◌, ℕ, ◌⊎◌, cond, List, [], ◌∷◌, ◌++◌, Bool, true, false, eqb, not, ◌&&◌, ◌||◌, find, refl, ap, ◌∙◌, sym, subst, inl, inr, Option, Some, None}
use Rattle.std.specs.List.{list_any}
use Rattle.std.specs.Option.{option_map}
use Rattle.std.proofs.lemmas.Bool.{and_parts, eqb-true, eq-eqb}
use Rattle.index_words.specs.declared.view.slots.Looks.{Looks}
use Rattle.index_words.specs.declared.view.slots.SectionFound.{SectionFound}
use Rattle.key_map.specs.Lists.{has}
use Rattle.core_grace.specs.Batches.{first_found, lets_pass, looked_at}
use Rattle.core_grace.specs.Sections.{is_even}
use Rattle.core_events.proofs.Tests.{either_true, never, not_true}
use Rattle.core_invariant.specs.Reached.{has_let, is_late}

-- a list with one item more
any_last : {X : Type 0} (test : X → Bool) (xs : List X) (y : X) → list_any test (xs ++ y ∷ []) ≡ true → (list_any test xs ≡ true) ⊎ (test y ≡ true)
any_last test [] y is = elim (either_true (test y) false is) as (λ _. (false ≡ true) ⊎ (test y ≡ true)) [ inl here ↦ inr here | inr none ↦ inl none ]
any_last test (x ∷ xs) y is = elim (either_true (test x) (list_any test (xs ++ y ∷ [])) is) as (λ _. ((test x || list_any test xs) ≡ true) ⊎ (test y ≡ true)) [
  | inl first ↦ inl (left (test x) (list_any test xs) first)
  | inr rest ↦ elim (any_last test xs y rest) as (λ _. ((test x || list_any test xs) ≡ true) ⊎ (test y ≡ true)) [
    | inl some ↦ inl (behind (test x) (list_any test xs) some)
    | inr last ↦ inr last
  ]
]
  where
    left : (a b : Bool) → a ≡ true → (a || b) ≡ true
    left true b is = refl
    left false b is = cc

    behind : (a b : Bool) → b ≡ true → (a || b) ≡ true
    behind true b is = refl
    behind false b is = is

untrue : (b : Bool) → (b ≡ true → ⊥) → b ≡ false
untrue true never_is = absurd (never_is refl)
untrue false never_is = refl

-- where the word that was found first is another one the looks have let the pass
late_step : (pass own first : ℕ) (f : SectionFound) (b : Bool) (o : Option SectionFound) (rest : Bool) → eqb f.pass pass ≡ b → (own ≡ first → ⊥)
    → option_map (λ (x : SectionFound). x.word) (cond b (Some f) o) ≡ Some first → (option_map (λ (x : SectionFound). x.word) o ≡ Some first → rest ≡ true)
    → (is_late pass own f || rest) ≡ true
late_step pass own first f true o rest is other found later =
    both (eqb f.pass pass) (eqb f.word own) is (untrue (eqb f.word own) (λ same. other (sym (eqb-true f.word own same) ∙ word found)))
  where
    word : Some f.word ≡ Some first → f.word ≡ first
    word e = cc

    both : (a c : Bool) → a ≡ true → c ≡ false → ((a && not c) || rest) ≡ true
    both true false a c = refl
    both true true a c = cc
    both false c a none = cc
late_step pass own first f false o rest is other found later = behind (eqb f.pass pass && not (eqb f.word own)) (later found)
  where
    behind : (a : Bool) → rest ≡ true → (a || rest) ≡ true
    behind true is = refl
    behind false is = is

late_found : (pass own first : ℕ) (fs : List SectionFound) → first_found pass fs ≡ Some first → (own ≡ first → ⊥) → list_any (is_late pass own) fs ≡ true
late_found pass own first [] found other = cc
late_found pass own first (f ∷ fs) found other =
    late_step pass own first f (eqb f.pass pass) (find (λ (x : SectionFound). eqb x.pass pass) fs) (list_any (is_late pass own) fs) refl other found
    (λ rest. late_found pass own first fs rest other)

module _ (l : Looks) (n own pass word : ℕ) (inside : is_even own ≡ false) (same : n ≡ pass → own ≡ word) (before : has_let l (Some n) own ≡ false) where
  -- the looks have neither passed the pass nor found it in an earlier section
  passed_none : has n l.passed ≡ true → ⊥
  passed_none is = no (has n l.passed) (list_any (is_late n own) l.found) before is
    where
      no : (a b : Bool) → (a || b) ≡ false → a ≡ true → ⊥
      no true b none is = cc
      no false b none is = cc

  late_none : list_any (is_late n own) l.found ≡ true → ⊥
  late_none is = no (has n l.passed) (list_any (is_late n own) l.found) before is
    where
      no : (a b : Bool) → (a || b) ≡ false → b ≡ true → ⊥
      no false true none is = cc
      no _ _ none is = cc

  -- a pass that is let pass now has another word
  lets_other : (first : Option ℕ) → first_found pass l.found ≡ first → lets_pass first word ≡ true → n ≡ pass → ⊥
  lets_other None found lets is = never (sym inside ∙ ap is_even (same is) ∙ lets)
  lets_other (Some first) found lets is = elim (either_true (is_even word) (not (eqb word first)) lets) as (λ _. ⊥) [
    | inl even ↦ never (sym inside ∙ ap is_even (same is) ∙ even)
    | inr moved ↦
        late_none (subst (λ (p : ℕ). list_any (is_late p own) l.found ≡ true) (sym is)
        (late_found pass own first l.found found (λ e. never (sym (not_true (eqb word first) moved) ∙ eq-eqb word first (sym (same is) ∙ e)))))
  ]

  let_now : (has n (l.passed ++ pass ∷ []) || list_any (is_late n own) l.found) ≡ true → lets_pass (first_found pass l.found) word ≡ true → ⊥
  let_now is lets = elim (either_true (has n (l.passed ++ pass ∷ [])) (list_any (is_late n own) l.found) is) as (λ _. ⊥) [
    | inl passed ↦ elim (any_last (λ y. eqb y n) l.passed pass passed) as (λ _. ⊥) [
      | inl old ↦ passed_none old
      | inr now ↦ lets_other (first_found pass l.found) refl lets (sym (eqb-true pass n now))
    ]
    | inr late ↦ late_none late
  ]

  -- nor one whose word is noted
  abbrev noted : List SectionFound
  noted = l.found ++ record { pass = pass; word = word } ∷ []

  late_now : (has n l.passed || list_any (is_late n own) noted) ≡ true → ⊥
  late_now is = elim (either_true (has n l.passed) (list_any (is_late n own) noted) is) as (λ _. ⊥) [
    | inl passed ↦ passed_none passed
    | inr late ↦ elim (any_last (is_late n own) l.found (record { pass = pass; word = word }) late) as (λ _. ⊥) [
      | inl old ↦ late_none old
      | inr now ↦
          let parts = and_parts (eqb pass n) (not (eqb word own)) now in
          never (sym (not_true (eqb word own) parts.1) ∙ eq-eqb word own (sym (same (sym (eqb-true pass n parts.0)))))
    ]
  ]

  looked_by : (a b : Bool) → lets_pass (first_found pass l.found) word ≡ b
      → has_let (cond a l (cond b (record l { passed = l.passed ++ pass ∷ [] }) (record l { found = noted }))) (Some n) own ≡ false
  looked_by true b lets = before
  looked_by false true lets = untrue (has n (l.passed ++ pass ∷ []) || list_any (is_late n own) l.found) (λ is. let_now is lets)
  looked_by false false lets = untrue (has n l.passed || list_any (is_late n own) noted) late_now

-- a seat that is inside a section is let pass by a look only where it was before
pub let_stays : (l : Looks) (number : Option ℕ) (own pass word : ℕ) → is_even own ≡ false → (number ≡ Some pass → own ≡ word) → has_let l number own ≡ false
    → has_let (looked_at l pass word) number own ≡ false
let_stays l None own pass word inside same before = refl
let_stays l (Some n) own pass word inside same before =
    looked_by l n own pass word inside (λ e. same (ap Some e)) before (has pass l.passed) (lets_pass (first_found pass l.found) word) refl
