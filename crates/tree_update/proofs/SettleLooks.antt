-- Two looks of a try to settle at another pass: what the second one finds.
use Rattle.std.proofs.Common.{◌≡◌, ◌≢◌, ℕ, ◌+◌, ◌<◌, List, [], ◌∷◌, ◌++◌, length, cond, Bool, true, false, not, eqb, ◌&&◌, ◌||◌, Option, Some, None, find, filter, ◌≤◌, arith, refl, ap, ◌∙◌, sym, subst}
use Rattle.std.specs.Option.{option_map}
use Rattle.std.proofs.lemmas.Bool.{eq-eqb, eqb-true}
use Rattle.index_words.specs.declared.view.View.{View}
use Rattle.index_words.specs.declared.view.slots.Looks.{Looks}
use Rattle.index_words.specs.declared.view.slots.SectionFound.{SectionFound}
use Rattle.index_words.specs.declared.layout.Layout.{Layout}
use Rattle.key_map.specs.Lists.{has}
use Rattle.core_grace.specs.Batches.{apart_from, batch_taken, batch_freed, first_found, is_find, lets_pass, looked_at, times_found}
use Rattle.core_grace.proofs.RuleMoves.{looked_by}
use Rattle.core_grace.specs.Sections.{is_even}
use Rattle.table_rule.specs.Running.{Happened}
use Rattle.table_steps.specs.Gives.{looking}
use Rattle.table_steps.specs.Passes.{Pass, IsSamePass}
use Rattle.tree_update.specs.declared.settle.PassLook.{PassLook}
use Rattle.tree_update.specs.declared.settle.PassLook.TheVariants.{Freed, Passed, Inside}
use Rattle.tree_update.specs.Settles.{HasBatch, looks_on, HasLookedAt, IsSeen, HasPassed, IsHeld, IsSeenAgain, found_of}
use Rattle.tree_update.proofs.SettleSteps.{taken_waits}

-- lists of those who were passed
has_more : (n : ℕ) (xs ys : List ℕ) → has n xs ≡ true → has n (xs ++ ys) ≡ true
has_more n [] ys is = cc
has_more n (x ∷ xs) ys is = by (eqb x n) (has_more n xs ys) is
  where
    by : (b : Bool) → (has n xs ≡ true → has n (xs ++ ys) ≡ true) → (b || has n xs) ≡ true → (b || has n (xs ++ ys)) ≡ true
    by true rest is = refl
    by false rest is = rest is

has_last : (n : ℕ) (xs : List ℕ) → has n (xs ++ n ∷ []) ≡ true
has_last n [] = ap (λ b. b || false) (eq-eqb n n refl)
has_last n (x ∷ xs) = by (eqb x n) (has_last n xs)
  where
    by : (b : Bool) → has n (xs ++ n ∷ []) ≡ true → (b || has n (xs ++ n ∷ [])) ≡ true
    by true rest = refl
    by false rest = rest

stays_passed : (g : Looks) (pass word n : ℕ) → has n g.passed ≡ true → has n (looked_at g pass word).passed ≡ true
stays_passed g pass word n is = by (has pass g.passed) (lets_pass (first_found pass g.found) word)
  where
    by : (a b : Bool) → has n (looked_by g pass word a b).passed ≡ true
    by false true = has_more n g.passed (pass ∷ []) is
    by _ _ = is

-- how often a word was found, with one more look
times_push : (n word : ℕ) (fs : List SectionFound) (f : SectionFound) → times_found n word (fs ++ f ∷ []) ≡ times_found n word fs + cond (is_find n word f) 1 0
times_push n word [] f = by (is_find n word f)
  where
    by : (b : Bool) → length (cond b (f ∷ []) []) ≡ 0 + cond b 1 0
    by true = refl
    by false = refl
times_push n word (g ∷ fs) f = by (is_find n word g) (times_push n word fs f)
  where
    by : (b : Bool) → times_found n word (fs ++ f ∷ []) ≡ times_found n word fs + cond (is_find n word f) 1 0
        → length (cond b (g ∷ filter (is_find n word) (fs ++ f ∷ [])) (filter (is_find n word) (fs ++ f ∷ [])))
        ≡ length (cond b (g ∷ filter (is_find n word) fs) (filter (is_find n word) fs)) + cond (is_find n word f) 1 0
    by true rest = omega (arith, rest)
    by false rest = rest

same_find : (n word : ℕ) → is_find n word (record { pass = n; word = word }) ≡ true
same_find n word = ap (λ b. b && eqb word word) (eq-eqb n n refl) ∙ eq-eqb word word refl

times_more : (g : Looks) (pass word n x : ℕ) → times_found n x g.found ≤ times_found n x (looked_at g pass word).found
times_more g pass word n x = by (has pass g.passed) (lets_pass (first_found pass g.found) word)
  where
    by : (a b : Bool) → times_found n x g.found ≤ times_found n x (looked_by g pass word a b).found
    by false false = omega (arith, times_push n x g.found (record { pass = pass; word = word }))
    by _ _ = omega arith

-- the word that was noted last is the first one found of a pass if none was noted for it
abbrev word_in : Option SectionFound → Option ℕ
word_in o = option_map (λ (f : SectionFound). f.word) o

found_last : (n word : ℕ) (fs : List SectionFound) → first_found n fs ≡ None → first_found n (fs ++ record { pass = n; word = word } ∷ []) ≡ Some word
found_last n word [] none = ap (λ b. word_in (cond b (Some (record { pass = n; word = word })) None)) (eq-eqb n n refl)
found_last n word (f ∷ fs) none = by (eqb f.pass n) (found_last n word fs) none
  where
    by : (b : Bool) → (first_found n fs ≡ None → first_found n (fs ++ record { pass = n; word = word } ∷ []) ≡ Some word)
        → word_in (cond b (Some f) (find (λ (f : SectionFound). eqb f.pass n) fs)) ≡ None
        → word_in (cond b (Some f) (find (λ (f : SectionFound). eqb f.pass n) (fs ++ record { pass = n; word = word } ∷ []))) ≡ Some word
    by true rest none = cc
    by false rest none = rest none

-- and else the first one stays
found_first : (n word first : ℕ) (fs : List SectionFound) → first_found n fs ≡ Some first → first_found n (fs ++ record { pass = n; word = word } ∷ []) ≡ Some first
found_first n word first [] is = cc
found_first n word first (f ∷ fs) is = by (eqb f.pass n) (found_first n word first fs) is
  where
    by : (b : Bool) → (first_found n fs ≡ Some first → first_found n (fs ++ record { pass = n; word = word } ∷ []) ≡ Some first)
        → word_in (cond b (Some f) (find (λ (f : SectionFound). eqb f.pass n) fs)) ≡ Some first
        → word_in (cond b (Some f) (find (λ (f : SectionFound). eqb f.pass n) (fs ++ record { pass = n; word = word } ∷ []))) ≡ Some first
    by true rest is = is
    by false rest is = rest is

or_left : (a b : Bool) → (a || b) ≡ false → a ≡ false
or_left true b none = cc
or_left false b none = refl

or_right : (a b : Bool) → (a || b) ≡ false → b ≡ false
or_right true b none = cc
or_right false b none = none

same_if : (n m : ℕ) (b : Bool) → eqb n m ≡ b → not b ≡ false → n ≡ m
same_if n m true is other = eqb-true n m is
same_if n m false is other = cc

-- a pass that is not passed by a look was found inside, by the same word as at first, once more than before
pub record FoundInside (g : Looks) (pass word : ℕ) : Type 0 where
  pub odd : is_even word ≡ false
  pub first : first_found pass (looked_at g pass word).found ≡ Some word
  pub times : times_found pass word (looked_at g pass word).found ≡ times_found pass word g.found + 1

apart : (b : Bool) → b ≡ true → b ≡ false → ⊥
apart true held none = cc
apart false held none = cc

module _ (g : Looks) (pass word : ℕ) where
  with_found : (a b : Bool) → has pass g.passed ≡ a → lets_pass (first_found pass g.found) word ≡ b → looked_at g pass word ≡ looked_by g pass word a b
  with_found a b one two = rw (one, two) refl

  not_let : (a b : Bool) → has pass g.passed ≡ a → has pass (looked_by g pass word a b).passed ≡ false → (a ≡ false) × (b ≡ false)
  not_let true b is none = absurd (apart (has pass g.passed) is none)
  not_let false true is none = absurd (apart (has pass (g.passed ++ pass ∷ [])) (has_last pass g.passed) none)
  not_let false false is none = (refl, refl)

  more_times : looked_at g pass word ≡ looked_by g pass word false false → times_found pass word (looked_at g pass word).found ≡ times_found pass word g.found + 1
  more_times now =
      let pushed = times_push pass word g.found (record { pass = pass; word = word }) in
      let one = ap (λ (c : Bool). 0 + cond c 1 0) (same_find pass word) in
      omega (arith, ap (λ (x : Looks). times_found pass word x.found) now, pushed, one)

  inside_by : (o : Option ℕ) → first_found pass g.found ≡ o → lets_pass o word ≡ false → has pass g.passed ≡ false → FoundInside g pass word
  inside_by None is lets new =
      let now = with_found false false new (ap (λ o. lets_pass o word) is ∙ lets) in
      record { odd = lets; first = ap (λ (x : Looks). first_found pass x.found) now ∙ found_last pass word g.found is; times = more_times now }
  inside_by (Some first) is lets new =
      let now = with_found false false new (ap (λ o. lets_pass o word) is ∙ lets) in
      let same : word ≡ first = same_if word first (eqb word first) refl (or_right (is_even word) (not (eqb word first)) lets) in
      record {
        odd = or_left (is_even word) (not (eqb word first)) lets;
        first = ap (λ (x : Looks). first_found pass x.found) now ∙ found_first pass word first g.found is ∙ ap Some (sym same);
        times = more_times now;
      }

  pub found_inside : has pass (looked_at g pass word).passed ≡ false → FoundInside g pass word
  found_inside none =
      let known = not_let (has pass g.passed) (lets_pass (first_found pass g.found) word) refl none in
      inside_by (first_found pass g.found) refl known.1 known.0

  -- and where a word was noted before, it is this one
  pub found_same : (first : ℕ) → first_found pass g.found ≡ Some first → has pass (looked_at g pass word).passed ≡ false → word ≡ first
  found_same first is none =
      let known = not_let (has pass g.passed) (lets_pass (first_found pass g.found) word) refl none in
      let lets : lets_pass (Some first) word ≡ false = ap (λ o. lets_pass o word) (sym is) ∙ known.1 in
      same_if word first (eqb word first) refl (or_right (is_even word) (not (eqb word first)) lets)

-- two looks
module _ (p q : Pass) (other m : ℕ) (one : HasLookedAt p other m q.view) where
  -- the batch was taken by the first one
  taken_first : batch_taken q.view ≡ looks_on p.view other m
  taken_first = taken_waits q.view one.waits ∙ one.view

  first_batch : HasBatch p.view q.view
  first_batch = one.view ∙ ap (λ (g : Looks). record (batch_taken p.view) { grace = g }) (sym (ap (λ (u : View). u.grace) one.view))

  freed_second : (w : View) → w ≡ batch_freed (batch_taken q.view) → w ≡ batch_freed (batch_taken p.view)
  freed_second w is = is ∙ ap batch_freed taken_first

  module _ (n : ℕ) (w : View) (two : HasLookedAt q other n w) where
    second_view : w ≡ record (batch_taken p.view) { grace = looked_at (looked_at (batch_taken p.view).grace other m) other n }
    second_view = two.view ∙ ap (λ (u : View). record u { grace = looked_at u.grace other n }) taken_first

    second_batch : HasBatch p.view w
    second_batch = second_view ∙ ap (λ (g : Looks). record (batch_taken p.view) { grace = g }) (sym (ap (λ (u : View). u.grace) second_view))

    second_taken : batch_taken w ≡ w
    second_taken = taken_waits w two.waits

    passed_second : has other w.grace.passed ≡ true → HasPassed p.view other w
    passed_second is = record {
      taking = second_taken ∙ second_batch ∙ ap (λ (u : View). record (batch_taken p.view) { grace = u.grace }) (sym second_taken);
      keeps = λ k had. ap (λ (u : View). has k u.grace.passed) (second_taken ∙ second_view)
          ∙ stays_passed (looked_at (batch_taken p.view).grace other m) other n k (stays_passed (batch_taken p.view).grace other m k had);
      found = λ k x. omega (
        arith,
        ap (λ (u : View). times_found k x u.grace.found) (second_taken ∙ second_view),
        times_more (batch_taken p.view).grace other m k x,
        times_more (looked_at (batch_taken p.view).grace other m) other n k x,
      );
      done = λ own. ap (λ (u : View). has other u.grace.passed) second_taken ∙ is;
    }

    held_second : has other q.view.grace.passed ≡ false → has other w.grace.passed ≡ false → IsSamePass p q → other < p.view.layout.passes → other ≢ p.number → IsHeld p other n w
    held_second new none same low apart_from = record {
      there = low;
      other = apart_from;
      odd = (found_inside q.view.grace other n at_second).odd;
      batch = second_batch;
      twice = record {
        before = q.view;
        batch = first_batch;
        twice = omega (arith, times_first, times_second);
        now = omega (arith, times_first, times_second);
        event = subst (λ (s : ℕ). Happened p.view.layout (looking (record p { seat = s }) other) q.view n w) same.seat
            (subst (λ (z : Layout). Happened z (looking (record q { view = record q.view { layout = z } }) other) q.view n w) same.layout two.event);
      };
    }
      where
        grace_first : q.view.grace ≡ looked_at (batch_taken p.view).grace other m
        grace_first = ap (λ (u : View). u.grace) one.view

        at_first : FoundInside (batch_taken p.view).grace other m
        at_first = found_inside (batch_taken p.view).grace other m (ap (λ (g : Looks). has other g.passed) (sym grace_first) ∙ new)

        first_at : first_found other q.view.grace.found ≡ Some m
        first_at = ap (λ (g : Looks). first_found other g.found) grace_first ∙ at_first.first

        grace_second : w.grace ≡ looked_at q.view.grace other n
        grace_second = ap (λ (u : View). u.grace) two.view ∙ ap (λ (u : View). looked_at u.grace other n) (taken_waits q.view one.waits)

        at_second : has other (looked_at q.view.grace other n).passed ≡ false
        at_second = ap (λ (g : Looks). has other g.passed) (sym grace_second) ∙ none

        -- both looks found one word, each once more
        one_word : n ≡ m
        one_word = found_same q.view.grace other n m first_at at_second

        times_first : times_found other n q.view.grace.found ≡ times_found other n (found_of p.view) + 1
        times_first =
            subst (λ x. times_found other x q.view.grace.found ≡ times_found other x (found_of p.view) + 1) (sym one_word)
            (ap (λ (g : Looks). times_found other m g.found) grace_first ∙ at_first.times)

        times_second : times_found other n w.grace.found ≡ times_found other n q.view.grace.found + 1
        times_second = ap (λ (g : Looks). times_found other n g.found) grace_second ∙ (found_inside q.view.grace other n at_second).times

-- the answer of the second look
pub seen_again : (p q : Pass) (other m : ℕ) (r : PassLook) (w : View) → IsSamePass p q → other < p.view.layout.passes → other ≢ p.number
    → HasLookedAt p other m q.view → has other q.view.grace.passed ≡ false → IsSeen q other r w → IsSeenAgain p other r w
seen_again p q other m Freed w same low apart_from one new is = freed_second p q other m one w is
seen_again p q other m Passed w same low apart_from one new is = passed_second p q other m one is.0 w is.1 is.2
seen_again p q other m (Inside n) w same low apart_from one new is = held_second p q other m one n w is.0 new is.1 same low apart_from
