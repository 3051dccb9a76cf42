-- The tree after an update, for puts and removals alike, and what the tests of a tree step say.
use Rattle.std.proofs.Common.{◌≡◌, ℕ, ◌+◌, ◌^◌, ◌<◌, ◌≤◌, ◌⊎◌, cond, List, [], ◌∷◌, ◌++◌, Bool, true, false, not, eqb, leb, arith, refl, ◌∙◌, sym, subst, inl, inr, ◌||◌}
use Rattle.std.specs.List.{list_all, sum_by}
use Rattle.std.proofs.lemmas.Bool.{ltb-true, and_parts, or_cases, not-true, ne_eqb, le-leb, lt-leb}
use Rattle.std.proofs.lemmas.Bool.Decides.{nat_tests, eqb_tells}
use Rattle.std.proofs.lemmas.List.Sums.{sum_by-cons}
use Rattle.index_words.specs.declared.side.Side.{Side}
use Rattle.index_words.specs.declared.side.Side.TheVariants.{Right}
use Rattle.key_map.specs.declared.update.Change.{Change}
use Rattle.key_map.specs.declared.update.Change.TheVariants.{Put, Remove}
use Rattle.key_map.specs.History.{changed}
use Rattle.key_map.specs.Lists.{count, has}
use Rattle.key_map.proofs.Counting.{count-append}
use Rattle.core_grace.specs.Holds.{listed}
use Rattle.core_links.specs.Bundle.{no_number}
use Rattle.core_trees.specs.NamedTree.{NamedTree, Null, Branch, IsLawful, contents}
use Rattle.core_trees.specs.Gaps.{HasNullLink, IsInGap}
use Rattle.core_trees.specs.Slots.{MovesSlots, one_at, added_slots, remove_takes}
use Rattle.core_trees.specs.TreeStep.{subtree_at, tree_put, tree_remove}
use Rattle.core_trees.specs.SpelledTree.{Graph, IsSpelled}
use Rattle.core_trees.proofs.StepLaws.{put_contents, put_lawful, remove_contents, remove_lawful, remove_gaps, put_moves, remove_moves}
use Rattle.core_trees.proofs.SpelledGaps.{still_null_law}
use Rattle.core_events.specs.UpdateMoves.{listed_entry}
use Rattle.core_invariant.specs.MeaningMoves.{raised_numbers}
use Rattle.core_events.specs.TreeMoves.{tree_after, takes, brings, is_key, first_slot}
use Rattle.core_invariant.proofs.Frames.{one_counted}
use Rattle.core_invariant.proofs.TreeReads.{TailLow}

-- a removal brings in one node at most
one_added : (slot : ℕ) (tree : NamedTree) → listed (first_slot (added_slots slot tree)) ≡ added_slots slot tree
one_added slot Null = refl
one_added slot (Branch s k v Null r) = refl
one_added slot (Branch s k v (Branch _ _ _ _ _) Null) = refl
one_added slot (Branch s k v (Branch _ _ _ _ _) (Branch _ _ _ _ _)) = refl

pub slots_after : (c : Change) (slot key : ℕ) (tree : NamedTree) → MovesSlots (takes c key tree) (listed (first_slot (brings c slot key tree))) tree (tree_after c slot key tree)
slots_after (Put val) slot key tree = put_moves slot key val tree (tree_put slot key val tree) refl
slots_after Remove slot key tree =
    subst (λ (ks : List ℕ). MovesSlots (remove_takes key tree) ks tree (tree_remove slot key tree)) (sym (one_added slot (subtree_at key tree)))
    (remove_moves slot key tree (tree_remove slot key tree) refl)

pub contents_after : (c : Change) (slot key : ℕ) (tree : NamedTree) → IsLawful tree → contents (tree_after c slot key tree) ≡ changed key c (contents tree)
contents_after (Put val) slot key tree lawful = put_contents slot key val tree (tree_put slot key val tree) refl lawful
contents_after Remove slot key tree lawful = remove_contents slot key tree (tree_remove slot key tree) refl lawful

pub key_low : (key : ℕ) → is_key key ≡ true → key < 2 ^ 64
key_low key is = ltb-true key 18446744073709551616 is

pub lawful_after : (c : Change) (slot key : ℕ) (tree : NamedTree) → key < 2 ^ 64 → IsLawful tree → IsLawful (tree_after c slot key tree)
lawful_after (Put val) slot key tree low lawful = put_lawful slot key val tree (tree_put slot key val tree) refl low lawful
lawful_after Remove slot key tree low lawful = remove_lawful slot key tree (tree_remove slot key tree) refl lawful

-- a null link that is null after the update too has as wide a gap, or a wider one
pub gaps_after : (g : Graph) (c : Change) (slot key node k y : ℕ) (side : Side) (tree : NamedTree) → IsLawful tree → HasNullLink node k side tree
    → IsSpelled g (g.child Right 0) (tree_after c slot key tree) → g.child side node ≡ 0 → IsInGap side k y tree → IsInGap side k y (tree_after c slot key tree)
gaps_after g (Put val) slot key node k y side tree lawful link spelled none gap = still_null_law g 0 slot key val node k y Right side tree lawful link gap spelled none
gaps_after g Remove slot key node k y side tree lawful link spelled none gap = remove_gaps slot key tree (tree_remove slot key tree) refl k y side gap

-- a sum of ones is a count
pub count_sum : (x : ℕ) (xs : List ℕ) → sum_by (one_at x) xs ≡ count x xs
count_sum x [] = refl
count_sum x (y ∷ ys) = omega (arith, sum_by-cons (one_at x) y ys, either_way x y, count_sum x ys)
  where
    either_way : (x y : ℕ) → one_at x y ≡ 0 + cond (eqb y x) 1 0
    either_way x y = grind (arith, nat_tests)

-- what a test holds of all holds of one that is listed
pub tested_at : (on : ℕ → Bool) (xs : List ℕ) (x : ℕ) → list_all on xs ≡ true → 0 < count x xs → on x ≡ true
tested_at on [] x all some = absurd (omega (arith, some))
tested_at on (y ∷ ys) x all some =
    let both = and_parts (on y) (list_all on ys) all in
    elim (eqb_tells y x) as (λ _. on x ≡ true) [
      | inl same ↦ subst (λ n. on n ≡ true) same.1 both.0
      | inr other ↦ tested_at on ys x both.1 (rest y x ys other.0 some)
    ]
  where
    rest : (y x : ℕ) (ys : List ℕ) → eqb y x ≡ false → 0 < count x (y ∷ ys) → 0 < count x ys
    rest y x ys other some = grind (arith, nat_tests)

pub count-listed : (x e : ℕ) → count x (listed_entry e) ≡ cond (eqb e 0) 0 (cond (eqb e x) 1 0)
count-listed x e = by (eqb e 0)
  where
    by : (b : Bool) → count x (cond b [] (e ∷ [])) ≡ cond b 0 (cond (eqb e x) 1 0)
    by true = refl
    by false = omega arith

-- two heads that differ, or are none, are different entries
pub once_listed : (x a b : ℕ) → (eqb a 0 || not (eqb a b)) ≡ true → count x (listed_entry a ++ listed_entry b) ≤ 1
once_listed x a b differ =
    elim (or_cases (eqb a 0) (not (eqb a b)) differ) as (λ _. count x (listed_entry a ++ listed_entry b) ≤ 1) [
      | inl none ↦ omega (arith, count-append x (listed_entry a) (listed_entry b), count-listed x a, count-listed x b, none_one (eqb a 0) (eqb a x) (eqb b 0) (eqb b x) none)
      | inr apart ↦ omega (arith, count-append x (listed_entry a) (listed_entry b), count-listed x a, count-listed x b, apart_one x a b (not-true (eqb a b) apart))
    ]
  where
    none_one : (n c l d : Bool) → n ≡ true → cond n 0 (cond c 1 0) + cond l 0 (cond d 1 0) ≤ 1
    none_one true c true d is = omega arith
    none_one true c false true is = omega arith
    none_one true c false false is = omega arith
    none_one false c l d is = cc

    apart_one : (x a b : ℕ) → eqb a b ≡ false → cond (eqb a 0) 0 (cond (eqb a x) 1 0) + cond (eqb b 0) 0 (cond (eqb b x) 1 0) ≤ 1
    apart_one x a b is = grind (arith, nat_tests)

pub in_listed : (e : ℕ) → 0 < e → 0 < count e (listed_entry e)
in_listed e some = by (eqb e 0) (ne_eqb e 0 (omega (arith, some)))
  where
    by : (b : Bool) → b ≡ false → 0 < count e (cond b [] (e ∷ []))
    by true is = cc
    by false is = one_counted e 0

-- a listed number is the one that the option has
pub listed_is : (k a : ℕ) → 0 < count k (a ∷ []) → a ≡ k
listed_is k a some = grind (arith, nat_tests)

-- an entry has a number after the raise if its number is then at most the new stamp
pub raised_tells : (x c : Bool) (n s : ℕ) → (x || false) ≡ leb n s → (n ≤ s) ⊎ (n ≡ no_number) → s + 1 < no_number → (x || c) ≡ leb (cond c (s + 1) n) (s + 1)
raised_tells x true n s tells which room = or_true x ∙ sym (le-leb (s + 1) (s + 1) (omega arith))
  where
    or_true : (x : Bool) → (x || true) ≡ true
    or_true true = refl
    or_true false = refl
raised_tells x false n s tells (inl low) room = tells ∙ le-leb n s low ∙ sym (le-leb n (s + 1) (omega (arith, low)))
raised_tells x false n s tells (inr none) room =
    tells ∙ lt-leb n s (omega (arith, none, room)) ∙ sym (lt-leb n (s + 1) (omega (arith, none, room)))

-- the entries after a head still have numbers
pub raised_tail : (number : ℕ → ℕ) (more : List ℕ) (s : ℕ) (es : List ℕ) → TailLow number s es → TailLow (raised_numbers number more (s + 1)) (s + 1) es
raised_tail number more s [] low = tt
raised_tail number more s (e ∷ es) low = λ d here. by (has d more) (low d here)
  where
    by : (c : Bool) → {n : ℕ} → n ≤ s → cond c (s + 1) n ≤ s + 1
    by true l = omega arith
    by false l = omega (arith, l)
