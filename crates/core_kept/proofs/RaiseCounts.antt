-- How often slots stand in a tree, in the bundles of its nodes, and in a list without others.
use Rattle.std.proofs.Common.{◌≡◌, ℕ, ◌+◌, ◌<◌, ◌≤◌, cond, List, [], ◌∷◌, ◌++◌, Bool, true, false, eqb, not, arith, refl, ap, subst, inl, inr}
use Rattle.std.specs.List.{sum_by}
use Rattle.std.proofs.lemmas.Bool.{ne_eqb, cases_lt}
use Rattle.std.proofs.lemmas.Bool.Decides.{nat_tests, eqb_tells}
use Rattle.std.proofs.lemmas.List.{map-append}
use Rattle.std.proofs.lemmas.List.Sums.{sum_by-cons}
use Rattle.index_words.specs.declared.view.reading.TreeNode.{TreeNode}
use Rattle.key_map.specs.Lists.{count, has}
use Rattle.key_map.proofs.Counting.{has-count, count-has}
use Rattle.core_grace.specs.Holds.{Bundles, entries_of, linked_in}
use Rattle.core_trees.specs.NamedTree.{NamedTree, Null, Branch}
use Rattle.core_trees.specs.Slots.{tally, one_at, MovesSlots}
use Rattle.core_events.specs.UpdateMoves.{without_all}
use Rattle.core_events.specs.Versions.{tree_nodes, top_slot, slots_of}
use Rattle.core_invariant.proofs.Frames.{one_counted}
use Rattle.core_invariant.proofs.TreeNow.{count_slots}

slots_branch : (slot key val : ℕ) (l r : NamedTree) → slots_of (Branch slot key val l r) ≡ slots_of l ++ slot ∷ slots_of r
slots_branch slot key val l r =
    map-append (λ (n : TreeNode). n.slot) (tree_nodes l) (record { slot = slot; key = key; val = val; left = top_slot l; right = top_slot r } ∷ tree_nodes r)

turned : (a b : ℕ) → 0 + cond (eqb a b) 1 0 ≡ 0 + cond (eqb b a) 1 0
turned a b = grind (arith, nat_tests)

linked-append : (b : Bundles) (e : ℕ) (xs ys : List ℕ) → linked_in b e (xs ++ ys) ≡ linked_in b e xs + linked_in b e ys
linked-append b e [] ys = omega arith
linked-append b e (x ∷ xs) ys = omega (arith, linked-append b e xs ys)

linked_tree : (b : Bundles) (e : ℕ) (tree : NamedTree) → linked_in b e (slots_of tree) ≡ tally (λ k. count e (entries_of b k)) tree
linked_tree b e Null = refl
linked_tree b e (Branch slot key val l r) =
    omega (arith, ap (linked_in b e) (slots_branch slot key val l r), linked-append b e (slots_of l) (slot ∷ slots_of r), linked_tree b e l, linked_tree b e r)

count_sum : (k : ℕ) (ks : List ℕ) → count k ks ≡ sum_by (one_at k) ks
count_sum k [] = refl
count_sum k (x ∷ ks) = omega (arith, turned x k, count_sum k ks, sum_by-cons (one_at k) x ks)

linked_sum : (b : Bundles) (e : ℕ) (ks : List ℕ) → linked_in b e ks ≡ sum_by (λ k. count e (entries_of b k)) ks
linked_sum b e [] = refl
linked_sum b e (x ∷ ks) = omega (arith, linked_sum b e ks, sum_by-cons (λ k. count e (entries_of b k)) x ks)

-- what is linked by nodes depends on the bundles of these alone
pub linked_same : (b b' : Bundles) (e : ℕ) (ks : List ℕ) → ((k : ℕ) → 0 < count k ks → entries_of b' k ≡ entries_of b k) → linked_in b' e ks ≡ linked_in b e ks
linked_same b b' e [] same = refl
linked_same b b' e (x ∷ ks) same =
    omega (arith, ap (count e) (same x (one_counted x (count x ks))), linked_same b b' e ks (λ k within. same k (omega (arith, within))))

module _ (out brought : List ℕ) (old new : NamedTree) (moves : MovesSlots out brought old new) where
  pub nodes_balance : (k : ℕ) → count k (slots_of new) + count k out ≡ count k (slots_of old) + count k brought
  nodes_balance k = omega (arith, (moves (one_at k)).0, count_slots k new, count_slots k old, count_sum k out, count_sum k brought)

  pub out_inside : (k : ℕ) → count k out ≤ count k (slots_of old)
  out_inside k = omega (arith, (moves (one_at k)).1, count_slots k old, count_sum k out)

  pub entries_balance : (b : Bundles) (e : ℕ) → linked_in b e (slots_of new) + linked_in b e out ≡ linked_in b e (slots_of old) + linked_in b e brought
  entries_balance b e =
      omega (arith, (moves (λ k. count e (entries_of b k))).0, linked_tree b e new, linked_tree b e old, linked_sum b e out, linked_sum b e brought)

none_step : (k x : ℕ) (out rest : List ℕ) (b : Bool) → has x out ≡ b → has k out ≡ true → count k rest ≡ 0 → count k (cond (not b) (x ∷ rest) rest) ≡ 0
none_step k x out rest true is of none = none
none_step k x out rest false is of none =
    counted (eqb x k) (ne_eqb x k (λ same. not_both (has k out) (subst (λ y. has y out ≡ false) same is) of))
  where
    not_both : (c : Bool) → c ≡ false → c ≡ true → ⊥
    not_both true f t = cc
    not_both false f t = cc

    counted : (b : Bool) → b ≡ false → cond b 1 0 + count k rest ≡ 0
    counted true f = cc
    counted false f = omega (arith, none)

without_none : (k : ℕ) (out xs : List ℕ) → has k out ≡ true → count k (without_all out xs) ≡ 0
without_none k out [] of = refl
without_none k out (x ∷ xs) of = none_step k x out (without_all out xs) (has x out) refl of (without_none k out xs of)

keep_step : (k x : ℕ) (out rest xs : List ℕ) (b : Bool) → has x out ≡ b → count k out ≡ 0 → count k rest ≡ count k xs
    → count k (cond (not b) (x ∷ rest) rest) ≡ count k (x ∷ xs)
keep_step k x out rest xs false is none same = omega (arith, same)
keep_step k x out rest xs true is none same =
    elim (eqb_tells x k) as (λ _. count k rest ≡ count k (x ∷ xs)) [
      | inl here ↦ absurd (omega (arith, none, has-count k out (subst (λ y. has y out ≡ true) here.1 is)))
      | inr other ↦ counted (eqb x k) other.0
    ]
  where
    counted : (b : Bool) → b ≡ false → count k rest ≡ cond b 1 0 + count k xs
    counted true f = cc
    counted false f = omega (arith, same)

pub without_kept : (k : ℕ) (out xs : List ℕ) → count k out ≡ 0 → count k (without_all out xs) ≡ count k xs
without_kept k out [] none = refl
without_kept k out (x ∷ xs) none = keep_step k x out (without_all out xs) xs (has x out) refl none (without_kept k out xs none)

-- what is taken out of a list is gone
pub taken_out : (k : ℕ) (out xs : List ℕ) → 0 < count k out → count k (without_all out xs) ≡ 0
taken_out k out xs some = without_none k out xs (count-has k out some)

-- where each number is at most once taken out and once in the list, and what is taken out is in the list
pub without_balance : (k : ℕ) (out xs : List ℕ) → count k out ≤ 1 → count k xs ≤ 1 → (0 < count k out → 0 < count k xs)
    → count k (without_all out xs) + count k out ≡ count k xs
without_balance k out xs once one inside =
    elim (cases_lt 0 (count k out)) as (λ _. count k (without_all out xs) + count k out ≡ count k xs) [
      | inl some ↦ omega (arith, taken_out k out xs some, once, one, inside some, some)
      | inr none ↦ omega (arith, without_kept k out xs (omega (arith, none)), none)
    ]
