-- A cursor's walk over the map of a snapshot.
use Rattle.std.proofs.Common.{◌≡◌, ℕ, suc, ◌+◌, ◌-◌, ◌<◌, ◌≤◌, List, [], ◌∷◌, length, Option, Some, None, MatchOption, IfSome, IsSome, sym, ap, ◌∙◌, subst, refl, arith}
use Rattle.std.proofs.lemmas.Bool.{false≢true}
use Rattle.std.proofs.lemmas.Bool.Decides.{nat_tests}
use Rattle.key_map.specs.declared.pair.Pair.{Pair}
use Rattle.key_map.specs.Map.{first_from}
use Rattle.key_map.specs.History.{after}
use Rattle.bucket_terms.specs.PassView.{PassView}
use Rattle.page_rules.specs.Cursor.{CursorView, IsNext, IsOver, Took}

-- how many ranks are left to look at, with the one after the last of `n - 1`
abbrev pub left_at : ℕ → Option ℕ → ℕ
left_at n None = 0
left_at n (Some rank) = n - rank

-- a key that is found from `key` on is not below it
pub first_from-key : (key : ℕ) (m : List Pair) (p : Pair) → first_from key m ≡ Some p → key ≤ p.key
first_from-key key [] p e = cc
first_from-key key (q ∷ m) p e = grind (arith, nat_tests, first_from-key key m p)

left_smaller : (n key rank : ℕ) (A : Type 0) (B : ℕ → Type 0) (next : Option ℕ) → rank < n → rank ≤ key → ((r : ℕ) → B r → (key < r) × (r < n))
    → MatchOption next A B → suc (left_at n next) ≤ n - rank
left_smaller n key rank A B None lt le facts m = omega arith
left_smaller n key rank A B (Some r) lt le facts m = let f = facts r m in omega (arith, f.0, f.1)

-- each pair that is taken leaves fewer ranks
pub ranks_smaller : (old new : CursorView) (rank : ℕ) (p : Pair) (m : List Pair) → old.next ≡ Some rank → rank ≤ length old.dir → first_from rank m ≡ Some p → Took old new p
    → suc (left_at (length new.dir + 1) new.next) ≤ left_at (length old.dir + 1) old.next
ranks_smaller old new rank p m here within first took =
    let same : length new.dir + 1 ≡ length old.dir + 1 = omega (arith, ap length took.dir) in
    subst (λ (n : ℕ). suc (left_at n new.next) ≤ left_at (length old.dir + 1) old.next) (sym same)
    (subst (λ (o : Option ℕ). suc (left_at (length old.dir + 1) new.next) ≤ left_at (length old.dir + 1) o) (sym here)
    (left_smaller (length old.dir + 1) p.key rank _ _ new.next (omega arith) (first_from-key rank m p first) (λ r facts. (facts.1, omega (arith, facts.2.within))) took.next))

-- the pair that was asked for is the cursor's next
pub next_is : (v : CursorView) (rank : ℕ) (p : Pair) (m : List Pair) → v.next ≡ Some rank → first_from rank m ≡ Some p → IsNext v m p
next_is v rank p m here first = subst (λ (o : Option ℕ). IfSome o (λ r. first_from r m ≡ Some p)) (sym here) first

-- if no pair is left, nothing is left to take
pub over_is : (v : CursorView) (rank : ℕ) (m : List Pair) → v.next ≡ Some rank → first_from rank m ≡ None → IsOver v m
over_is v rank m here none =
    subst (λ (o : Option ℕ). IfSome o (λ r. IfSome (first_from r m) (λ p. length v.dir ≤ p.key))) (sym here)
    (subst (λ (o : Option Pair). IfSome o (λ p. length v.dir ≤ p.key)) (sym none) tt)

pub some_is : (o : Option ℕ) → IsSome o → (at : ℕ) × (o ≡ Some at)
some_is None some = absurd (false≢true some)
some_is (Some at) some = (at, refl)

-- what a look-up over a pass that is as at the start gives
pub found_at : (start now : PassView) (rank at : ℕ) (found : Option Pair) → now ≡ start → start.opened ≡ Some at
    → ((n : ℕ) → now.opened ≡ Some n → found ≡ first_from rank (after now.seen n)) → first_from rank (after start.seen at) ≡ found
found_at start now rank at found same opened first =
    sym (ap (λ (v : PassView). first_from rank (after v.seen at)) same) ∙ sym (first at (ap (λ (v : PassView). v.opened) same ∙ opened))
