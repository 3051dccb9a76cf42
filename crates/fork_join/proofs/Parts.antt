-- What holds of two parts of a slice holds of the whole.
use Rattle.std.proofs.Common.{◌≡◌, ℕ, ◌+◌, ◌-◌, List, ◌++◌, length, get_or, set, refl, sym, subst, ap, ◌∙◌, arith}
use mathlib.Core.Logic.{⊎_elim}
use Rattle.std.proofs.lemmas.Bool.{cases_lt}
use Rattle.std.proofs.lemmas.List.{length-append, length-set, get_or_default, get_or_append_left, get_or-append_right, get_or-set_same}
use Rattle.fork_join.specs.Places.{AcceptsFrom, ChangesFrom}

module _ {T : Type 0} where
  -- of the only element
  pub changes_one : (R : ℕ → T → T → Type 0) (base : ℕ) (xs : List T) (c y : T) → length xs ≡ 1 → R base (get_or xs 0 c) y → ChangesFrom R base xs (set xs 0 y)
  changes_one R base xs c y one change =
      record {
        as_many = length-set xs 0 y;
        each = λ k d below.
            let first : k ≡ 0 = omega arith in
            subst (λ n. R (base + n) (get_or xs n d) (get_or (set xs 0 y) n d)) (sym first)
            (subst (λ n. R n (get_or xs 0 d) (get_or (set xs 0 y) 0 d)) (omega arith)
            (subst (λ z. R base (get_or xs 0 d) z) (sym (get_or-set_same xs 0 y d (omega arith)))
            (subst (λ z. R base z y) (get_or_default xs 0 c d (omega arith)) change)));
      }

  -- of the front
  pub accepts_front : (P : ℕ → T → Type 0) (base : ℕ) (all xs ys : List T) → all ≡ xs ++ ys → AcceptsFrom P base all → AcceptsFrom P base xs
  accepts_front P base all xs ys is accepts k d below =
      subst (P (base + k)) (ap (λ l. get_or l k d) is ∙ get_or_append_left xs ys d k below)
      (accepts k d (omega (arith, ap length is, length-append xs ys)))

  -- of what comes after it
  pub accepts_back : (P : ℕ → T → Type 0) (base up : ℕ) (all xs ys : List T) → all ≡ xs ++ ys → up ≡ base + length xs → AcceptsFrom P base all → AcceptsFrom P up ys
  accepts_back P base up all xs ys is from accepts k d below =
      let at : base + (length xs + k) ≡ up + k = omega arith in
      let here : get_or (xs ++ ys) (length xs + k) d ≡ get_or ys k d =
      get_or-append_right xs ys (length xs) (length xs + k) d refl (omega arith) ∙ ap (λ n. get_or ys n d) (omega arith) in
      subst (λ n. P n (get_or ys k d)) at
      (subst (P (base + (length xs + k))) (ap (λ l. get_or l (length xs + k) d) is ∙ here)
      (accepts (length xs + k) d (omega (arith, ap length is, length-append xs ys))))

  -- of both
  pub changes_both : (R : ℕ → T → T → Type 0) (base up : ℕ) (all xs ys now xs' ys' : List T) → all ≡ xs ++ ys → now ≡ xs' ++ ys' → up ≡ base + length xs
      → ChangesFrom R base xs xs' → ChangesFrom R up ys ys' → ChangesFrom R base all now
  changes_both R base up all xs ys now xs' ys' is is' from front back =
      let n = length xs in
      record {
        as_many = omega (arith, ap length is, ap length is', length-append xs ys, length-append xs' ys', front.as_many, back.as_many);
        each = λ k d below. ⊎_elim
            (λ p. subst (λ y. R (base + k) (get_or all k d) y) (sym (ap (λ l. get_or l k d) is' ∙ get_or_append_left xs' ys' d k (omega (arith, front.as_many))))
            (subst (λ x. R (base + k) x (get_or xs' k d)) (sym (ap (λ l. get_or l k d) is ∙ get_or_append_left xs ys d k p)) (front.each k d p)))
            (λ p. let at : up + (k - n) ≡ base + k = omega arith in
            subst (λ y. R (base + k) (get_or all k d) y) (sym (ap (λ l. get_or l k d) is' ∙ get_or-append_right xs' ys' n k d front.as_many p))
            (subst (λ x. R (base + k) x (get_or ys' (k - n) d)) (sym (ap (λ l. get_or l k d) is ∙ get_or-append_right xs ys n k d refl p))
            (subst (λ m. R m (get_or ys (k - n) d) (get_or ys' (k - n) d)) at (back.each (k - n) d (omega (arith, ap length is, length-append xs ys))))))
            (cases_lt k n);
      }
