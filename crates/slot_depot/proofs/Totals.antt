-- Sums over books, and what holds of each of them, after one of them was changed.
use Rattle.std.proofs.Common.{◌≡◌, ℕ, zero, suc, ◌+◌, ◌≤◌, List, [], ◌∷◌, ◌++◌, set, sym, refl, ap, subst, arith}
use mathlib.Core.Option.{some, some-injective, some-ne-none}
use lib.ListN.{get_elem?}
use Rattle.key_map.specs.Lists.{Every}
use Rattle.slot_depot.specs.declared.book.Book.{Book}
use Rattle.slot_depot.specs.Books.{total}

pub total_set : (f : Book → ℕ) (bs : List Book) (i : ℕ) (b c : Book) → get_elem? bs i ≡ some b → total f (set bs i c) + f b ≡ total f bs + f c
total_set f [] i b c at = absurd (some-ne-none b (sym at))
total_set f (x ∷ bs) zero b c at = let e : f x ≡ f b = ap f (some-injective x b at) in omega (arith, e)
total_set f (x ∷ bs) (suc i) b c at = omega (arith, total_set f bs i b c at)

pub total_push : (f : Book → ℕ) (bs : List Book) (c : Book) → total f (bs ++ c ∷ []) ≡ total f bs + f c
total_push f [] c = omega arith
total_push f (x ∷ bs) c = omega (arith, total_push f bs c)

module _ {X : Type 0} (P : X → Type 0) where
  pub every_at : (xs : List X) (i : ℕ) (x : X) → Every P xs → get_elem? xs i ≡ some x → P x
  every_at [] i x all at = absurd (some-ne-none x (sym at))
  every_at (y ∷ xs) zero x all at = subst P (some-injective y x at) all.0
  every_at (y ∷ xs) (suc i) x all at = every_at xs i x all.1 at

  pub every_set : (xs : List X) (i : ℕ) (x : X) → Every P xs → P x → Every P (set xs i x)
  every_set [] i x all here = tt
  every_set (y ∷ xs) zero x all here = (here, all.1)
  every_set (y ∷ xs) (suc i) x all here = (all.0, every_set xs i x all.1 here)

  pub every_push : (xs : List X) (x : X) → Every P xs → P x → Every P (xs ++ x ∷ [])
  every_push [] x all here = (here, tt)
  every_push (y ∷ xs) x all here = (all.0, every_push xs x all.1 here)

  pub every_front : (xs : List X) (x : X) → Every P (xs ++ x ∷ []) → Every P xs × P x
  every_front [] x all = (tt, all.0)
  every_front (y ∷ xs) x all = let rest = every_front xs x all.1 in ((all.0, rest.0), rest.1)

-- where one book stands for all seats, the others have nothing
module _ (n f : Book → ℕ) where
  total_none : (bs : List Book) → total n bs ≡ 0 → Every (λ b. n b ≡ 0 → f b ≡ 0) bs → total f bs ≡ 0
  total_none [] none all = refl
  total_none (x ∷ bs) none all = let here : f x ≡ 0 = all.0 (omega (arith, none)) in omega (arith, here, total_none bs (omega (arith, none)) all.1)

  total_above : (bs : List Book) (i : ℕ) (b : Book) → get_elem? bs i ≡ some b → n b ≤ total n bs
  total_above [] i b at = absurd (some-ne-none b (sym at))
  total_above (x ∷ bs) zero b at = let e : n x ≡ n b = ap n (some-injective x b at) in omega (arith, e)
  total_above (x ∷ bs) (suc i) b at = omega (arith, total_above bs i b at)

  pub total_one : (bs : List Book) (i : ℕ) (b : Book) → get_elem? bs i ≡ some b → total n bs ≡ n b → Every (λ b. n b ≡ 0 → f b ≡ 0) bs → total f bs ≡ f b
  total_one [] i b at one all = absurd (some-ne-none b (sym at))
  total_one (x ∷ bs) zero b at one all =
      let e : n x ≡ n b = ap n (some-injective x b at) in
      let g : f x ≡ f b = ap f (some-injective x b at) in
      omega (arith, g, total_none bs (omega (arith, e, one)) all.1)
  total_one (x ∷ bs) (suc i) b at one all =
      let low = total_above bs i b at in
      let here : f x ≡ 0 = all.0 (omega (arith, low, one)) in
      omega (arith, here, total_one bs i b at (omega (arith, low, one)) all.1)
