-- Sums over clients: a list whose items are each of one client has as many items as its parts together.
use Rattle.std.proofs.Common.{◌≡◌, ℕ, zero, suc, ◌+◌, ◌<◌, Bool, true, false, cond, List, [], ◌∷◌, length, filter, map, get_or, refl, sym, ap, ◌∙◌, arith, All}
use Rattle.std.specs.List.{sum_by}
use Rattle.std.proofs.lemmas.Bool.{false_from_ne_true}
use Rattle.std.proofs.lemmas.List.Elements.{All-head, All-tail}
use Rattle.std.proofs.lemmas.List.Sums.{sum_by-cons}

-- the sum over the numbers below
abbrev pub total : (ℕ → ℕ) → ℕ → ℕ
total f zero = 0
total f (suc k) = f 0 + total (λ c. f (suc c)) k

pub sum_by-total : {X : Type 0} (f : X → ℕ) (xs : List X) (d : X) → sum_by f xs ≡ total (λ c. f (get_or xs c d)) (length xs)
sum_by-total f [] d = refl
sum_by-total f (x ∷ xs) d = sum_by-cons f x xs ∙ ap (λ (n : ℕ). f x + n) (sum_by-total f xs d)

pub total-same : (f g : ℕ → ℕ) (k : ℕ) → ((c : ℕ) → c < k → f c ≡ g c) → total f k ≡ total g k
total-same f g zero same = refl
total-same f g (suc k) same =
    let first = same 0 (omega arith) in
    let rest = total-same (λ c. f (suc c)) (λ c. g (suc c)) k (λ c below. same (suc c) (omega arith)) in
    omega arith

total-add : (f g : ℕ → ℕ) (k : ℕ) → total (λ c. f c + g c) k ≡ total f k + total g k
total-add f g zero = refl
total-add f g (suc k) = let rest = total-add (λ c. f (suc c)) (λ c. g (suc c)) k in omega arith

total-none : (k : ℕ) → total (λ c. 0) k ≡ 0
total-none zero = refl
total-none (suc k) = let rest = total-none k in omega arith

abbrev one_if : Bool → ℕ
one_if b = cond b 1 0

total-one : (test : ℕ → Bool) (k client : ℕ) → client < k → test client ≡ true → ((c : ℕ) → c < k → test c ≡ true → c ≡ client)
    → total (λ c. one_if (test c)) k ≡ 1
total-one test zero client below here only = absurd (omega arith)
total-one test (suc k) zero below here only =
    let first : one_if (test 0) ≡ 1 = ap one_if here in
    let none = total-same (λ c. one_if (test (suc c))) (λ c. 0) k (λ c low. ap one_if (false_from_ne_true _ (λ also.
    let same = only (suc c) (omega arith) also in absurd (omega arith)))) in
    omega (arith, total-none k)
total-one test (suc k) (suc client) below here only =
    let first : one_if (test 0) ≡ 0 = ap one_if (false_from_ne_true _ (λ also. let same = only 0 (omega arith) also in absurd (omega arith))) in
    let rest = total-one (λ c. test (suc c)) k client (omega arith) here
    (λ c low also. let same = only (suc c) (omega arith) also in omega arith) in
    omega arith

-- the item passes the test of one client, and of no other
pub record IsOfOne {X : Type 0} (test : ℕ → X → Bool) (k : ℕ) (x : X) : Type 0 where
  pub client : ℕ
  pub below : client < k
  pub passes : test client x ≡ true
  pub only : (c : ℕ) → c < k → test c x ≡ true → c ≡ client

pub total-parts : {X : Type 0} (test : ℕ → X → Bool) (k : ℕ) (xs : List X) → All (IsOfOne test k) xs
    → total (λ c. length (filter (test c) xs)) k ≡ length xs
total-parts test k [] all = total-none k
total-parts {X} test k (x ∷ xs) all =
    let rest = total-parts test k xs (All-tail (IsOfOne test k) x xs all) in
    let here = All-head (IsOfOne test k) x xs all in
    let one = total-one (λ c. test c x) k here.client here.below here.passes here.only in
    let split = total-same (λ c. length (filter (test c) (x ∷ xs))) (λ c. one_if (test c x) + length (filter (test c) xs)) k (λ c below. by_test (test c x) (filter (test c) xs)) in
    let both = total-add (λ c. one_if (test c x)) (λ c. length (filter (test c) xs)) k in
    omega arith
  where
    by_test : (b : Bool) (ys : List X) → length (cond b (x ∷ ys) ys) ≡ one_if b + length ys
    by_test true ys = omega arith
    by_test false ys = omega arith

pub sum_by-map : {X Y : Type 0} (f : Y → ℕ) (g : X → Y) (xs : List X) → sum_by (λ x. f (g x)) xs ≡ sum_by f (map g xs)
sum_by-map f g [] = refl
sum_by-map f g (x ∷ xs) = sum_by-cons (λ y. f (g y)) x xs ∙ ap (λ (n : ℕ). f (g x) + n) (sum_by-map f g xs) ∙ sym (sum_by-cons f (g x) (map g xs))
