-- The first elements of a list put in the opposite order, two at a time.
use Rattle.std.proofs.Common.{◌≡◌, ℕ, zero, suc, ◌+◌, ◌-◌, ◌<◌, ◌≤◌, List, [], ◌∷◌, ◌++◌, ◌⊎◌, inl, inr, length, length-append, take, drop, reverse, swap, get_or, arith, refl, ap, ◌∙◌, sym, ext_get_or}
use Rattle.std.proofs.lemmas.List.{length-reverse, get_or-reverse}
use Rattle.std.proofs.lemmas.Grind.{elements}
use Rattle.pass_slots.proofs.Ends.{long_part, long_rest, got_drop}

-- ys is xs after i of the swaps that reverse its first n elements
pub record IsTurned (xs ys : List ℕ) (n i : ℕ) : Type 0 where
  pub long : length ys ≡ length xs
  pub front : (k : ℕ) → k < i → get_or ys k 0 ≡ get_or xs (n - 1 - k) 0
  pub middle : (k : ℕ) → i ≤ k → k + i < n → get_or ys k 0 ≡ get_or xs k 0
  pub back : (k : ℕ) → n ≤ k + i → k < n → get_or ys k 0 ≡ get_or xs (n - 1 - k) 0
  pub after : (k : ℕ) → n ≤ k → get_or ys k 0 ≡ get_or xs k 0

pub unturned : (xs : List ℕ) (n : ℕ) → IsTurned xs xs n 0
unturned xs n = record {
  long = refl;
  front = λ k low. absurd (omega (arith, low));
  middle = λ k low high. refl;
  back = λ k low high. absurd (omega (arith, low, high));
  after = λ k low. refl;
}

long_swap : (xs : List ℕ) (i j : ℕ) → length (swap xs i j) ≡ length xs
long_swap [] i j = refl
long_swap (x ∷ xs) i j = grind (arith, elements)

swap_first : (xs : List ℕ) (i j : ℕ) → i < j → j < length xs → get_or (swap xs i j) i 0 ≡ get_or xs j 0
swap_first [] i j low high = absurd (omega (arith, high))
swap_first (x ∷ xs) i j low high = grind (arith, elements)

swap_second : (xs : List ℕ) (i j : ℕ) → i < j → j < length xs → get_or (swap xs i j) j 0 ≡ get_or xs i 0
swap_second [] i j low high = absurd (omega (arith, high))
swap_second (x ∷ xs) i j low high = grind (arith, elements)

swap_other : (xs : List ℕ) (i j k : ℕ) → (k ≡ i → ⊥) → (k ≡ j → ⊥) → get_or (swap xs i j) k 0 ≡ get_or xs k 0
swap_other [] i j k one two = refl
swap_other (x ∷ xs) i j k one two = grind (arith, elements)

below_or : (a b : ℕ) → (a < b) ⊎ (b ≤ a)
below_or a zero = inr (omega arith)
below_or zero (suc b) = inl (omega arith)
below_or (suc a) (suc b) = more (below_or a b)
  where
    more : (a < b) ⊎ (b ≤ a) → (suc a < suc b) ⊎ (suc b ≤ suc a)
    more (inl low) = inl (omega (arith, low))
    more (inr high) = inr (omega (arith, high))

-- one more swap
module _ (xs ys zs : List ℕ) (n i : ℕ) (within : n ≤ length xs) (low : i + i + 1 < n) (is : zs ≡ swap ys i (n - 1 - i)) (t : IsTurned xs ys n i) where
  other : (k : ℕ) → (k ≡ i → ⊥) → (k ≡ n - 1 - i → ⊥) → get_or zs k 0 ≡ get_or ys k 0
  other k one two = ap (λ ws. get_or ws k 0) is ∙ swap_other ys i (n - 1 - i) k one two

  first : get_or zs i 0 ≡ get_or xs (n - 1 - i) 0
  first =
      ap (λ ws. get_or ws i 0) is ∙ swap_first ys i (n - 1 - i) (omega (arith, low)) (omega (arith, low, within, t.long))
      ∙ t.middle (n - 1 - i) (omega (arith, low)) (omega (arith, low))

  second : get_or zs (n - 1 - i) 0 ≡ get_or xs i 0
  second =
      ap (λ ws. get_or ws (n - 1 - i) 0) is ∙ swap_second ys i (n - 1 - i) (omega (arith, low)) (omega (arith, low, within, t.long))
      ∙ t.middle i (omega (arith, low)) (omega (arith, low))

  front_by : (k : ℕ) → k < i + 1 → (k < i) ⊎ (i ≤ k) → get_or zs k 0 ≡ get_or xs (n - 1 - k) 0
  front_by k high (inl lower) = other k (λ e. omega (arith, e, lower)) (λ e. omega (arith, e, lower, low)) ∙ t.front k lower
  front_by k high (inr last) =
      let same : k ≡ i = omega (arith, high, last) in
      ap (λ j. get_or zs j 0) same ∙ first ∙ sym (ap (λ j. get_or xs (n - 1 - j) 0) same)

  back_by : (k : ℕ) → n ≤ k + (i + 1) → k < n → (k + i < n) ⊎ (n ≤ k + i) → get_or zs k 0 ≡ get_or xs (n - 1 - k) 0
  back_by k after high (inl last) =
      let same : k ≡ n - 1 - i = omega (arith, after, last) in
      let turned : i ≡ n - 1 - k = omega (arith, after, last) in
      ap (λ j. get_or zs j 0) same ∙ second ∙ ap (λ j. get_or xs j 0) turned
  back_by k after high (inr higher) = other k (λ e. omega (arith, e, higher, low)) (λ e. omega (arith, e, higher, low)) ∙ t.back k higher high

  pub turned_more : IsTurned xs zs n (i + 1)
  turned_more = record {
    long = ap length is ∙ long_swap ys i (n - 1 - i) ∙ t.long;
    front = λ k high. front_by k high (below_or k i);
    middle = λ k lower high. other k (λ e. omega (arith, e, lower)) (λ e. omega (arith, e, high, low)) ∙ t.middle k (omega (arith, lower)) (omega (arith, high));
    back = λ k after high. back_by k after high (below_or (k + i) n);
    after = λ k high. other k (λ e. omega (arith, e, high, low)) (λ e. omega (arith, e, high, low)) ∙ t.after k high;
  }

-- elements of two lists together, and of the first elements of a list
got_left : (us ws : List ℕ) (k : ℕ) → k < length us → get_or (us ++ ws) k 0 ≡ get_or us k 0
got_left [] ws k low = absurd (omega (arith, low))
got_left (u ∷ us) ws zero low = refl
got_left (u ∷ us) ws (suc k) low = got_left us ws k (omega (arith, low))

got_right : (us ws : List ℕ) (n k : ℕ) → length us ≡ n → get_or (us ++ ws) (n + k) 0 ≡ get_or ws k 0
got_right [] ws n k long = ap (λ j. get_or ws j 0) (omega (arith, long))
got_right (u ∷ us) ws zero k long = absurd (omega (arith, long))
got_right (u ∷ us) ws (suc n) k long =
    let next : suc n + k ≡ suc (n + k) = omega arith in
    ap (λ j. get_or (u ∷ (us ++ ws)) j 0) next ∙ got_right us ws n k (omega (arith, long))

got_taken : (n k : ℕ) (xs : List ℕ) → k < n → get_or (take n xs) k 0 ≡ get_or xs k 0
got_taken zero k xs low = absurd (omega (arith, low))
got_taken (suc n) k [] low = refl
got_taken (suc n) zero (x ∷ xs) low = refl
got_taken (suc n) (suc k) (x ∷ xs) low = got_taken n k xs (omega (arith, low))

-- all swaps
module _ (xs ys : List ℕ) (n i : ℕ) (within : n ≤ length xs) (enough : n ≤ i + i + 1) (t : IsTurned xs ys n i) where
  abbrev reversed : List ℕ
  reversed = reverse (take n xs) ++ drop n xs

  long_first : length (reverse (take n xs)) ≡ n
  long_first = length-reverse (take n xs) ∙ long_part n xs within

  long : length ys ≡ length reversed
  long =
      let first = long_first in
      let rest = long_rest n xs within in
      let both = length-append (reverse (take n xs)) (drop n xs) in
      omega (arith, t.long, first, rest, both)

  in_first : (k : ℕ) → k < n → get_or reversed k 0 ≡ get_or xs (n - 1 - k) 0
  in_first k low =
      let part = long_part n xs within in
      let same : length (take n xs) - 1 - k ≡ n - 1 - k = omega (arith, part) in
      got_left (reverse (take n xs)) (drop n xs) k (omega (arith, low, long_first)) ∙ get_or-reverse (take n xs) k 0 (omega (arith, low, part))
      ∙ ap (λ j. get_or (take n xs) j 0) same ∙ got_taken n (n - 1 - k) xs (omega (arith, low))

  in_rest : (k : ℕ) → n ≤ k → k < length xs → get_or reversed k 0 ≡ get_or xs k 0
  in_rest k low high =
      let same : k ≡ n + (k - n) = omega (arith, low) in
      ap (λ j. get_or reversed j 0) same ∙ got_right (reverse (take n xs)) (drop n xs) n (k - n) long_first
      ∙ got_drop n (k - n) xs (omega (arith, low, high)) ∙ sym (ap (λ j. get_or xs j 0) same)

  at_first : (k : ℕ) → k < n → (k < i) ⊎ (i ≤ k) → (k + i < n) ⊎ (n ≤ k + i) → get_or ys k 0 ≡ get_or xs (n - 1 - k) 0
  at_first k low (inl front) either = t.front k front
  at_first k low (inr after) (inr back) = t.back k back low
  at_first k low (inr after) (inl between) =
      let same : k ≡ n - 1 - k = omega (arith, after, between, enough) in
      t.middle k after between ∙ ap (λ j. get_or xs j 0) same

  at_place : (k : ℕ) → k < length ys → (k < n) ⊎ (n ≤ k) → get_or ys k 0 ≡ get_or reversed k 0
  at_place k low (inl first) = at_first k first (below_or k i) (below_or (k + i) n) ∙ sym (in_first k first)
  at_place k low (inr rest) = t.after k rest ∙ sym (in_rest k rest (omega (arith, low, t.long)))

  pub all_turned : ys ≡ reverse (take n xs) ++ drop n xs
  all_turned = ext_get_or 0 ys reversed long (λ k low. at_place k low (below_or k n))
