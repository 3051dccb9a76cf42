-- The slots of a pass in one list: the retired ones in front, the batch after them, the free ones at the end.
use Rattle.std.proofs.Common.{◌≡◌, ℕ, zero, suc, ◌+◌, ◌-◌, ◌<◌, ◌≤◌, List, [], ◌∷◌, ◌++◌, length, take, drop, reverse, get_or, arith, refl, ap, ◌∙◌, sym, append_assoc, append-nil, Some}
use Rattle.std.proofs.lemmas.List.{reverse-append, reverse-reverse, length-reverse}
use Rattle.std.specs.List.{slice_get}
use Rattle.key_map.specs.Lists.{count}

-- parts of a list of two
pub take_front : (n : ℕ) (us ws : List ℕ) → length us ≡ n → take n (us ++ ws) ≡ us
take_front zero [] ws long = refl
take_front zero (u ∷ us) ws long = absurd (omega (arith, long))
take_front (suc n) [] ws long = absurd (omega (arith, long))
take_front (suc n) (u ∷ us) ws long = ap (λ ys. u ∷ ys) (take_front n us ws (omega (arith, long)))

pub drop_front : (n : ℕ) (us ws : List ℕ) → length us ≡ n → drop n (us ++ ws) ≡ ws
drop_front zero [] ws long = refl
drop_front zero (u ∷ us) ws long = absurd (omega (arith, long))
drop_front (suc n) [] ws long = absurd (omega (arith, long))
drop_front (suc n) (u ∷ us) ws long = drop_front n us ws (omega (arith, long))

pub take_within : (n : ℕ) (us ws : List ℕ) → n ≤ length us → take n (us ++ ws) ≡ take n us
take_within zero us ws low = refl
take_within (suc n) [] ws low = absurd (omega (arith, low))
take_within (suc n) (u ∷ us) ws low = ap (λ ys. u ∷ ys) (take_within n us ws (omega (arith, low)))

pub drop_within : (n : ℕ) (us ws : List ℕ) → n ≤ length us → drop n (us ++ ws) ≡ drop n us ++ ws
drop_within zero us ws low = refl
drop_within (suc n) [] ws low = absurd (omega (arith, low))
drop_within (suc n) (u ∷ us) ws low = drop_within n us ws (omega (arith, low))

-- a list is its first part and the rest, twice
pub take_sum : (r b : ℕ) (xs : List ℕ) → r ≤ length xs → take (r + b) xs ≡ take r xs ++ take b (drop r xs)
take_sum zero b xs low = ap (λ k. take k xs) (omega arith)
take_sum (suc r) b [] low = absurd (omega (arith, low))
take_sum (suc r) b (x ∷ xs) low =
    let next : suc r + b ≡ suc (r + b) = omega arith in
    ap (λ k. take k (x ∷ xs)) next ∙ ap (λ ys. x ∷ ys) (take_sum r b xs (omega (arith, low)))

pub drop_sum : (r b : ℕ) (xs : List ℕ) → r ≤ length xs → drop (r + b) xs ≡ drop b (drop r xs)
drop_sum zero b xs low = ap (λ k. drop k xs) (omega arith)
drop_sum (suc r) b [] low = absurd (omega (arith, low))
drop_sum (suc r) b (x ∷ xs) low =
    let next : suc r + b ≡ suc (r + b) = omega arith in
    ap (λ k. drop k (x ∷ xs)) next ∙ drop_sum r b xs (omega (arith, low))

pub long_part : (n : ℕ) (xs : List ℕ) → n ≤ length xs → length (take n xs) ≡ n
long_part zero xs low = refl
long_part (suc n) [] low = absurd (omega (arith, low))
long_part (suc n) (x ∷ xs) low = let rest = long_part n xs (omega (arith, low)) in omega (arith, rest)

pub long_rest : (n : ℕ) (xs : List ℕ) → n ≤ length xs → length (drop n xs) + n ≡ length xs
long_rest zero xs low = omega arith
long_rest (suc n) [] low = absurd (omega (arith, low))
long_rest (suc n) (x ∷ xs) low = let rest = long_rest n xs (omega (arith, low)) in omega (arith, rest)

pub reverse_more : (x : ℕ) (xs : List ℕ) → reverse (x ∷ xs) ≡ reverse xs ++ x ∷ []
reverse_more x xs = reverse-append (x ∷ []) xs

-- the batch is moved from between the retired slots and the free ones to the end
module _ (r b : ℕ) (xs ys zs us : List ℕ) (low : r + b ≤ length xs)
    (first : ys ≡ reverse (take (r + b) xs) ++ drop (r + b) xs)
    (second : zs ≡ drop b ys ++ take b ys)
    (third : us ≡ reverse (take r zs) ++ drop r zs) where
  abbrev retired : List ℕ
  retired = take r xs

  abbrev batch : List ℕ
  batch = take b (drop r xs)

  abbrev free : List ℕ
  free = drop (r + b) xs

  long_retired : length (reverse retired) ≡ r
  long_retired = length-reverse retired ∙ long_part r xs (omega (arith, low))

  long_batch : length (reverse batch) ≡ b
  long_batch = let rest = long_rest r xs (omega (arith, low)) in length-reverse batch ∙ long_part b (drop r xs) (omega (arith, rest, low))

  turned : ys ≡ reverse batch ++ (reverse retired ++ free)
  turned =
      first ∙ ap (λ ws. reverse ws ++ free) (take_sum r b xs (omega (arith, low)))
      ∙ ap (λ ws. ws ++ free) (reverse-append retired batch) ∙ append_assoc (reverse batch) (reverse retired) free

  moved : zs ≡ reverse retired ++ (free ++ reverse batch)
  moved = second ∙ ap (λ ws. drop b ws ++ take b ws) turned
      ∙ ap (λ ws. ws ++ take b (reverse batch ++ (reverse retired ++ free))) (drop_front b (reverse batch) (reverse retired ++ free) long_batch)
      ∙ ap (λ ws. (reverse retired ++ free) ++ ws) (take_front b (reverse batch) (reverse retired ++ free) long_batch)
      ∙ append_assoc (reverse retired) free (reverse batch)

  pub turned_back : us ≡ retired ++ (free ++ reverse batch)
  turned_back = third ∙ ap (λ ws. reverse (take r ws) ++ drop r ws) moved
      ∙ ap (λ ws. reverse ws ++ drop r (reverse retired ++ (free ++ reverse batch))) (take_front r (reverse retired) (free ++ reverse batch) long_retired)
      ∙ ap (λ ws. reverse (reverse retired) ++ ws) (drop_front r (reverse retired) (free ++ reverse batch) long_retired)
      ∙ ap (λ ws. ws ++ (free ++ reverse batch)) (reverse-reverse retired)

  pub freed : drop (r + 0) us ≡ free ++ reverse batch
  freed = ap (λ k. drop k us) (omega arith) ∙ ap (drop r) turned_back ∙ drop_front r retired (free ++ reverse batch) (long_part r xs (omega (arith, low)))

  pub still_retired : take r us ≡ take r xs
  still_retired = ap (take r) turned_back ∙ take_front r retired (free ++ reverse batch) (long_part r xs (omega (arith, low)))

drop_all : (k : ℕ) (xs : List ℕ) → k ≡ length xs → drop k xs ≡ []
drop_all zero [] long = refl
drop_all zero (x ∷ xs) long = absurd (omega (arith, long))
drop_all (suc k) [] long = refl
drop_all (suc k) (x ∷ xs) long = drop_all k xs (omega (arith, long))

-- a slot taken out of the free ones
pub taken_free : (w at : ℕ) (xs : List ℕ) → w ≤ at → at < length xs → drop w (take at xs ++ drop (suc at) xs) ≡ take (at - w) (drop w xs) ++ drop (at - w + 1) (drop w xs)
taken_free zero at xs low high =
    let same : at ≡ at - 0 = omega arith in
    let next : suc at ≡ at - 0 + 1 = omega arith in
    ap (λ k. take k xs ++ drop (suc at) xs) same ∙ ap (λ k. take (at - 0) xs ++ drop k xs) next
taken_free (suc w) zero xs low high = absurd (omega (arith, low))
taken_free (suc w) (suc at) [] low high = absurd (omega (arith, high))
taken_free (suc w) (suc at) (x ∷ xs) low high =
    let same : at - w ≡ suc at - suc w = omega arith in
    taken_free w at xs (omega (arith, low)) (omega (arith, high)) ∙ ap (λ k. take k (drop w xs) ++ drop (k + 1) (drop w xs)) same

pub taken_last : (n at : ℕ) (xs : List ℕ) → n ≡ length xs → at + 1 ≡ n → take (n - 1) xs ≡ take at xs ++ drop (at + 1) xs
taken_last n at xs long last =
    let same : n - 1 ≡ at = omega (arith, last) in
    let none : drop (at + 1) xs ≡ [] = drop_all (at + 1) xs (last ∙ long) in
    ap (λ k. take k xs) same ∙ sym (ap (λ ys. take at xs ++ ys) none ∙ append-nil (take at xs))

pub taken_front : (n at : ℕ) (xs : List ℕ) → n ≤ at → at < length xs → take n (take at xs ++ drop (suc at) xs) ≡ take n xs
taken_front zero at xs low high = refl
taken_front (suc n) zero xs low high = absurd (omega (arith, low))
taken_front (suc n) (suc at) [] low high = absurd (omega (arith, high))
taken_front (suc n) (suc at) (x ∷ xs) low high = ap (λ ys. x ∷ ys) (taken_front n at xs (omega (arith, low)) (omega (arith, high)))

pub taken_middle : (r b at : ℕ) (xs : List ℕ) → r + b ≤ at → at < length xs → take b (drop r (take at xs ++ drop (suc at) xs)) ≡ take b (drop r xs)
taken_middle zero b at xs low high = taken_front b at xs (omega (arith, low)) high
taken_middle (suc r) b zero xs low high = absurd (omega (arith, low))
taken_middle (suc r) b (suc at) [] low high = absurd (omega (arith, high))
taken_middle (suc r) b (suc at) (x ∷ xs) low high = taken_middle r b at xs (omega (arith, low)) (omega (arith, high))

-- where the batch or the retired slots are none
pub none_batched : (r b : ℕ) (xs : List ℕ) → r + b ≤ length xs → reverse (take b (drop r xs)) ≡ [] → b ≡ 0
none_batched r b xs low none =
    let rest = long_rest r xs (omega (arith, low)) in
    sym (long_part b (drop r xs) (omega (arith, rest, low))) ∙ sym (length-reverse (take b (drop r xs))) ∙ ap length none

pub none_retired : (r b : ℕ) (xs : List ℕ) → r + b ≤ length xs → reverse (take r xs) ≡ [] → r ≡ 0
none_retired r b xs low none = sym (long_part r xs (omega (arith, low))) ∙ sym (length-reverse (take r xs)) ∙ ap length none

-- one more is retired
pub retired_more : (s r : ℕ) (xs : List ℕ) → reverse (take (r + 1) (s ∷ xs)) ≡ reverse (take r xs) ++ s ∷ []
retired_more s r xs =
    let next : r + 1 ≡ suc r = omega arith in
    ap (λ k. reverse (take k (s ∷ xs))) next ∙ reverse_more s (take r xs)

-- elements by their places
pub got_drop : (w k : ℕ) (xs : List ℕ) → w + k < length xs → get_or (drop w xs) k 0 ≡ get_or xs (w + k) 0
got_drop zero k xs low = ap (λ j. get_or xs j 0) (omega arith)
got_drop (suc w) k [] low = absurd (omega (arith, low))
got_drop (suc w) k (x ∷ xs) low =
    let next : suc (w + k) ≡ suc w + k = omega arith in
    got_drop w k xs (omega (arith, low)) ∙ ap (λ j. get_or (x ∷ xs) j 0) next

pub got : (xs : List ℕ) (at x : ℕ) → at < length xs → get_or xs at 0 ≡ x → slice_get xs at ≡ Some x
got [] at x low is = absurd (omega (arith, low))
got (y ∷ xs) zero x low is = ap Some is
got (y ∷ xs) (suc at) x low is = got xs at x (omega (arith, low)) is

pub got_after : (w at x : ℕ) (xs : List ℕ) → w ≤ at → slice_get xs at ≡ Some x → slice_get (drop w xs) (at - w) ≡ Some x
got_after zero at x xs low is = ap (λ k. slice_get xs k) (omega arith) ∙ is
got_after (suc w) zero x xs low is = absurd (omega (arith, low))
got_after (suc w) (suc at) x [] low is = cc
got_after (suc w) (suc at) x (y ∷ xs) low is =
    let same : suc at - suc w ≡ at - w = omega arith in
    ap (λ k. slice_get (drop w xs) k) same ∙ got_after w at x xs (omega (arith, low)) is

pub starts_within : (w slot : ℕ) (xs : List ℕ) → 0 < count slot (drop w xs) → w ≤ length xs
starts_within zero slot xs some = omega arith
starts_within (suc w) slot [] some = absurd (omega (arith, some))
starts_within (suc w) slot (x ∷ xs) some = let rest = starts_within w slot xs some in omega (arith, rest)

pub found_within : (xs : List ℕ) (at x : ℕ) → slice_get xs at ≡ Some x → at < length xs
found_within [] at x is = cc
found_within (y ∷ xs) zero x is = omega arith
found_within (y ∷ xs) (suc at) x is = let rest = found_within xs at x is in omega (arith, rest)

pub any_default : (xs : List ℕ) (k d e : ℕ) → k < length xs → get_or xs k d ≡ get_or xs k e
any_default [] k d e low = absurd (omega (arith, low))
any_default (x ∷ xs) zero d e low = refl
any_default (x ∷ xs) (suc k) d e low = any_default xs k d e (omega (arith, low))

-- where a place of the list has another slot, so has that place of its rest
pub not_there : (start at place slot v : ℕ) (xs : List ℕ) → start + at ≡ place → place < length xs → v ≡ get_or xs place v → (v ≡ slot → ⊥) → get_or (drop start xs) at 0 ≡ slot → ⊥
not_there start at place slot v xs same low is other found =
    other (is ∙ any_default xs place v 0 low ∙ sym (got_drop start at xs (omega (arith, same, low)) ∙ ap (λ k. get_or xs k 0) same) ∙ found)
