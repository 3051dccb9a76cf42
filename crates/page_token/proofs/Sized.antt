-- A text with its length before it is distinguished from what follows it.
use Rattle.std.proofs.Common.{◌≡◌, ℕ, ◌+◌, ◌/◌, ◌%◌, ◌<◌, ◌≤◌, List, [], ◌∷◌, ◌++◌, length, take, drop, get_or, refl, sym, ap, ◌∙◌, arith, take_at, drop_at}
use Rattle.key_names.specs.Names.{most_name_bytes}
use Rattle.bucket_terms.specs.Listing.{four_digits, sized}

pub tail_same : (x y : ℕ) (xs ys : List ℕ) → x ∷ xs ≡ y ∷ ys → xs ≡ ys
tail_same x y xs ys same = cc

-- four digits determine a number below 10,000
four_digits_once : (m n : ℕ) (r s : List ℕ) → m < 10000 → n < 10000 → four_digits m ++ r ≡ four_digits n ++ s → m ≡ n
four_digits_once m n r s small_m small_n same =
    let a : 48 + m / 1000 % 10 ≡ 48 + n / 1000 % 10 = ap (λ xs. get_or xs 0 0) same in
    let b : 48 + m / 100 % 10 ≡ 48 + n / 100 % 10 = ap (λ xs. get_or xs 1 0) same in
    let c : 48 + m / 10 % 10 ≡ 48 + n / 10 % 10 = ap (λ xs. get_or xs 2 0) same in
    let d : 48 + m % 10 ≡ 48 + n % 10 = ap (λ xs. get_or xs 3 0) same in
    omega (arith, a, b, c, d)

-- the text and what follows it
pub sized_once : (a b r s : List ℕ) → length a ≤ most_name_bytes → length b ≤ most_name_bytes → sized a ++ r ≡ sized b ++ s → (a ≡ b) × (r ≡ s)
sized_once a b r s short_a short_b same =
    let long : length a ≡ length b = four_digits_once (length a) (length b) (a ++ r) (b ++ s) (omega (arith, short_a)) (omega (arith, short_b)) same in
    let behind : a ++ r ≡ b ++ s = tail_same _ _ _ _ (tail_same _ _ _ _ (tail_same _ _ _ _ (tail_same _ _ _ _ same))) in (
      sym (take_at a r (length b) long) ∙ ap (take (length b)) behind ∙ take_at b s (length b) refl,
      sym (drop_at a r (length b) long) ∙ ap (drop (length b)) behind ∙ drop_at b s (length b) refl,
    )
