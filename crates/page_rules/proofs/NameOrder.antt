-- The byte order of names and the names that begin with a text: these stand together.
use Rattle.std.proofs.Common.{◌≡◌, ℕ, zero, suc, true, false, List, [], ◌∷◌, length, take, refl, sym, arith}
use Rattle.std.proofs.lemmas.Bool.Decides.{nat_tests}
use Rattle.std.proofs.lemmas.Bool.{false_from_ne_true, both_ways}
use lib.Pointwise.{bytes_decides}
use Rattle.key_names.specs.Names.{begins_with}
use Rattle.bucket_terms.specs.Listing.{is_above}

-- ---- the order

pub above_trans : (a b c : List ℕ) → is_above b a ≡ true → is_above c b ≡ true → is_above c a ≡ true
above_trans a [] [] h k = cc
above_trans a (y ∷ b) [] h k = cc
above_trans [] [] (z ∷ c) h k = cc
above_trans (x ∷ a) [] (z ∷ c) h k = cc
above_trans [] (y ∷ b) (z ∷ c) h k = refl
above_trans (x ∷ a) (y ∷ b) (z ∷ c) h k = grind (arith, nat_tests, above_trans a b c)

pub above_irreflexive : (a : List ℕ) → is_above a a ≡ false
above_irreflexive [] = refl
above_irreflexive (x ∷ a) = grind (arith, nat_tests, above_irreflexive a)

pub not_above_back : (a b : List ℕ) → is_above a b ≡ true → is_above b a ≡ false
not_above_back a b h = false_from_ne_true _ (λ back. both_ways _ (above_irreflexive a) (above_trans a b a back h))

-- a text above one that is not below a third is above the third
pub above_upto : (a b c : List ℕ) → is_above a b ≡ false → is_above c b ≡ true → is_above c a ≡ true
above_upto a [] [] h k = cc
above_upto a (y ∷ b) [] h k = cc
above_upto [] [] (z ∷ c) h k = refl
above_upto [] (y ∷ b) (z ∷ c) h k = refl
above_upto (x ∷ a) [] (z ∷ c) h k = cc
above_upto (x ∷ a) (y ∷ b) (z ∷ c) h k = grind (arith, nat_tests, above_upto a b c)

-- ---- beginnings

pub begins_itself : (a : List ℕ) → begins_with a a ≡ true
begins_itself [] = refl
begins_itself (x ∷ a) = grind (arith, nat_tests, begins_itself a)

pub begins_front : (n : ℕ) (text : List ℕ) → begins_with text (take n text) ≡ true
begins_front zero text = refl
begins_front (suc n) [] = refl
begins_front (suc n) (x ∷ text) = grind (arith, nat_tests, begins_front n text)

-- a text that begins with another is not below it
pub begins_not_below : (text front : List ℕ) → begins_with text front ≡ true → is_above front text ≡ false
begins_not_below [] [] h = refl
begins_not_below (x ∷ text) [] h = refl
begins_not_below [] (y ∷ front) h = grind arith
begins_not_below (x ∷ text) (y ∷ front) h = grind (arith, nat_tests, begins_not_below text front)

-- between a text and one that begins with it, all begin with it
pub begins_between : (front mid last : List ℕ) → is_above front mid ≡ false → is_above mid last ≡ false → begins_with last front ≡ true → begins_with mid front ≡ true
begins_between [] mid last h k b = refl
begins_between (x ∷ front) mid [] h k b = grind arith
begins_between (x ∷ front) [] (z ∷ last) h k b = grind arith
begins_between (x ∷ front) (y ∷ mid) (z ∷ last) h k b = grind (arith, nat_tests, begins_between front mid last)

pub begins_take : (text front : List ℕ) → begins_with text front ≡ true → take (length front) text ≡ front
begins_take text front h = sym ((bytes_decides front (take (length front) text)).0 h)

pub begins_from_take : (text front : List ℕ) → take (length front) text ≡ front → begins_with text front ≡ true
begins_from_take text front e = (bytes_decides front (take (length front) text)).1 (sym e)

-- a text begins with each of its beginnings
pub begins_own : (n : ℕ) (text : List ℕ) → begins_with text (take n text) ≡ true
begins_own zero text = refl
begins_own (suc n) [] = refl
begins_own (suc n) (x ∷ text) = grind (arith, nat_tests, begins_own n text)

pub begins_trans : (text mid front : List ℕ) → begins_with text mid ≡ true → begins_with mid front ≡ true → begins_with text front ≡ true
begins_trans text mid [] h k = refl
begins_trans text [] (z ∷ front) h k = cc
begins_trans [] (y ∷ mid) (z ∷ front) h k = cc
begins_trans (x ∷ text) (y ∷ mid) (z ∷ front) h k = grind (arith, nat_tests, begins_trans text mid front)
