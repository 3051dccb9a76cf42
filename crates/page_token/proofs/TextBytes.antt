-- The bytes of a UTF-8 text are bytes: each is below 256.
use Rattle.std.proofs.Common.{◌≡◌, ℕ, ◌<◌, true, false, ltb, Bool, List, [], ◌∷◌, ◌++◌, zero, suc, arith, subst, lit<, inl, inr, ◌&&◌, refl}
use Rattle.std.specs.Str.{IsUtf8}
use Rattle.std.proofs.lemmas.Bool.{cond_both, ltb-true}
use Rattle.base64.specs.GeneralPurpose.{IsBytes}
use lib.Utf8.{scalar, scalars, scalar_cases, encode, encodes}

-- the same, element by element
abbrev pub AreBytes : List ℕ → Type 0
AreBytes [] = Unit {0}
AreBytes (b ∷ bs) = (b < 256) × AreBytes bs

pub appended : (xs ys : List ℕ) → AreBytes xs → AreBytes ys → AreBytes (xs ++ ys)
appended [] ys h k = k
appended (x ∷ xs) ys h k = (h.0, appended xs ys h.1 k)

pub by_index : (bs : List ℕ) → AreBytes bs → IsBytes bs
by_index [] h i = lit< tt
by_index (b ∷ bs) h zero = h.0
by_index (b ∷ bs) h (suc i) = by_index bs h.1 i

char_bytes : (c : ℕ) → c < 1114112 → AreBytes (encode c)
unfolding lib.Utf8.encode
char_bytes c small =
    cond_both (ltb c 128) _ _ AreBytes
    (λ e. let low = ltb-true c 128 e in (omega (arith, low), tt))
    (λ _. cond_both (ltb c 2048) _ _ AreBytes
    (λ e. let low = ltb-true c 2048 e in (omega (arith, low), (omega arith, tt)))
    (λ _. cond_both (ltb c 65536) _ _ AreBytes
    (λ e. let low = ltb-true c 65536 e in (omega (arith, low), (omega arith, (omega arith, tt))))
    (λ _. (omega (arith, small), (omega arith, (omega arith, (omega arith, tt)))))))

below_last : (c : ℕ) → scalar c ≡ true → c < 1114112
below_last c is = elim (scalar_cases c is) [ inl low ↦ omega (arith, low) | inr high ↦ high.1 ]

both_true : (a b : Bool) → (a && b) ≡ true → (a ≡ true) × (b ≡ true)
both_true true b h = (refl, h)
both_true false b h = cc

chars_bytes : (cs : List ℕ) → scalars cs ≡ true → AreBytes (encodes cs)
chars_bytes [] h = tt
chars_bytes (c ∷ cs) h =
    let parts = both_true (scalar c) (scalars cs) h in
    appended (encode c) (encodes cs) (char_bytes c (below_last c parts.0)) (chars_bytes cs parts.1)

pub text_bytes : (text : List ℕ) → IsUtf8 text → AreBytes text
text_bytes text utf8 = subst AreBytes utf8.1.1 (chars_bytes utf8.0 utf8.1.0)
