-- The set that is escaped leaves the bytes that stand for themselves.
use Rattle.std.proofs.Common.{◌≡◌, ℕ, ◌≤◌, Bool, true, false, not, cond, List, [], ◌∷◌, ◌++◌, refl, sym, ap, ◌∙◌, inl, inr, arith}
use Rattle.std.proofs.lemmas.Bool.{agree_below, agree_below_at, cases_lt}
use Rattle.std.proofs.lemmas.Bool.Decides.{nat_tests}
use Rattle.percent_encoding.specs.AsciiSet.{should_percent_encode}
use Rattle.percent_encoding.specs.Percent.{percent_encode_byte, percent_encode, encode_byte}
use Rattle.answer_text.specs.declared.escapes.TheConstants.{ESCAPED}
use Rattle.answer_text.specs.Lines.{is_kept}
use Rattle.answer_text.specs.Shown.{escaped_byte, escaped}

agrees : agree_below (should_percent_encode ESCAPED) (λ b. not (is_kept b)) 128 ≡ true
unfolding should_percent_encode
agrees = refl

above_kept : (b : ℕ) → 128 ≤ b → is_kept b ≡ false
above_kept b high = grind (arith, nat_tests)

above_escaped : (b : ℕ) → 128 ≤ b → should_percent_encode ESCAPED b ≡ true
unfolding should_percent_encode
above_escaped b high = grind (arith, nat_tests)

escaped_where_not_kept : (b : ℕ) → should_percent_encode ESCAPED b ≡ not (is_kept b)
escaped_where_not_kept b =
    elim (cases_lt b 128) [
      | inl low ↦ agree_below_at (should_percent_encode ESCAPED) (λ b. not (is_kept b)) 128 b agrees low
      | inr high ↦ above_escaped b high ∙ sym (ap not (above_kept b high))
    ]

choice : {A : Type 0} (k : Bool) (x y : A) → cond (not k) x y ≡ cond k y x
choice true x y = refl
choice false x y = refl

byte_same : (b : ℕ) → encode_byte ESCAPED b ≡ escaped_byte b
byte_same b = ap (λ t. cond t (percent_encode_byte b) (b ∷ [])) (escaped_where_not_kept b) ∙ choice (is_kept b) _ _

pub percent_encode-ESCAPED : (text : List ℕ) → percent_encode ESCAPED text ≡ escaped text
unfolding percent_encode
percent_encode-ESCAPED [] = refl
percent_encode-ESCAPED (b ∷ text) =
    ap (λ front. front ++ percent_encode ESCAPED text) (byte_same b) ∙ ap (λ rest. escaped_byte b ++ rest) (percent_encode-ESCAPED text)
