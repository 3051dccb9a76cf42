-- Two numbers compared.
use Rattle.std.proofs.Common.{◌≡◌, ℕ, ◌<◌, inl, inr, arith}
use Rattle.std.proofs.lemmas.Bool.Decides.{leb_tells, eqb_tells}

pub data Compared (a b : ℕ) : Type 0 where
  less : a < b → Compared a b
  more : b < a → Compared a b
  same : a ≡ b → Compared a b

pub compared : (a b : ℕ) → Compared a b
compared a b =
    elim (leb_tells b a) [
      | inl h ↦ elim (eqb_tells a b) [ inl e ↦ same e.1 | inr n ↦ more (omega (arith, h.1, n.1)) ]
      | inr h ↦ less h.1
    ]
