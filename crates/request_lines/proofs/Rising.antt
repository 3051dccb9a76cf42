-- Lines that rise between two bounds, as a reader reaches them.
use Rattle.std.proofs.Common.{ℕ, ◌^◌, ◌<◌, All, List, [], ◌∷◌, arith}
use Rattle.std.proofs.lemmas.List.Elements.{All-nil, All-cons, All-weaker}
use Rattle.std.proofs.lemmas.List.Kept.{AllPairs-cons}
use Rattle.bucket_terms.specs.LegalRun.{RequestLine}
use Rattle.request_lines.specs.SessionLaws.{Rise, HasLineNumber}

-- the lines rise strictly, above the one number and below the other
abbrev pub LinesRise : ℕ → ℕ → List RequestLine → Type 0
LinesRise low high [] = Unit {0}
LinesRise low high (l ∷ lines) = (low < l.line) × (l.line < high) × LinesRise l.line high lines

above_all : (low high : ℕ) (lines : List RequestLine) → LinesRise low high lines → All (λ (m : RequestLine). low < m.line) lines
above_all low high [] rise = All-nil (λ (m : RequestLine). low < m.line)
above_all low high (l ∷ lines) rise =
    All-cons (λ (m : RequestLine). low < m.line) l lines rise.0
    (All-weaker (λ (m : RequestLine). l.line < m.line) (λ (m : RequestLine). low < m.line) (λ m lt. omega (arith, lt, rise.0)) lines (above_all l.line high lines rise.2))

pub rise_of : (low high : ℕ) (lines : List RequestLine) → LinesRise low high lines → Rise lines
rise_of low high [] rise = λ i j d lt below. absurd (omega arith)
rise_of low high (l ∷ lines) rise = AllPairs-cons (λ (k m : RequestLine). k.line < m.line) l lines (above_all l.line high lines rise.2) (rise_of l.line high lines rise.2)

pub numbers_of : (low : ℕ) (lines : List RequestLine) → LinesRise low (2 ^ 32) lines → All HasLineNumber lines
numbers_of low [] rise = All-nil HasLineNumber
numbers_of low (l ∷ lines) rise = All-cons HasLineNumber l lines (omega (arith, rise.0), rise.1) (numbers_of l.line lines rise.2)
