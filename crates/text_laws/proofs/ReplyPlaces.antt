-- Where the reply lines of each client begin.
use Rattle.std.proofs.Common.{◌≡◌, ℕ, zero, suc, ◌+◌, ◌<◌, ◌≤◌, List, [], ◌∷◌, length, take, arith}
use Rattle.bucket_terms.specs.LegalRun.{RequestLine, lines_of}
use Rattle.text_laws.specs.WrongLine.{requests_of}

pub first_more : (parts : List (List RequestLine)) (k : ℕ) → k < length parts → requests_of (take (suc k) parts) ≡ requests_of (take k parts) + length (lines_of parts k)
first_more [] k inside = absurd (omega arith)
first_more (p ∷ parts) zero inside = omega arith
first_more (p ∷ parts) (suc k) inside = let rest = first_more parts k (omega arith) in omega arith

pub first_within : (parts : List (List RequestLine)) (k : ℕ) → k < length parts → requests_of (take k parts) + length (lines_of parts k) ≤ requests_of parts
first_within [] k inside = absurd (omega arith)
first_within (p ∷ parts) zero inside = omega arith
first_within (p ∷ parts) (suc k) inside = let rest = first_within parts k (omega arith) in omega arith

-- those of a later client begin after those of an earlier one
pub first_later : (parts : List (List RequestLine)) (j k : ℕ) → j < k → k < length parts → requests_of (take j parts) + length (lines_of parts j) ≤ requests_of (take k parts)
first_later [] j k less inside = absurd (omega arith)
first_later (p ∷ parts) j zero less inside = absurd (omega arith)
first_later (p ∷ parts) zero (suc k) less inside = omega arith
first_later (p ∷ parts) (suc j) (suc k) less inside = let rest = first_later parts j k (omega arith) (omega arith) in omega arith
