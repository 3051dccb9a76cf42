-- Counts that rise stay risen.
use Rattle.std.proofs.Common.{◌≡◌, ℕ, ◌≤◌, arith}
use Rattle.std.proofs.lemmas.Bool.Decides.{nat_tests}
use Rattle.core_events.specs.LoadMoves.{risen}
use Rattle.update_search.specs.Outcomes.{HasRisen}

pub risen_more : (m n : ℕ) → m ≤ n → risen m ≤ risen n
risen_more m n le = grind (arith, nat_tests)

pub rises : (a b : ℕ) → b ≡ risen a → HasRisen a b
rises a b is = omega (arith, is)
