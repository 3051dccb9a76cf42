use Rattle.std.proofs.Common.{ℕ, List}
use Rattle.page_rules.specs.PrefixRanks.{AreKnown}
use Rattle.page_rules.proofs.known_prefixes.free_places.Given as goal

abbrev pub invariant-loop : goal.invariant-loop
invariant-loop l = (dir : List (List ℕ)) → AreKnown dir l.places.items
