-- The answers of the calls that read.
use Rattle.std.specs.Prelude.{◌≡◌, ℕ, Option, Some, None, IfSome, IfNone}
use Rattle.key_map.specs.declared.pair.Pair.{Pair}
use Rattle.bundle_reads.specs.Children.{waits_after as counted_after}
use Rattle.snapshot_read.specs.declared.looks.Look.{Look}
use Rattle.snapshot_read.specs.declared.looks.Look.TheVariants.{Found, Nothing, Pending}

-- what a look reports of the first pair, if that is known
abbrev pub told : Look → Option (Option Pair)
told (Found pair) = Some (Some pair)
told Nothing = Some None
told Pending = None

-- if the answer of a look is known, it is this
abbrev pub IsAnswer : Look → Option Pair → Type 0
IsAnswer look first = IfSome (told look) (λ answer. answer ≡ first)

-- what holds if it is not known
abbrev pub IfUnknown : Look → Type 0 → Type 0
IfUnknown look fact = IfNone (told look) fact

-- it is known
abbrev pub IsKnown : Look → Type 0
IsKnown look = IfUnknown look ⊥

-- the count of entries without a stamp after a look: it has risen if the answer is not known
abbrev pub waits_after : Look → ℕ → ℕ
waits_after look n = counted_after (told look) n
