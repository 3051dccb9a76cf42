use Rattle.std.proofs.Common.{◌≡◌, ◌+◌, length}
use Rattle.key_map.specs.Lists.{Every}
use Rattle.bucket_terms.specs.Pool.{Traded}
use Rattle.shared_index.specs.Keys.{home_of_note, home_of_pass}
use Rattle.shared_index.specs.Shown.{shown}
use Rattle.client_threads.proofs.pooled.adopt_all.Given as goal

abbrev pub invariant-loop-parcel : goal.invariant-loop-parcel
invariant-loop-parcel l =
    Traded (shown l.initial.pass) (shown l.pass) × (home_of_pass l.pass ≡ home_of_pass l.initial.pass)
    × Every (λ p. home_of_note p ≡ home_of_pass l.initial.pass) l.left.items
    × ((shown l.pass).nodes + length l.left.items ≡ (shown l.initial.pass).nodes + length l.initial.left.items)

abbrev pub decreases-loop-parcel : goal.decreases-loop-parcel
decreases-loop-parcel l = length l.left.items
