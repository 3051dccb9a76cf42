-- How a search fails: a count has risen, and the pass stands as before, but for where it has searched.
use Rattle.std.specs.Prelude.{◌≡◌, ℕ, ◌≤◌}
use Rattle.index_words.specs.declared.view.View.{View}
use Rattle.core_events.specs.LoadMoves.{risen}
use Rattle.plan_laws.specs.Frames.{KeepsTry}
use Rattle.plan_laws.specs.Tries.{KeepsTrying}
use Rattle.update_search.specs.declared.outcome.Failed.{Failed}
use Rattle.update_search.specs.declared.outcome.Failed.TheVariants.{Busy, Moved}

-- the count has risen by at least one, or is at its maximum
abbrev pub HasRisen : ℕ → ℕ → Type 0
HasRisen old new = risen old ≤ new

-- the count of this failure has risen
abbrev pub IsCounted : Failed → View → View → Type 0
IsCounted Busy v w = HasRisen v.counts.busy w.counts.busy
IsCounted Moved v w = HasRisen v.counts.moves w.counts.moves

-- the same nodes are locked, in the same section; the count of entries without a number is unchanged
pub record KeepsPlaces (v w : View) : Type 0 where
  pub keeps : KeepsTry v w
  pub trying : KeepsTrying v w
  pub waits : w.counts.waits ≡ v.counts.waits
