use Rattle.std.proofs.Common.{◌≡◌, ◌+◌, ◌≤◌, ◌⊎◌, ℕ, length}
use Rattle.bucket_terms.specs.PassView.{PassView, Extends}
use Rattle.bucket_terms.specs.Pool.{Traded}
use Rattle.slot_depot.specs.declared.book.Book.{Book}
use Rattle.slot_depot.specs.Depots.{IsSameSeat}
use Rattle.client_run.proofs.pool.hand_over.Given as goal

-- what the pass has given so far is in the book, and no look has found the depot full yet
pub record GivesAway (own : ℕ) (old new : PassView) (book after : Book) : Type 0 where
  pub traded : Traded old new
  pub kept : (new.nodes ≡ old.nodes) ⊎ (own ≤ new.nodes)
  pub never_raises : new.nodes ≤ old.nodes
  pub balance : new.nodes + length after.gave ≡ old.nodes + length book.gave
  pub gave : Extends book.gave after.gave
  pub took : after.took ≡ book.took
  pub empties : after.empties ≡ book.empties
  pub fulls : after.fulls ≡ book.fulls

abbrev pub invariant-loop-parcel : goal.invariant-loop-parcel
invariant-loop-parcel g l =
    GivesAway l.own (g.P.KeyPass.view l.initial.pass) (g.P.KeyPass.view l.pass) l.initial.seat.book l.seat.book
    × IsSameSeat l.initial.seat l.seat
    × (g.P.Homed.home l.pass ≡ g.P.Homed.home l.initial.pass)

abbrev pub decreases-loop-parcel : goal.decreases-loop-parcel
decreases-loop-parcel g l = g.P.PoolPass.free_nodes l.pass
