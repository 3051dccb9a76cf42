-- What a pass whose try was not made is to its caller.
use Rattle.std.specs.Prelude.{◌≡◌}
use Rattle.bucket_terms.specs.PassView.{PassView, Extends}

-- what the pass has seen goes on from what it had seen, and all else is unchanged
pub record SeesOn (old new : PassView) : Type 0 where
  pub seen : Extends old.seen new.seen
  pub same : new ≡ record old { seen = new.seen }
