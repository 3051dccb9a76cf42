-- Helper: the headline does not rest on this file.
-- What a pass is after it has lent a node slot to another pass, or adopted one.
use Rattle.std.specs.Prelude.{◌≡◌, ◌+◌, None}
use Rattle.bucket_terms.specs.PassView.{PassView, Extends, KnowsOwn}

-- node slots went or came: what the pass has seen goes on, and all but its node slots is as before
pub record Traded (old new : PassView) : Type 0 where
  pub number : new.number ≡ old.number
  pub seen : Extends old.seen new.seen
  pub mine : new.mine ≡ old.mine
  -- what it has newly seen are updates of others
  pub own : KnowsOwn old → KnowsOwn new
  pub looks : new.looks ≡ old.looks
  pub found : new.found ≡ old.found
  pub entries : new.entries ≡ old.entries
  pub left : new.left ≡ old.left
  pub closed : new.opened ≡ None

-- one of its node slots went away
pub record Lent (old new : PassView) : Type 0 where
  pub traded : Traded old new
  pub nodes : new.nodes + 1 ≡ old.nodes

-- a node slot came
pub record Adopted (old new : PassView) : Type 0 where
  pub traded : Traded old new
  pub nodes : new.nodes ≡ old.nodes + 1
