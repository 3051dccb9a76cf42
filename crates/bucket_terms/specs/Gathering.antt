-- Helper: the headline does not rest on this file.
-- What a pass is after it has gathered entries.
use Rattle.std.specs.Prelude.{◌≡◌, ◌≤◌, None}
use Rattle.bucket_terms.specs.PassView.{PassView, Extends, KnowsOwn}

-- entries may have come, and what the pass has seen goes on; all else is as before
pub record Gathered (old new : PassView) : Type 0 where
  pub number : new.number ≡ old.number
  pub seen : Extends old.seen new.seen
  pub mine : new.mine ≡ old.mine
  -- what it has newly seen are updates of others
  pub own : KnowsOwn old → KnowsOwn new
  pub looks : new.looks ≡ old.looks
  pub found : new.found ≡ old.found
  pub nodes : new.nodes ≡ old.nodes
  pub entries : old.entries ≤ new.entries
  pub left : new.left ≡ old.left
  pub closed : new.opened ≡ None
