-- What a pass has heard, to its caller.
use Rattle.std.specs.Prelude.{◌≡◌, List}
use Rattle.key_map.specs.declared.update.Update.{Update}
use Rattle.bucket_terms.specs.PassView.{PassView, Extends}
use Rattle.table_rule.specs.Homes.{Sat}

-- what the pass that made the note had seen
abbrev pub told_by : Sat → List Update
told_by note = note.view.history.seen

-- the pass has heard of these updates: what it has seen begins with what it had seen, and with them. All else is
-- unchanged
pub record Hears (old new : PassView) (news : List Update) : Type 0 where
  pub old_seen : Extends old.seen new.seen
  pub news_seen : Extends news new.seen
  pub same : new ≡ record old { seen = new.seen }
