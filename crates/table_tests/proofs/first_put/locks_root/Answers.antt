use Rattle.std.proofs.Common.{◌≡◌, ◌∙◌, ap}
use Rattle.core_events.specs.LockMoves.{locked_view}
use Rattle.index_words.specs.declared.view.View.{View}
use Rattle.table_tests.proofs.first_put.locks_root.Goals as goal

pub is_bare-requires : goal.is_bare-requires
is_bare-requires c = record { locked = (c.try_lock.ensures.locked c.if-try_lock.true).view ∙ ap (λ (v : View). locked_view v 0) c.requires.filled }
