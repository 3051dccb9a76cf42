-- What a pass is after it has cut old entries outside of its updates.
use Rattle.std.specs.Prelude.{◌≡◌, ◌≤◌}
use Rattle.index_words.specs.declared.view.View.{View}
use Rattle.plan_laws.specs.Answers.{owned_nodes, owned_entries}
use Rattle.table_steps.specs.Passes.{Extends}
use Rattle.tree_update.specs.Calls.{FixesNone}

-- it owns no fewer entries, and as many nodes. It made no update: what it has seen goes on, its own updates and how
-- many it may still make are unchanged, and no load of the stamp has fixed a place. The count of entries without a
-- number is unchanged
pub record Gathers (v w : View) : Type 0 where
  pub seen : Extends v.history.seen w.history.seen
  pub mine : w.history.mine ≡ v.history.mine
  pub left : w.history.left ≡ v.history.left
  pub nodes : owned_nodes w ≡ owned_nodes v
  pub entries : owned_entries v ≤ owned_entries w
  pub fixes : FixesNone v w
  pub waits : w.counts.waits ≡ v.counts.waits
