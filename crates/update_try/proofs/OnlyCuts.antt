-- A pass that cuts without an update: what each cut asks of it, and what the locks and the unlocks around the cuts
-- leave.
use Rattle.std.proofs.Common.{◌≡◌, ℕ, List, length, ap, arith}
use Rattle.index_words.specs.declared.view.View.{View}
use Rattle.index_words.specs.declared.view.slots.Slots.{Slots}
use Rattle.index_words.specs.declared.view.update.Updating.{Updating}
use Rattle.key_map.specs.Lists.{count}
use Rattle.core_trees.specs.declared.link.Link.{Link}
use Rattle.plan_laws.specs.Frames.{KeepsTry}
use Rattle.plan_laws.specs.Looks.{IsUnmarked}
use Rattle.plan_laws.specs.Prunes.{IsCutting, KeepsPruned}
use Rattle.update_try.specs.Outcomes.{KeepsAll}
use Rattle.update_try.specs.Pruning.{IsChanged}

-- the bundles of a node that was found unmarked under its lock may be cut
pub changed_at : (v : View) (n : ℕ) (nodes : List ℕ) (at : Link) → IsCutting v n nodes → IsUnmarked v at.node → IsChanged v at
changed_at v n nodes at c unmarked = record {
  inside = c.inside;
  unmarked = unmarked;
  stays = ap (λ (u : Updating). count at.node u.taken) c.idle;
  idle = ap (λ (u : Updating). u.pending) c.idle;
}

-- a try that has only locked and looked
pub tried_is_pruned : (v w : View) → KeepsTry v w → w.counts.waits ≡ v.counts.waits → KeepsPruned v w
tried_is_pruned v w t waits = record {
  layout = t.pass.layout;
  joined = t.pass.joined;
  number = t.pass.number;
  history = t.pass.history;
  free = t.free;
  batch = t.pass.batch;
  nodes = ap (λ (s : Slots). s.nodes) t.pass.retired;
  entries = omega (arith, ap (λ (s : Slots). length s.entries) t.pass.retired);
  grown = t.grown;
  waits = waits;
}

-- a try that was given up
pub all_is_pruned : (v w : View) → KeepsAll v w → KeepsPruned v w
all_is_pruned v w k = record {
  layout = k.layout;
  joined = k.joined;
  number = k.number;
  history = k.history;
  free = k.free;
  batch = k.batch;
  nodes = ap (λ (s : Slots). s.nodes) k.retired;
  entries = omega (arith, ap (λ (s : Slots). length s.entries) k.retired);
  grown = k.grown;
  waits = k.waits;
}
