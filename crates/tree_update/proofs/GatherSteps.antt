-- A pass that gathers entries: what each of its parts leaves of the pass's history and slots.
use Rattle.std.proofs.Common.{◌≡◌, [], length, arith, refl, ap, sym, ◌∙◌}
use Rattle.std.proofs.lemmas.List.{append-nil}
use Rattle.index_words.specs.declared.view.View.{View}
use Rattle.index_words.specs.declared.view.history.SeenHistory.{SeenHistory}
use Rattle.index_words.specs.declared.view.slots.Slots.{Slots}
use Rattle.plan_laws.specs.Prunes.{KeepsPruned}
use Rattle.tree_update.specs.Calls.{StaysOn}
use Rattle.tree_update.specs.Gathering.{Gathers}
use Rattle.tree_update.proofs.CallSteps.{extends_more, fixes_more, stays_nothing}

-- one part after another
pub gathers_more : (u v w : View) → Gathers u v → Gathers v w → Gathers u w
gathers_more u v w one two = record {
  seen = extends_more u.history.seen v.history.seen w.history.seen one.seen two.seen;
  mine = two.mine ∙ one.mine;
  left = two.left ∙ one.left;
  nodes = two.nodes ∙ one.nodes;
  entries = omega (arith, one.entries, two.entries);
  fixes = fixes_more u v w one.fixes two.fixes;
  waits = two.waits ∙ one.waits;
}

-- a part that gets none
pub stays_gathers : (v w : View) → StaysOn v w → w.counts.waits ≡ v.counts.waits → Gathers v w
stays_gathers v w stays waits = record {
  seen = stays.goes.seen;
  mine = stays.goes.mine;
  left = stays.goes.left;
  nodes = stays.goes.nodes;
  entries = omega (arith, stays.goes.entries);
  fixes = stays.fixes;
  waits = waits;
}

pub gathers_nothing : (v : View) → Gathers v v
gathers_nothing v = stays_gathers v v (stays_nothing v) refl

-- cuts without an update
pub pruned_gathers : (v w : View) → KeepsPruned v w → Gathers v w
pruned_gathers v w keeps = record {
  seen = ([], ap (λ (h : SeenHistory). h.seen) keeps.history ∙ sym (append-nil v.history.seen));
  mine = ap (λ (h : SeenHistory). h.mine) keeps.history;
  left = ap (λ (h : SeenHistory). h.left) keeps.history;
  nodes = omega (arith, ap (λ (s : Slots). length s.nodes) keeps.free, ap (λ (s : Slots). length s.nodes) keeps.batch, ap length keeps.nodes);
  entries = omega (arith, ap (λ (s : Slots). length s.entries) keeps.free, ap (λ (s : Slots). length s.entries) keeps.batch, keeps.entries);
  fixes = record { looks = ap (λ (h : SeenHistory). h.looks) keeps.history; found = ap (λ (h : SeenHistory). h.found) keeps.history };
  waits = keeps.waits;
}
