-- What loads leave of an open snapshot and of its tree.
use Rattle.std.proofs.Common.{ℕ, ap, ◌∙◌, sym, subst}
use Rattle.index_words.specs.declared.view.View.{View}
use Rattle.core_trees.specs.NamedTree.{NamedTree}
use Rattle.bundle_reads.specs.Reads.{HasRead}
use Rattle.bundle_reads.proofs.ReadMoves.{inside_still}
use Rattle.snapshot_read.specs.Snapshots.{ReadsAt, IsSnapshotTree}

pub reads_on : (v w : View) (t : ℕ) → HasRead v w → ReadsAt v t → ReadsAt w t
reads_on v w t read reads = record {
  opened = ap (λ (u : View). u.reading.opened) read.view ∙ reads.opened;
  inside = inside_still v w read reads.inside;
}

pub tree_before : (v w : View) (t : ℕ) (tree : NamedTree) → HasRead v w → IsSnapshotTree w t tree → IsSnapshotTree v t tree
tree_before v w t tree read is = subst (λ (u : View). IsSnapshotTree u t tree) read.view is

pub tree_after : (v w : View) (t : ℕ) (tree : NamedTree) → HasRead v w → IsSnapshotTree v t tree → IsSnapshotTree w t tree
tree_after v w t tree read is = subst (λ (u : View). IsSnapshotTree u t tree) (sym read.view) is
