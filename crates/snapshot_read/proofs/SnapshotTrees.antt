-- The tree that a pass with an open snapshot reads.
use Rattle.std.proofs.Common.{◌≡◌, ℕ, ◌<◌, ◌≤◌, List, length, refl, sym, subst, Some}
use Rattle.std.specs.Prelude.{IfSome}
use Rattle.std.specs.List.{slice_get}
use Rattle.key_map.specs.Lists.{count}
use Rattle.index_words.proofs.Seats.{at_item}
use Rattle.index_words.specs.declared.layout.Layout.{Layout}
use Rattle.index_words.specs.declared.view.View.{View}
use Rattle.core_grace.specs.Holds.{tree_slots}
use Rattle.core_trees.specs.NamedTree.{NamedTree}
use Rattle.core_invariant.specs.OwnPlaces.{KnowsPlaces}
use Rattle.core_invariant.specs.Rule.{InRule}
use Rattle.core_laws.specs.Found.{ReadsTree}
use Rattle.table_rule.specs.Homes.{IsLiveView}
use Rattle.table_rule.specs.Running.{Stands, table}
use Rattle.table_rule.proofs.Lists.{item_at}
use Rattle.bundle_reads.specs.Links.{InsideAt}
use Rattle.snapshot_read.specs.Snapshots.{ReadsAt, IsSnapshotTree}
use Rattle.bundle_reads.proofs.ReadTrees.{seat, no_root}
use Rattle.bundle_reads.proofs.ReadTrees as reads_of

-- in a table that meets the rule, with this view at a seat
module _ (z : Layout) (words : List ℕ) (vs : List View) (rule : InRule z words vs) (i : ℕ) (v : View) (at : slice_get vs i ≡ Some v) (t : ℕ) (reads : ReadsAt v t) where
  section_is : v.reading.section ≡ Some t
  section_is = subst (λ o. IfSome o (λ n. v.reading.section ≡ Some n)) reads.opened (seat z words vs rule i v at).version.opened

  pub inside_at : InsideAt v t
  inside_at = record { section = section_is; inside = reads.inside }

  -- it has seen this many updates
  known : t ≤ length v.history.seen
  known = subst (λ o. IfSome o (λ n. n ≤ length v.history.seen)) section_is (at_item KnowsPlaces vs i v (item_at vs i v at) rule.places).section

  pub finds : ReadsTree (table z words vs) v t
  finds = reads_of.finds z words vs rule i v at t inside_at

  pub found_tree : v.layout ≡ z → IsSnapshotTree v t finds.tree
  found_tree layout = record {
    nodes_are = finds.nodes;
    lawful = finds.lawful;
    contents_are = finds.contents_are known;
    some = subst (λ ns. count 0 (tree_slots ns) ≡ 0) finds.nodes (no_root z words vs rule i v at t inside_at);
    there = λ k here. subst (λ (y : Layout). k ≤ y.nodes) (sym layout) ((seat z words vs rule i v at).version.there k (subst (λ ns. 0 < count k (tree_slots ns)) (sym finds.nodes) here));
  }

-- what a pass with an open snapshot knows before its first load
pub record Reader (v : View) (t : ℕ) : Type 0 where
  pub inside : InsideAt v t
  pub tree : NamedTree
  pub is : IsSnapshotTree v t tree

pub reader : (v : View) (t : ℕ) → IsLiveView v → ReadsAt v t → Reader v t
reader v t live reads =
    let s : Stands v.layout v = live.stands in
    record {
      inside = inside_at v.layout s.words s.views s.rule s.seat v s.at t reads;
      tree = (finds v.layout s.words s.views s.rule s.seat v s.at t reads).tree;
      is = found_tree v.layout s.words s.views s.rule s.seat v s.at t reads refl;
    }
