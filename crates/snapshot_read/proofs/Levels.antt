-- One level down the snapshot's tree: what the loads at the node find, and where the search then stands.
use Rattle.std.proofs.Common.{◌≡◌, ℕ, List, ◌<◌, ◌≤◌, ◌⊎◌, ◌++◌, leb, true, length, arith, refl, ap, ◌∙◌, sym, subst, Some}
use Rattle.std.proofs.lemmas.Bool.Decides.{nat_tests}
use Rattle.key_map.specs.declared.pair.Pair.{Pair}
use Rattle.core_grace.specs.Holds.{tree_slots}
use Rattle.key_map.specs.Lists.{count, IsItem}
use Rattle.key_map.specs.Map.{pair}
use Rattle.index_words.specs.declared.layout.Layout.{Layout}
use Rattle.index_words.specs.declared.side.Side.TheVariants.{Left, Right}
use Rattle.index_words.specs.declared.view.View.{View}
use Rattle.index_words.specs.declared.view.reading.TreeNode.{TreeNode}
use Rattle.index_words.specs.declared.word.Field.TheVariants.{Key, Val}
use Rattle.index_words.specs.declared.word.Word.TheVariants.{Node}
use Rattle.core_events.specs.declared.event.Kind.TheVariants.{LoadKeyOrVal}
use Rattle.core_events.specs.Versions.{tree_nodes}
use Rattle.core_laws.specs.ViewNeeds.{event_at, MayReadPair}
use Rattle.core_trees.specs.NamedTree.{NamedTree}
use Rattle.table_rule.specs.Running.{Happened}
use Rattle.table_rule.proofs.Happens.{happened_word}
use Rattle.table_steps.specs.Loads.{IsTreeLink}
use Rattle.core_updates.specs.Plans.{link_of}
use Rattle.bundle_reads.specs.Links.{LeadsThere}
use Rattle.bundle_reads.specs.Reads.{HasRead}
use Rattle.bundle_reads.proofs.ReadMoves.{layout_same, tree_same}
use Rattle.snapshot_read.specs.Snapshots.{ReadsAt, IsSnapshotTree}
use Rattle.snapshot_read.specs.Ways.{keys_left, OnWay, IsOnWay, right_of}
use Rattle.snapshot_read.specs.declared.kept_way.Search.{Search}
use Rattle.snapshot_read.proofs.SnapshotMoves.{reads_on}
use Rattle.snapshot_read.proofs.SnapshotTrees.{finds}
use Rattle.snapshot_read.proofs.Ways.{left_of, node, here, in_tree, right_way, right_closer, left_way, left_closer, HasTop, top_at}

-- the link at which a search goes on is one of the tree
pub way_link : (v w : View) (t : ℕ) (s : Search) (tree : NamedTree) → IsSnapshotTree v t tree → HasRead v w → OnWay tree s → IsTreeLink w s.at.node s.at.side
way_link v w t s tree is read way =
    subst (λ (u : View). IsTreeLink u s.at.node s.at.side) (sym read.view)
    (subst (λ (ns : List TreeNode). ((s.at.node ≡ 0) × (s.at.side ≡ Right)) ⊎ (0 < count s.at.node (tree_slots ns))) (sym is.nodes_are) way.link)

low_true : (a b : ℕ) → a ≤ b → leb a b ≡ true
low_true a b low = grind (arith, nat_tests)

module _ (v : View) (t child : ℕ) (s : Search) (reads : ReadsAt v t) (some : 0 < child) (leads : LeadsThere v s.at child) (on : IsOnWay v t s) (tree : NamedTree) (is : IsSnapshotTree v t tree) where
  way : OnWay tree s
  way = on tree is

  top : HasTop way.below child
  top = top_at v t s child tree is way some leads

  abbrev n : TreeNode
  n = node tree s way child top.key top.val top.left top.right top.is

  item : IsItem v.reading.tree (length (way.front ++ tree_nodes top.left)) n
  item = subst (λ ns. IsItem ns (length (way.front ++ tree_nodes top.left)) n) (sym is.nodes_are) (here tree s way child top.key top.val top.left top.right top.is)

  pub child_high : child ≤ v.layout.nodes
  child_high = is.there child (in_tree tree s way child top.key top.val top.left top.right top.is)

  pub may_pair : MayReadPair v child
  may_pair = record { inside = reads.inside.odd; there = child_high }

  there : leb child v.layout.nodes ≡ true
  there = low_true child v.layout.nodes child_high

  -- the same after other loads
  module _ (v' : View) (read : HasRead v v') where
    low_too : child ≤ v'.layout.nodes
    low_too = subst (λ (z : Layout). child ≤ z.nodes) (sym (layout_same v v' read)) child_high

    pub pair_too : MayReadPair v' child
    pair_too = record { inside = (reads_on v v' t read reads).inside.odd; there = low_too }

  -- the key
  module _ (seat x : ℕ) (w : View) (h : Happened v.layout (event_at v.layout seat LoadKeyOrVal (Node Key child) 0) v x w) where
    key_is : x ≡ top.key
    key_is =
        sym (happened_word v.layout (event_at v.layout seat LoadKeyOrVal (Node Key child) 0) v w x (Node Key child) there refl tt h)
        ∙ ((finds v.layout h.words h.views h.rule seat v h.seat t reads).pairs (length (way.front ++ tree_nodes top.left)) n item).key

    pub go_right : OnWay tree (right_of child x s.best)
    go_right =
        subst (λ k. OnWay tree (right_of child k s.best)) (sym key_is)
        (right_way tree s way child top.key top.val top.left top.right top.is)

    pub closer_right : keys_left (right_of child x s.best) < keys_left s
    closer_right =
        subst (λ k. keys_left (right_of child k s.best) < keys_left s) (sym key_is)
        (right_closer tree s way child top.key top.val top.left top.right top.is)

    -- and the value, after other loads
    module _ (v' : View) (read : HasRead v v') (seat' y : ℕ) (u : View) (g : Happened v'.layout (event_at v'.layout seat' LoadKeyOrVal (Node Val child) 0) v' y u) where
      val_is : y ≡ top.val
      val_is =
          sym (happened_word v'.layout (event_at v'.layout seat' LoadKeyOrVal (Node Val child) 0) v' u y (Node Val child) (low_true child v'.layout.nodes (low_too v' read)) refl tt g)
          ∙ ((finds v'.layout g.words g.views g.rule seat' v' g.seat t (reads_on v v' t read reads)).pairs (length (way.front ++ tree_nodes top.left)) n
          (subst (λ ns. IsItem ns (length (way.front ++ tree_nodes top.left)) n) (sym (tree_same v v' read)) item)).val

      pair_is : pair x y ≡ pair top.key top.val
      pair_is = ap (λ k. pair k y) key_is ∙ ap (pair top.key) val_is

      pub go_left : OnWay tree (left_of child s.low x y)
      go_left =
          subst (λ (p : Pair). OnWay tree (record { at = link_of child Left; low = s.low; best = Some p })) (sym pair_is)
          (left_way tree s way child top.key top.val top.left top.right top.is)

      pub closer_left : keys_left (left_of child s.low x y) < keys_left s
      closer_left =
          subst (λ (p : Pair). keys_left (record { at = link_of child Left; low = s.low; best = Some p }) < keys_left s) (sym pair_is)
          (left_closer tree s way child top.key top.val top.left top.right top.is)
