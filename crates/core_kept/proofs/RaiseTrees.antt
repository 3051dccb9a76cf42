-- Raise: the trees. A tree that a seat reads at an older number stays the one at that number, its null links are as
-- wide in the new tree or wider, and the new tree is not marked.
use Rattle.std.proofs.Common.{◌≡◌, ℕ, ◌+◌, ◌<◌, ◌≤◌, ◌⊎◌, cond, List, [], ◌∷◌, ◌++◌, eqb, arith, refl, ap, ◌∙◌, sym, subst, inl, inr, Option, Some, None}
use Rattle.std.specs.Prelude.{IfSome}
use Rattle.std.specs.List.{sum_by}
use Rattle.std.proofs.lemmas.Bool.{cases_lt}
use Rattle.std.proofs.lemmas.Bool.Decides.{nat_tests}
use Rattle.index_words.specs.declared.layout.Layout.{Layout}
use Rattle.index_words.specs.declared.side.Side.{Side}
use Rattle.key_map.specs.declared.update.Update.{Update}
use Rattle.index_words.specs.declared.view.View.{View}
use Rattle.index_words.specs.declared.view.reading.TreeNode.{TreeNode}
use Rattle.index_words.specs.declared.word.Field.TheVariants.{Key, Val, Mark, Head}
use Rattle.index_words.specs.declared.word.Part.TheVariants.{Child, Next}
use Rattle.index_words.specs.declared.word.Word.TheVariants.{Stamp, Node, Entry}
use Rattle.index_words.specs.Words.{Memory, written}
use Rattle.key_map.specs.Lists.{count, IsItem}
use Rattle.key_map.proofs.Counting.{count-append}
use Rattle.key_map.proofs.HistoryLaws.{after-append}
use Rattle.core_grace.specs.Holds.{listed, work_nodes, tree_slots}
use Rattle.core_links.specs.Bundle.{select, child_of_entry}
use Rattle.core_trees.specs.NamedTree.{NamedTree}
use Rattle.core_trees.specs.Gaps.{IsInGap}
use Rattle.core_trees.specs.Slots.{occurs, one_at}
use Rattle.core_trees.proofs.Versions.{version_law}
use Rattle.core_events.specs.declared.tree_move.TreeMove.{TreeMove}
use Rattle.core_invariant.specs.Meanings.{Meaning}
use Rattle.core_invariant.specs.Locks.{TreeUnmarked}
use Rattle.core_invariant.specs.BundleRule.{IsLive}
use Rattle.core_invariant.specs.SeatRule.{SeatRight, TreeRight}
use Rattle.core_invariant.specs.MeaningMoves.{raised_numbers, with_added}
use Rattle.core_events.specs.Versions.{slots_of, tree_nodes, IsVersion, IsNullAtBoth, ReadsVersion}
use Rattle.core_invariant.specs.Rule.{Rule}
use Rattle.core_kept.proofs.TreeMoved.{MovesTree, meaning_after}
use Rattle.core_invariant.proofs.OneView.{seat_at}
use Rattle.core_invariant.proofs.Owned.{held_live, reachable_live}
use Rattle.core_invariant.proofs.Needed.{CanRaise}
use Rattle.core_kept.proofs.RaiseNew.{live_bundle, live_old}
use Rattle.core_invariant.proofs.TreeNow.{count_slots}
use Rattle.core_kept.proofs.RaiseNumbers.{old_falls, selects_old, selects, select-between}

one_other : (a b : ℕ) → cond (eqb a b) 1 0 + 0 ≡ cond (eqb b a) 1 0 + 0
one_other a b = grind (arith, nat_tests)

-- the sum over the slots that an option lists
listed_sum : (k : ℕ) (o : Option ℕ) → sum_by (one_at k) (listed o) ≡ count k (listed o)
listed_sum k None = refl
listed_sum k (Some j) = omega (arith, one_other k j)

module _ (z : Layout) (m : Memory) (vs : List View) (g : Meaning) (rule : Rule z m vs g) (i : ℕ) (v : View) (u : Update) (move : TreeMove) (tree : NamedTree)
    (at : IsItem vs i v) (can : CanRaise v u) (moves : MovesTree m g v u move tree) where
  abbrev s : ℕ
  s = m Stamp

  abbrev key : ℕ → ℕ
  key k = m (Node Key k)

  abbrev val : ℕ → ℕ
  val k = m (Node Val k)

  abbrev child : ℕ → ℕ
  child e = m (Entry Child e)

  abbrev head : Side → ℕ → ℕ
  head w k = m (Node (Head w) k)

  abbrev m' : Memory
  m' = written m Stamp (s + 1)

  abbrev g' : Meaning
  g' = meaning_after m g v u move tree

  abbrev number' : ℕ → ℕ
  number' = raised_numbers g.bundles.number (v.update.pending ++ move.entries) (s + 1)

  abbrev bundle' : Side → ℕ → List ℕ
  bundle' = with_added g.bundles.bundle head move.added

  -- a node of the new tree is in the old one, or is the new node
  pub in_tree : (k : ℕ) → occurs k tree ≤ occurs k g.tree + count k (listed move.added)
  in_tree k = omega (arith, (moves.slots (one_at k)).0, listed_sum k move.added)

  unmarked_by : (k : ℕ) → 0 < count k (slots_of tree) → m (Node Mark k) ≡ 0
  unmarked_by k here =
      elim (cases_lt 0 (count k (listed move.added))) as (λ _. m (Node Mark k) ≡ 0) [
        | inl new ↦ (moves.added k new).1
        | inr old ↦ rule.marks.nodes k (omega (arith, here, old, in_tree k, count_slots k tree, count_slots k g.tree))
      ]

  pub unmarked_now : TreeUnmarked (λ k. m' (Node Mark k)) (slots_of tree)
  unmarked_now = record { root = rule.marks.root; nodes = unmarked_by }

  module _ (j : ℕ) (y : View) (of : IsItem vs j y) where
    seat : SeatRight z m g y
    seat = seat_at z m vs g j y of rule

    -- a node of the seat's tree is live
    read_live : (k : ℕ) (read : NamedTree) → y.reading.tree ≡ tree_nodes read → 0 < occurs k read → IsLive z vs k
    read_live k read is here =
        let within : 0 < count k (tree_slots y.reading.tree)
        = subst (λ (ns : List TreeNode). 0 < count k (tree_slots ns)) (sym is) (omega (arith, here, count_slots k read)) in
        held_live z vs g rule.slots j k y of (omega (arith, within, count-append k (tree_slots y.reading.tree) (work_nodes y))) (seat.version.there k within)

    reads_live : (k : ℕ) (read : NamedTree) → y.reading.tree ≡ tree_nodes read → (k ≡ 0) ⊎ (0 < occurs k read) → IsLive z vs k
    reads_live k read is (inl root) = reachable_live z vs g rule.slots j k y of (omega (arith, root), inl root)
    reads_live k read is (inr here) = read_live k read is here

    version_now : (t : ℕ) (read : NamedTree) → t ≤ s → y.reading.tree ≡ tree_nodes read → IsVersion key val child g.bundles g.updates t read
        → IsVersion key val child g'.bundles g'.updates t read
    version_now t read past is old = record {
      spelled = version_law key val child g.bundles.number number' g.bundles.bundle bundle' t 0 read
          (λ k there w. selects z m vs g rule i v u move tree at can moves t k w past (reads_live k read is there)) old.spelled;
      lawful = old.lawful;
      contents = old.contents ∙ sym (after-append g.updates (u ∷ []) t (omega (arith, past, rule.history.long)));
    }

    -- what the older number and the new one select, the stamp selects
    between : (t k : ℕ) (w : Side) → t ≤ s → IsLive z vs k → select number' t (bundle' w k) ≡ select number' (s + 1) (bundle' w k)
        → select number' s (g.bundles.bundle w k) ≡ select number' t (g.bundles.bundle w k)
    between t k w past live same =
        select-between (λ e. m (Entry Next e)) number' t s (s + 1) (head w k) _ (g.bundles.bundle w k) past (omega arith) (rule.bundles k live w).chain
        (old_falls z m vs g rule i v u move tree at can moves k w live)
        (subst (λ es. select number' t es ≡ select number' (s + 1) es) (live_bundle z m vs g rule i v u move tree at moves k w live) same)

    null_before : (t k : ℕ) (w : Side) → t ≤ s → IsLive z vs k → IsNullAtBoth child g'.bundles t (s + 1) w k → IsNullAtBoth child g.bundles t s w k
    null_before t k w past live null =
        let same = between t k w past live null.0 in
        let first = selects z m vs g rule i v u move tree at can moves t k w past live in (
          selects_old z m vs g rule i v u move tree at can moves t k w past live ∙ sym same
              ∙ sym (selects_old z m vs g rule i v u move tree at can moves s k w (omega arith) live),
          ap (child_of_entry child) first ∙ null.1,
        )

    null_at : (t k : ℕ) (w : Side) → t ≤ s → IsLive z vs k → IsNullAtBoth child g'.bundles t (s + 1) w k → IsNullAtBoth child g'.bundles s (s + 1) w k
    null_at t k w past live null =
        let here : select number' s (bundle' w k) ≡ select number' t (bundle' w k) =
        subst (λ es. select number' s es ≡ select number' t es) (sym (live_bundle z m vs g rule i v u move tree at moves k w live))
        (between t k w past live null.0) in
        (here ∙ null.0, ap (child_of_entry child) here ∙ null.1)

    gaps_now : (t : ℕ) → t ≤ s → (old : ReadsVersion key val child g.bundles g.updates s g.tree t y.reading.tree) → (k x : ℕ) (w : Side)
        → 0 < occurs k old.tree → 0 < occurs k tree
        → IsNullAtBoth child g'.bundles t (s + 1) w k → IsInGap w (key k) x old.tree → IsInGap w (key k) x tree
    gaps_now t past old k x w read there null gap =
        let live = read_live k old.tree old.read read in
        let before : 0 < occurs k g.tree = omega (arith, there, in_tree k, live_old z m vs g rule i v u move tree at moves k live) in
        moves.gaps k x w before there (null_at t k w past live null) (old.gaps k x w read before (null_before t k w past live null) gap)

    tree_by : (o : Option ℕ) → IfSome o (λ t. t ≤ s) → TreeRight m g o y.reading.tree → TreeRight m' g' o y.reading.tree
    tree_by None past old = tt
    tree_by (Some t) past old = record {
      tree = old.tree;
      version = version_now t old.tree past old.read old.version;
      read = old.read;
      gaps = gaps_now t past old;
    }

    pub tree_now : TreeRight m' g' y.reading.section y.reading.tree
    tree_now = tree_by y.reading.section seat.version.past seat.tree
