-- The plain tree after a raised put.
use Rattle.std.proofs.Common.{◌≡◌, ℕ, ◌<◌, ◌⊎◌, List, [], true, eqb, ◌||◌, not, set, refl, ap, ◌∙◌, sym, subst, inl, inr, Some, None}
use Rattle.std.specs.List.{list_any}
use Rattle.std.proofs.lemmas.Bool.{and_parts, eqb-true}
use Rattle.index_words.specs.declared.layout.Layout.{Layout}
use Rattle.index_words.specs.declared.side.Side.{Side}
use Rattle.index_words.specs.declared.side.Side.TheVariants.{Right}
use Rattle.key_map.specs.declared.update.Change.TheVariants.{Put}
use Rattle.key_map.specs.declared.update.Update.{Update}
use Rattle.index_words.specs.declared.view.View.{View}
use Rattle.index_words.specs.declared.word.Field.TheVariants.{Link, Tag}
use Rattle.index_words.specs.declared.word.Word.TheVariants.{Stamp, Node}
use Rattle.index_words.specs.Views.{no_looks}
use Rattle.index_words.specs.Words.{Memory}
use Rattle.key_map.specs.Lists.{count, IsItem}
use Rattle.key_map.proofs.Counting.{count-has}
use Rattle.index_words.proofs.Seats.{all_moved}
use Rattle.core_trees.specs.LinkSteps.{IsLinkIn}
use Rattle.core_trees.specs.NamedTree.{NamedTree, Null, Branch}
use Rattle.core_trees.specs.Search.{end_node, end_side}
use Rattle.core_trees.specs.Slots.{occurs, top_slots}
use Rattle.core_trees.specs.SpelledTree.{Graph, IsSpelled}
use Rattle.core_trees.specs.TreeStep.{subtree_at, tree_put}
use Rattle.core_trees.proofs.SpelledStep.{subtree_law}
use Rattle.core_events.specs.declared.tree_move.TreeMove.{TreeMove}
use Rattle.core_events.specs.PlainWork.{unset_at}
use Rattle.core_events.specs.Searches.{is_gap_link}
use Rattle.core_events.specs.TreeMoves.{is_branch, has_gap, finds_gap, move_at}
use Rattle.core_events.specs.UpdateMoves.{raised_view}
use Rattle.core_events.specs.Versions.{top_slot}
use Rattle.core_invariant.specs.Locks.{lock_count}
use Rattle.core_invariant.specs.Meanings.{Meaning}
use Rattle.core_invariant.specs.PlainRule.{PlainRight}
use Rattle.core_invariant.specs.PlainTree.{undone, ItemRight, AreApart, SeatInTree, IsPlainTree}
use Rattle.core_invariant.specs.Reached.{plain_graph}
use Rattle.core_invariant.specs.SearchRule.{SearchRight}
use Rattle.core_invariant.specs.Rule.{Rule}
use Rattle.core_invariant.proofs.Children.{top_link, subtree_child, spelled_child, leads_link}
use Rattle.core_invariant.proofs.Locked.{locks-count}
use Rattle.core_kept.proofs.LinkItems.{now, child_there, locked_in}
use Rattle.core_kept.proofs.RaiseItems.{insert_item, replace_item}
use Rattle.core_kept.proofs.RaisePuts.{plain_link, insert_matches, replace_matches}
use Rattle.core_kept.proofs.RaiseTree.{other_seat, own_locked}
use Rattle.core_kept.proofs.TreeMoved.{MovesTree}
use Rattle.core_invariant.proofs.Undone.{in_one}
use Rattle.plain_trees.specs.Matching.{Matches}

module _ (z : Layout) (m : Memory) (vs : List View) (g : Meaning) (rule : Rule z m vs g) (plain : PlainRight m vs g) (W : NamedTree)
    (trees : IsPlainTree (plain_graph m) vs g.tree W) (i : ℕ) (v : View) (at : IsItem vs i v) (quiet : v.update.raised ≡ None)
    (none : v.update.waiting ≡ no_looks)
    (search : SearchRight (plain_graph m) vs g.tree W v) (u : Update) (val slot : ℕ) where
  abbrev gr : Graph
  gr = plain_graph m

  abbrev stamp_graph : Graph
  stamp_graph = now z m vs g rule plain W trees

  abbrev put : Update
  put = record u { change = Put val }

  abbrev move : TreeMove
  move = move_at z m put slot g.tree

  abbrev tree : NamedTree
  tree = tree_put slot u.key val g.tree

  abbrev k : ℕ
  k = end_node u.key 0 g.tree

  abbrev side : Side
  side = end_side u.key Right g.tree

  abbrev below : NamedTree
  below = subtree_at u.key g.tree

  leads : stamp_graph.child side k ≡ top_slot below
  leads =
      spelled_child stamp_graph 0 Right g.tree k side (top_slot below) rule.tree.spelled
      (subtree_child u.key 0 Right g.tree k side (top_slot below) (top_link k side below))

  hangs : IsLinkIn 0 Right g.tree k side
  hangs = leads_link 0 Right g.tree k side (top_slot below) (subtree_child u.key 0 Right g.tree k side (top_slot below) (top_link k side below))

  there : (k ≡ 0) ⊎ (0 < occurs k g.tree)
  there = elim hangs as (λ _. (k ≡ 0) ⊎ (0 < occurs k g.tree)) [ inl root ↦ inl root.0 | inr within ↦ inr within ]

  module _ (moved : MovesTree m g v put move tree) (gap : finds_gap m v put g.tree ≡ true) (known : List Update) where
    abbrev w : View
    w = raised_view known v (m Stamp) put move

    locked : 0 < lock_count k v
    locked = locks-count k v.held.nodes moved.plain.locked.0

    new_free : 0 < count slot v.free.nodes
    new_free = (moved.added slot (in_one slot [])).0

    found_gap : below ≡ Null → has_gap m v u.key k side ≡ true
    found_gap is = subst (λ (t : NamedTree). (not (not (is_branch t)) || has_gap m v u.key k side) ≡ true) is gap

    null_link : below ≡ Null → gr.child side k ≡ 0
    null_link is =
        eqb-true (m (Node (Link side) k)) 0
        (and_parts (eqb (m (Node (Link side) k)) 0) (list_any (is_gap_link k side u.key (m (Node (Tag side) k))) v.reading.links) (found_gap is)).0

    top_is_some : (n a b : ℕ) (l r : NamedTree) → below ≡ Branch n a b l r → 0 < n
    top_is_some n a b l r is = (subst (IsSpelled stamp_graph (stamp_graph.child side k)) is (subtree_law stamp_graph 0 u.key Right g.tree rule.tree.spelled)).1

    taken_top : (n a b : ℕ) (l r : NamedTree) → below ≡ Branch n a b l r → 0 < count n move.taken
    taken_top n a b l r is = subst (λ (t : NamedTree). 0 < count n (top_slots t)) (sym is) (in_one n [])

    top_there : (n a b : ℕ) (l r : NamedTree) → below ≡ Branch n a b l r → 0 < occurs n g.tree
    top_there n a b l r is =
        let to : stamp_graph.child side k ≡ n = leads ∙ ap top_slot is in
        subst (λ x. 0 < occurs x g.tree) to (child_there z m vs g rule plain W trees k side hangs (subst (λ x. 0 < x) (sym to) (top_is_some n a b l r is)))

    matches : Matches (undone gr (set vs i w)) 0 Right W tree
    matches = by below refl
      where
        by : (t : NamedTree) → below ≡ t → Matches (undone gr (set vs i w)) 0 Right W tree
        by Null is =
            insert_matches z m vs g rule plain W trees i v at quiet put move tree moved known k slot side [] refl locked u.key val search
            there (found_gap is) (null_link is)
        by (Branch n a b l r) is =
            let taken : 0 < count n move.taken = taken_top n a b l r is in
            let to : stamp_graph.child side k ≡ n = leads ∙ ap top_slot is in
            replace_matches z m vs g rule plain W trees i v at quiet put move tree moved known k slot side [] refl locked u.key val n a b l r is
            (top_is_some n a b l r is) (top_there n a b l r is) (moved.locked n taken)
            (count-has n move.taken taken) hangs to

    -- what is known of the one link that is left to be set
    item : ItemRight gr W (top_slots below) (Some slot) None v.update.waiting (unset_at m k side slot)
    item = by below refl
      where
        by : (t : NamedTree) → below ≡ t → ItemRight gr W (top_slots below) (Some slot) None v.update.waiting (unset_at m k side slot)
        by Null is =
            subst (λ (t : NamedTree). ItemRight gr W (top_slots t) (Some slot) None v.update.waiting (unset_at m k side slot)) (sym is)
            (insert_item z m vs g rule plain W trees i v at quiet none k slot side new_free (null_link is))
        by (Branch n a b l r) is =
            let to : stamp_graph.child side k ≡ n = leads ∙ ap top_slot is in
            subst (λ (t : NamedTree). ItemRight gr W (top_slots t) (Some slot) None v.update.waiting (unset_at m k side slot)) (sym is)
            (replace_item z m vs g rule plain W trees i v at quiet none k slot n side new_free
            (plain_link z m vs g rule plain W trees i v at quiet k side locked hangs ∙ to)
            (locked_in z m vs g rule plain W trees i v at n (moved.locked n (taken_top n a b l r is)) (top_there n a b l r is)))

    one_out : AreApart (top_slots below)
    one_out = by below
      where
        by : (t : NamedTree) → AreApart (top_slots t)
        by Null = tt
        by (Branch n a b l r) = tt

    own_seat : SeatInTree gr W tree w
    own_seat = record {
      locked = own_locked z m vs g rule plain W trees i v at quiet put move tree moved known;
      items = (item, tt);
      apart = one_out;
      first = λ e. never_none e;
      far = tt;
    }
      where
        never_none : {x : ℕ} → Some x ≡ None → move.taken ≡ []
        never_none e = cc

    -- the plain tree after the raise
    pub put_raised : IsPlainTree gr (set vs i w) tree W
    put_raised = record {
      spelled = trees.spelled;
      once = trees.once;
      matches = matches;
      seats =
          all_moved (SeatInTree gr W g.tree) (SeatInTree gr W tree) vs i v w at trees.seats own_seat
          (other_seat z m vs g rule plain W trees i v at quiet put move tree moved known);
    }
