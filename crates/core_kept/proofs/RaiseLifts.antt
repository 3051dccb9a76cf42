-- A raised removal of a node with one child at most: the plain tree after it.
use Rattle.std.proofs.Common.{◌≡◌, ℕ, ◌+◌, ◌<◌, ◌≤◌, List, [], ◌∷◌, true, set, arith, refl, ap, ◌∙◌, sym, subst, inr, Option, Some, None, IfSome}
use Rattle.index_words.specs.declared.layout.Layout.{Layout}
use Rattle.index_words.specs.declared.side.Side.{Side}
use Rattle.index_words.specs.declared.side.Side.TheVariants.{Left, Right}
use Rattle.key_map.specs.declared.update.Change.TheVariants.{Remove}
use Rattle.key_map.specs.declared.update.Update.{Update}
use Rattle.index_words.specs.declared.view.View.{View}
use Rattle.index_words.specs.declared.view.update.Unlinking.{Unlinking}
use Rattle.index_words.specs.declared.view.update.UnsetLink.{UnsetLink}
use Rattle.index_words.specs.declared.word.Field.TheVariants.{Key, Val}
use Rattle.index_words.specs.declared.word.Part.TheVariants.{Child}
use Rattle.index_words.specs.declared.word.Word.TheVariants.{Stamp, Node, Entry}
use Rattle.index_words.specs.Views.{no_looks}
use Rattle.index_words.specs.Words.{Memory}
use Rattle.key_map.specs.Lists.{count, has, Every, IsItem}
use Rattle.key_map.proofs.Counting.{count-has}
use Rattle.index_words.proofs.Seats.{all_moved}
use Rattle.core_trees.specs.LinkSteps.{IsLinkIn}
use Rattle.core_trees.specs.NamedTree.{NamedTree, Null, Branch}
use Rattle.core_trees.specs.Search.{end_node, end_side}
use Rattle.core_trees.specs.Slots.{occurs, one_at, removed_slots, added_slots}
use Rattle.core_trees.specs.SpelledAt.{graph_at}
use Rattle.core_trees.specs.SpelledTree.{Graph, IsSpelled}
use Rattle.core_trees.specs.TreeStep.{subtree_at, remove_here, tree_remove}
use Rattle.core_trees.proofs.Slots.{one_at-same, subtree_tally}
use Rattle.core_trees.proofs.SpelledStep.{subtree_law, update_end_law}
use Rattle.core_events.specs.declared.tree_move.TreeMove.{TreeMove}
use Rattle.core_events.specs.PlainWork.{unset_at, removed_links, removed_successor}
use Rattle.core_events.specs.TreeMoves.{first_slot, move_at}
use Rattle.core_events.specs.UpdateMoves.{raised_view}
use Rattle.core_events.specs.Versions.{top_slot}
use Rattle.core_invariant.specs.Locks.{lock_count}
use Rattle.core_invariant.specs.Meanings.{Meaning}
use Rattle.core_invariant.specs.PlainRule.{PlainRight}
use Rattle.core_invariant.specs.PlainTree.{undone, ItemRight, AreApart, SeatInTree, IsPlainTree}
use Rattle.core_invariant.specs.Reached.{plain_graph}
use Rattle.core_invariant.specs.Rule.{Rule}
use Rattle.core_invariant.proofs.Children.{top_link, subtree_child, spelled_child, leads_link, end_outside}
use Rattle.core_invariant.proofs.Locked.{locks-count}
use Rattle.core_invariant.proofs.Needed.{CanRaise}
use Rattle.core_invariant.proofs.TreeNow.{names_once}
use Rattle.core_kept.proofs.LinkItems.{now, same_child}
use Rattle.core_kept.proofs.RaiseItems.{lift_item}
use Rattle.core_kept.proofs.RaisePuts.{plain_link}
use Rattle.core_kept.proofs.RaiseRemoves.{lift_right, lift_left}
use Rattle.core_kept.proofs.RaiseTree.{other_seat, own_locked}
use Rattle.core_kept.proofs.TreeMoved.{MovesTree, meaning_after}
use Rattle.core_invariant.proofs.Undone.{in_one}
use Rattle.plain_trees.specs.Matching.{Matches}

-- the child at which a tree is spelled is its top
pub spelled_top : (h : Graph) (c : ℕ) (t : NamedTree) → IsSpelled h c t → c ≡ top_slot t
spelled_top h c Null spelled = spelled
spelled_top h c (Branch s k v l r) spelled = spelled.0

module _ (z : Layout) (m : Memory) (vs : List View) (g : Meaning) (rule : Rule z m vs g) (plain : PlainRight m vs g) (W : NamedTree)
    (trees : IsPlainTree (plain_graph m) vs g.tree W) (i : ℕ) (v : View) (at : IsItem vs i v) (quiet : v.update.raised ≡ None)
    (none : v.update.waiting ≡ no_looks)
    (u : Update) (slot : ℕ) where
  abbrev gr : Graph
  gr = plain_graph m

  abbrev stamp_graph : Graph
  stamp_graph = now z m vs g rule plain W trees

  abbrev removal : Update
  removal = record u { change = Remove }

  abbrev move : TreeMove
  move = move_at z m removal slot g.tree

  abbrev tree : NamedTree
  tree = tree_remove slot u.key g.tree

  abbrev k : ℕ
  k = end_node u.key 0 g.tree

  abbrev side : Side
  side = end_side u.key Right g.tree

  abbrev below : NamedTree
  below = subtree_at u.key g.tree

  leads : stamp_graph.child side k ≡ top_slot below
  leads =
      spelled_child stamp_graph 0 Right g.tree k side (top_slot below) rule.tree.spelled
      (subtree_child u.key 0 Right g.tree k side (top_slot below) (top_link k side below))

  pub hangs : IsLinkIn 0 Right g.tree k side
  hangs = leads_link 0 Right g.tree k side (top_slot below) (subtree_child u.key 0 Right g.tree k side (top_slot below) (top_link k side below))

  -- the node of the link is outside of the subtree
  outside : occurs k below ≡ 0
  outside = omega (arith, end_outside u.key 0 g.tree, names_once z m vs g rule k)

  pub in_whole : (x : ℕ) → 0 < occurs x below → 0 < occurs x g.tree
  in_whole x here = omega (arith, here, subtree_tally (one_at x) u.key g.tree)

  pub once_below : (x : ℕ) → occurs x below ≤ 1
  once_below x = omega (arith, subtree_tally (one_at x) u.key g.tree, names_once z m vs g rule x)

  below_spelled : IsSpelled stamp_graph (stamp_graph.child side k) below
  below_spelled = subtree_law stamp_graph 0 u.key Right g.tree rule.tree.spelled

  module _ (moved : MovesTree m g v removal move tree) (can : CanRaise v removal) (known : List Update) where
    abbrev w : View
    w = raised_view known v (m Stamp) removal move

    abbrev ws : List View
    ws = set vs i w

    abbrev then : Graph
    then =
        graph_at (λ n. m (Node Key n)) (λ n. m (Node Val n)) (λ e. m (Entry Child e)) (meaning_after m g v removal move tree).bundles.number
        (meaning_after m g v removal move tree).bundles.bundle (m Stamp + 1)

    -- what hangs at the link after the removal
    pub after_spelled : IsSpelled then (then.child side k) (remove_here slot below)
    after_spelled = update_end_law then 0 u.key Right (remove_here slot) g.tree moved.version.spelled

    pub locked : 0 < lock_count k v
    locked = locks-count k v.held.nodes moved.plain.locked.0

    -- the link leads to the slot after it
    asked : then.child side k ≡ slot
    asked = moved.plain.work.0.asked

    never_raised : {x : ℕ} → Some x ≡ None → move.taken ≡ []
    never_raised e = cc

    pub own_seat : (taken : List ℕ) (added : Option ℕ) (far : Option Unlinking) (unset : List UnsetLink) → move.taken ≡ taken → move.added ≡ added
        → move.plain.unlinking ≡ far → move.plain.unset ≡ unset
        → Every (ItemRight gr W taken added far v.update.waiting) unset → AreApart taken → IfSome far (λ o. taken ≡ o.replaced ∷ o.successor ∷ [])
        → SeatInTree gr W tree w
    own_seat taken added far unset takes brings unlinks sets items apart pair = record {
      locked = own_locked z m vs g rule plain W trees i v at quiet removal move tree moved known;
      items =
          subst (λ (us : List UnsetLink). Every (ItemRight gr W move.taken move.added move.plain.unlinking v.update.waiting) us) (sym sets)
          (subst (λ (o : Option Unlinking). Every (ItemRight gr W move.taken move.added o v.update.waiting) unset) (sym unlinks)
          (subst (λ (o : Option ℕ). Every (ItemRight gr W move.taken o far v.update.waiting) unset) (sym brings)
          (subst (λ (ks : List ℕ). Every (ItemRight gr W ks added far v.update.waiting) unset) (sym takes) items)));
      apart = subst AreApart (sym takes) apart;
      first = λ e. never_raised e;
      far =
          subst (λ (o : Option Unlinking). IfSome o (λ x. move.taken ≡ x.replaced ∷ x.successor ∷ [])) (sym unlinks)
          (subst (λ (ks : List ℕ). IfSome far (λ x. ks ≡ x.replaced ∷ x.successor ∷ [])) (sym takes) pair);
    }

    pub whole : Matches (undone gr ws) 0 Right W tree → SeatInTree gr W tree w → IsPlainTree gr ws tree W
    whole matches own = record {
      spelled = trees.spelled;
      once = trees.once;
      matches = matches;
      seats =
          all_moved (SeatInTree gr W g.tree) (SeatInTree gr W tree) vs i v w at trees.seats own
          (other_seat z m vs g rule plain W trees i v at quiet removal move tree moved known);
    }

    -- the removed node, its key and its children: it hangs at the link, which is locked as the node is
    pub record RemovedNode (n kk vv : ℕ) (l r : NamedTree) : Type 0 where
      pub is : below ≡ Branch n kk vv l r
      pub spelled : IsSpelled stamp_graph (stamp_graph.child side k) (Branch n kk vv l r)
      pub inside : 0 < occurs n below
      pub there : 0 < occurs n g.tree
      pub held : 0 < lock_count n v
      pub out : has n move.taken ≡ true
      pub was : gr.child side k ≡ n
      -- no other link below leads to it
      pub apart : (q : ℕ) (d : Side) (x : ℕ) → IsLinkIn 0 Right g.tree q d → stamp_graph.child d q ≡ x → 0 < occurs q below → n ≡ x → ⊥

    pub removed_node : (n kk vv : ℕ) (l r : NamedTree) → below ≡ Branch n kk vv l r → RemovedNode n kk vv l r
    removed_node n kk vv l r is = record {
      is = is;
      spelled = spelled;
      inside = inside;
      there = in_whole n inside;
      held = moved.locked n taken;
      out = count-has n move.taken taken;
      was = plain_link z m vs g rule plain W trees i v at quiet k side locked hangs ∙ spelled.0;
      apart = λ q d x there' leads' within same.
          let one = same_child z m vs g rule plain W trees k q side d n hangs there' spelled.0 (leads' ∙ sym same) spelled.1 in
          omega (arith, outside, within, ap (λ y. occurs y below) one.0);
    }
      where
        spelled : IsSpelled stamp_graph (stamp_graph.child side k) (Branch n kk vv l r)
        spelled = subst (IsSpelled stamp_graph (stamp_graph.child side k)) is below_spelled

        inside : 0 < occurs n below
        inside = subst (λ t. 0 < occurs n t) (sym is) (omega (arith, one_at-same n))

        taken : 0 < count n move.taken
        taken = subst (λ (t : NamedTree). 0 < count n (removed_slots t)) (sym is) (in_one n _)

    -- a node without a left child
    module _ (n kk vv : ℕ) (r : NamedTree) (node : RemovedNode n kk vv Null r) where
      takes_one : move.taken ≡ n ∷ []
      takes_one = ap removed_slots node.is

      brings_none : move.added ≡ None
      brings_none = ap (λ t. first_slot (added_slots slot t)) node.is

      right_child : stamp_graph.child Right n ≡ slot
      right_child =
          spelled_top stamp_graph (stamp_graph.child Right n) r node.spelled.5
          ∙ sym (spelled_top then (then.child side k) r (subst (λ t. IsSpelled then (then.child side k) (remove_here slot t)) node.is after_spelled)) ∙ asked

      pub right_lifted : IsPlainTree gr ws tree W
      right_lifted =
          whole
          (lift_right z m vs g rule plain W trees i v at quiet removal move tree moved known k slot side (removed_links m below) refl
          locked u.key n kk vv Null r node.is
          node.spelled.1 node.there node.held node.out hangs node.spelled.0 refl takes_one brings_none)
          (own_seat (n ∷ []) None None (unset_at m k side slot ∷ []) takes_one brings_none (ap removed_successor node.is)
          (ap (λ t. unset_at m k side slot ∷ removed_links m t) node.is) (
            lift_item z m vs g rule plain W trees i v at quiet none k slot n side Right node.was node.held node.there right_child
                (node.apart n Right slot (inr node.there) right_child node.inside),
            tt,
          )
          tt tt)

    -- or with a left child alone
    module _ (n kk vv s a b : ℕ) (l' r' : NamedTree) (node : RemovedNode n kk vv (Branch s a b l' r') Null) where
      left_child : stamp_graph.child Left n ≡ slot
      left_child =
          node.spelled.4.0
          ∙ sym (subst (λ t. IsSpelled then (then.child side k) (remove_here slot t)) node.is after_spelled).0 ∙ asked

      pub left_lifted : IsPlainTree gr ws tree W
      left_lifted =
          whole
          (lift_left z m vs g rule plain W trees i v at quiet removal move tree moved known k slot side (removed_links m below) refl locked u.key n kk vv
          (Branch s a b l' r') Null node.is
          node.spelled.1 node.there node.held node.out hangs node.spelled.0 s a b l' r' refl refl)
          (own_seat (n ∷ []) None None (unset_at m k side slot ∷ []) (ap removed_slots node.is) (ap (λ t. first_slot (added_slots slot t)) node.is)
          (ap removed_successor node.is)
          (ap (λ t. unset_at m k side slot ∷ removed_links m t) node.is) (
            lift_item z m vs g rule plain W trees i v at quiet none k slot n side Left node.was node.held node.there left_child
                (node.apart n Left slot (inr node.there) left_child node.inside),
            tt,
          )
          tt tt)
