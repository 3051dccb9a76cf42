-- The plain tree after a raised removal.
use Rattle.std.proofs.Common.{◌≡◌, ℕ, ◌+◌, ◌^◌, ◌<◌, List, [], ◌∷◌, true, set, arith, refl, ap, ◌∙◌, sym, subst, inl, inr, Option, Some, None}
use Rattle.index_words.specs.declared.layout.Layout.{Layout}
use Rattle.index_words.specs.declared.side.Side.{Side}
use Rattle.index_words.specs.declared.side.Side.TheVariants.{Left, Right}
use Rattle.key_map.specs.declared.update.Change.TheVariants.{Remove}
use Rattle.key_map.specs.declared.update.Update.{Update}
use Rattle.index_words.specs.declared.view.View.{View}
use Rattle.index_words.specs.declared.view.update.Unlinking.{Unlinking}
use Rattle.index_words.specs.declared.view.update.UnsetLink.{UnsetLink}
use Rattle.index_words.specs.declared.word.Field.TheVariants.{Key, Val}
use Rattle.index_words.specs.declared.word.Part.TheVariants.{Child}
use Rattle.index_words.specs.declared.word.Word.TheVariants.{Stamp, Node, Entry}
use Rattle.index_words.specs.Views.{no_looks}
use Rattle.index_words.specs.Words.{Memory}
use Rattle.key_map.specs.Lists.{count, Every, IsItem}
use Rattle.core_grace.specs.Holds.{listed}
use Rattle.core_links.specs.Bundle.{child_of_entry}
use Rattle.core_trees.specs.LinkSteps.{IsLinkIn}
use Rattle.core_trees.specs.NamedTree.{NamedTree, Null, Branch, IsWithin}
use Rattle.core_trees.specs.Search.{end_node, end_side}
use Rattle.core_trees.specs.Slots.{occurs, first_slots, removed_slots, added_slots}
use Rattle.core_trees.specs.SpelledAt.{graph_at}
use Rattle.core_trees.specs.SpelledTree.{Graph, IsSpelled}
use Rattle.core_trees.specs.TreeStep.{subtree_at, remove_here, tree_remove}
use Rattle.core_trees.proofs.Links.Ends.{Through, through}
use Rattle.core_trees.proofs.Slots.{one_at-same}
use Rattle.core_events.specs.declared.tree_move.TreeMove.{TreeMove}
use Rattle.core_events.specs.LoadMoves.{locks}
use Rattle.core_events.specs.PlainWork.{first_node, first_parent, first_rest, unset_at, removed_links, removed_successor}
use Rattle.core_events.specs.TreeMoves.{first_slot, is_branch, move_at}
use Rattle.core_events.specs.UpdateMoves.{raised_view}
use Rattle.core_invariant.specs.Locks.{lock_count}
use Rattle.core_invariant.specs.Meanings.{Meaning}
use Rattle.core_invariant.specs.PlainRule.{PlainRight}
use Rattle.core_invariant.specs.PlainTree.{IsPlainTree}
use Rattle.core_invariant.specs.Reached.{plain_graph}
use Rattle.core_invariant.specs.Rule.{Rule}
use Rattle.core_invariant.proofs.Children.{IsChildAt, top_link, subtree_child, spelled_child, leads_link, first_leads, first_some}
use Rattle.core_invariant.proofs.Locked.{locks-count}
use Rattle.core_invariant.proofs.Needed.{CanRaise}
use Rattle.core_invariant.proofs.Owned.{free_node_alone}
use Rattle.core_invariant.proofs.PlainSteps.{far_inside}
use Rattle.core_invariant.proofs.TreeNow.{count_slots}
use Rattle.core_kept.proofs.LinkItems.{now, child_there, same_child}
use Rattle.core_kept.proofs.RaiseItems.{near_item, far_first, far_second}
use Rattle.core_kept.proofs.RaiseLifts.{spelled_top, hangs, in_whole, once_below, after_spelled, locked, own_seat, whole, RemovedNode, removed_node, right_lifted, left_lifted}
use Rattle.core_kept.proofs.RaiseLinks.{new_selected}
use Rattle.core_kept.proofs.RaisePuts.{plain_link, link_to}
use Rattle.core_kept.proofs.RaiseRemoves.{join_far, join_near}
use Rattle.core_kept.proofs.TreeMoved.{MovesTree, meaning_after}
use Rattle.core_invariant.proofs.Undone.{in_one, in_pair_second}
use Rattle.plain_trees.specs.Raises.{IsLinkTo}

-- the right link of the first node of a tree
behind_leads : (parent slot key val : ℕ) (l r : NamedTree) → IsChildAt parent Left (Branch slot key val l r) (first_node slot l) Right (first_rest l r)
behind_leads parent slot key val Null r = inr (inr (top_link slot Right r))
behind_leads parent slot key val (Branch s k v ll lr) r = inr (inl (behind_leads slot s k v ll lr))

-- the first node alone is the successor
first_listed : (slot key val : ℕ) (l r : NamedTree) → first_slots (Branch slot key val l r) ≡ first_node slot l ∷ []
first_listed slot key val Null r = refl
first_listed slot key val (Branch s k v ll lr) r = first_listed s k v ll lr

sides_differ : Left ≡ Right → ⊥
sides_differ e = cc

module _ (z : Layout) (m : Memory) (vs : List View) (g : Meaning) (rule : Rule z m vs g) (plain : PlainRight m vs g) (W : NamedTree)
    (trees : IsPlainTree (plain_graph m) vs g.tree W) (i : ℕ) (v : View) (at : IsItem vs i v) (quiet : v.update.raised ≡ None)
    (none : v.update.waiting ≡ no_looks)
    (u : Update) (slot : ℕ) where
  abbrev gr : Graph
  gr = plain_graph m

  abbrev stamp_graph : Graph
  stamp_graph = now z m vs g rule plain W trees

  abbrev removal : Update
  removal = record u { change = Remove }

  abbrev move : TreeMove
  move = move_at z m removal slot g.tree

  abbrev tree : NamedTree
  tree = tree_remove slot u.key g.tree

  abbrev k : ℕ
  k = end_node u.key 0 g.tree

  abbrev side : Side
  side = end_side u.key Right g.tree

  abbrev below : NamedTree
  below = subtree_at u.key g.tree

  link_hangs : IsLinkIn 0 Right g.tree k side
  link_hangs = hangs z m vs g rule plain W trees i v at quiet none u slot

  whole_in : (x : ℕ) → 0 < occurs x below → 0 < occurs x g.tree
  whole_in = in_whole z m vs g rule plain W trees i v at quiet none u slot

  module _ (moved : MovesTree m g v removal move tree) (can : CanRaise v removal) (known : List Update) where
    abbrev w : View
    w = raised_view known v (m Stamp) removal move

    abbrev ws : List View
    ws = set vs i w

    abbrev then : Graph
    then =
        graph_at (λ n. m (Node Key n)) (λ n. m (Node Val n)) (λ e. m (Entry Child e)) (meaning_after m g v removal move tree).bundles.number
        (meaning_after m g v removal move tree).bundles.bundle (m Stamp + 1)

    abbrev Removed : ℕ → ℕ → ℕ → NamedTree → NamedTree → Type 0
    Removed n kk vv l r = RemovedNode z m vs g rule plain W trees i v at quiet none u slot moved can known n kk vv l r

    link_locked : 0 < lock_count k v
    link_locked = locked z m vs g rule plain W trees i v at quiet none u slot moved can known

    -- a node with two children: a copy of its successor comes, into a slot that was free
    record Copies (n kk vv s a b t c e : ℕ) (l' r' l'' r'' : NamedTree) : Type 0 where
      brings : move.added ≡ Some slot
      new : 0 < count slot (listed move.added)
      free : 0 < count slot v.free.nodes
      fresh : 0 < occurs slot g.tree → ⊥
      inside : (x : ℕ) → 0 < occurs x (Branch t c e l'' r'') → 0 < occurs x below
      copy : IsSpelled then (then.child side k) (remove_here slot (Branch n kk vv (Branch s a b l' r') (Branch t c e l'' r'')))

    copied : (n kk vv s a b t c e : ℕ) (l' r' l'' r'' : NamedTree) → Removed n kk vv (Branch s a b l' r') (Branch t c e l'' r'')
        → Copies n kk vv s a b t c e l' r' l'' r''
    copied n kk vv s a b t c e l' r' l'' r'' node = record {
      brings = brings;
      new = new;
      free = free;
      fresh = λ here. omega (arith, here, count_slots slot g.tree, (free_node_alone z vs g rule.slots i slot v at free).0);
      inside = λ x here. subst (λ y. 0 < occurs x y) (sym node.is) (omega (arith, here));
      copy =
          subst (λ x. IsSpelled then (then.child side k) (remove_here slot x)) node.is
          (after_spelled z m vs g rule plain W trees i v at quiet none u slot moved can known);
    }
      where
        brings : move.added ≡ Some slot
        brings = ap (λ x. first_slot (added_slots slot x)) node.is

        new : 0 < count slot (listed move.added)
        new = subst (λ (o : Option ℕ). 0 < count slot (listed o)) (sym brings) (in_one slot [])

        free : 0 < count slot v.free.nodes
        free = (moved.added slot new).0

    -- the successor is the right child
    module _ (n kk vv s a b t c e : ℕ) (l' r' r'' : NamedTree) (node : Removed n kk vv (Branch s a b l' r') (Branch t c e Null r'')) where
      abbrev L : NamedTree
      L = Branch s a b l' r'

      abbrev R : NamedTree
      R = Branch t c e Null r''

      copies : Copies n kk vv s a b t c e l' r' Null r''
      copies = copied n kk vv s a b t c e l' r' Null r'' node

      takes_near : move.taken ≡ n ∷ t ∷ []
      takes_near = ap removed_slots node.is

      near_there : 0 < occurs t g.tree
      near_there = whole_in t (copies.inside t (omega (arith, one_at-same t)))

      near_held : 0 < lock_count t v
      near_held = moved.locked t (subst (λ (ks : List ℕ). 0 < count t ks) (sym takes_near) (in_pair_second n t))

      near_apart : n ≡ t → ⊥
      near_apart = node.apart n Right t (inr node.there) node.spelled.5.0 node.inside

      -- what hangs to the right of the successor hangs to the right of the copy
      near_behind : stamp_graph.child Right t ≡ gr.child Right slot
      near_behind =
          spelled_top stamp_graph (stamp_graph.child Right t) r'' node.spelled.5.5
          ∙ sym (spelled_top then (then.child Right slot) r'' copies.copy.5)
          ∙ ap (child_of_entry (λ e. m (Entry Child e))) (new_selected z m vs g rule i v removal known move tree at can moved slot Right copies.new)
          ∙ sym (moved.plain.new slot Right copies.new).0

      near_rises : gr.key n < gr.key slot
      near_rises =
          let bounds : Through 0 (2 ^ 64) u.key 0 Right g.tree = through 0 (2 ^ 64) u.key 0 Right g.tree rule.tree.lawful in
          let within = subst (IsWithin bounds.low' bounds.high') node.is bounds.within in
          omega (arith, node.spelled.2, copies.copy.2, within.3.0)

      top_only : (parent : ℕ) (top : Side) → IsLinkTo t parent top slot Right R → (parent ≡ slot) × (top ≡ Right)
      top_only parent top (inl here) = (here.1, here.2)
      top_only parent top (inr (inl left)) = absurd left
      top_only parent top (inr (inr right)) =
          let link = link_to stamp_graph t parent top t Right r'' node.spelled.5.5 right in
          let within : 0 < occurs parent R = elim link.0 as (λ _. 0 < occurs parent R) [
            | inl own ↦ subst (λ x. 0 < occurs x R) (sym own.0) (omega (arith, one_at-same t))
            | inr deep ↦ omega (arith, deep)
          ] in
          let one = same_child z m vs g rule plain W trees n parent Right top t (inr node.there) (inr (whole_in parent (copies.inside parent within)))
          node.spelled.5.0 link.1 node.spelled.5.1 in
          absurd (omega (
            arith,
            subst (λ x. 0 < occurs x R) (sym one.0) within,
            one_at-same n,
            once_below z m vs g rule plain W trees i v at quiet none u slot n,
            ap (occurs n) node.is,
          ))

      near_joined : IsPlainTree gr ws tree W
      near_joined =
          whole z m vs g rule plain W trees i v at quiet none u slot moved can known
          (join_near z m vs g rule plain W trees i v at quiet removal move tree moved known k slot side (removed_links m below) refl
          link_locked u.key n kk vv L R node.is
          node.spelled.1 node.there node.held node.out link_hangs node.spelled.0
          s a b t c e t n l' r' Null r'' Right refl refl refl takes_near node.spelled.5.1 near_there near_held (inr node.there) node.spelled.5.0 node.held
          node.spelled.5 (ap removed_successor node.is) top_only)
          (own_seat z m vs g rule plain W trees i v at quiet none u slot moved can known (n ∷ t ∷ []) (Some slot) None (unset_at m k side slot ∷ []) takes_near
          copies.brings (ap removed_successor node.is)
          (ap (λ x. unset_at m k side slot ∷ removed_links m x) node.is) (
            near_item z m vs g rule plain W trees i v at quiet none k slot n t side copies.free node.was node.held node.there near_held near_there near_apart
                (node.spelled.5.2 ∙ sym copies.copy.2) near_rises node.spelled.5.1 node.spelled.5.4 node.spelled.5.0 near_behind,
            tt,
          ) near_apart tt)

    -- the successor is further down
    module _ (n kk vv s a b t c e f fk fv : ℕ) (l' r' fl fr r'' : NamedTree)
        (node : Removed n kk vv (Branch s a b l' r') (Branch t c e (Branch f fk fv fl fr) r'')) where
      abbrev F : NamedTree
      F = Branch f fk fv fl fr

      abbrev left_tree : NamedTree
      left_tree = Branch s a b l' r'

      abbrev right_tree : NamedTree
      right_tree = Branch t c e F r''

      abbrev successor : ℕ
      successor = first_node f fl

      abbrev q : ℕ
      q = first_parent t f fl

      abbrev rest : ℕ
      rest = first_rest fl fr

      abbrev far : Unlinking
      far = record { successor = successor; parent = q; side = Left; replaced = n }

      far_copies : Copies n kk vv s a b t c e l' r' F r''
      far_copies = copied n kk vv s a b t c e l' r' F r'' node

      takes_far : move.taken ≡ n ∷ successor ∷ []
      takes_far = ap removed_slots node.is ∙ ap (λ ks. n ∷ ks) (first_listed f fk fv fl fr)

      sets_far : move.plain.unset ≡ unset_at m k side slot ∷ unset_at m q Left rest ∷ []
      sets_far = ap (λ x. unset_at m k side slot ∷ removed_links m x) node.is

      -- a link below the left link of the right tree is one of the tree
      deep : (x : ℕ) (d : Side) (y : ℕ) → IsChildAt t Left F x d y → IsChildAt 0 Right g.tree x d y
      deep x d y link = subtree_child u.key 0 Right g.tree x d y (subst (λ sub. IsChildAt k side sub x d y) (sym node.is) (inr (inr (inr (inl link)))))

      at_q : IsChildAt 0 Right g.tree q Left successor
      at_q = deep q Left successor (first_leads t f fk fv fl fr)

      q_there : IsLinkIn 0 Right g.tree q Left
      q_there = leads_link 0 Right g.tree q Left successor at_q

      q_leads : stamp_graph.child Left q ≡ successor
      q_leads = spelled_child stamp_graph 0 Right g.tree q Left successor rule.tree.spelled at_q

      far_behind : stamp_graph.child Right successor ≡ rest
      far_behind = spelled_child stamp_graph 0 Right g.tree successor Right rest rule.tree.spelled (deep successor Right rest (behind_leads t f fk fv fl fr))

      far_some : 0 < successor
      far_some = first_some stamp_graph (stamp_graph.child Left t) f fk fv fl fr node.spelled.5.4

      far_there : 0 < occurs successor g.tree
      far_there = subst (λ x. 0 < occurs x g.tree) q_leads (child_there z m vs g rule plain W trees q Left q_there (subst (λ x. 0 < x) (sym q_leads) far_some))

      far_held : 0 < lock_count successor v
      far_held = moved.locked successor (subst (λ (ks : List ℕ). 0 < count successor ks) (sym takes_far) (in_pair_second n successor))

      q_held : 0 < lock_count q v
      q_held =
          locks-count q v.held.nodes (subst (λ (us : List UnsetLink). Every (λ (x : UnsetLink). locks x.node v.held.nodes ≡ true) us)
          sets_far moved.plain.locked).1.0

      q_inside : 0 < occurs q below
      q_inside = (subst (λ x. Every (λ (y : UnsetLink). 0 < occurs y.node below) (removed_links m x)) node.is (far_inside m below)).0

      far_apart : n ≡ successor → ⊥
      far_apart = node.apart q Left successor q_there q_leads q_inside

      far_differ : successor ≡ rest → ⊥
      far_differ same =
          sides_differ (same_child z m vs g rule plain W trees q successor Left Right successor q_there (inr far_there) q_leads
          (far_behind ∙ sym same) far_some).1

      -- the copy's right link leads to another node
      not_top : (parent : ℕ) (top : Side) → IsLinkTo successor parent top slot Right right_tree → (parent ≡ slot) × (top ≡ Right) → ⊥
      not_top parent top (inl here) own =
          sides_differ (sym (same_child z m vs g rule plain W trees n q Right Left successor (inr node.there) q_there
          (node.spelled.5.0 ∙ here.0) q_leads far_some).1)
      not_top parent top (inr lower) own =
          let link = link_to stamp_graph successor parent top n Right right_tree node.spelled.5 (inr lower) in
          far_copies.fresh (subst (λ x. 0 < occurs x g.tree) own.0 (elim link.0 as (λ _. 0 < occurs parent g.tree) [
            | inl here ↦ subst (λ x. 0 < occurs x g.tree) (sym here.0) node.there
            | inr deeper ↦ whole_in parent (far_copies.inside parent deeper)
          ]))

      far_joined : IsPlainTree gr ws tree W
      far_joined =
          let was' : gr.child Left q ≡ successor = plain_link z m vs g rule plain W trees i v at quiet q Left q_held q_there ∙ q_leads in
          whole z m vs g rule plain W trees i v at quiet none u slot moved can known
          (join_far z m vs g rule plain W trees i v at quiet removal move tree moved known k slot side (removed_links m below) refl link_locked u.key n kk
          vv left_tree right_tree node.is
          node.spelled.1 node.there node.held node.out link_hangs node.spelled.0
          s a b t c e successor q l' r' F r'' Left refl refl refl takes_far far_some far_there far_held q_there q_leads q_held
          node.spelled.5 rest sets_far not_top)
          (own_seat z m vs g rule plain W trees i v at quiet none u slot moved can known (n ∷ successor ∷ []) (Some slot) (Some far)
          (unset_at m k side slot ∷ unset_at m q Left rest ∷ []) takes_far far_copies.brings (ap removed_successor node.is) sets_far (
            far_first z m vs g rule plain W trees i v at quiet none k slot n successor side far_copies.free node.was node.held node.there
                far_held far_there far_apart q rest Left was' far_behind far_differ,
            (
              far_second z m vs g rule plain W trees i v at quiet none k slot n successor side far_copies.free node.was node.held node.there
                  far_held far_there far_apart q rest Left was' far_behind far_differ,
              tt,
            ),
          ) far_apart refl)

    -- the plain tree after the raise, where the key is found
    pub remove_raised : is_branch below ≡ true → IsPlainTree gr ws tree W
    remove_raised = by below refl
      where
        node_at : (n kk vv : ℕ) (l r : NamedTree) → below ≡ Branch n kk vv l r → Removed n kk vv l r
        node_at = removed_node z m vs g rule plain W trees i v at quiet none u slot moved can known

        by : (t : NamedTree) → below ≡ t → is_branch t ≡ true → IsPlainTree gr ws tree W
        by Null is found = cc
        by (Branch n kk vv Null r) is found =
            right_lifted z m vs g rule plain W trees i v at quiet none u slot moved can known n kk vv r (node_at n kk vv Null r is)
        by (Branch n kk vv (Branch s a b l' r') Null) is found =
            left_lifted z m vs g rule plain W trees i v at quiet none u slot moved can known n kk vv s a b l' r' (node_at n kk vv (Branch s a b l' r') Null is)
        by (Branch n kk vv (Branch s a b l' r') (Branch t c e Null r'')) is found =
            near_joined n kk vv s a b t c e l' r' r'' (node_at n kk vv (Branch s a b l' r') (Branch t c e Null r'') is)
        by (Branch n kk vv (Branch s a b l' r') (Branch t c e (Branch f fk fv fl fr) r'')) is found =
            far_joined n kk vv s a b t c e f fk fv l' r' fl fr r'' (node_at n kk vv (Branch s a b l' r') (Branch t c e (Branch f fk fv fl fr) r'') is)
