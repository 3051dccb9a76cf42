-- A raised removal keeps the match of the plain tree and the tree at the stamp, in each of its cases: the removed node
-- has no left child, has no right one, or has two children and a near or a far successor.
use Rattle.std.proofs.Common.{◌≡◌, ℕ, ◌<◌, ◌⊎◌, List, [], ◌∷◌, Bool, true, false, eqb, ◌&&◌, ◌||◌, set, arith, refl, ap, ◌∙◌, sym, subst, inl, inr, Option, None}
use Rattle.std.specs.List.{list_any}
use Rattle.std.proofs.lemmas.Bool.{and_from, eq-eqb}
use Rattle.index_words.specs.declared.layout.Layout.{Layout}
use Rattle.index_words.specs.declared.side.Side.{Side}
use Rattle.index_words.specs.declared.side.Side.TheVariants.{Right}
use Rattle.key_map.specs.declared.update.Update.{Update}
use Rattle.index_words.specs.declared.view.View.{View}
use Rattle.index_words.specs.declared.view.update.UnsetLink.{UnsetLink}
use Rattle.index_words.specs.declared.word.Word.TheVariants.{Stamp}
use Rattle.index_words.specs.Words.{Memory, same_side}
use Rattle.key_map.specs.Lists.{has, IsItem}
use Rattle.index_words.proofs.Seats.{item_set}
use Rattle.core_trees.specs.LinkSteps.{IsLinkIn}
use Rattle.core_trees.specs.NamedTree.{NamedTree, Null, Branch}
use Rattle.core_trees.specs.Slots.{occurs, one_at}
use Rattle.core_trees.specs.SpelledTree.{Graph, IsSpelled}
use Rattle.core_trees.specs.TreeStep.{subtree_at, tree_remove}
use Rattle.core_trees.proofs.Slots.{subtree_tally}
use Rattle.core_events.specs.declared.tree_move.TreeMove.{TreeMove}
use Rattle.core_events.specs.PlainWork.{first_node, unset_at}
use Rattle.core_events.specs.UpdateMoves.{raised_view}
use Rattle.core_invariant.specs.Locks.{lock_count}
use Rattle.core_invariant.specs.Meanings.{Meaning}
use Rattle.core_invariant.specs.PlainRule.{PlainRight}
use Rattle.core_invariant.specs.PlainTree.{is_item, is_copied, passes_over, sets_link, bypasses, copies, undone, IsPlainTree}
use Rattle.core_invariant.specs.Reached.{plain_graph}
use Rattle.core_invariant.specs.Rule.{Rule}
use Rattle.core_invariant.proofs.Sides.{same_side-refl}
use Rattle.core_kept.proofs.LinkItems.{now, passes_from, same_child}
use Rattle.core_kept.proofs.RaisePuts.{found_at, link_to, plain_link, first_unset, taken_out_now}
use Rattle.core_kept.proofs.RaiseTree.{settled, extends}
use Rattle.core_kept.proofs.TreeMoved.{MovesTree}
use Rattle.core_invariant.proofs.Undone.{any_from}
use Rattle.plain_trees.specs.Matching.{Undone, IsUnset, IsOut, IsBypassed, IsHeir, Matches}
use Rattle.plain_trees.specs.Raises.{IsSettled, IsLinkTo, IsFirst, LeavesSuccessor, LeavesUnset}
use Rattle.plain_trees.proofs.Raises.{remove}

-- the first node of a tree is its only first one
first_only : (s next slot key val : ℕ) (l r : NamedTree) → IsFirst s next (Branch slot key val l r) → first_node slot l ≡ s
first_only s next slot key val Null r (inl here) = here.1
first_only s next slot key val Null r (inr below) = absurd below
first_only s next slot key val (Branch s' k v l' r') r (inl here) = absurd here.0
first_only s next slot key val (Branch s' k v l' r') r (inr below) = first_only s next s' k v l' r' below

-- a link to a node is one from where the tree hangs, or stays where the tree hangs elsewhere
moved_to : (node parent : ℕ) (side : Side) (a b : ℕ) (d e : Side) (t : NamedTree) → IsLinkTo node parent side a d t
    → ((parent ≡ a) × (side ≡ d)) ⊎ IsLinkTo node parent side b e t
moved_to node parent side a b d e Null to = absurd to
moved_to node parent side a b d e (Branch s k v l r) (inl here) = inl (here.1, here.2)
moved_to node parent side a b d e (Branch s k v l r) (inr below) = inr (inr below)

or_last : (a b : Bool) → b ≡ true → (a || b) ≡ true
or_last true b is = refl
or_last false b is = is

module _ (z : Layout) (m : Memory) (vs : List View) (g : Meaning) (rule : Rule z m vs g) (plain : PlainRight m vs g) (W : NamedTree)
    (trees : IsPlainTree (plain_graph m) vs g.tree W) (i : ℕ) (v : View) (at : IsItem vs i v) (quiet : v.update.raised ≡ None)
    (u : Update) (move : TreeMove) (tree : NamedTree) (moved : MovesTree m g v u move tree) (known : List Update) (k slot : ℕ) (side : Side)
    (rest : List UnsetLink) (sets : move.plain.unset ≡ unset_at m k side slot ∷ rest) (locked : 0 < lock_count k v) where
  abbrev gr : Graph
  gr = plain_graph m

  abbrev stamp_graph : Graph
  stamp_graph = now z m vs g rule plain W trees

  abbrev w : View
  w = raised_view known v (m Stamp) u move

  abbrev ws : List View
  ws = set vs i w

  abbrev u0 : Undone
  u0 = undone (plain_graph m) vs

  abbrev u1 : Undone
  u1 = undone (plain_graph m) ws

  -- the removed node, its key and its children, and the locked link that leads to it
  module _ (key n kk vv : ℕ) (l r : NamedTree) (is : subtree_at key g.tree ≡ Branch n kk vv l r) (some : 0 < n) (there : 0 < occurs n g.tree)
      (held : 0 < lock_count n v)
      (out : has n move.taken ≡ true) (hangs : IsLinkIn 0 Right g.tree k side) (leads : stamp_graph.child side k ≡ n) where
    -- a link that leads to it is that one, and is still to be set
    at_link : (parent : ℕ) (top : Side) → IsLinkTo n parent top 0 Right g.tree → IsUnset u1 parent top n slot
    at_link parent top to =
        let link = link_to stamp_graph n parent top 0 Right g.tree rule.tree.spelled to in
        let one = same_child z m vs g rule plain W trees k parent side top n hangs link.0 leads link.1 some in
        subst (λ j. IsUnset u1 j top n slot) one.0
        (subst (λ (t : Side). IsUnset u1 k t n slot) one.1
        (first_unset z m vs g rule plain W trees i v at quiet u move tree moved known k slot side rest sets locked n
        (plain_link z m vs g rule plain W trees i v at quiet k side locked hangs ∙ leads)))

    gone : IsOut u1 n
    gone = taken_out_now z m vs g rule plain W trees i v at quiet u move tree moved known k slot side rest sets locked n out

    removed_by : ((parent : ℕ) (top : Side) → IsLinkTo n parent top 0 Right g.tree → LeavesUnset u0 u1 slot parent top (Branch n kk vv l r))
        → Matches u1 0 Right W (tree_remove slot key g.tree)
    removed_by leaves =
        remove u0 u1 n slot key W g.tree (extends z m vs g rule plain W trees i v at quiet u move tree moved known) trees.matches rule.tree.lawful
        (found_at key n kk vv l r g.tree is)
        (settled z m vs g rule plain W trees i v at quiet n k side some held there hangs leads locked)
        (λ parent top to. subst (LeavesUnset u0 u1 slot parent top) (sym is) (leaves parent top to))

    -- it has no left child
    pub lift_right : l ≡ Null → move.taken ≡ n ∷ [] → move.added ≡ None → Matches u1 0 Right W (tree_remove slot key g.tree)
    lift_right null takes brings =
        removed_by (λ parent top to. subst (λ t. LeavesUnset u0 u1 slot parent top (Branch n kk vv t r)) (sym null)
        (gone, bypassed, (slot, at_link parent top to)))
      where
        bypassed : IsBypassed u1 n
        bypassed =
            any_from (λ (y : View). bypasses y.update.taken y.update.added n) ws i w (item_set vs i v w at)
            (subst (λ (ks : List ℕ). bypasses ks move.added n ≡ true) (sym takes)
            (subst (λ (o : Option ℕ). bypasses (n ∷ []) o n ≡ true) (sym brings) (eq-eqb n n refl)))

    -- it has no right child
    pub lift_left : (s a b : ℕ) (l' r' : NamedTree) → l ≡ Branch s a b l' r' → r ≡ Null → Matches u1 0 Right W (tree_remove slot key g.tree)
    lift_left s a b l' r' left right =
        removed_by (λ parent top to.
        subst (λ t. LeavesUnset u0 u1 slot parent top (Branch n kk vv t r)) (sym left)
        (subst (λ t. LeavesUnset u0 u1 slot parent top (Branch n kk vv (Branch s a b l' r') t)) (sym right) (gone, (slot, at_link parent top to))))

    -- it has two children: the successor is the first node of the right tree, and is locked as the node is to which it
    -- hangs
    module _ (s a b t c e successor q : ℕ) (l' r' l'' r'' : NamedTree) (side' : Side) (left : l ≡ Branch s a b l' r') (right : r ≡ Branch t c e l'' r'')
        (first : first_node t l'' ≡ successor)
        (takes : move.taken ≡ n ∷ successor ∷ []) (some' : 0 < successor) (there' : 0 < occurs successor g.tree) (held' : 0 < lock_count successor v)
        (hangs' : IsLinkIn 0 Right g.tree q side') (leads' : stamp_graph.child side' q ≡ successor) (locked' : 0 < lock_count q v) where
      next_settled : IsSettled u0 successor
      next_settled = settled z m vs g rule plain W trees i v at quiet successor q side' some' held' there' hangs' leads' locked'

      next_out : IsOut u1 successor
      next_out =
          taken_out_now z m vs g rule plain W trees i v at quiet u move tree moved known k slot side rest sets locked successor
          (subst (λ (ks : List ℕ). has successor ks ≡ true) (sym takes) (second-in n successor))
        where
          second-in : (n s : ℕ) → has s (n ∷ s ∷ []) ≡ true
          second-in n s = or_last (eqb n s) (eqb s s || false) (ap (λ b. b || false) (eq-eqb s s refl))

      next_bypassed : IsBypassed u1 successor
      next_bypassed =
          any_from (λ (y : View). bypasses y.update.taken y.update.added successor) ws i w (item_set vs i v w at)
          (subst (λ (ks : List ℕ). bypasses ks move.added successor ≡ true) (sym takes) (eq-eqb successor successor refl))

      next_heir : IsHeir u1 n successor
      next_heir =
          any_from (λ (y : View). copies y.update.taken n successor) ws i w (item_set vs i v w at)
          (subst (λ (ks : List ℕ). copies ks n successor ≡ true) (sym takes)
          (and_from (eqb n n) (eqb successor successor) (eq-eqb n n refl) (eq-eqb successor successor refl)))

      joined_by : ((parent : ℕ) (top : Side) → IsLinkTo successor parent top slot Right (Branch t c e l'' r'')
          → (child : ℕ) × IsUnset u1 parent top successor child)
          → Matches u1 0 Right W (tree_remove slot key g.tree)
      joined_by link =
          removed_by (λ parent top to.
          subst (λ x. LeavesUnset u0 u1 slot parent top (Branch n kk vv x r)) (sym left)
          (subst (λ x. LeavesUnset u0 u1 slot parent top (Branch n kk vv (Branch s a b l' r') x)) (sym right) (
            gone,
            at_link parent top to,
            λ f next is_first.
                subst (λ x. LeavesSuccessor u0 u1 n slot x (Branch t c e l'' r'')) (sym first ∙ first_only f next t c e l'' r'' is_first) leaves,
          )))
        where
          leaves : LeavesSuccessor u0 u1 n slot successor (Branch t c e l'' r'')
          leaves = record { settled = next_settled; out = next_out; bypassed = next_bypassed; heir = next_heir; link = link }

      -- the right tree is spelled at the removed node's right link
      module _ (spelled : IsSpelled stamp_graph (stamp_graph.child Right n) (Branch t c e l'' r'')) where
        -- the link is the one at which the successor hangs, or the copy's right link, where the successor is the right
        -- child
        one_of : (parent : ℕ) (top : Side) → IsLinkTo successor parent top slot Right (Branch t c e l'' r'')
            → ((parent ≡ slot) × (top ≡ Right)) ⊎ ((q ≡ parent) × (side' ≡ top))
        one_of parent top to = elim (moved_to successor parent top slot n Right Right (Branch t c e l'' r'') to)
            as (λ _. ((parent ≡ slot) × (top ≡ Right)) ⊎ ((q ≡ parent) × (side' ≡ top))) [
              | inl own ↦ inl own
              | inr old ↦
                  let link = link_to stamp_graph successor parent top n Right (Branch t c e l'' r'') spelled old in
                  inr (same_child z m vs g rule plain W trees q parent side' top successor hangs' (in_whole parent top link.0) leads' link.1 some')
            ]
          where
            in_whole : (parent : ℕ) (top : Side) → IsLinkIn n Right (Branch t c e l'' r'') parent top → IsLinkIn 0 Right g.tree parent top
            in_whole parent top (inl own) = inr (subst (λ x. 0 < occurs x g.tree) (sym own.0) there)
            in_whole parent top (inr below) =
                inr (omega (arith, below, subtree_tally (one_at parent) key g.tree, ap (occurs parent) is, ap (occurs parent) right))

        -- a far successor: the link to it is the second that is still to be set
        pub join_far : (child : ℕ) → move.plain.unset ≡ unset_at m k side slot ∷ unset_at m q side' child ∷ []
            → ((parent : ℕ) (top : Side) → IsLinkTo successor parent top slot Right (Branch t c e l'' r'') → (parent ≡ slot) × (top ≡ Right) → ⊥)
            → Matches u1 0 Right W (tree_remove slot key g.tree)
        join_far child both below =
            joined_by (λ parent top to. elim (one_of parent top to) as (λ _. (c : ℕ) × IsUnset u1 parent top successor c) [
              | inl own ↦ absurd (below parent top to own)
              | inr here ↦
                  (child, subst (λ j. IsUnset u1 j top successor child) here.0 (subst (λ (x : Side). IsUnset u1 q x successor child) here.1 second_unset))
            ])
          where
            second_unset : IsUnset u1 q side' successor child
            second_unset =
                any_from (sets_link (gr.child Right) q side' successor child) ws i w (item_set vs i v w at)
                (ap (λ b. b || passes_over w.update.taken w.update.unlinking w.update.unset (gr.child Right) q side' successor child)
                (subst (λ (us : List UnsetLink). list_any (is_item q side' successor child) us ≡ true) (sym both)
                (or_last (is_item q side' successor child (unset_at m k side slot)) (is_item q side' successor child (unset_at m q side' child) || false)
                (ap (λ b. b || false)
                (and_from (eqb q q && same_side side' side' && eqb (gr.child side' q) successor) (eqb child child)
                (and_from (eqb q q && same_side side' side') (eqb (gr.child side' q) successor)
                (and_from (eqb q q) (same_side side' side') (eq-eqb q q refl) (same_side-refl side'))
                (eq-eqb (gr.child side' q) successor (plain_link z m vs g rule plain W trees i v at quiet q side' locked' hangs' ∙ leads')))
                (eq-eqb child child refl))))))

        -- a near one: the copy's right link passes over it
        pub join_near : move.plain.unlinking ≡ None → ((parent : ℕ) (top : Side) → IsLinkTo successor parent top slot Right (Branch t c e l'' r'')
            → (parent ≡ slot) × (top ≡ Right))
            → Matches u1 0 Right W (tree_remove slot key g.tree)
        join_near near top_only =
            joined_by (λ parent top to.
            let own = top_only parent top to in (
              gr.child Right slot,
              subst (λ j. IsUnset u1 j top successor (gr.child Right slot)) (sym own.0)
                  (subst (λ (x : Side). IsUnset u1 slot x successor (gr.child Right slot)) (sym own.1) passes),
            ))
          where
            copied : list_any (is_copied n slot) move.plain.unset ≡ true
            copied =
                subst (λ (us : List UnsetLink). list_any (is_copied n slot) us ≡ true) (sym sets)
                (ap (λ b. b || list_any (is_copied n slot) rest)
                (and_from (eqb (gr.child side k) n) (eqb slot slot)
                (eq-eqb (gr.child side k) n (plain_link z m vs g rule plain W trees i v at quiet k side locked hangs ∙ leads)) (eq-eqb slot slot refl)))

            passes : IsUnset u1 slot Right successor (gr.child Right slot)
            passes =
                any_from (sets_link (gr.child Right) slot Right successor (gr.child Right slot)) ws i w (item_set vs i v w at)
                (or_last (list_any (is_item slot Right successor (gr.child Right slot)) move.plain.unset)
                (passes_over move.taken move.plain.unlinking move.plain.unset (gr.child Right) slot Right successor (gr.child Right slot))
                (passes_from move.taken move.plain.unlinking move.plain.unset (gr.child Right) slot Right successor (gr.child Right slot) n successor
                takes near refl refl refl copied))
