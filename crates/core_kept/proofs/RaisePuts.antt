-- A raised put keeps the match of the plain tree and the tree at the stamp: of an absent key, where its search has
-- found the key's gap in the plain tree, and of a present one.
use Rattle.std.proofs.Common.{◌≡◌, ℕ, ◌<◌, ◌≤◌, ◌⊎◌, List, ◌∷◌, Bool, true, false, ltb, eqb, ◌&&◌, ◌||◌, set, arith, refl, ap, ◌∙◌, sym, subst, inl, inr, None}
use Rattle.std.specs.List.{list_any, sum_by}
use Rattle.std.proofs.lemmas.Bool.{and_from, eq-eqb, cases_lt}
use Rattle.std.proofs.lemmas.Bool.Decides.{nat_tests}
use Rattle.index_words.specs.declared.layout.Layout.{Layout}
use Rattle.index_words.specs.declared.side.Side.{Side}
use Rattle.index_words.specs.declared.side.Side.TheVariants.{Left, Right}
use Rattle.key_map.specs.declared.update.Update.{Update}
use Rattle.index_words.specs.declared.view.View.{View}
use Rattle.index_words.specs.declared.view.update.UnsetLink.{UnsetLink}
use Rattle.index_words.specs.declared.word.Word.TheVariants.{Stamp}
use Rattle.index_words.specs.Words.{Memory, same_side}
use Rattle.key_map.specs.Lists.{count, has, IsItem}
use Rattle.index_words.proofs.Seats.{item_set}
use Rattle.core_grace.specs.Holds.{held_slots}
use Rattle.core_trees.specs.LinkSteps.{IsLinkIn}
use Rattle.core_trees.specs.NamedTree.{NamedTree, Null, Branch}
use Rattle.core_trees.specs.Slots.{occurs}
use Rattle.core_trees.specs.SpelledTree.{Graph, IsSpelled}
use Rattle.core_trees.specs.TreeStep.{subtree_at, tree_put}
use Rattle.core_trees.proofs.Slots.{one_at-same}
use Rattle.core_trees.proofs.Updates.{subtree_at-left, subtree_at-right, subtree_at-here}
use Rattle.core_events.specs.declared.tree_move.TreeMove.{TreeMove}
use Rattle.core_events.specs.PlainNeeds.{is_link_of}
use Rattle.core_events.specs.PlainWork.{unset_at}
use Rattle.core_events.specs.TreeMoves.{has_gap}
use Rattle.core_events.specs.UpdateMoves.{raised_view}
use Rattle.core_invariant.specs.Locks.{lock_count}
use Rattle.core_invariant.specs.Meanings.{Meaning}
use Rattle.core_invariant.specs.PlainRule.{unset_count, PlainRight}
use Rattle.core_invariant.specs.PlainTree.{is_item, passes_over, sets_link, undone, IsPlainTree}
use Rattle.core_invariant.specs.Reached.{plain_graph}
use Rattle.core_invariant.specs.SearchRule.{SearchRight}
use Rattle.core_invariant.specs.Rule.{Rule}
use Rattle.core_invariant.proofs.Frames.{Term, term_of}
use Rattle.core_invariant.proofs.Passing.{Passing as Found, passing, any_counted}
use Rattle.core_invariant.proofs.PlainSteps.{link_parts}
use Rattle.core_invariant.proofs.Sides.{same_side-refl}
use Rattle.core_kept.proofs.LinkItems.{now, ItemOf, items_of, same_child}
use Rattle.core_invariant.proofs.Undone.{stays, any_from, orderly, no_links}
use Rattle.core_kept.proofs.RaiseGap.{gap_ends}
use Rattle.core_kept.proofs.RaiseTree.{not_mine, settled, extends}
use Rattle.core_kept.proofs.TreeMoved.{MovesTree}
use Rattle.plain_trees.specs.Matching.{Undone, IsUnset, IsOut, Matches}
use Rattle.plain_trees.specs.Raises.{IsFoundAt, IsLinkTo}
use Rattle.plain_trees.proofs.Inserts.{insert}
use Rattle.plain_trees.proofs.Raises.{replace}

is_less : (a b : ℕ) → ltb a b ≡ true → a < b
is_less a b low = grind (arith, nat_tests)

own_there : (parent s k v : ℕ) (l r : NamedTree) → parent ≡ s → 0 < occurs parent (Branch s k v l r)
own_there parent s k v l r is = subst (λ n. 0 < occurs n (Branch s k v l r)) (sym is) (omega (arith, one_at-same s))

top_is : (s k v s' k' v' : ℕ) (a b a' b' : NamedTree) → Branch s k v a b ≡ Branch s' k' v' a' b' → s ≡ s'
top_is s k v s' k' v' a b a' b' e = cc

-- a node at which the search for a key ends is found by it
pub found_at : (key node k val : ℕ) (l r tree : NamedTree) → subtree_at key tree ≡ Branch node k val l r → IsFoundAt key node tree
found_at key node k val l r Null is = cc
found_at key node k val l r (Branch s k' v' l' r') is =
    by (λ e. found_at key node k val l r l' e) (λ e. found_at key node k val l r r' e) (ltb key k') refl (ltb k' key) refl
  where
    above : (a b : ℕ) → ltb a b ≡ false → b ≤ a
    above a b off = grind (arith, nat_tests)

    by : (subtree_at key l' ≡ Branch node k val l r → IsFoundAt key node l') → (subtree_at key r' ≡ Branch node k val l r → IsFoundAt key node r')
        → (b : Bool) → ltb key k' ≡ b → (c : Bool) → ltb k' key ≡ c → IsFoundAt key node (Branch s k' v' l' r')
    by lefts rights true low c other =
        let lower : key < k' = is_less key k' low in
        inr (inl (lower, lefts (sym (subtree_at-left key s k' v' l' r' lower) ∙ is)))
    by lefts rights false low true high =
        let higher : k' < key = is_less k' key high in
        inr (inr (higher, rights (sym (subtree_at-right key s k' v' l' r' higher) ∙ is)))
    by lefts rights false low false high =
        let here : key ≡ k' = omega (arith, above key k' low, above k' key high) in
        inl (here, top_is s k' v' node k val l' r' l r (sym (subtree_at-here key s k' v' l' r' here) ∙ is))

-- a link that leads to a node is one of the tree, and leads there in what it spells
pub link_to : (h : Graph) (node parent : ℕ) (side : Side) (root : ℕ) (top : Side) (tree : NamedTree) → IsSpelled h (h.child top root) tree
    → IsLinkTo node parent side root top tree
    → IsLinkIn root top tree parent side × (h.child side parent ≡ node)
link_to h node parent side root top Null spelled to = absurd to
link_to h node parent side root top (Branch s k v l r) spelled (inl here) =
    (inl (here.1, here.2), ap (λ (w : Side). h.child w parent) here.2 ∙ (ap (h.child top) here.1 ∙ (spelled.0 ∙ here.0)))
link_to h node parent side root top (Branch s k v l r) spelled (inr (inl left)) =
    let below = link_to h node parent side s Left l spelled.4 left in
    (inr (in_left below.0), below.1)
  where
    in_left : IsLinkIn s Left l parent side → 0 < occurs parent (Branch s k v l r)
    in_left (inl own) = own_there parent s k v l r own.0
    in_left (inr there) = omega (arith, there)
link_to h node parent side root top (Branch s k v l r) spelled (inr (inr right)) =
    let below = link_to h node parent side s Right r spelled.5 right in
    (inr (in_right below.0), below.1)
  where
    in_right : IsLinkIn s Right r parent side → 0 < occurs parent (Branch s k v l r)
    in_right (inl own) = own_there parent s k v l r own.0
    in_right (inr there) = omega (arith, there)

module _ (z : Layout) (m : Memory) (vs : List View) (g : Meaning) (rule : Rule z m vs g) (plain : PlainRight m vs g) (W : NamedTree)
    (trees : IsPlainTree (plain_graph m) vs g.tree W) (i : ℕ) (v : View) (at : IsItem vs i v) (quiet : v.update.raised ≡ None) where
  abbrev gr : Graph
  gr = plain_graph m

  abbrev u0 : Undone
  u0 = undone (plain_graph m) vs

  -- a link of a node that the seat has locked leads where the tree does
  pub plain_link : (k : ℕ) (side : Side) → 0 < lock_count k v → IsLinkIn 0 Right g.tree k side
      → gr.child side k ≡ (now z m vs g rule plain W trees).child side k
  plain_link k side locked there = plain.linked k side there (elim (cases_lt 0 (sum_by (unset_count k side) vs)) as (λ _. sum_by (unset_count k side) vs ≡ 0) [
    | inr none ↦ omega (arith, none)
    | inl some ↦ absurd (never_set (term_of (unset_count k side) vs some))
  ])
    where
      never_set : Term (unset_count k side) vs → ⊥
      never_set term =
          let some : list_any (is_link_of k side) term.item.update.unset ≡ true = any_counted (is_link_of k side) term.item.update.unset term.some in
          let f : Found (is_link_of k side) (ItemOf z m vs g rule plain W trees term.item)
          = passing (is_link_of k side) (ItemOf z m vs g rule plain W trees term.item) term.item.update.unset
          (items_of z m vs g rule plain W trees term.place term.item term.at) some in
          not_mine z m vs g rule plain W trees i v at quiet term.place k term.item (is_link_of k side) term.at locked
          (subst (λ n. 0 < count n (held_slots term.item.held.nodes)) (link_parts k side f.item f.passes).0 f.right.0.held) some

  module _ (u : Update) (move : TreeMove) (tree : NamedTree) (moved : MovesTree m g v u move tree) (known : List Update) (k slot : ℕ) (side : Side)
      (rest : List UnsetLink) (sets : move.plain.unset ≡ unset_at m k side slot ∷ rest) (locked : 0 < lock_count k v) where
    abbrev w : View
    w = raised_view known v (m Stamp) u move

    abbrev ws : List View
    ws = set vs i w

    abbrev u1 : Undone
    u1 = undone (plain_graph m) ws

    -- the first link that the update has to set
    pub first_unset : (was : ℕ) → gr.child side k ≡ was → IsUnset u1 k side was slot
    first_unset was is =
        any_from (sets_link (gr.child Right) k side was slot) ws i w (item_set vs i v w at)
        (ap (λ b. b || passes_over w.update.taken w.update.unlinking w.update.unset (gr.child Right) k side was slot)
        (subst (λ (us : List UnsetLink). list_any (is_item k side was slot) us ≡ true) (sym sets)
        (ap (λ b. b || list_any (is_item k side was slot) rest)
        (and_from (eqb k k && same_side side side && eqb (gr.child side k) was) (eqb slot slot)
        (and_from (eqb k k && same_side side side) (eqb (gr.child side k) was)
        (and_from (eqb k k) (same_side side side) (eq-eqb k k refl) (same_side-refl side)) (eq-eqb (gr.child side k) was is))
        (eq-eqb slot slot refl)))))

    -- what the update takes out
    pub taken_out_now : (n : ℕ) → has n move.taken ≡ true → IsOut u1 n
    taken_out_now n is = any_from (λ (y : View). has n y.update.taken) ws i w (item_set vs i v w at) is

    -- a put of an absent key
    pub insert_matches : (key val : ℕ) → SearchRight gr vs g.tree W v → (k ≡ 0) ⊎ (0 < occurs k g.tree) → has_gap m v key k side ≡ true
        → gr.child side k ≡ 0 → Matches u1 0 Right W (tree_put slot key val g.tree)
    insert_matches key val search there gap null =
        insert u0 u1 k slot key val side W g.tree (orderly z m vs g rule gr) (extends z m vs g rule plain W trees i v at quiet u move tree moved known)
        (stays z m vs g rule (plain_graph m) k there) (no_links z m vs g rule W trees plain i v at quiet k locked there side) (first_unset 0 null) trees.matches
        (gap_ends z m vs g rule plain W trees i v at quiet key k side search locked there gap)

    -- a put of a present key, whose node is locked too
    pub replace_matches : (key val n k' val' : ℕ) (l r : NamedTree) → subtree_at key g.tree ≡ Branch n k' val' l r → 0 < n → 0 < occurs n g.tree
        → 0 < lock_count n v → has n move.taken ≡ true
        → IsLinkIn 0 Right g.tree k side → (now z m vs g rule plain W trees).child side k ≡ n → Matches u1 0 Right W (tree_put slot key val g.tree)
    replace_matches key val n k' val' l r is some there held out hangs leads =
        replace u0 u1 n slot key val W g.tree (extends z m vs g rule plain W trees i v at quiet u move tree moved known) trees.matches rule.tree.lawful
        (found_at key n k' val' l r g.tree is) (settled z m vs g rule plain W trees i v at quiet n k side some held there hangs leads locked)
        (taken_out_now n out)
        (λ parent top to.
        let link = link_to (now z m vs g rule plain W trees) n parent top 0 Right g.tree rule.tree.spelled to in
        let one = same_child z m vs g rule plain W trees k parent side top n hangs link.0 leads link.1 some in
        subst (λ j. IsUnset u1 j top n slot) one.0 (subst (λ (t : Side). IsUnset u1 k t n slot) one.1 (first_unset n (plain_link k side locked hangs ∙ leads))))
