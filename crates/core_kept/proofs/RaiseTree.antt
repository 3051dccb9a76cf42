-- A raise: the tree at the stamp makes its step, and the plain tree stays. What the update has to do then is added to
-- what others have to do, the nodes that it has locked were settled, and each seat keeps what it knows of the plain
-- tree.
use Rattle.std.proofs.Common.{◌≡◌, ℕ, ◌<◌, List, [], Bool, true, ◌||◌, set, arith, ◌∙◌, sym, subst, inl, inr, Option, None}
use Rattle.std.specs.List.{list_any}
use Rattle.std.proofs.lemmas.Bool.{cases_lt}
use Rattle.index_words.specs.declared.layout.Layout.{Layout}
use Rattle.index_words.specs.declared.side.Side.{Side}
use Rattle.index_words.specs.declared.side.Side.TheVariants.{Right}
use Rattle.key_map.specs.declared.update.Update.{Update}
use Rattle.index_words.specs.declared.view.View.{View}
use Rattle.index_words.specs.declared.view.update.Unlinking.{Unlinking}
use Rattle.index_words.specs.declared.view.update.UnsetLink.{UnsetLink}
use Rattle.index_words.specs.declared.word.Word.TheVariants.{Stamp}
use Rattle.index_words.specs.Words.{Memory}
use Rattle.key_map.specs.Lists.{count, has, IsItem}
use Rattle.index_words.proofs.Seats.{Beside, at_item}
use Rattle.core_grace.specs.Holds.{held_slots, listed}
use Rattle.core_trees.specs.LinkSteps.{IsLinkIn}
use Rattle.core_trees.specs.NamedTree.{NamedTree}
use Rattle.core_trees.specs.Slots.{occurs, one_at}
use Rattle.core_trees.specs.SpelledTree.{Graph}
use Rattle.core_events.specs.declared.tree_move.TreeMove.{TreeMove}
use Rattle.core_events.specs.UpdateMoves.{raised_view}
use Rattle.core_events.proofs.Tests.{never}
use Rattle.core_invariant.specs.Locks.{lock_count}
use Rattle.core_invariant.specs.Meanings.{Meaning}
use Rattle.core_invariant.specs.PlainRule.{PlainRight}
use Rattle.core_invariant.specs.PlainTree.{is_item, passes_over, sets_link, bypasses, copies, undone, SeatInTree, IsPlainTree}
use Rattle.core_invariant.specs.Reached.{plain_graph}
use Rattle.core_invariant.specs.Rule.{Rule}
use Rattle.core_invariant.proofs.Locked.{locked_live, same_locker}
use Rattle.core_invariant.proofs.Owned.{free_not_live}
use Rattle.core_invariant.proofs.TreeSteps.{count_sum}
use Rattle.core_kept.proofs.LinkItems.{now, SetBy, by_item, by_copy, set_by, near_of, locked_in, new_links, child_there, same_child}
use Rattle.core_kept.proofs.TreeMoved.{MovesTree}
use Rattle.core_invariant.proofs.Undone.{any_moved, copied_is, none_unset, no_links}
use Rattle.plain_trees.specs.Matching.{Undone}
use Rattle.plain_trees.specs.Raises.{Extends, IsSettled}

-- a view that has taken out nothing and has nothing to set
nothing_set : (right : ℕ → ℕ) (k : ℕ) (side : Side) (was child : ℕ) (taken : List ℕ) (o : Option Unlinking) (us : List UnsetLink) → us ≡ [] → taken ≡ []
    → (list_any (is_item k side was child) us || passes_over taken o us right k side was child) ≡ true → ⊥
nothing_set right k side was child taken o us none nil is =
    never (subst (λ (xs : List UnsetLink). (list_any (is_item k side was child) xs || passes_over [] o xs right k side was child) ≡ true) none
    (subst (λ (ks : List ℕ). (list_any (is_item k side was child) us || passes_over ks o us right k side was child) ≡ true) nil is))

module _ (z : Layout) (m : Memory) (vs : List View) (g : Meaning) (rule : Rule z m vs g) (plain : PlainRight m vs g) (W : NamedTree)
    (trees : IsPlainTree (plain_graph m) vs g.tree W) (i : ℕ) (v : View) (at : IsItem vs i v) (quiet : v.update.raised ≡ None) where
  abbrev graph : Graph
  graph = plain_graph m

  abbrev u0 : Undone
  u0 = undone (plain_graph m) vs

  pub none_taken : v.update.taken ≡ []
  none_taken = (at_item (SeatInTree (plain_graph m) W g.tree) vs i v at trees.seats).first quiet

  -- a link that a view has still to set is at no node that this one has locked
  pub not_mine : (j k : ℕ) (t : View) (test : UnsetLink → Bool) → IsItem vs j t → 0 < lock_count k v → 0 < lock_count k t → list_any test t.update.unset ≡ true
      → ⊥
  not_mine j k t test of locked held some =
      let same : v ≡ t = same_locker z m vs g rule i j k v t at of locked held in
      never (subst (λ (us : List UnsetLink). list_any test us ≡ true) (none_unset z m vs g rule W trees plain i v at quiet)
      (subst (λ (y : View). list_any test y.update.unset ≡ true) (sym same) some))

  -- a locked node to which the link of a locked node leads is settled
  pub settled : (node parent : ℕ) (side : Side) → 0 < node → 0 < lock_count node v → 0 < occurs node g.tree → IsLinkIn 0 Right g.tree parent side
      → (now z m vs g rule plain W trees).child side parent ≡ node → 0 < lock_count parent v → IsSettled u0 node
  settled node parent side some locked there hangs leads held = record {
    brings = λ p d was is. brings_by p d was (set_by z m vs g rule plain W trees p d was node is);
    links = λ d was child is. no_links z m vs g rule W trees plain i v at quiet node locked (inr there) d was child is;
  }
    where
      brings_by : (p : ℕ) (d : Side) (was : ℕ) → SetBy z m vs g rule plain W trees p d was node → ⊥
      brings_by p d was (by_item j t of a) =
          let one = same_child z m vs g rule plain W trees parent a.item.node side a.item.side node hangs a.right.0.there leads
          (a.right.0.asked ∙ a.is.new) some in
          not_mine j parent t (is_item p d was node) of held (subst (λ n. 0 < count n (held_slots t.held.nodes)) (sym one.0) a.right.0.held) a.some
      brings_by p d was (by_copy j t of f found) =
          let c = copied_is f.removed p found.item found.passes in
          let near = near_of z m vs g rule plain W trees t f.removed f.successor p found.item f.out f.near found.right c.0 c.1 in
          let leads_here = found.right.0.asked ∙ c.1 in
          let p_there : 0 < occurs p g.tree
          = subst (λ n. 0 < occurs n g.tree) leads_here
          (child_there z m vs g rule plain W trees found.item.node found.item.side found.right.0.there (subst (λ n. 0 < n) (sym leads_here) near.there)) in
          let right : (now z m vs g rule plain W trees).child Right p ≡ node
          = sym (new_links z m vs g rule plain W trees p p_there near.new Right) ∙ sym f.leads in
          let one = same_child z m vs g rule plain W trees parent p side Right node hangs (inr p_there) leads right some in
          omega (
            arith,
            near.new,
            subst (λ n. 0 < occurs n W) one.0 (locked_in z m vs g rule plain W trees i v at parent held (subst (λ n. 0 < occurs n g.tree) (sym one.0) p_there)),
          )

  -- the raise
  module _ (u : Update) (move : TreeMove) (tree : NamedTree) (moved : MovesTree m g v u move tree) (known : List Update) where
    abbrev w : View
    w = raised_view known v (m Stamp) u move

    abbrev ws : List View
    ws = set vs i w

    abbrev u1 : Undone
    u1 = undone (plain_graph m) ws

    -- what was to be done is still to be done
    pub extends : Extends u0 u1
    extends = record {
      links = λ k side was child is.
          any_moved (sets_link (graph.child Right) k side was child) (sets_link (graph.child Right) k side was child) vs i v w at
          (λ mine. absurd (nothing_set (graph.child Right) k side was child v.update.taken v.update.unlinking v.update.unset
          (none_unset z m vs g rule W trees plain i v at quiet) none_taken mine)) (λ t beside its. its) is;
      outs = λ k is.
          any_moved (λ (y : View). has k y.update.taken) (λ (y : View). has k y.update.taken) vs i v w at
          (λ mine. absurd (never (subst (λ (ks : List ℕ). has k ks ≡ true) none_taken mine))) (λ t beside its. its) is;
      passes = λ k is.
          any_moved (λ (y : View). bypasses y.update.taken y.update.added k) (λ (y : View). bypasses y.update.taken y.update.added k) vs i v w at
          (λ mine. absurd (never (subst (λ (ks : List ℕ). bypasses ks v.update.added k ≡ true) none_taken mine))) (λ t beside its. its) is;
      heirs = λ n s is.
          any_moved (λ (y : View). copies y.update.taken n s) (λ (y : View). copies y.update.taken n s) vs i v w at
          (λ mine. absurd (never (subst (λ (ks : List ℕ). copies ks n s ≡ true) none_taken mine))) (λ t beside its. its) is;
    }

    -- a locked node of the tree after the step was in it before: the new node was free
    in_before : (j k : ℕ) (t : View) → IsItem vs j t → 0 < lock_count k t → 0 < occurs k tree → 0 < occurs k g.tree
    in_before j k t of locked there =
        elim (cases_lt 0 (count k (listed move.added))) as (λ _. 0 < occurs k g.tree) [
          | inl new ↦ absurd (free_not_live z vs g rule.slots i k v at (moved.added k new).0 (locked_live z m vs g rule j k t of locked))
          | inr none ↦ omega (arith, (moved.slots (one_at k)).0, there, count_sum k (listed move.added), none)
        ]

    -- what another seat knows of the plain tree stays
    pub other_seat : (t : View) → Beside vs i t → SeatInTree (plain_graph m) W g.tree t → SeatInTree (plain_graph m) W tree t
    other_seat t beside of = record {
      locked = λ k locked there. of.locked k locked (in_before beside.place k t beside.at locked there);
      items = of.items;
      apart = of.apart;
      first = of.first;
      far = of.far;
    }

    -- and what the seat itself knows of the nodes that it has locked
    pub own_locked : (k : ℕ) → 0 < lock_count k v → 0 < occurs k tree → 0 < occurs k W
    own_locked k locked there = locked_in z m vs g rule plain W trees i v at k locked (in_before i k v at locked there)
