-- Raise: the links of the new tree. Each leads where it did, but those that the update leaves to be set and those of
-- the new node; and where a link leads elsewhere, the greatest number of its bundle is the new stamp.
use Rattle.std.proofs.Common.{◌≡◌, ℕ, ◌+◌, ◌<◌, ◌≤◌, ◌⊎◌, cond, List, [], ◌∷◌, ◌++◌, Bool, true, false, eqb, set, arith, refl, ap, ◌∙◌, sym, subst, inl, inr}
use Rattle.std.proofs.lemmas.Bool.{eqb-true}
use Rattle.std.proofs.lemmas.Bool.Decides.{nat_tests}
use Rattle.index_words.specs.declared.layout.Layout.{Layout}
use Rattle.index_words.specs.declared.side.Side.{Side}
use Rattle.index_words.specs.declared.side.Side.TheVariants.{Right}
use Rattle.key_map.specs.declared.update.Update.{Update}
use Rattle.index_words.specs.declared.view.View.{View}
use Rattle.index_words.specs.declared.view.update.UnsetLink.{UnsetLink}
use Rattle.index_words.specs.declared.word.Field.TheVariants.{Key, Val, Head, Link, Tag}
use Rattle.index_words.specs.declared.word.Part.TheVariants.{Child, Next}
use Rattle.index_words.specs.declared.word.Word.TheVariants.{Stamp, Node, Entry}
use Rattle.index_words.specs.Words.{Memory}
use Rattle.key_map.specs.Lists.{count, has, IsItem}
use Rattle.key_map.proofs.Counting.{count-append}
use Rattle.core_grace.specs.Holds.{listed}
use Rattle.core_links.specs.Bundle.{select, child_of_entry}
use Rattle.core_links.proofs.Chains.{select-here}
use Rattle.core_trees.specs.LinkSteps.{IsLinkIn}
use Rattle.core_trees.specs.NamedTree.{NamedTree}
use Rattle.core_trees.specs.SpelledAt.{graph_at}
use Rattle.core_trees.specs.SpelledTree.{Graph}
use Rattle.core_events.specs.LoadMoves.{locks}
use Rattle.core_events.specs.PlainNeeds.{is_link_of}
use Rattle.core_events.specs.Versions.{slots_of}
use Rattle.core_events.specs.UpdateMoves.{raised_view}
use Rattle.core_events.specs.declared.tree_move.TreeMove.{TreeMove}
use Rattle.core_invariant.specs.BundleRule.{IsLive}
use Rattle.core_invariant.specs.Locks.{lock_count}
use Rattle.core_invariant.specs.MeaningMoves.{raised_numbers}
use Rattle.core_invariant.specs.Meanings.{Meaning}
use Rattle.core_invariant.specs.PlainRule.{selected_of, child_at, greatest_of}
use Rattle.core_invariant.specs.Rule.{Rule}
use Rattle.core_invariant.proofs.BundleFrames.{select_low, select_next, chain_some}
use Rattle.core_invariant.proofs.Children.{link_leads, spelled_child}
use Rattle.core_invariant.proofs.Locked.{locks-count}
use Rattle.core_invariant.proofs.Needed.{CanRaise}
use Rattle.core_invariant.proofs.Passing.{Passing, passing, any_counted}
use Rattle.core_invariant.proofs.PlainSteps.{Sets, link_parts, IsNulled}
use Rattle.core_invariant.proofs.TreeNow.{count_slots, link_live}
use Rattle.core_kept.proofs.RaiseBundles.{new_head}
use Rattle.core_kept.proofs.RaiseNew.{linked_old, live_bundle, new_bundle}
use Rattle.core_kept.proofs.RaiseNumbers.{numbered_now, selects_old}
use Rattle.core_kept.proofs.RaiseTrees.{in_tree}
use Rattle.core_kept.proofs.TreeMoved.{MovesTree, meaning_after}

positive : (e : ℕ) → eqb e 0 ≡ false → 0 < e
positive e is = grind (arith, nat_tests)

-- the greatest number of a bundle where the selected entry has this one
greatest_is : (e n : ℕ) → 0 < e → cond (eqb e 0) 0 n ≡ n
greatest_is e n some = by (eqb e 0) refl
  where
    by : (c : Bool) → eqb e 0 ≡ c → cond c 0 n ≡ n
    by true none = absurd (omega (arith, some, eqb-true e 0 none))
    by false is = refl

greatest_low : (e n t : ℕ) → (e ≡ 0) ⊎ (n ≤ t) → cond (eqb e 0) 0 n ≤ t
greatest_low e n t low = by (eqb e 0) refl low
  where
    by : (c : Bool) → eqb e 0 ≡ c → (e ≡ 0) ⊎ (n ≤ t) → cond c 0 n ≤ t
    by true none which = omega arith
    by false is (inr below) = below
    by false is (inl none) = absurd (omega (arith, positive e is, none))

more_by : (c d : Bool) (n t : ℕ) → n ≤ t → cond c 0 n ≤ cond c 0 (cond d (t + 1) n)
more_by false true n t low = omega (arith, low)
more_by _ _ n t low = omega arith

module _ (z : Layout) (m : Memory) (vs : List View) (g : Meaning) (rule : Rule z m vs g) (i : ℕ) (v : View) (u : Update) (known : List Update)
    (move : TreeMove) (tree : NamedTree) (at : IsItem vs i v) (can : CanRaise v u) (moves : MovesTree m g v u move tree) where
  abbrev s : ℕ
  s = m Stamp

  abbrev entry_child : ℕ → ℕ
  entry_child e = m (Entry Child e)

  abbrev head : Side → ℕ → ℕ
  head w k = m (Node (Head w) k)

  abbrev g' : Meaning
  g' = meaning_after m g v u move tree

  abbrev v' : View
  v' = raised_view known v s u move

  abbrev ws : List View
  ws = set vs i v'

  abbrev pending' : List ℕ
  pending' = v.update.pending ++ move.entries

  abbrev number' : ℕ → ℕ
  number' = raised_numbers g.bundles.number pending' (s + 1)

  abbrev link : Side → ℕ → ℕ
  link w k = m (Node (Link w) k)

  abbrev tag : Side → ℕ → ℕ
  tag w k = m (Node (Tag w) k)

  abbrev child : Side → ℕ → ℕ
  child = child_at entry_child g.bundles s

  abbrev child' : Side → ℕ → ℕ
  child' = child_at entry_child g'.bundles (s + 1)

  abbrev greatest : Side → ℕ → ℕ
  greatest = greatest_of g.bundles s

  abbrev greatest' : Side → ℕ → ℕ
  greatest' = greatest_of g'.bundles (s + 1)

  abbrev IsOld : ℕ → Side → Type 0
  IsOld k side = IsLinkIn 0 Right g.tree k side

  abbrev IsNow : ℕ → Side → Type 0
  IsNow k side = IsLinkIn 0 Right tree k side

  abbrev IsNew : ℕ → Type 0
  IsNew k = 0 < count k (listed move.added)

  abbrev now : Graph
  now = graph_at (λ k. m (Node Key k)) (λ k. m (Node Val k)) entry_child g.bundles.number g.bundles.bundle s

  abbrev then : Graph
  then = graph_at (λ k. m (Node Key k)) (λ k. m (Node Val k)) entry_child g'.bundles.number g'.bundles.bundle (s + 1)

  -- a link of a node of the tree before is none of the new node
  pub old_apart : (k : ℕ) (side : Side) → IsOld k side → count k (listed move.added) ≡ 0
  old_apart k side (inl root) = linked_old z m vs g rule i v u move tree at moves k (subst (λ n. 0 < count n (0 ∷ slots_of g.tree)) (sym root.0) (omega arith))
  old_apart k side (inr there) = linked_old z m vs g rule i v u move tree at moves k (omega (arith, there, count_slots k g.tree))

  -- a link of the tree after is of a node of the tree before, or of the new node
  pub was_old : (k : ℕ) (side : Side) → IsNow k side → count k (listed move.added) ≡ 0 → IsOld k side
  was_old k side (inl root) none = inl root
  was_old k side (inr there) none = inr (omega (arith, there, none, in_tree z m vs g rule i v u move tree at can moves k))

  -- a link of the tree before that is not to be set leads where it did
  pub kept_child : (k : ℕ) (side : Side) → IsNow k side → count k (listed move.added) ≡ 0 → (Sets k side move.plain.unset → ⊥) → child' side k ≡ child side k
  kept_child k side there none off =
      let leads = link_leads 0 Right tree k side there in
      elim (moves.plain.leads k side leads.0 leads.1) as (λ _. child' side k ≡ child side k) [
        | inl old ↦
            spelled_child then 0 Right tree k side leads.0 moves.version.spelled leads.1
            ∙ sym (spelled_child now 0 Right g.tree k side leads.0 rule.tree.spelled old)
        | inr (inl sets) ↦ absurd (off sets)
        | inr (inr new) ↦ absurd (omega (arith, none, new))
      ]

  -- the seat has locked the node of a link that is to be set
  pub sets_locked : (k : ℕ) (side : Side) → Sets k side move.plain.unset → 0 < lock_count k v
  sets_locked k side sets =
      let one : Passing (is_link_of k side) (λ (x : UnsetLink). locks x.node v.held.nodes ≡ true)
      = passing (is_link_of k side) (λ (x : UnsetLink). locks x.node v.held.nodes ≡ true) move.plain.unset moves.plain.locked
      (any_counted (is_link_of k side) move.plain.unset sets) in
      subst (λ n. 0 < lock_count n v) (link_parts k side one.item one.passes).0 (locks-count one.item.node v.held.nodes one.right)

  -- the new node's bundles have its heads, which the new stamp selects
  new_number : (e : ℕ) → 0 < count e move.entries → number' e ≡ s + 1
  new_number e here = numbered_now z m vs g rule i v u move tree at can moves e (omega (arith, here, count-append e v.update.pending move.entries))

  pub new_selected : (k : ℕ) (side : Side) → IsNew k → selected_of g'.bundles (s + 1) side k ≡ head side k
  new_selected k side new = ap (select number' (s + 1)) (new_bundle z m vs g rule i v u move tree at moves k new side) ∙ by (eqb (head side k) 0) refl
    where
      by : (c : Bool) → eqb (head side k) 0 ≡ c → select number' (s + 1) (cond c [] (head side k ∷ [])) ≡ head side k
      by true none = sym (eqb-true (head side k) 0 none)
      by false some =
          select-here number' (s + 1) (head side k) []
          (omega (arith, new_number (head side k) (new_head z m vs g rule i v u known move tree at can moves k side new (positive (head side k) some))))

  -- the greatest number of an old link's bundle is no less than before, and is the new stamp where its child changes
  pub old_low : (k : ℕ) (side : Side) → greatest side k ≤ s
  old_low k side =
      greatest_low (selected_of g.bundles s side k) (g.bundles.number (selected_of g.bundles s side k)) s
      (select_low g.bundles.number s (g.bundles.bundle side k))

  old_selected : (k : ℕ) (side : Side) → IsOld k side → selected_of g'.bundles (s + 1) side k ≡ select number' (s + 1) (g.bundles.bundle side k)
  old_selected k side old = ap (select number' (s + 1)) (live_bundle z m vs g rule i v u move tree at moves k side (link_live z m vs g rule k side old))

  -- whether the new stamp selects the old entry
  data Moves (k : ℕ) (side : Side) : Type 0 where
    stays : selected_of g'.bundles (s + 1) side k ≡ selected_of g.bundles s side k → Moves k side
    rises : greatest' side k ≡ s + 1 → Moves k side

  old_moves : (k : ℕ) (side : Side) → IsOld k side → Moves k side
  old_moves k side old =
      let live : IsLive z vs k = link_live z m vs g rule k side old in
      elim (select_next number' s (g.bundles.bundle side k)) as (λ _. Moves k side) [
        | inl same ↦ stays (old_selected k side old ∙ same ∙ sym (selects_old z m vs g rule i v u move tree at can moves s k side (omega arith) live))
        | inr new ↦
            let e : ℕ = select number' (s + 1) (g.bundles.bundle side k) in
            let some : 0 < e = chain_some (λ d. m (Entry Next d)) (head side k) e (g.bundles.bundle side k) (rule.bundles k live side).chain new.0 in
            rises (ap (λ d. cond (eqb d 0) 0 (number' d)) (old_selected k side old) ∙ greatest_is e (number' e) some ∙ new.1)
      ]

  pub greatest_grows : (k : ℕ) (side : Side) → IsOld k side → greatest side k ≤ greatest' side k
  greatest_grows k side old =
      elim (old_moves k side old) as (λ _. greatest side k ≤ greatest' side k) [
        | rises new ↦ omega (arith, new, old_low k side)
        | stays same ↦
            subst (λ d. greatest side k ≤ cond (eqb d 0) 0 (number' d)) (sym same)
            (kept (selected_of g.bundles s side k) (select_low g.bundles.number s (g.bundles.bundle side k)))
      ]
    where
      kept : (e : ℕ) → (e ≡ 0) ⊎ (g.bundles.number e ≤ s) → cond (eqb e 0) 0 (g.bundles.number e) ≤ cond (eqb e 0) 0 (number' e)
      kept e (inl none) = subst (λ d. cond (eqb d 0) 0 (g.bundles.number d) ≤ cond (eqb d 0) 0 (number' d)) (sym none) (omega arith)
      kept e (inr low) = more_by (eqb e 0) (has e pending') (g.bundles.number e) s low

  pub rises_at : (k : ℕ) (side : Side) → IsNulled child child' g.tree k side → greatest' side k ≡ s + 1
  rises_at k side nulled =
      elim (old_moves k side nulled.old) as (λ _. greatest' side k ≡ s + 1) [
        | rises new ↦ new
        | stays same ↦ absurd (omega (arith, nulled.led, nulled.null, ap (child_of_entry entry_child) same))
      ]
