-- A seat that is ready for an update may raise it.
use Rattle.std.proofs.Common.{◌≡◌, ℕ, ◌<◌, ◌^◌, ◌⊎◌, inl, inr, cond, List, [], ◌∷◌, ◌++◌, Bool, true, false, not, eqb, ◌||◌, ◌&&◌, refl, ap, sym, ◌∙◌, subst, arith, Option, Some, None}
use Rattle.std.specs.List.{list_all}
use Rattle.std.proofs.lemmas.Bool.{and_from, eq-eqb, ne_eqb}
use Rattle.std.proofs.lemmas.Bool.Decides.{nat_tests}
use Rattle.index_words.specs.declared.layout.Layout.{Layout}
use Rattle.index_words.specs.declared.side.Side.{Side}
use Rattle.index_words.specs.declared.side.Side.TheVariants.{Left, Right}
use Rattle.key_map.specs.declared.update.Update.{Update}
use Rattle.key_map.specs.declared.update.Change.TheVariants.{Put, Remove}
use Rattle.index_words.specs.declared.view.View.{View}
use Rattle.index_words.specs.declared.view.update.Unlinking.{Unlinking}
use Rattle.index_words.specs.declared.word.Field.TheVariants.{Key, Val}
use Rattle.index_words.specs.declared.word.Word.TheVariants.{Node}
use Rattle.index_words.specs.Words.{Memory}
use Rattle.key_map.specs.Lists.{count, IsItem}
use Rattle.key_map.proofs.Counting.{count-append}
use Rattle.core_trees.specs.Gaps.{IsGapLink}
use Rattle.core_trees.specs.Search.{end_node, end_side}
use Rattle.core_trees.specs.SpelledTree.{Graph, IsSpelled}
use Rattle.core_trees.specs.SpelledStep.{IsNodeOf}
use Rattle.core_events.specs.LoadMoves.{locks}
use Rattle.core_invariant.specs.Meanings.{Meaning}
use Rattle.core_events.specs.SpelledNow.{child_now, graph_now}
use Rattle.core_events.specs.PlainWork.{unset_at, removed_links, removed_successor}
use Rattle.core_events.specs.TreeMoves.{tree_after, first_slot, new_entries, new_slot, inserts, has_gap, finds_gap}
use Rattle.core_invariant.specs.Rule.{Rule}
use Rattle.core_invariant.proofs.TreeNow.{tree_is}
use Rattle.core_trees.specs.LinkSteps.{IsChildLink, KeepsLinks, IsLink, IsOtherChild, IsNext}
use Rattle.core_updates.specs.Ready.{IsPrepared, FindsKey, FindsSuccessor, IsReadyToGrow, IsReadyToReplace, IsReadyToLift, IsReadyToJoin, IsNear, IsDeep, join_sets, join_last, update_of, MayStep, MayGrowLaw, MayReplaceLaw, MayLiftLaw, MayJoinLaw}
use Rattle.core_updates.specs.SetLinks.{SetLink, set_to}
use Rattle.core_trees.proofs.Links.Parts.{gap_ends, end_is, at_link}
use Rattle.core_trees.proofs.Links.Steps.{grow_by_link, replace_by_link, lift_by_link}
use Rattle.core_trees.proofs.Links.JoinNear.{join_near}
use Rattle.core_trees.proofs.Links.JoinDeep.{IsEither, join_deep}
use Rattle.core_trees.proofs.Links.Moves.{grow_takes, replace_takes, lift_moves, join_moves}
use Rattle.core_updates.proofs.LinksLeft.{IsLeft, left_put, left_removal, lift_far, near_far, deep_far}
use Rattle.core_updates.proofs.RaiseTests.{found_there}
use Rattle.core_updates.proofs.RaiseParts.{keeps_links, tree_at, in_tree, leads_to, entries_free, node_of, tests_new, tests_plain, prepared_child, changed_by, one_changed, pending_listed, step_of}
use Rattle.core_updates.proofs.RaiseParts.{two_changed}

module _ (z : Layout) (m : Memory) (vs : List View) (g : Meaning) (rule : Rule z m vs g) (i : ℕ) (v : View) (at : IsItem vs i v) where
  abbrev now : Graph
  now = graph_now m vs []

  -- a put of an absent key is at a null link that a search of the seat has found
  found_gap : (key val node : ℕ) (side : Side) → (end_node key 0 g.tree ≡ node) × (end_side key Right g.tree ≡ side) → has_gap m v key node side ≡ true
      → (not (inserts (Put val) key g.tree) || has_gap m v key (end_node key 0 g.tree) (end_side key Right g.tree)) ≡ true
  found_gap key val node side ends gap =
      or_right (not (inserts (Put val) key g.tree)) (has_gap m v key (end_node key 0 g.tree) (end_side key Right g.tree))
      (ap (λ k. has_gap m v key k (end_side key Right g.tree)) ends.0 ∙ ap (has_gap m v key node) ends.1 ∙ gap)
    where
      or_right : (a b : Bool) → b ≡ true → (a || b) ≡ true
      or_right true b is = refl
      or_right false b is = is

  -- a put of a present key is at no null link
  no_gap : (u : Update) → inserts u.change u.key g.tree ≡ false → finds_gap m v u g.tree ≡ true
  no_gap u none = ap (λ b. not b || has_gap m v u.key (end_node u.key 0 g.tree) (end_side u.key Right g.tree)) none

  grow : (client line key val : ℕ) (h : IsReadyToGrow z m vs v key val) → MayStep z m vs v (update_of client line key (Put val)) (Some h.slot) [] (set_to h.node h.side h.slot ∷ []) None
  grow client line key val h =
      let gap : IsGapLink key h.node h.side 0 Right g.tree = subst (λ t. IsGapLink key h.node h.side 0 Right t) (tree_is z m vs g rule) h.gap in
      let ends = (gap_ends key h.node 0 (2 ^ 64) 0 h.side Right g.tree rule.tree.lawful gap).0 in
      let fresh : List ℕ = new_entries m (Some h.slot) in
      let all : List ℕ = v.update.pending ++ fresh in
      let keeps : KeepsLinks now (graph_now m vs all) (IsLink h.node h.side) 0 g.tree
      = keeps_links z m vs g rule i v at all (IsLink h.node h.side)
      (changed_by z m vs g rule i v at v.update.pending fresh (IsLink h.node h.side) (entries_free z m vs g rule i v at h.slot key val 0 0 h.new)
      (one_changed z m vs g rule i v at h.node h.entry h.slot h.side (in_tree z m vs g rule i v at h.node h.side h.link) h.prepared h.pending)) in
      step_of z m vs g rule i v at (Put val) client line key h.slot (Some h.slot) [] (set_to h.node h.side h.slot ∷ []) None h.small
      (ap (λ n. child_now m vs v.update.pending (end_side key Right g.tree) n) ends.0 ∙ ap (λ w. child_now m vs v.update.pending w h.node) ends.1
      ∙ prepared_child z m vs g rule i v at v.update.pending h.node h.entry h.slot h.side h.prepared (subst (λ xs. 0 < count h.entry xs) (sym h.pending) (here_counted h.entry [])))
      refl refl (grow_takes key h.node 0 h.side Right g.tree rule.tree.lawful gap) refl (tests_new z m vs g rule i v at h.slot key val 0 0 h.new)
      (grow_by_link now (graph_now m vs all) 0 h.slot key val h.node Right h.side g.tree (tree_at z m vs g rule i v at) gap keeps (node_of z m vs g rule i v at h.slot key val 0 0 h.new)
      (prepared_child z m vs g rule i v at all h.node h.entry h.slot h.side h.prepared (pending_listed z m vs g rule i v at h.entry [] fresh h.pending)))
      (tests_plain z m vs g rule i v at h.slot key val 0 0 h.new) (found_gap key val h.node h.side ends h.searched) (left_put m v val key h.slot h.node h.side g.tree ends h.held)
    where
      here_counted : (e : ℕ) (es : List ℕ) → 0 < count e (e ∷ es)
      here_counted e es = grind (arith, nat_tests)

  -- what a found node's link leads to
  found_at : (key : ℕ) (h : FindsKey z m vs v key) → IsChildLink now 0 Right g.tree h.parent h.side h.node
  found_at key h = leads_to z m vs g rule i v at h.parent h.node h.side h.at h.some

  -- the new child at the link to a found node
  end_found : (key entry child : ℕ) (h : FindsKey z m vs v key) (rest : List ℕ) → IsPrepared m h.parent h.side entry child → v.update.pending ≡ entry ∷ rest
      → new_slot m vs v (m (Node Key h.node)) g.tree ≡ child
  end_found key entry child h rest ready pending =
      end_is now 0 h.parent h.node Right h.side g.tree (tree_at z m vs g rule i v at) (found_at key h) (graph_now m vs v.update.pending) child
      (prepared_child z m vs g rule i v at v.update.pending h.parent entry child h.side ready (subst (λ xs. 0 < count entry xs) (sym pending) (here_counted entry rest)))
    where
      here_counted : (e : ℕ) (es : List ℕ) → 0 < count e (e ∷ es)
      here_counted e es = grind (arith, nat_tests)

  one_locked : (k : ℕ) → locks k v.held.nodes ≡ true → list_all (λ n. locks n v.held.nodes) (k ∷ []) ≡ true
  one_locked k is = and_from (locks k v.held.nodes) true is refl

  two_locked : (k n : ℕ) → locks k v.held.nodes ≡ true → locks n v.held.nodes ≡ true → list_all (λ x. locks x v.held.nodes) (k ∷ n ∷ []) ≡ true
  two_locked k n one two = and_from (locks k v.held.nodes) (locks n v.held.nodes && true) one (and_from (locks n v.held.nodes) true two refl)

  replace : (client line key val : ℕ) (h : IsReadyToReplace z m vs v key val)
      → MayStep z m vs v (update_of client line key (Put val)) (Some h.slot) (h.found.node ∷ []) (set_to h.found.parent h.found.side h.slot ∷ []) None
  replace client line key val h =
      let f = h.found in
      let leads = found_at key f in
      let fresh : List ℕ = new_entries m (Some h.slot) in
      let all : List ℕ = v.update.pending ++ fresh in
      let keeps : KeepsLinks now (graph_now m vs all) (IsLink f.parent f.side) 0 g.tree
      = keeps_links z m vs g rule i v at all (IsLink f.parent f.side)
      (changed_by z m vs g rule i v at v.update.pending fresh (IsLink f.parent f.side) (entries_free z m vs g rule i v at h.slot key val f.left f.right h.new)
      (one_changed z m vs g rule i v at f.parent h.entry h.slot f.side (in_tree z m vs g rule i v at f.parent f.side f.at.link) h.prepared h.pending)) in
      let node = node_of z m vs g rule i v at h.slot key val f.left f.right h.new in
      let new : IsNodeOf (graph_now m vs all) h.slot (m (Node Key f.node)) val (child_now m vs [] Left f.node) (child_now m vs [] Right f.node)
      = record { taken = node.taken; key = node.key ∙ sym f.key_is; val = node.val; left = node.left ∙ sym f.left_is; right = node.right ∙ sym f.right_is } in
      let sets : List SetLink = set_to f.parent f.side h.slot ∷ [] in
      subst (λ (k : ℕ). MayStep z m vs v (update_of client line k (Put val)) (Some h.slot) (f.node ∷ []) sets None) f.key_is
      (step_of z m vs g rule i v at (Put val) client line (m (Node Key f.node)) h.slot (Some h.slot) (f.node ∷ []) sets None (subst (λ k. k < 2 ^ 64) (sym f.key_is) h.small)
      (end_found key h.entry h.slot f [] h.prepared h.pending) refl refl
      (replace_takes now 0 f.parent f.node Right f.side g.tree (tree_at z m vs g rule i v at) leads) (one_locked f.node f.locked) (tests_new z m vs g rule i v at h.slot key val f.left f.right h.new)
      (replace_by_link now (graph_now m vs all) 0 h.slot val f.parent f.node Right f.side g.tree (tree_at z m vs g rule i v at) leads keeps new
      (prepared_child z m vs g rule i v at all f.parent h.entry h.slot f.side h.prepared (pending_listed z m vs g rule i v at h.entry [] fresh h.pending)))
      (tests_plain z m vs g rule i v at h.slot key val f.left f.right h.new)
      (no_gap (update_of client line (m (Node Key f.node)) (Put val)) (ap not (found_there now 0 f.parent f.node Right f.side g.tree (tree_at z m vs g rule i v at) leads)))
      (left_put m v val (m (Node Key f.node)) h.slot f.parent f.side g.tree (at_link now 0 f.parent f.node Right f.side g.tree (tree_at z m vs g rule i v at) leads).ends f.held))

  lift : (client line key : ℕ) (h : IsReadyToLift z m vs v key)
      → MayStep z m vs v (update_of client line key Remove) None (h.found.node ∷ []) (set_to h.found.parent h.found.side h.child ∷ []) None
  lift client line key h =
      let f = h.found in
      let leads = found_at key f in
      let all : List ℕ = v.update.pending ++ [] in
      let keeps : KeepsLinks now (graph_now m vs all) (IsLink f.parent f.side) 0 g.tree
      = keeps_links z m vs g rule i v at all (IsLink f.parent f.side)
      (changed_by z m vs g rule i v at v.update.pending [] (IsLink f.parent f.side) (λ e some. absurd (omega (arith, some)))
      (one_changed z m vs g rule i v at f.parent h.entry h.child f.side (in_tree z m vs g rule i v at f.parent f.side f.at.link) h.prepared h.pending)) in
      let one : IsOtherChild now f.node h.child
      = elim h.one as (λ _. IsOtherChild now f.node h.child) [
        | inl no_left ↦ inl (f.left_is ∙ no_left.0, no_left.1 ∙ sym f.right_is)
        | inr no_right ↦ inr (f.right_is ∙ no_right.0, no_right.1 ∙ sym f.left_is)
      ] in
      let moves = lift_moves now 0 f.parent f.node Right f.side g.tree (tree_at z m vs g rule i v at) leads h.child h.child one in
      let hangs = at_link now 0 f.parent f.node Right f.side g.tree (tree_at z m vs g rule i v at) leads in
      let far = lift_far m now 0 f.parent f.node Right f.side g.tree (tree_at z m vs g rule i v at) leads h.child one in
      let sets : List SetLink = set_to f.parent f.side h.child ∷ [] in
      subst (λ (k : ℕ). MayStep z m vs v (update_of client line k Remove) None (f.node ∷ []) sets None) f.key_is
      (step_of z m vs g rule i v at Remove client line (m (Node Key f.node)) h.child None (f.node ∷ []) sets None (subst (λ k. k < 2 ^ 64) (sym f.key_is) h.small)
      (end_found key h.entry h.child f [] h.prepared h.pending) (found_there now 0 f.parent f.node Right f.side g.tree (tree_at z m vs g rule i v at) leads) (ap first_slot moves.1)
      moves.0 (one_locked f.node f.locked) refl
      (lift_by_link now (graph_now m vs all) 0 h.child f.parent f.node h.child Right f.side g.tree (tree_at z m vs g rule i v at) leads one keeps
      (prepared_child z m vs g rule i v at all f.parent h.entry h.child f.side h.prepared (pending_listed z m vs g rule i v at h.entry [] [] h.pending))) refl refl
      (left_removal m v (m (Node Key f.node)) h.child f.parent f.side g.tree [] None hangs.ends (ap (removed_links m) hangs.sub ∙ far.0) (ap removed_successor hangs.sub ∙ far.1) f.held refl))

  module _ (client line key : ℕ) (h : IsReadyToJoin z m vs v key) where
    abbrev f : FindsKey z m vs v key
    f = h.found

    abbrev n : FindsSuccessor z m vs v key
    n = h.next

    abbrev leads : IsChildLink now 0 Right g.tree f.parent f.side f.node
    leads = found_at key f

    goes : IsNext now 0 Right g.tree f.node n.parent n.side n.node
    goes = record {
      at = leads_to z m vs g rule i v at n.parent n.node n.side n.at n.some;
      above = subst (λ k. k < m (Node Key n.node)) (sym f.key_is) n.above;
      gap = λ x low high. subst (λ t. IsGapLink x n.node Left 0 Right t) (tree_is z m vs g rule) (n.gap x (subst (λ k. k < x) f.key_is low) high);
    }

    left_some : 0 < child_now m vs [] Left f.node
    left_some = subst (λ c. 0 < c) (sym f.left_is) h.left

    right_some : 0 < child_now m vs [] Right f.node
    right_some = subst (λ c. 0 < c) (sym f.right_is) h.right

    abbrev fresh : List ℕ
    fresh = new_entries m (Some h.slot)

    abbrev all : List ℕ
    all = v.update.pending ++ fresh

    free : (e : ℕ) → 0 < count e fresh → 0 < count e v.free.entries
    free = entries_free z m vs g rule i v at h.slot (m (Node Key n.node)) (m (Node Val n.node)) f.left h.new_right h.new

    new_node : (right : ℕ) → h.new_right ≡ right → IsNodeOf (graph_now m vs all) h.slot (m (Node Key n.node)) (m (Node Val n.node)) (child_now m vs [] Left f.node) right
    new_node right is =
        let node = node_of z m vs g rule i v at h.slot (m (Node Key n.node)) (m (Node Val n.node)) f.left h.new_right h.new in
        record { taken = node.taken; key = node.key; val = node.val; left = node.left ∙ sym f.left_is; right = node.right ∙ is }

    spelled_join : IsNear v f.node n.parent n.side n.right h.entry h.new_right ⊎ IsDeep m v f.node f.right n.parent n.side n.right h.entry h.new_right
        → IsSpelled (graph_now m vs all) (child_now m vs all Right 0) (tree_after Remove h.slot (m (Node Key f.node)) g.tree)
    spelled_join (inl near) =
        let near_goes : IsNext now 0 Right g.tree f.node f.node Right n.node
        = subst (λ w. IsNext now 0 Right g.tree f.node f.node w n.node) near.side_is (subst (λ p. IsNext now 0 Right g.tree f.node p n.side n.node) near.parent_is goes) in
        let keeps : KeepsLinks now (graph_now m vs all) (IsLink f.parent f.side) 0 g.tree
        = keeps_links z m vs g rule i v at all (IsLink f.parent f.side)
        (changed_by z m vs g rule i v at v.update.pending fresh (IsLink f.parent f.side) free
        (one_changed z m vs g rule i v at f.parent h.entry h.slot f.side (in_tree z m vs g rule i v at f.parent f.side f.at.link) h.prepared near.pending)) in
        join_near now (graph_now m vs all) 0 h.slot f.parent f.node n.node Right f.side g.tree (tree_at z m vs g rule i v at) leads left_some near_goes keeps
        (new_node (child_now m vs [] Right n.node) (near.child ∙ sym n.right_is))
        (prepared_child z m vs g rule i v at all f.parent h.entry h.slot f.side h.prepared (pending_listed z m vs g rule i v at h.entry [] fresh near.pending))
    spelled_join (inr deep) =
        let keeps : KeepsLinks now (graph_now m vs all) (IsEither f.parent f.side n.parent n.side) 0 g.tree
        = keeps_links z m vs g rule i v at all (IsEither f.parent f.side n.parent n.side)
        (changed_by z m vs g rule i v at v.update.pending fresh (IsEither f.parent f.side n.parent n.side) free
        (two_changed z m vs g rule i v at f.parent h.entry h.slot n.parent deep.second n.right f.side n.side (in_tree z m vs g rule i v at f.parent f.side f.at.link) (in_tree z m vs g rule i v at n.parent n.side n.at.link) h.prepared deep.prepared deep.pending)) in
        let second_listed : 0 < count deep.second all
        = omega (arith, count-append deep.second v.update.pending fresh, subst (λ xs. 0 < count deep.second xs) (sym deep.pending) (counted deep.second h.entry)) in
        join_deep now (graph_now m vs all) 0 h.slot f.parent f.node n.parent n.node Right f.side n.side g.tree (tree_at z m vs g rule i v at) leads left_some right_some goes deep.apart keeps
        (new_node (child_now m vs [] Right f.node) (deep.child ∙ sym f.right_is))
        (prepared_child z m vs g rule i v at all f.parent h.entry h.slot f.side h.prepared (pending_listed z m vs g rule i v at h.entry (deep.second ∷ []) fresh deep.pending))
        (prepared_child z m vs g rule i v at all n.parent deep.second n.right n.side deep.prepared second_listed ∙ sym n.right_is)
      where
        counted : (e x : ℕ) → 0 < count e (x ∷ e ∷ [])
        counted e x = grind (arith, nat_tests)

    pending_first : IsNear v f.node n.parent n.side n.right h.entry h.new_right ⊎ IsDeep m v f.node f.right n.parent n.side n.right h.entry h.new_right
        → (rest : List ℕ) × (v.update.pending ≡ h.entry ∷ rest)
    pending_first (inl near) = ([], near.pending)
    pending_first (inr deep) = (deep.second ∷ [], deep.pending)

    abbrev sets : List SetLink
    sets = join_sets z m vs v key h

    abbrev last : Option Unlinking
    last = join_last z m vs v key h

    abbrev far_last : Option Unlinking
    far_last = Some (record { successor = n.node; parent = n.parent; side = n.side; replaced = f.node })

    -- what is left depends on whether the next node is the right child
    by_parent : (b : Bool) → eqb n.parent f.node ≡ b
        → IsLeft m v Remove (m (Node Key f.node)) h.slot g.tree (set_to f.parent f.side h.slot ∷ cond b [] (set_to n.parent n.side n.right ∷ [])) (cond b None far_last)
        → IsLeft m v Remove (m (Node Key f.node)) h.slot g.tree sets last
    by_parent b is left =
        subst (λ (c : Bool). IsLeft m v Remove (m (Node Key f.node)) h.slot g.tree (set_to f.parent f.side h.slot ∷ cond c [] (set_to n.parent n.side n.right ∷ [])) (cond c None far_last)) (sym is) left

    join_left : IsNear v f.node n.parent n.side n.right h.entry h.new_right ⊎ IsDeep m v f.node f.right n.parent n.side n.right h.entry h.new_right
        → IsLeft m v Remove (m (Node Key f.node)) h.slot g.tree sets last
    join_left (inl near) =
        let hangs = at_link now 0 f.parent f.node Right f.side g.tree (tree_at z m vs g rule i v at) leads in
        let far = near_far m now 0 f.parent f.node Right f.side g.tree (tree_at z m vs g rule i v at) leads n.parent n.node n.side left_some right_some goes near.side_is in
        by_parent true (eq-eqb n.parent f.node near.parent_is)
        (left_removal m v (m (Node Key f.node)) h.slot f.parent f.side g.tree [] None hangs.ends (ap (removed_links m) hangs.sub ∙ far.0) (ap removed_successor hangs.sub ∙ far.1) f.held refl)
    join_left (inr deep) =
        let hangs = at_link now 0 f.parent f.node Right f.side g.tree (tree_at z m vs g rule i v at) leads in
        let far = deep_far m now 0 f.parent f.node Right f.side g.tree (tree_at z m vs g rule i v at) leads n.parent n.node n.side left_some right_some goes deep.apart in
        by_parent false (ne_eqb n.parent f.node deep.apart)
        (left_removal m v (m (Node Key f.node)) h.slot f.parent f.side g.tree (unset_at m n.parent n.side n.right ∷ []) far_last hangs.ends
        (ap (removed_links m) hangs.sub ∙ far.0 ∙ ap (λ (x : ℕ). unset_at m n.parent n.side x ∷ []) n.right_is) (ap removed_successor hangs.sub ∙ far.1) f.held
        (and_from (locks n.parent v.held.nodes) true n.held refl))

    join : MayStep z m vs v (update_of client line key Remove) (Some h.slot) (f.node ∷ n.node ∷ []) sets last
    join =
        let moves = join_moves now 0 f.parent f.node Right f.side g.tree (tree_at z m vs g rule i v at) leads h.slot n.parent n.node n.side left_some right_some goes in
        let first = pending_first h.by in
        subst (λ (k : ℕ). MayStep z m vs v (update_of client line k Remove) (Some h.slot) (f.node ∷ n.node ∷ []) sets last) f.key_is
        (step_of z m vs g rule i v at Remove client line (m (Node Key f.node)) h.slot (Some h.slot) (f.node ∷ n.node ∷ []) sets last (subst (λ k. k < 2 ^ 64) (sym f.key_is) h.small)
        (end_found key h.entry h.slot f first.0 h.prepared first.1) (found_there now 0 f.parent f.node Right f.side g.tree (tree_at z m vs g rule i v at) leads) (ap first_slot moves.1)
        moves.0 (two_locked f.node n.node f.locked n.locked) (tests_new z m vs g rule i v at h.slot (m (Node Key n.node)) (m (Node Val n.node)) f.left h.new_right h.new) (spelled_join h.by)
        (tests_plain z m vs g rule i v at h.slot (m (Node Key n.node)) (m (Node Val n.node)) f.left h.new_right h.new) refl (join_left h.by))

pub may_grow : MayGrowLaw
may_grow z m vs g i v client line key val rule at h = grow z m vs g rule i v at client line key val h

pub may_replace : MayReplaceLaw
may_replace z m vs g i v client line key val rule at h = replace z m vs g rule i v at client line key val h

pub may_lift : MayLiftLaw
may_lift z m vs g i v client line key rule at h = lift z m vs g rule i v at client line key h

pub may_join : MayJoinLaw
may_join z m vs g i v client line key rule at h = join z m vs g rule i v at client line key h
