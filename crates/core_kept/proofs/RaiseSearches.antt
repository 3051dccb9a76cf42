-- The plain tree, what searches claim and what they reach, after a raise, in each form of the update.
use Rattle.std.proofs.Common.{◌≡◌, ℕ, ◌+◌, ◌<◌, ◌≤◌, List, [], ◌∷◌, Bool, true, false, ◌&&◌, not, set, slice_index, arith, refl, ap, ◌∙◌, sym, subst, inl, inr, Option, Some, None, IfSome, is_some}
use Rattle.std.specs.List.{All, list_all}
use Rattle.std.proofs.lemmas.Bool.{and_parts, cases_lt}
use Rattle.index_words.specs.declared.layout.Layout.{Layout}
use Rattle.key_map.specs.declared.update.Change.{Change}
use Rattle.key_map.specs.declared.update.Change.TheVariants.{Put, Remove}
use Rattle.key_map.specs.declared.update.Update.{Update}
use Rattle.index_words.specs.declared.view.View.{View}
use Rattle.index_words.specs.declared.view.update.Unlinking.{Unlinking}
use Rattle.index_words.specs.declared.view.update.Updating.{Updating}
use Rattle.index_words.specs.declared.word.Word.{Word}
use Rattle.index_words.specs.declared.word.Word.TheVariants.{Stamp}
use Rattle.index_words.specs.Views.{no_looks}
use Rattle.index_words.specs.Words.{Memory, memory, written, word_at}
use Rattle.index_words.proofs.Store.{word_there, stored_at}
use Rattle.index_words.proofs.Seats.{Beside, one_term, at_item, all_moved}
use Rattle.key_map.specs.Lists.{count, IsItem}
use Rattle.core_grace.specs.Batches.{is_number}
use Rattle.core_grace.specs.Holds.{listed}
use Rattle.core_grace.specs.Sections.{is_even}
use Rattle.core_grace.specs.Slots.{own_free, nodes_of}
use Rattle.core_trees.specs.NamedTree.{NamedTree}
use Rattle.core_trees.specs.Slots.{occurs, one_at}
use Rattle.core_trees.specs.SpelledTree.{Graph}
use Rattle.core_events.specs.declared.event.Kind.TheVariants.{Raise}
use Rattle.core_events.specs.declared.tree_move.TreeMove.{TreeMove}
use Rattle.core_events.specs.LoadMoves.{longest, locks}
use Rattle.core_events.specs.Searches.{turn_key}
use Rattle.core_events.specs.SpelledNow.{tree_now}
use Rattle.core_events.specs.Steps.{is_own_update, views_after}
use Rattle.core_events.specs.TreeMoves.{tree_after, is_key, has_key, new_slot, move_at, tree_move, is_new, is_plain_new, sets_locked, spells_after, is_plain_step, is_step, finds_gap, is_tree_step}
use Rattle.core_events.specs.UpdateMoves.{raised_view, without_all}
use Rattle.core_events.specs.UpdateNeeds.{may_raise_number, may_raise}
use Rattle.core_events.proofs.Tests.{never}
use Rattle.core_invariant.specs.Meanings.{Meaning}
use Rattle.core_invariant.specs.PlainRule.{PlainRight}
use Rattle.core_invariant.specs.PlainTree.{undone, SeatInTree, IsPlainTree}
use Rattle.core_invariant.specs.Reached.{plain_graph, has_let, HoldsPlain, ReachesRight, ReachRight}
use Rattle.core_invariant.specs.Rule.{Rule, InRule}
use Rattle.core_invariant.specs.SearchRule.{unlinks, waits_for, waits, ClaimsAt, SearchRight}
use Rattle.core_invariant.proofs.Passing.{longest_is}
use Rattle.core_invariant.proofs.Needed.{CanRaise, can_raise}
use Rattle.core_invariant.proofs.OneView.{seat_at}
use Rattle.core_invariant.proofs.TreeNow.{tree_is}
use Rattle.core_invariant.proofs.TreeSteps.{count_sum}
use Rattle.core_kept.specs.SearchLaws.{SearchesAfter, KeepsSearchesNow}
use Rattle.core_kept.proofs.PlainNodes.{plain_clear}
use Rattle.core_kept.proofs.Raise.{raised_rule}
use Rattle.core_kept.proofs.RaiseCounts.{without_kept, taken_out}
use Rattle.core_kept.proofs.RaisePutTree.{put_raised}
use Rattle.core_kept.proofs.RaiseRemoveTree.{remove_raised}
use Rattle.core_kept.proofs.RaiseTree.{none_taken, extends}
use Rattle.core_kept.proofs.ReachMoves.{reach_moved}
use Rattle.core_kept.proofs.SearchMoves.{claims_wider, place_wider, links_wider}
use Rattle.core_kept.proofs.SearchNowhere.{StandsNowhere, root_reach, root_search}
use Rattle.core_kept.proofs.TreeMoved.{MovesTree, meaning_after}
use Rattle.core_kept.proofs.TreeNeeds.{moves_by, moves_tree}
use Rattle.core_invariant.proofs.Undone.{any_moved}
use Rattle.plain_trees.specs.Claims.{IsWaiting}
use Rattle.plain_trees.specs.Matching.{IsBypassed}

without_less : (k : ℕ) (out xs : List ℕ) → count k (without_all out xs) ≤ count k xs
without_less k out xs = elim (cases_lt 0 (count k out)) as (λ _. count k (without_all out xs) ≤ count k xs) [
  | inl some ↦ omega (arith, taken_out k out xs some)
  | inr none ↦ omega (arith, without_kept k out xs (omega (arith, none)))
]

module _ (z : Layout) (m : Memory) (vs : List View) (g : Meaning) (rule : Rule z m vs g) (plain : PlainRight m vs g) (W : NamedTree)
    (trees : IsPlainTree (plain_graph m) vs g.tree W)
    (searches : All (SearchRight (plain_graph m) vs g.tree W) vs) (reach : ReachRight z (plain_graph m) vs) (i : ℕ) (v : View) (at : IsItem vs i v) where
  abbrev gr : Graph
  gr = plain_graph m

  -- what each seat claims and reaches, where the tree at the stamp makes its step and the plain tree stays
  module _ (quiet : v.update.raised ≡ None) (u : Update) (move : TreeMove) (tree : NamedTree) (moved : MovesTree m g v u move tree) (known : List Update) where
    abbrev w : View
    w = raised_view known v (m Stamp) u move

    abbrev ws : List View
    ws = set vs i w

    stands : StandsNowhere z m vs g rule gr W trees searches reach i v at w
    stands = record { place = refl; links = refl; nodes = λ top. refl }

    -- a node that was reached is not the new one, which was free
    was_there : (t : View) → ReachesRight z gr vs t → (j : ℕ) → HoldsPlain gr t j → 0 < occurs j tree → 0 < occurs j g.tree
    was_there t of j holds here =
        elim (cases_lt 0 (count j (listed move.added))) as (λ _. 0 < occurs j g.tree) [
          | inl new ↦ absurd (omega (arith, (moved.added j new).0, of.unheld j holds, one_term (own_free nodes_of j) vs i v at))
          | inr none ↦ omega (arith, here, (moved.slots (one_at j)).0, count_sum j (listed move.added), none)
        ]

    -- before its raise a view has no successor to unlink
    unlinks_none : (r s : ℕ) → unlinks r s v.update.unlinking ≡ true → ⊥
    unlinks_none r s = by v.update.unlinking (at_item (SeatInTree gr W g.tree) vs i v at trees.seats).far
      where
        by : (o : Option Unlinking) → IfSome o (λ x. v.update.taken ≡ x.replaced ∷ x.successor ∷ []) → unlinks r s o ≡ true → ⊥
        by None far is = never is
        by (Some x) far is = filled (sym (none_taken z m vs g rule plain W trees i v at quiet) ∙ far)
          where
            filled : [] ≡ x.replaced ∷ x.successor ∷ [] → ⊥
            filled e = cc

    still_waits : (t : View) (r s : ℕ) → waits vs t r s ≡ true → waits ws t r s ≡ true
    still_waits t r s some =
        any_moved (waits_for t r s) (waits_for t r s) vs i v w at
        (λ is. absurd (unlinks_none r s (and_parts (unlinks r s v.update.unlinking) (not (has_let v.update.waiting t.number t.section_word)) is).0))
        (λ y beside is. is) some

    other_search : (t : View) → Beside vs i t → SearchRight gr vs g.tree W t → SearchRight gr ws tree W t
    other_search t beside before = record {
      ahead = λ j holds here. before.ahead j holds (was_there t (at_item (ReachesRight z gr vs) vs beside.place t beside.at reach) j holds here);
      key = before.key;
      keys = before.keys;
      place = λ raised.
          place_wider (ClaimsAt gr vs W t) (ClaimsAt gr ws W t) (turn_key t.reading.right_turn) (turn_key t.reading.left_turn)
          t.reading.place step (before.place raised);
      links = λ raised. links_wider (ClaimsAt gr vs W t) (ClaimsAt gr ws W t) t.reading.links step (before.links raised);
    }
      where
        step : (low high : Option ℕ) (a : ℕ) → ClaimsAt gr vs W t low high a → ClaimsAt gr ws W t low high a
        step low high a claims x inside =
            claims_wider gr (IsBypassed (undone gr vs)) (IsBypassed (undone gr ws)) (IsWaiting (waits vs t)) (IsWaiting (waits ws t)) W x a
            (extends z m vs g rule plain W trees i v at quiet u move tree moved known).passes (still_waits t) (claims x inside)

    own_search : SearchRight gr ws tree W w
    own_search =
        let of : SearchRight gr ws g.tree W w = root_search z m vs g rule gr W trees searches reach i v at ws w stands in
        record {
          ahead = λ j holds here. root_reach z m vs g rule gr W trees searches reach i v at w stands j holds;
          key = of.key;
          keys = of.keys;
          place = of.place;
          links = of.links;
        }

    never_raised : {n : ℕ} → Some n ≡ None → ⊥
    never_raised e = cc

    pub raised_searches : IsPlainTree gr ws tree W → SearchesAfter z gr ws tree
    raised_searches after = record {
      plain_tree = W;
      trees = after;
      searches = all_moved (SearchRight gr vs g.tree W) (SearchRight gr ws tree W) vs i v w at searches own_search other_search;
      reach = reach_moved z gr gr vs i v w at
          (record {
            free = λ k. without_less k (listed move.added) v.free.nodes;
            batch = refl;
            grace = refl;
            number = refl;
            own = λ e k holds told. absurd (never_raised e);
          })
          (record {
            own = λ k holds. inr (plain_clear z m vs g rule gr W trees k (root_reach z m vs g rule gr W trees searches reach i v at w stands k holds));
            others = λ t beside k holds. inl holds;
          }) reach;
    }

  -- a view that raises has made no look of a wait
  no_wait : (u : Update) → CanRaise v u → v.update.waiting ≡ no_looks
  no_wait u can = by (is_even v.section_word) refl
    where
      by : (b : Bool) → is_even v.section_word ≡ b → v.update.waiting ≡ no_looks
      by false odd = (seat_at z m vs g i v at rule).section.waits odd
      by true even = elim ((seat_at z m vs g i v at rule).section.unlocked even) as (λ _. v.update.waiting ≡ no_looks) [
        | inl none ↦ ap (λ (x : Updating). x.waiting) ((seat_at z m vs g i v at rule).section.done none)
        | inr waits ↦ absurd (never (sym (ap (λ (o : Option ℕ). is_some o) can.raised) ∙ waits.past))
      ]

  -- the plain tree, by the form of the update
  tree_raised : (u : Update) (c : Change) (slot : ℕ) (known : List Update)
      → MovesTree m g v (record u { change = c }) (move_at z m (record u { change = c }) slot g.tree) (tree_after c slot u.key g.tree)
      → CanRaise v (record u { change = c }) → has_key c u.key g.tree ≡ true → finds_gap m v (record u { change = c }) g.tree ≡ true
      → IsPlainTree gr (set vs i (raised_view known v (m Stamp) (record u { change = c }) (move_at z m (record u { change = c }) slot g.tree)))
      (tree_after c slot u.key g.tree) W
  tree_raised u (Put val) slot known moved can found gap =
      put_raised z m vs g rule plain W trees i v at can.raised (no_wait (record u { change = Put val }) can)
      (at_item (SearchRight gr vs g.tree W) vs i v at searches) u val slot moved gap known
  tree_raised u Remove slot known moved can found gap =
      remove_raised z m vs g rule plain W trees i v at can.raised (no_wait (record u { change = Remove }) can) u slot moved can known found

  -- what a raise needs besides what its step moves
  step_parts : (u : Update) (slot : ℕ) → is_step m vs v u slot (move_at z m u slot g.tree) g.tree ≡ true
      → (has_key u.change u.key g.tree ≡ true) × (finds_gap m v u g.tree ≡ true)
  step_parts u slot is =
      let move : TreeMove = move_at z m u slot g.tree in
      let taken : Bool = list_all (λ k. locks k v.held.nodes) move.taken in
      let spelled : Bool = spells_after m vs v u slot move g.tree in
      let five = and_parts (is_key u.key && has_key u.change u.key g.tree && taken && is_new m v move.added && spelled) (is_plain_step m v u move g.tree) is in
      let four = and_parts (is_key u.key && has_key u.change u.key g.tree && taken && is_new m v move.added) spelled five.0 in
      let three = and_parts (is_key u.key && has_key u.change u.key g.tree && taken) (is_new m v move.added) four.0 in
      let two = and_parts (is_key u.key && has_key u.change u.key g.tree) taken three.0 in (
        (and_parts (is_key u.key) (has_key u.change u.key g.tree) two.0).1,
        (and_parts (list_all (sets_locked v) move.plain.unset && is_plain_new m move.added) (finds_gap m v u g.tree) five.1).1,
      )

  raised_by : (u : Update) (known : List Update) → CanRaise v u
      → is_step m vs v u (new_slot m vs v u.key g.tree) (move_at z m u (new_slot m vs v u.key g.tree) g.tree) g.tree ≡ true
      → SearchesAfter z gr (set vs i (raised_view known v (m Stamp) u (move_at z m u (new_slot m vs v u.key g.tree) g.tree)))
      (tree_after u.change (new_slot m vs v u.key g.tree) u.key g.tree)
  raised_by u known can is =
      let slot : ℕ = new_slot m vs v u.key g.tree in
      let moved : MovesTree m g v u (move_at z m u slot g.tree) (tree_after u.change slot u.key g.tree)
      = moves_by z m vs g rule i v at can.raised can.left u slot refl is in
      let parts = step_parts u slot is in
      raised_searches can.raised u (move_at z m u slot g.tree) (tree_after u.change slot u.key g.tree) moved known
      (tree_raised u u.change slot known moved can parts.0 parts.1)

  -- the same over the tree that the words spell
  pub raised_now : (u : Update) (known : List Update) → CanRaise v u → is_tree_step z m vs v u ≡ true
      → SearchesAfter z gr (set vs i (raised_view known v (m Stamp) u (tree_move z m vs v u)))
      (tree_after u.change (new_slot m vs v u.key (tree_now z m vs)) u.key (tree_now z m vs))
  raised_now u known can =
      subst (λ (t : NamedTree). is_step m vs v u (new_slot m vs v u.key t) (move_at z m u (new_slot m vs v u.key t) t) t ≡ true
      → SearchesAfter z gr (set vs i (raised_view known v (m Stamp) u (move_at z m u (new_slot m vs v u.key t) t)))
      (tree_after u.change (new_slot m vs v u.key t) u.key t))
      (sym (tree_is z m vs g rule)) (raised_by u known can)

module _ (z : Layout) (words : List ℕ) (vs : List View) (right : InRule z words vs) (i : ℕ) (v : View) (at : IsItem vs i v) (n : ℕ) (value : ℕ) where
  abbrev m0 : Memory
  m0 = memory z words

  abbrev Gives : List ℕ → List View → Type 0
  Gives us ws = SearchesAfter z (plain_graph (memory z us)) ws (tree_now z (memory z us) ws)

  raise_stored : (u : Update) → word_at z n ≡ Some Stamp → is_number u.client v.number ≡ true → may_raise z m0 vs v Stamp value (Some u) ≡ true
      → Gives (set words n (slice_index words n + 1)) (set vs i (raised_view (longest vs) v (m0 Stamp) u (tree_move z m0 vs v u)))
  raise_stored u is own met =
      let w : View = raised_view (longest vs) v (m0 Stamp) u (tree_move z m0 vs v u) in
      let one = and_parts (may_raise_number v Stamp value) (is_tree_step z m0 vs v u) met in
      let can : CanRaise v u = can_raise v Stamp value u one.0 own in
      let now : NamedTree = tree_now z m0 vs in
      let tree : NamedTree = tree_after u.change (new_slot m0 vs v u.key now) u.key now in
      let m1 : Memory = written m0 Stamp (m0 Stamp + 1) in
      let rule : Rule z m1 (set vs i w) (meaning_after m0 right.meaning v u (tree_move z m0 vs v u) tree)
      = raised_rule z m0 vs right.meaning right.rule i v u (longest vs) (tree_move z m0 vs v u) tree at can (longest_is z m0 vs right.meaning right.rule)
      (moves_tree z m0 vs right.meaning right.rule i v at u can.raised can.left one.1) in
      subst (λ k. Gives (set words n (slice_index words k + 1)) (set vs i w)) (word_there z n Stamp is).1
      (subst (λ (h : Memory). SearchesAfter z (plain_graph h) (set vs i w) (tree_now z h (set vs i w)))
      (sym (stored_at z words n Stamp (m0 Stamp + 1) right.size is))
      (subst (λ (t : NamedTree). SearchesAfter z (plain_graph m1) (set vs i w) t)
      (sym (tree_is z m1 (set vs i w) (meaning_after m0 right.meaning v u (tree_move z m0 vs v u) tree) rule))
      (raised_now z m0 vs right.meaning right.rule right.plain right.plain_tree right.trees right.searches right.reach i v at u (longest vs) can one.1)))

  pub raise_after : (w : Word) (o : Option Update) → word_at z n ≡ Some w → is_own_update v o ≡ true → may_raise z m0 vs v w value o ≡ true
      → Gives (set words n (slice_index words n + 1)) (views_after Raise z m0 vs i v w value o)
  raise_after Stamp (Some u) is own met = raise_stored u is own met
  raise_after Stamp None is own met = absurd (never own)
  raise_after _ o is own met = absurd (never met)

pub raise_searches : KeepsSearchesNow Raise
raise_searches z words vs right i v at live n w found value o own met = raise_after z words vs right i v at n value w o found own met
