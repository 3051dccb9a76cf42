-- The plain tree, what searches claim and what they reach, after a try of a lock.
use Rattle.std.proofs.Common.{◌≡◌, ℕ, ◌+◌, ◌<◌, ◌⊎◌, cond, List, [], ◌∷◌, Bool, true, false, eqb, not, ◌&&◌, ◌||◌, set, slice_index, arith, refl, ap, ◌∙◌, sym, subst, inl, inr, Option, Some, None}
use Rattle.std.proofs.lemmas.Bool.{and_parts, eqb-true}
use Rattle.std.proofs.lemmas.Bool.Decides.{eqb_tells}
use Rattle.index_words.specs.declared.layout.Layout.{Layout}
use Rattle.index_words.specs.declared.view.View.{View}
use Rattle.index_words.specs.declared.word.Field.{Field}
use Rattle.index_words.specs.declared.word.Field.TheVariants.{Key, Val, Lock}
use Rattle.index_words.specs.declared.side.Side.TheVariants.{Right}
use Rattle.index_words.specs.declared.word.Part.TheVariants.{Child}
use Rattle.index_words.specs.declared.word.Word.{Word}
use Rattle.index_words.specs.declared.word.Word.TheVariants.{Stamp, Node, Entry}
use Rattle.index_words.specs.Words.{Memory, memory, address, word_at}
use Rattle.index_words.proofs.Store.{word_there}
use Rattle.key_map.specs.Lists.{count, has, IsItem}
use Rattle.key_map.proofs.Counting.{count-append}
use Rattle.index_words.proofs.Seats.{at_item}
use Rattle.core_grace.specs.Holds.{held_slots}
use Rattle.core_grace.specs.Sections.{is_even}
use Rattle.core_trees.specs.Slots.{occurs}
use Rattle.core_trees.specs.SpelledAt.{graph_at}
use Rattle.core_trees.specs.SpelledTree.{Graph}
use Rattle.core_events.specs.declared.event.Kind.TheVariants.{TryLock}
use Rattle.core_events.specs.LoadMoves.{locks}
use Rattle.core_events.specs.LockMoves.{locked_view, met_lock}
use Rattle.core_events.specs.LockNeeds.{may_lock, may_try_lock, names_pass}
use Rattle.core_events.specs.Searches.{turn_key, search_nodes}
use Rattle.core_events.specs.Steps.{words_after, views_after}
use Rattle.core_events.proofs.Tests.{never, not_true, positive}
use Rattle.core_invariant.specs.Readers.{IsLocked}
use Rattle.core_invariant.specs.Reached.{plain_graph, ReachesRight}
use Rattle.core_invariant.specs.Rule.{InRule}
use Rattle.core_invariant.specs.SearchRule.{ClaimsAt, SearchRight}
use Rattle.core_kept.specs.SearchLaws.{SearchesAfter, KeepsSearchesAt}
use Rattle.core_invariant.proofs.Locked.{searched}
use Rattle.core_kept.proofs.ReachSteps.{lock_calm}
use Rattle.core_kept.proofs.SearchKept.{reach_kept, quiet_after}
use Rattle.core_kept.proofs.SearchMoves.{same_undone, tree_moved, searches_moved, same_waits, SearchStep, NoClaims, own_moved}
use Rattle.core_invariant.proofs.SearchNodes.{IsCalm, calm_reach, same_search}
use Rattle.core_kept.proofs.SearchSteps.{locked_said}
use Rattle.core_kept.proofs.SearchStores.{stored}
use Rattle.core_kept.proofs.TryLocks.{slots_push}
use Rattle.plain_trees.proofs.Matched.{spelled-some}

module _ (z : Layout) (words : List ℕ) (vs : List View) (right : InRule z words vs) (i : ℕ) (v : View) (at : IsItem vs i v) (n : ℕ) (value : ℕ) where
  abbrev m : Memory
  m = memory z words

  abbrev gr0 : Graph
  gr0 = plain_graph m

  abbrev now : Graph
  now = graph_at (λ k. m (Node Key k)) (λ k. m (Node Val k)) (λ e. m (Entry Child e)) right.meaning.bundles.number right.meaning.bundles.bundle (m Stamp)

  abbrev C0 : Option ℕ → Option ℕ → ℕ → Type 0
  C0 = ClaimsAt gr0 vs right.plain_tree v

  abbrev Gives : List ℕ → List View → Type 0
  Gives us ws = SearchesAfter z (plain_graph (memory z us)) ws right.meaning.tree

  search : SearchRight gr0 vs right.meaning.tree right.plain_tree v
  search = at_item (SearchRight gr0 vs right.meaning.tree right.plain_tree) vs i v at right.searches

  -- the node whose lock may be tried is in the plain tree, if it is in the tree at the stamp
  lock_in : (k : ℕ) → is_even v.section_word ≡ false → may_lock v k ≡ true → 0 < occurs k right.meaning.tree → 0 < occurs k right.plain_tree
  lock_in k inside met here = by (eqb k 0) refl met
    where
      by : (b : Bool) → eqb k 0 ≡ b → (b || has k (search_nodes 0 v.reading)) ≡ true → 0 < occurs k right.plain_tree
      by true root is = absurd (omega (arith, eqb-true k 0 root, spelled-some now k (now.child Right 0) right.meaning.tree right.rule.tree.spelled here))
      by false off is =
          search.ahead k (searched z m vs right.meaning right.rule i v at gr0 (at_item (ReachesRight z gr0 vs) vs i v at right.reach)
          inside k (positive k off) is) here

  lock_step : (k : ℕ) (C : Option ℕ → Option ℕ → ℕ → Type 0) → SearchStep C gr0.key v (locked_view v k)
  lock_step k C = record {
    place = λ said. locked_said C gr0.key (turn_key v.reading.right_turn) (turn_key v.reading.left_turn) v.reading.section k v.reading.place said;
    links = λ said. said;
  }

  locked_after : (k : ℕ) → is_even v.section_word ≡ false → may_lock v k ≡ true → SearchesAfter z gr0 (set vs i (locked_view v k)) right.meaning.tree
  locked_after k inside met =
      let x : View = locked_view v k in
      let calm : IsCalm v x = lock_calm v (Node Lock k) value 0 in
      record {
        plain_tree = right.plain_tree;
        trees = tree_moved gr0 vs i v x at right.meaning.tree right.plain_tree (record { update = refl; locked = locked }) right.trees;
        searches =
            searches_moved gr0 vs i v x at right.meaning.tree right.plain_tree (same_undone gr0 vs i v x at right.meaning.tree right.plain_tree refl).passes
            (λ t beside r s. same_waits gr0 vs i v x at right.meaning.tree right.plain_tree refl t r s)
            (own_moved gr0 vs i v x at right.meaning.tree right.plain_tree refl refl refl (calm_reach gr0 v x calm) (lock_step k NoClaims)
            (lock_step k C0) search) right.searches;
        reach =
            reach_kept z gr0 vs right.meaning.tree right.plain_tree right.trees right.searches right.reach i v at x calm.free refl refl refl refl refl
            refl (calm_reach gr0 v x calm);
      }
    where
      locked : (j : ℕ) → IsLocked (locked_view v k) j → 0 < occurs j right.meaning.tree → IsLocked v j ⊎ (0 < occurs j right.plain_tree)
      locked j has_it here = elim (eqb_tells j k) as (λ _. IsLocked v j ⊎ (0 < occurs j right.plain_tree)) [
        | inl is ↦ inr (subst (λ y. 0 < occurs y right.plain_tree) (sym is.1) (lock_in k inside met (subst (λ y. 0 < occurs y right.meaning.tree) is.1 here)))
        | inr other ↦
            inl (omega (arith, has_it, ap (count j) (slots_push k v.held.nodes), count-append j (held_slots v.held.nodes) (k ∷ []), not_one j k other.1))
      ]
        where
          not_one : (j k : ℕ) → ¬ (j ≡ k) → count j (k ∷ []) ≡ 0
          not_one j k ne = by (eqb k j) refl
            where
              by : (b : Bool) → eqb k j ≡ b → cond b 1 0 + 0 ≡ 0
              by true is = absurd (ne (sym (eqb-true k j is)))
              by false is = refl

  found_in : (u : Word) → word_at z n ≡ Some u → slice_index words n ≡ m u
  found_in u is =
      let there = word_there z n u is in
      ap (slice_index words) (sym there.1) ∙ sym (ap (λ b. cond b (slice_index words (address z u)) 0) there.0)

  lock_field : (f : Field) (k : ℕ) → word_at z n ≡ Some (Node f k) → may_try_lock v (Node f k) value ≡ true
      → Gives (words_after TryLock words n value) (views_after TryLock z m vs i v (Node f k) value None)
  lock_field Lock k is met =
      let a = not (is_even v.section_word) in
      let b = may_lock v k in
      let c = not (locks k v.held.nodes) in
      let one = and_parts (true && a && b && c) (names_pass v.number value) met in
      let two = and_parts (true && a && b) c one.0 in
      let three = and_parts (true && a) b two.0 in
      let inside : is_even v.section_word ≡ false = not_true (is_even v.section_word) (and_parts true a three.0).1 in
      subst (λ x. Gives (cond (eqb x 0) (set words n value) words)
      (set vs i (cond (eqb (m (Node Lock k)) 0) (locked_view v k) (met_lock v value (m (Node Lock k)))))) (sym (found_in (Node Lock k) is))
      (by (eqb (m (Node Lock k)) 0) inside three.1)
    where
      by : (b : Bool) → is_even v.section_word ≡ false → may_lock v k ≡ true
          → Gives (cond b (set words n value) words) (set vs i (cond b (locked_view v k) (met_lock v value (m (Node Lock k)))))
      by true inside may = stored z words vs right i v at n (Node Lock k) is value (set vs i (locked_view v k)) (locked_after k inside may)
      by false inside may =
          quiet_after z gr0 vs right.meaning.tree right.plain_tree right.trees right.searches right.reach i v at (met_lock v value (m (Node Lock k)))
          (same_search v (met_lock v value (m (Node Lock k))) refl refl (λ j. omega arith) refl refl (λ top. refl))
          (record { work = refl; locks = refl; retired = refl; step = record { place = λ said. said; links = λ said. said } })
          (record { work = refl; locks = refl; retired = refl; step = record { place = λ said. said; links = λ said. said } })
  lock_field _ k is met = absurd (never met)

  pub lock_after : (u : Word) → word_at z n ≡ Some u → may_try_lock v u value ≡ true
      → Gives (words_after TryLock words n value) (views_after TryLock z m vs i v u value None)
  lock_after (Node f k) is met = lock_field f k is met
  lock_after _ is met = absurd (never met)

pub lock_searches : KeepsSearchesAt TryLock
lock_searches z words vs right i v at live n w found value o own met = lock_after z words vs right i v at n value w found met
