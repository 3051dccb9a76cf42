-- What the needs of events that lock, unlock or mark say, and so what each of these events keeps.
use Rattle.std.proofs.Common.{◌≡◌, ℕ, ◌+◌, ◌≤◌, List, true, eqb, ◌&&◌, not, set, refl, sym, subst, Option, Some, None}
use Rattle.std.proofs.lemmas.Bool.{eqb-true, and_parts}
use Rattle.index_words.specs.declared.layout.Layout.{Layout}
use Rattle.index_words.specs.declared.view.View.{View}
use Rattle.index_words.specs.declared.word.Field.{Field}
use Rattle.index_words.specs.declared.word.Field.TheVariants.{Lock, Mark, Link, Tag}
use Rattle.index_words.specs.declared.word.Part.TheVariants.{Child}
use Rattle.index_words.specs.declared.word.Word.TheVariants.{Stamp, Node, Entry}
use Rattle.index_words.specs.Words.{Memory, written}
use Rattle.key_map.specs.Lists.{has, IsItem}
use Rattle.key_map.proofs.Counting.{has-count}
use Rattle.core_grace.specs.Sections.{is_even}
use Rattle.core_invariant.specs.Meanings.{Meaning}
use Rattle.core_events.specs.Needs.{is_lock, nothing_pending}
use Rattle.core_events.specs.LoadMoves.{locks, raised_if}
use Rattle.core_events.specs.PlainNeeds.{is_done_at}
use Rattle.core_events.specs.LockNeeds.{is_mark, names_pass, may_lock, may_try_lock, may_unlock, may_load_mark, may_mark}
use Rattle.core_events.specs.LockMoves.{locked_view, names_other, met_lock, unlocked_view, with_mark, finds_mark, mark_loaded}
use Rattle.core_invariant.specs.Reached.{plain_graph, ReachesRight}
use Rattle.core_invariant.specs.Rule.{Rule}
use Rattle.core_invariant.specs.LinkLaw.{Kept}
use Rattle.core_invariant.proofs.Locked.{locks-count, can_lock, slots_marked}
use Rattle.core_events.proofs.Tests.{never, not_true}
use Rattle.core_invariant.proofs.WaitNeeds.{nothing_is, unlinked_is}
use Rattle.core_kept.proofs.TryLocks.{lock_kept, met_kept}
use Rattle.core_kept.proofs.Unlocks.{unlock_kept}
use Rattle.core_kept.proofs.Marks.{load_mark_kept, mark_kept}
use Rattle.core_kept.proofs.PlainKept.{quiet_work, locked_work, plain_quiet, plain_unlocked}
use Rattle.core_invariant.specs.PlainRule.{child_at, greatest_of}
use Rattle.core_invariant.proofs.KeptViews.{kept_same}

-- a lock word that names the pass
record OwnLock (number : Option ℕ) (word : ℕ) : Type 0 where
  n : ℕ
  named : number ≡ Some n
  is : word ≡ n + 1

own_lock : (number : Option ℕ) (word : ℕ) → names_pass number word ≡ true → OwnLock number word
own_lock None word met = absurd (never met)
own_lock (Some n) word met = record { n = n; named = refl; is = eqb-true word (n + 1) met }

module _ (z : Layout) (m : Memory) (vs : List View) (g : Meaning) (rule : Rule z m vs g) (i : ℕ) (v : View) (at : IsItem vs i v) where
  -- a lock that is free
  pub lock_by : (f : Field) (k value : ℕ) → ReachesRight z (plain_graph m) vs v → k ≤ z.nodes → may_try_lock v (Node f k) value ≡ true → m (Node f k) ≡ 0
      → Kept z m vs g (written m (Node f k) value) (set vs i (locked_view v k))
  lock_by Lock k value reach there met free =
      let b = not (is_even v.section_word) in
      let c = may_lock v k in
      let d = not (locks k v.held.nodes) in
      let one = and_parts (is_lock Lock && b && c && d) (names_pass v.number value) met in
      let two = and_parts (is_lock Lock && b && c) d one.0 in
      let three = and_parts (is_lock Lock && b) c two.0 in
      let own = own_lock v.number value one.1 in
      let inside = not_true (is_even v.section_word) (and_parts (is_lock Lock) b three.0).1 in
      subst (λ x. Kept z m vs g (written m (Node Lock k) x) (set vs i (locked_view v k))) (sym own.is)
      (kept_same z m vs g (written m (Node Lock k) (own.n + 1)) (set vs i (locked_view v k))
      (lock_kept z m vs g rule i k own.n v at inside (can_lock z m vs g rule i v at (plain_graph m) reach inside k there three.1) own.named free)
      (plain_quiet m g vs i v (locked_view v k) at (locked_work v k)))
  lock_by _ k value reach there met free = absurd (never met)

  -- a lock that was found held
  pub met_by : (f : Field) (k value found : ℕ) → may_try_lock v (Node f k) value ≡ true → Rule z m (set vs i (met_lock v value found)) g
  met_by f k value found met =
      let b = not (is_even v.section_word) in
      let c = may_lock v k in
      let d = not (locks k v.held.nodes) in
      let one = and_parts (is_lock f && b && c && d) (names_pass v.number value) met in
      let two = and_parts (is_lock f && b && c) d one.0 in
      let three = and_parts (is_lock f && b) c two.0 in
      met_kept z m vs g i v (record v.counts { busy = raised_if (names_other value found) v.counts.busy }) rule at
      (not_true (is_even v.section_word) (and_parts (is_lock f) b three.0).1)

  pub unlock_by : (f : Field) (k value : ℕ) → may_unlock m v (Node f k) value ≡ true → Kept z m vs g (written m (Node f k) value) (set vs i (unlocked_view v k))
  unlock_by Lock k value met =
      let b = locks k v.held.nodes in
      let c = is_done_at k v.update in
      let one = and_parts (is_lock Lock && b && nothing_pending m v && c) (eqb value 0) met in
      let some = and_parts (is_lock Lock && b && nothing_pending m v) c one.0 in
      let two = and_parts (is_lock Lock && b) (nothing_pending m v) some.0 in
      let none = nothing_is m v two.1 in
      subst (λ x. Kept z m vs g (written m (Node Lock k) x) (set vs i (unlocked_view v k))) (sym (eqb-true value 0 one.1))
      (kept_same z m vs g (written m (Node Lock k) 0) (set vs i (unlocked_view v k))
      (unlock_kept z m vs g rule i k v at (locks-count k v.held.nodes (and_parts (is_lock Lock) b two.0).1) none.pending none.marked
      (unlinked_is k v.update some.1))
      (plain_unlocked (λ t j. m (Node (Link t) j)) (λ t j. m (Node (Tag t) j)) (child_at (λ e. m (Entry Child e)) g.bundles (m Stamp))
      (greatest_of g.bundles (m Stamp)) g.tree vs i k v at some.1))
  unlock_by _ k value met = absurd (never met)

  pub load_mark_by : (f : Field) (k value : ℕ) → may_load_mark v (Node f k) value ≡ true → Rule z m (set vs i (mark_loaded v k (m (Node f k)))) g
  load_mark_by Mark k value met =
      let b = not (is_even v.section_word) in
      let one = and_parts (is_mark Mark && b) (eqb value 0) met in
      let x = m (Node Mark k) in
      load_mark_kept z m vs g rule i k x v at (record v.counts { moves = raised_if (finds_mark v k x) v.counts.moves })
      (not_true (is_even v.section_word) (and_parts (is_mark Mark) b one.0).1) refl
  load_mark_by _ k value met = absurd (never met)

  pub mark_by : (f : Field) (k value : ℕ) → may_mark v (Node f k) value ≡ true → Kept z m vs g (written m (Node f k) value) (set vs i (with_mark v k 1))
  mark_by Mark k value met =
      let b = locks k v.held.nodes in
      let c = has k v.update.taken in
      let one = and_parts (is_mark Mark && b && c) (eqb value 1) met in
      let two = and_parts (is_mark Mark && b) c one.0 in
      subst (λ x. Kept z m vs g (written m (Node Mark k) x) (set vs i (with_mark v k 1))) (sym (eqb-true value 1 one.1))
      (kept_same z m vs g (written m (Node Mark k) 1) (set vs i (with_mark v k 1))
      (mark_kept z m vs g rule i k v at (locks-count k v.held.nodes (and_parts (is_mark Mark) b two.0).1) (has-count k v.update.taken two.1))
      (plain_quiet m g vs i v (with_mark v k 1) at (quiet_work v (with_mark v k 1) refl refl refl (slots_marked k 1 v.held.nodes))))
  mark_by _ k value met = absurd (never met)
