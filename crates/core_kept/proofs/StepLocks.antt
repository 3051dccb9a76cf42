-- An event of a lock, of a mark, or of a key or a value that is allowed keeps the rule.
use Rattle.std.proofs.Common.{◌≡◌, ℕ, cond, ap, Bool, List, true, false, eqb, ◌&&◌, not, set, refl, ◌∙◌, sym, subst, slice_index, Some, None}
use Rattle.std.proofs.lemmas.Bool.{and_parts, eqb-true}
use Rattle.index_words.specs.declared.layout.Layout.{Layout}
use Rattle.index_words.specs.declared.view.View.{View}
use Rattle.index_words.specs.declared.word.Word.{Word}
use Rattle.index_words.specs.declared.word.Word.TheVariants.{Node}
use Rattle.index_words.specs.Words.{Memory, memory, address, word_at}
use Rattle.key_map.specs.Lists.{IsItem}
use Rattle.index_words.proofs.Seats.{at_item}
use Rattle.index_words.proofs.Store.{word_there}
use Rattle.core_grace.specs.Sections.{is_even}
use Rattle.core_events.specs.declared.event.Kind.TheVariants.{TryLock, Unlock, LoadMark, Mark as MarkNode, LoadKeyOrVal}
use Rattle.core_events.specs.LockNeeds.{is_pair, may_try_lock, may_unlock, may_load_mark, may_mark, may_load_pair}
use Rattle.core_events.specs.LockMoves.{locked_view, met_lock, tried, unlocked_view, with_mark, mark_loaded, pair_loaded}
use Rattle.core_invariant.specs.Reached.{plain_graph, ReachesRight}
use Rattle.core_invariant.specs.Rule.{InRule}
use Rattle.core_events.specs.Steps.{views_after, words_after}
use Rattle.core_kept.proofs.LockSteps.{lock_by, met_by, unlock_by, load_mark_by, mark_by}
use Rattle.core_kept.proofs.Marks.{load_pair_kept}
use Rattle.core_kept.proofs.PlainKept.{quiet_work, plain_quiet}
use Rattle.core_events.proofs.Tests.{never, not_true, node_there}
use Rattle.core_invariant.specs.KeptRule.{After, KeepsRuleAt}
use Rattle.core_invariant.proofs.KeptViews.{store_right, load_right}
use Rattle.core_invariant.proofs.Locked.{slots_marked, slots_paired}

module _ (z : Layout) (words : List ℕ) (vs : List View) (right : InRule z words vs) (i : ℕ) (v : View) (at : IsItem vs i v) (live : v.joined ≡ false) (n : ℕ)
    (w : Word) (found : word_at z n ≡ Some w) (value : ℕ) where
  abbrev m : Memory
  m = memory z words

  abbrev Gives : List ℕ → List View → Type 0
  Gives = After z words vs right

  found_in : (u : Word) → word_at z n ≡ Some u → slice_index words n ≡ m u
  found_in u is =
      let there = word_there z n u is in
      ap (slice_index words) (sym there.1) ∙ sym (ap (λ b. cond b (slice_index words (address z u)) 0) there.0)

  pub try_lock_found : (u : Word) → word_at z n ≡ Some u → may_try_lock v u value ≡ true
      → Gives (words_after TryLock words n value) (views_after TryLock z m vs i v u value None)
  try_lock_found (Node f k) is met =
      subst (λ x. Gives (cond (eqb x 0) (set words n value) words) (set vs i (tried v k value (m (Node f k))))) (sym (found_in (Node f k) is))
      (tried_by (eqb (m (Node f k)) 0) refl)
    where
      tried_by : (c : Bool) → eqb (m (Node f k)) 0 ≡ c
          → Gives (cond c (set words n value) words) (set vs i (cond c (locked_view v k) (met_lock v value (m (Node f k)))))
      tried_by true free =
          store_right z words vs n value (Node f k) right (set vs i (locked_view v k)) is
          (lock_by z m vs right.meaning right.rule i v at f k value (at_item (ReachesRight z (plain_graph m) vs) vs i v at right.reach) (node_there z n k f is)
          met (eqb-true (m (Node f k)) 0 free))
      tried_by false held =
          load_right z words vs right (set vs i (met_lock v value (m (Node f k)))) (met_by z m vs right.meaning right.rule i v at f k value (m (Node f k)) met)
          (plain_quiet m right.meaning vs i v (met_lock v value (m (Node f k))) at (quiet_work v _ refl refl refl refl))
  try_lock_found _ is met = absurd (never met)

  pub unlock_found : (u : Word) → word_at z n ≡ Some u → may_unlock m v u value ≡ true → Gives (set words n value) (views_after Unlock z m vs i v u value None)
  unlock_found (Node f k) is met =
      store_right z words vs n value (Node f k) right (set vs i (unlocked_view v k)) is (unlock_by z m vs right.meaning right.rule i v at f k value met)
  unlock_found _ is met = absurd (never met)

  pub load_mark_found : (u : Word) → may_load_mark v u value ≡ true → Gives words (views_after LoadMark z m vs i v u value None)
  load_mark_found (Node f k) met =
      load_right z words vs right (set vs i (mark_loaded v k (m (Node f k)))) (load_mark_by z m vs right.meaning right.rule i v at f k value met)
      (plain_quiet m right.meaning vs i v (mark_loaded v k (m (Node f k))) at (quiet_work v _ refl refl refl (slots_marked k (m (Node f k)) v.held.nodes)))
  load_mark_found _ met = absurd (never met)

  pub mark_found : (u : Word) → word_at z n ≡ Some u → may_mark v u value ≡ true → Gives (set words n value) (views_after MarkNode z m vs i v u value None)
  mark_found (Node f k) is met =
      store_right z words vs n value (Node f k) right (set vs i (with_mark v k 1)) is (mark_by z m vs right.meaning right.rule i v at f k value met)
  mark_found _ is met = absurd (never met)

  pub load_pair_found : (u : Word) → may_load_pair v u value ≡ true → Gives words (views_after LoadKeyOrVal z m vs i v u value None)
  load_pair_found (Node f k) met =
      let b = not (is_even v.section_word) in
      let one = and_parts (is_pair f && b) (eqb value 0) met in
      load_right z words vs right (set vs i (pair_loaded v f k (m (Node f k))))
      (load_pair_kept z m vs right.meaning i k f v right.rule at (not_true (is_even v.section_word) (and_parts (is_pair f) b one.0).1))
      (plain_quiet m right.meaning vs i v (pair_loaded v f k (m (Node f k))) at (quiet_work v _ refl refl refl (slots_paired f k (m (Node f k)) v.held.nodes)))
  load_pair_found _ met = absurd (never met)

pub lock_law : KeepsRuleAt TryLock
lock_law z words vs right i v at live n w found value o own met = try_lock_found z words vs right i v at live n w found value w found met

pub unlock_law : KeepsRuleAt Unlock
unlock_law z words vs right i v at live n w found value o own met = unlock_found z words vs right i v at live n w found value w found met

pub load_mark_law : KeepsRuleAt LoadMark
load_mark_law z words vs right i v at live n w found value o own met = load_mark_found z words vs right i v at live n w found value w met

pub mark_law : KeepsRuleAt MarkNode
mark_law z words vs right i v at live n w found value o own met = mark_found z words vs right i v at live n w found value w found met

pub load_pair_law : KeepsRuleAt LoadKeyOrVal
load_pair_law z words vs right i v at live n w found value o own met = load_pair_found z words vs right i v at live n w found value w met
