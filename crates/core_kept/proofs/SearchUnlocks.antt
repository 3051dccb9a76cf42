-- The plain tree, what searches claim and what they reach, after an unlock: the view stands nowhere then, and with its
-- last lock its update ends.
use Rattle.std.proofs.Common.{◌≡◌, ℕ, ◌≤◌, cond, List, length, Bool, true, false, eqb, ◌&&◌, set, arith, refl, ap, None}
use Rattle.std.proofs.lemmas.Bool.{and_parts}
use Rattle.index_words.specs.declared.layout.Layout.{Layout}
use Rattle.index_words.specs.declared.view.View.{View}
use Rattle.index_words.specs.declared.word.Field.{Field}
use Rattle.index_words.specs.declared.word.Field.TheVariants.{Lock, Link, Tag}
use Rattle.index_words.specs.declared.word.Part.TheVariants.{Child}
use Rattle.index_words.specs.declared.word.Word.{Word}
use Rattle.index_words.specs.declared.word.Word.TheVariants.{Stamp, Node, Entry}
use Rattle.index_words.specs.Views.{no_update}
use Rattle.index_words.specs.Words.{Memory, memory, written}
use Rattle.key_map.specs.Lists.{count, IsItem}
use Rattle.core_grace.specs.Holds.{held_slots}
use Rattle.core_trees.specs.SpelledTree.{Graph}
use Rattle.core_events.specs.declared.event.Kind.TheVariants.{Unlock}
use Rattle.core_events.specs.LoadMoves.{locks}
use Rattle.core_events.specs.LockMoves.{other_nodes, other_nexts, unlocked_view}
use Rattle.core_events.specs.LockNeeds.{may_unlock}
use Rattle.core_events.specs.Moves.{nowhere}
use Rattle.core_events.specs.Needs.{is_lock, nothing_pending}
use Rattle.core_events.specs.PlainNeeds.{is_done_at}
use Rattle.core_events.specs.Steps.{views_after}
use Rattle.core_events.proofs.Tests.{never}
use Rattle.core_invariant.specs.Locks.{lock_count}
use Rattle.core_invariant.specs.PlainRule.{child_at, greatest_of}
use Rattle.core_invariant.specs.Reached.{plain_graph}
use Rattle.core_invariant.specs.Rule.{InRule}
use Rattle.core_invariant.proofs.Passing.{count-without-le}
use Rattle.core_kept.specs.SearchLaws.{SearchesAfter, KeepsSearchesAt}
use Rattle.core_kept.proofs.EndedUpdates.{ended_after}
use Rattle.core_kept.proofs.PlainKept.{last_unset}
use Rattle.core_kept.proofs.SearchNowhere.{nowhere_after}
use Rattle.core_kept.proofs.SearchStores.{stored}
use Rattle.core_kept.proofs.Unlocks.{slots_other}

module _ (z : Layout) (words : List ℕ) (vs : List View) (right : InRule z words vs) (i : ℕ) (v : View) (at : IsItem vs i v) (value : ℕ) where
  abbrev m : Memory
  m = memory z words

  abbrev gr0 : Graph
  gr0 = plain_graph m

  module _ (k : ℕ) (done : is_done_at k v.update ≡ true) where
    -- the view after the unlock, where the update has ended or not
    abbrev after : Bool → View
    after b = record v {
      reading = nowhere v.reading;
      held = record { nodes = other_nodes k v.held.nodes; nexts = other_nexts k v.held.nexts };
      update = cond b no_update v.update;
    }

    fewer : (j : ℕ) → count j (held_slots (other_nodes k v.held.nodes)) ≤ lock_count j v
    fewer j = omega (arith, ap (count j) (slots_other k v.held.nodes), count-without-le j k (held_slots v.held.nodes))

    unlocked_by : (b : Bool) → eqb (length (other_nodes k v.held.nodes)) 0 ≡ b → SearchesAfter z gr0 (set vs i (after b)) right.meaning.tree
    unlocked_by true last =
        ended_after z m vs right.meaning right.rule right.plain right.plain_tree right.trees right.searches right.reach i v at
        (last_unset (λ t j. m (Node (Link t) j)) (λ t j. m (Node (Tag t) j)) (child_at (λ e. m (Entry Child e)) right.meaning.bundles (m Stamp))
        (greatest_of right.meaning.bundles (m Stamp)) right.meaning.tree vs i k v at done right.plain last)
        (after true) (record { place = refl; links = refl; nodes = λ top. refl }) refl fewer (λ j. omega arith) refl refl refl refl
    unlocked_by false more =
        nowhere_after z m vs right.meaning right.rule gr0 right.plain_tree right.trees right.searches right.reach i v at (after false)
        (record { place = refl; links = refl; nodes = λ top. refl }) refl (λ j some. omega (arith, some, fewer j)) (λ j. omega arith) refl refl refl refl

    unlocked_after : SearchesAfter z gr0 (set vs i (unlocked_view v k)) right.meaning.tree
    unlocked_after = unlocked_by (eqb (length (other_nodes k v.held.nodes)) 0) refl

  unlock_field : (f : Field) (k : ℕ) → may_unlock m v (Node f k) value ≡ true
      → SearchesAfter z (plain_graph (written m (Node f k) value)) (set vs i (unlocked_view v k)) right.meaning.tree
  unlock_field Lock k met =
      let b = locks k v.held.nodes in
      let one = and_parts (is_lock Lock && b && nothing_pending m v && is_done_at k v.update) (eqb value 0) met in
      unlocked_after k (and_parts (is_lock Lock && b && nothing_pending m v) (is_done_at k v.update) one.0).1
  unlock_field _ k met = absurd (never met)

  pub unlock_after : (w : Word) → may_unlock m v w value ≡ true
      → SearchesAfter z (plain_graph (written m w value)) (views_after Unlock z m vs i v w value None) right.meaning.tree
  unlock_after (Node f k) met = unlock_field f k met
  unlock_after _ met = absurd (never met)

pub unlock_searches : KeepsSearchesAt Unlock
unlock_searches z words vs right i v at live n w found value o own met =
    stored z words vs right i v at n w found value (views_after Unlock z (memory z words) vs i v w value None)
    (unlock_after z words vs right i v at value w met)
