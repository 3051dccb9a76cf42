-- The same after stores to other words than keys, values, plain links and tags, and after a try of a lock.
use Rattle.std.proofs.Common.{◌≡◌, ℕ, cond, List, Bool, true, false, eqb, ◌&&◌, set, slice_index, refl, ap, ◌∙◌, sym, subst, Option, Some, None}
use Rattle.std.proofs.lemmas.Bool.{and_parts, eqb-true}
use Rattle.index_words.specs.declared.layout.Layout.{Layout}
use Rattle.index_words.specs.declared.side.Side.{Side}
use Rattle.index_words.specs.declared.view.View.{View}
use Rattle.index_words.specs.declared.word.Field.{Field}
use Rattle.index_words.specs.declared.word.Field.TheVariants.{Lock, Mark, Head, Tag}
use Rattle.index_words.specs.declared.word.Word.{Word}
use Rattle.index_words.specs.declared.word.Word.TheVariants.{Announced, Node, Entry}
use Rattle.index_words.specs.Words.{Memory, memory, written, address, word_at}
use Rattle.index_words.proofs.Store.{word_there}
use Rattle.key_map.specs.Lists.{IsItem}
use Rattle.core_trees.specs.SpelledTree.{Graph}
use Rattle.core_events.specs.declared.event.Kind.TheVariants.{Prepare, Finalise, Mark as MarkNode, Announce, Cut, TryLock}
use Rattle.core_events.specs.Announcing.{is_own_announced, is_announcement, may_announce, announced_view}
use Rattle.core_events.specs.CutNeeds.{may_cut}
use Rattle.core_events.specs.LockMoves.{just_locked, mark_known, locked_view, met_lock}
use Rattle.core_events.specs.LockNeeds.{may_mark, may_try_lock}
use Rattle.core_events.specs.Steps.{prepared_from, finalised_from, marked_from, cut_from, words_after, views_after}
use Rattle.core_events.specs.UpdateMoves.{known_at}
use Rattle.core_events.specs.UpdateNeeds.{may_prepare, may_finalise}
use Rattle.core_events.proofs.Tests.{never}
use Rattle.core_invariant.specs.Reached.{plain_graph}
use Rattle.core_invariant.specs.Rule.{InRule}
use Rattle.core_kept.specs.TurnLaws.{TurnsAfter, KeepsTurnsAt}
use Rattle.core_kept.proofs.KnownHeld.{same_known, mapped_known, pushed_known, prepared_plain, marked_plain}
use Rattle.core_kept.proofs.QuietKinds.{prepare_quiet, finalise_quiet, marked_quiet, cut_quiet}
use Rattle.core_kept.proofs.ReachSteps.{prepare_calm, finalise_calm, marked_calm, cut_calm, lock_calm}
use Rattle.core_kept.proofs.SearchMoves.{work_of, NoClaims}
use Rattle.core_invariant.proofs.SearchNodes.{IsCalm}
use Rattle.core_kept.proofs.TurnFrames.{TurnStep, same_step, turns_before, calm_kept, same_kept, more_marked, with_tree, stored_turns}
use Rattle.core_kept.proofs.TurnKinds.{locked_place, cut_step}

module _ (z : Layout) (words : List ℕ) (vs : List View) (right : InRule z words vs) (i : ℕ) (v : View) (at : IsItem vs i v) (n : ℕ) (w : Word)
    (found : word_at z n ≡ Some w) (value : ℕ) where
  abbrev m : Memory
  m = memory z words

  abbrev gr0 : Graph
  gr0 = plain_graph m

  abbrev tags : Side → ℕ → ℕ
  tags side k = m (Node (Tag side) k)

  abbrev marks : ℕ → ℕ
  marks k = m (Node Mark k)

  stored : (ws : List View) → TurnsAfter z (written m w value) ws → TurnsAfter z (memory z (set words n value)) ws
  stored ws gives = stored_turns z words vs right n w found value ws gives

  moved : (x : View) → IsCalm v x → work_of x.update ≡ work_of v.update → TurnStep gr0 tags v x → TurnsAfter z m (set vs i x)
  moved x calm work step =
      with_tree z words vs right marks tags (set vs i x)
      (calm_kept z gr0 marks tags right.plain_tree vs i v x at (turns_before z words vs right) calm work step)

  prepare_at : (u : Word) → may_prepare m v u value ≡ true → TurnsAfter z (written m u value) (set vs i (prepared_from v u value))
  prepare_at (Node (Head side) k) met =
      moved (prepared_from v (Node (Head side) k) value) (prepare_calm v (Node (Head side) k) value)
      (prepare_quiet NoClaims gr0.key v (Node (Head side) k) value).work
      (same_step gr0 tags v (prepared_from v (Node (Head side) k) value) refl
      (mapped_known gr0 tags (known_at k side (record { entry = value; stamp = None })) v.held.nodes
      (prepared_plain k side (record { entry = value; stamp = None }))))
  prepare_at _ met = absurd (never met)

  finalise_at : (u : Word) → may_finalise v u value ≡ true → TurnsAfter z (written m u value) (set vs i (finalised_from v u))
  finalise_at (Entry p e) met =
      moved (finalised_from v (Entry p e)) (finalise_calm v (Entry p e)) (finalise_quiet NoClaims gr0.key v (Entry p e)).work
      (same_step gr0 tags v (finalised_from v (Entry p e)) refl (same_known gr0 tags v.held.nodes v.held.nodes refl))
  finalise_at _ met = absurd (never met)

  cut_at : (u : Word) → may_cut z m vs v u value ≡ true → TurnsAfter z (written m u value) (set vs i (cut_from z m v u))
  cut_at (Entry p e) met =
      moved (cut_from z m v (Entry p e)) (cut_calm v z m (Entry p e)) (cut_quiet NoClaims gr0.key v z m (Entry p e)).work (cut_step gr0 tags v z m (Entry p e))
  cut_at _ met = absurd (never met)

  -- a mark that is set stays
  still_marked : (k j : ℕ) → marks j ≡ 1 → written m (Node Mark k) 1 (Node Mark j) ≡ 1
  still_marked k j is = by (eqb j k)
    where
      by : (b : Bool) → cond b 1 (marks j) ≡ 1
      by true = refl
      by false = is

  mark_at : (u : Word) → may_mark v u value ≡ true → TurnsAfter z (written m u value) (set vs i (marked_from v u))
  mark_at (Node Mark k) met =
      let one : value ≡ 1 = eqb-true value 1 (and_parts _ (eqb value 1) met).1 in
      let x : View = marked_from v (Node Mark k) in
      subst (λ y. TurnsAfter z (written m (Node Mark k) y) (set vs i x)) (sym one)
      (with_tree z words vs right (λ j. written m (Node Mark k) 1 (Node Mark j)) tags (set vs i x)
      (more_marked z gr0 marks tags right.plain_tree (set vs i x) (λ j. written m (Node Mark k) 1 (Node Mark j)) (still_marked k)
      (calm_kept z gr0 marks tags right.plain_tree vs i v x at (turns_before z words vs right) (marked_calm v (Node Mark k))
      (marked_quiet NoClaims gr0.key v (Node Mark k)).work
      (same_step gr0 tags v x refl (mapped_known gr0 tags (mark_known k 1) v.held.nodes (marked_plain k 1))))))
  mark_at _ met = absurd (never met)

  announce_by : (number : Option ℕ) (u : Word) → (is_own_announced number u && is_announcement v value) ≡ true
      → TurnsAfter z (written m u value) (set vs i (announced_view v value))
  announce_by (Some k) (Announced j) met =
      with_tree z words vs right marks tags (set vs i (announced_view v value))
      (same_kept z gr0 marks tags right.plain_tree vs i v (announced_view v value) at (turns_before z words vs right) refl refl refl refl
      (same_known gr0 tags v.held.nodes v.held.nodes refl))
  announce_by _ _ met = absurd (never met)

  announce_at : may_announce v w value ≡ true → TurnsAfter z (written m w value) (set vs i (announced_view v value))
  announce_at met = announce_by v.number w met

  -- a try of a lock
  found_in : (u : Word) → word_at z n ≡ Some u → slice_index words n ≡ m u
  found_in u is =
      let there = word_there z n u is in
      ap (slice_index words) (sym there.1) ∙ sym (ap (λ b. cond b (slice_index words (address z u)) 0) there.0)

  lock_field : (f : Field) (k : ℕ) → word_at z n ≡ Some (Node f k) → may_try_lock v (Node f k) value ≡ true
      → TurnsAfter z (memory z (words_after TryLock words n value)) (views_after TryLock z m vs i v (Node f k) value None)
  lock_field Lock k is met =
      subst (λ x. TurnsAfter z (memory z (cond (eqb x 0) (set words n value) words))
      (set vs i (cond (eqb (m (Node Lock k)) 0) (locked_view v k) (met_lock v value (m (Node Lock k)))))) (sym (found_in (Node Lock k) is))
      (by (eqb (m (Node Lock k)) 0))
    where
      by : (b : Bool) → TurnsAfter z (memory z (cond b (set words n value) words)) (set vs i (cond b (locked_view v k) (met_lock v value (m (Node Lock k)))))
      by true = stored_turns z words vs right n (Node Lock k) is value (set vs i (locked_view v k))
          (moved (locked_view v k) (lock_calm v (Node Lock k) value 0) refl
          (record {
            left = refl;
            right = refl;
            place = locked_place v.reading.section k v.reading.place;
            links = λ all. all;
            known = λ hs all. all;
            held = pushed_known gr0 tags v.held.nodes (just_locked k);
          }))
      by false =
          with_tree z words vs right marks tags (set vs i (met_lock v value (m (Node Lock k))))
          (same_kept z gr0 marks tags right.plain_tree vs i v (met_lock v value (m (Node Lock k))) at (turns_before z words vs right) refl refl refl refl
          (same_known gr0 tags v.held.nodes v.held.nodes refl))
  lock_field _ k is met = absurd (never met)

  lock_at : (u : Word) → word_at z n ≡ Some u → may_try_lock v u value ≡ true
      → TurnsAfter z (memory z (words_after TryLock words n value)) (views_after TryLock z m vs i v u value None)
  lock_at (Node f k) is met = lock_field f k is met
  lock_at _ is met = absurd (never met)

  prepare_after : may_prepare m v w value ≡ true → TurnsAfter z (memory z (set words n value)) (set vs i (prepared_from v w value))
  prepare_after met = stored (set vs i (prepared_from v w value)) (prepare_at w met)

  finalise_after : may_finalise v w value ≡ true → TurnsAfter z (memory z (set words n value)) (set vs i (finalised_from v w))
  finalise_after met = stored (set vs i (finalised_from v w)) (finalise_at w met)

  cut_after : may_cut z m vs v w value ≡ true → TurnsAfter z (memory z (set words n value)) (set vs i (cut_from z m v w))
  cut_after met = stored (set vs i (cut_from z m v w)) (cut_at w met)

  mark_after : may_mark v w value ≡ true → TurnsAfter z (memory z (set words n value)) (set vs i (marked_from v w))
  mark_after met = stored (set vs i (marked_from v w)) (mark_at w met)

  announce_after : may_announce v w value ≡ true → TurnsAfter z (memory z (set words n value)) (set vs i (announced_view v value))
  announce_after met = stored (set vs i (announced_view v value)) (announce_at met)

pub prepare_turns : KeepsTurnsAt Prepare
prepare_turns z words vs right i v at live n w found value o own met = prepare_after z words vs right i v at n w found value met

pub finalise_turns : KeepsTurnsAt Finalise
finalise_turns z words vs right i v at live n w found value o own met = finalise_after z words vs right i v at n w found value met

pub cut_turns : KeepsTurnsAt Cut
cut_turns z words vs right i v at live n w found value o own met = cut_after z words vs right i v at n w found value met

pub marked_turns : KeepsTurnsAt MarkNode
marked_turns z words vs right i v at live n w found value o own met = mark_after z words vs right i v at n w found value met

pub announce_turns : KeepsTurnsAt Announce
announce_turns z words vs right i v at live n w found value o own met = announce_after z words vs right i v at n w found value met

pub lock_turns : KeepsTurnsAt TryLock
lock_turns z words vs right i v at live n w found value o own met = lock_at z words vs right i v at n w found value w found met
