-- Each view's slots wait as they should, after every event: it works at none of the nodes of its batch, and without a
-- pass number no slot of it waits.
use Rattle.std.proofs.Common.{◌≡◌, ℕ, ◌+◌, ◌<◌, ◌≤◌, cond, List, [], ◌∷◌, ◌++◌, Bool, true, false, not, eqb, ◌&&◌, set, arith, refl, ap, ◌∙◌, sym, subst, inl, inr, Option, Some, None}
use Rattle.std.specs.List.{All, slice_get}
use Rattle.std.proofs.lemmas.Bool.{and_parts, cases_lt, eqb-true, and_from}
use Rattle.std.proofs.lemmas.List.Elements.{All-set, All-push}
use Rattle.index_words.specs.declared.layout.Layout.{Layout}
use Rattle.key_map.specs.declared.update.Update.{Update}
use Rattle.index_words.specs.declared.view.View.{View}
use Rattle.index_words.specs.declared.view.slots.Slots.{Slots}
use Rattle.index_words.specs.declared.view.history.SeenHistory.{SeenHistory}
use Rattle.index_words.specs.declared.view.reading.Reading.{Reading}
use Rattle.index_words.specs.declared.view.update.Updating.{Updating}
use Rattle.index_words.specs.declared.word.Word.{Word}
use Rattle.index_words.specs.declared.word.Word.TheVariants.{Section, Node, Entry}
use Rattle.index_words.specs.Words.{Memory, memory, word_at}
use Rattle.index_words.specs.Views.{spent_view, no_slots}
use Rattle.key_map.specs.Lists.{count, IsItem}
use Rattle.key_map.proofs.Counting.{count-append}
use Rattle.index_words.proofs.Seats.{at_item, one_term}
use Rattle.core_grace.specs.Batches.{batch_taken, batch_freed, all_passed, is_empty, looked_at, both, looked}
use Rattle.core_grace.specs.Holds.{ReadsNode, held_slots, tree_slots, work_nodes, listed}
use Rattle.core_grace.specs.Slots.{own, nodes_of}
use Rattle.core_grace.specs.Sections.{is_even}
use Rattle.core_events.specs.declared.event.Kind.{Kind}
use Rattle.core_events.specs.declared.event.Kind.TheVariants.{MakeSeat, SplitSeat, JoinSeat, Enter, Leave, LookSec, LoadStamp, Raise, TryLock, Unlock, Cut}
use Rattle.core_events.specs.declared.tree_move.TreeMove.{TreeMove}
use Rattle.core_events.specs.Announcing.{has_announced}
use Rattle.core_events.specs.CutNeeds.{may_cut, may_cut_by}
use Rattle.core_events.specs.LoadMoves.{longest, stamp_history, stamp_reading, stamp_loaded}
use Rattle.core_events.specs.LockMoves.{locked_view, met_lock, unlocked_view, other_nodes, just_locked, update_until}
use Rattle.core_events.specs.LockNeeds.{may_try_lock, may_lock, names_pass}
use Rattle.core_events.specs.Moves.{in_section, entered, left, split_left, split_right, joined_with, own_number}
use Rattle.core_events.specs.Needs.{is_outside, is_lock, is_own_section, may_enter}
use Rattle.core_events.specs.Waits.{has_no_lock, looked_waiting, may_look}
use Rattle.core_invariant.proofs.WaitNeeds.{can_look}
use Rattle.core_events.specs.SpelledNow.{tree_now}
use Rattle.core_events.specs.Steps.{needs, carries, is_own_update, views_after, join_found, look_from, raised_from, tried_from, unlocked_from, cut_from}
use Rattle.core_events.specs.TreeMoves.{is_tree_step, tree_move}
use Rattle.core_events.specs.UpdateNeeds.{may_raise, may_raise_number}
use Rattle.core_events.specs.Versions.{slots_of, tree_nodes}
use Rattle.core_events.proofs.Tests.{never, node_there, not_true}
use Rattle.core_invariant.specs.SectionRule.{IsIdle}
use Rattle.core_invariant.specs.Reached.{plain_graph, ReachesRight}
use Rattle.core_invariant.specs.Rule.{InRule}
use Rattle.core_invariant.specs.WaitingSlots.{IsNameless, HasNoneWaiting, WaitsRight}
use Rattle.core_invariant.proofs.Idle.{idle_nodes, nameless_idle}
use Rattle.core_invariant.proofs.Needed.{outside_idle, can_raise}
use Rattle.core_invariant.proofs.OneView.{item_from_get, seat_at}
use Rattle.core_invariant.proofs.Owned.{once_node}
use Rattle.core_invariant.proofs.TreeNow.{tree_is}
use Rattle.core_invariant.proofs.Passing.{count-without-le}
use Rattle.core_invariant.proofs.Locked.{can_lock}
use Rattle.core_kept.proofs.RaiseNew.{waiting_old}
use Rattle.core_kept.proofs.TreeNeeds.{moves_tree}
use Rattle.core_kept.proofs.TryLocks.{slots_push}
use Rattle.core_kept.proofs.Unlocks.{slots_other, until_by}
use Rattle.core_kept.proofs.WaitingLoads.{less, quiet}

-- a list that is empty with another one after it
both_empty : {X : Type 0} (xs ys : List X) → xs ++ ys ≡ [] → (xs ≡ []) × (ys ≡ [])
both_empty [] ys is = (refl, is)
both_empty (x ∷ xs) ys is = cc

unnumbered : (o : Option ℕ) → own_number o ≡ [] → o ≡ None
unnumbered None is = refl
unnumbered (Some n) is = cc

-- a view that reads and works on nothing
record Rests (u : View) : Type 0 where
  none : (k : ℕ) → ReadsNode u k → ⊥
  owned : IsNameless u → HasNoneWaiting u

rests_taken : (b : Bool) (u : View) → Rests u
    → Rests (cond b (record u { retired = no_slots; batch = u.retired; grace = record { found = []; passed = [] } }) u)
rests_taken true u rests = record { none = rests.none; owned = λ nameless. (refl, (rests.owned nameless).0) }
rests_taken false u rests = rests

rests_settled : (b : Bool) (u : View) → Rests u → WaitsRight (cond b (batch_freed u) u)
rests_settled true u rests = record { apart = λ k some holds. rests.none k holds; owned = λ nameless. ((rests.owned nameless).0, refl) }
rests_settled false u rests = record { apart = λ k some holds. rests.none k holds; owned = rests.owned }

module _ (z : Layout) (words : List ℕ) (vs : List View) (right : InRule z words vs) (i : ℕ) (v : View) (at : IsItem vs i v) (n : ℕ) (w : Word)
    (found : word_at z n ≡ Some w) (value : ℕ) where
  abbrev m : Memory
  m = memory z words

  own_right : WaitsRight v
  own_right = at_item WaitsRight vs i v at right.waits

  idle_if : is_outside v ≡ true → IsIdle v
  idle_if out = outside_idle z m vs right.meaning i v at right.rule out

  none_read : IsIdle v → (k : ℕ) → ReadsNode v k → ⊥
  none_read idle k holds = omega (arith, holds, ap (count k) (idle_nodes v idle))

  -- enter and look at a section
  entered_rests : IsIdle v → Rests (in_section v value)
  entered_rests idle = record { none = none_read idle; owned = own_right.owned }

  enter_waits : is_outside v ≡ true → WaitsRight (entered z.passes v value)
  enter_waits out =
      let u : View = in_section v value in
      let taken = rests_taken (is_empty u.batch) u (entered_rests (idle_if out)) in
      rests_settled (all_passed z.passes (batch_taken u).number (batch_taken u).grace.passed) (batch_taken u) taken

  slots_looked : (pass x : ℕ) → IsIdle v → WaitsRight (looked z.passes v pass x)
  slots_looked pass x idle =
      let taken = rests_taken (is_empty v.batch) v (record { none = none_read idle; owned = own_right.owned }) in
      let u : View = record (batch_taken v) { grace = looked_at (batch_taken v).grace pass x } in
      rests_settled (all_passed z.passes u.number u.grace.passed) u (record { none = taken.none; owned = taken.owned })

  look_by : (pass x : ℕ) → is_even v.section_word ≡ true → (b : Bool) → has_no_lock v ≡ b
      → WaitsRight (cond b (looked z.passes v pass x) (looked_waiting v pass x))
  look_by pass x even true none = slots_looked pass x (idle_if (and_from (is_even v.section_word) (has_no_lock v) even none))
  look_by pass x even false some = own_right

  look_waits : (u : Word) (x : ℕ) → may_look v u value ≡ true → WaitsRight (look_from z v u x)
  look_waits (Section pass) x met = look_by pass x (can_look v pass value met).even (has_no_lock v) refl
  look_waits _ x met = absurd (never met)

  enter_out : may_enter v w value ≡ true → is_outside v ≡ true
  enter_out met =
      let a = is_own_section v.number w in
      (and_parts a (is_outside v) (and_parts (a && is_outside v) (eqb value (v.section_word + 1)) met).0).1

  leave_waits : WaitsRight (left v value)
  leave_waits =
      less v own_right (left v value) refl refl refl refl
      (λ k holds. omega (
        arith,
        holds,
        count-append k (held_slots v.held.nodes) [],
        count-append k (held_slots v.held.nodes) (listed v.update.added),
        count-append k (tree_slots v.reading.tree) (work_nodes v),
      ))

  -- a load of the stamp
  reads_with : (h : SeenHistory) (r : Reading) → h.ended ≡ v.history.ended → ((k : ℕ) → 0 < count k v.batch.nodes → count k (tree_slots r.tree) ≡ 0)
      → WaitsRight (record v { history = h; reading = r })
  reads_with h r ended none = record {
    apart = λ k some holds. own_right.apart k some (works k (none k some) holds);
    owned = λ nameless. own_right.owned (nameless.0, sym ended ∙ nameless.1);
  }
    where
      works : (k : ℕ) → count k (tree_slots r.tree) ≡ 0 → 0 < count k (tree_slots r.tree ++ work_nodes v) → ReadsNode v k
      works k gone holds =
          omega (arith, gone, holds, count-append k (tree_slots r.tree) (work_nodes v), count-append k (tree_slots v.reading.tree) (work_nodes v))

  old_tree : (k : ℕ) → 0 < count k v.batch.nodes → count k (tree_slots v.reading.tree) ≡ 0
  old_tree k some =
      elim (cases_lt 0 (count k (tree_slots v.reading.tree))) as (λ _. count k (tree_slots v.reading.tree) ≡ 0) [
        | inl here ↦ absurd (own_right.apart k some (omega (arith, here, count-append k (tree_slots v.reading.tree) (work_nodes v))))
        | inr gone ↦ omega (arith, gone)
      ]

  new_tree : (k : ℕ) → 0 < count k v.batch.nodes → count k (slots_of (tree_now z m vs)) ≡ 0
  new_tree k some =
      let now = ap (λ t. count k (slots_of t)) (tree_is z m vs right.meaning right.rule) in
      omega (arith, now, once_node z vs right.meaning right.rule.slots k, one_term (own nodes_of k) vs i v at, some)

  stamp_waits : (known : List Update) (x : ℕ) (fixes : Bool) → WaitsRight (stamp_loaded known v x fixes (tree_nodes (tree_now z m vs)))
  stamp_waits known x fixes = announced_by (has_announced v)
    where
      announced_by : (b : Bool) → WaitsRight (record v
          { history = stamp_history known v.history x fixes; reading = stamp_reading v.reading b x fixes (tree_nodes (tree_now z m vs)) })
      announced_by true = reads_with (stamp_history known v.history x fixes) (stamp_reading v.reading true x fixes (tree_nodes (tree_now z m vs))) refl new_tree
      announced_by false =
          reads_with (stamp_history known v.history x fixes) (stamp_reading v.reading false x fixes (tree_nodes (tree_now z m vs))) refl old_tree

  -- the kinds of an update
  raise_waits : (x : ℕ) (o : Option Update) → is_own_update v o ≡ true → may_raise z m vs v w value o ≡ true → WaitsRight (raised_from z m vs v x o)
  raise_waits x None named met = own_right
  raise_waits x (Some u) named met =
      let one = and_parts (may_raise_number v w value) (is_tree_step z m vs v u) met in
      let can = can_raise v w value u one.0 named in
      let move : TreeMove = tree_move z m vs v u in
      let moves = moves_tree z m vs right.meaning right.rule i v at u can.raised can.left one.1 in
      record {
        apart = λ k some holds.
            let old = waiting_old z m vs right.meaning right.rule i v u move _ at moves i k v at (omega (arith, some)) in
            own_right.apart k some (
            omega (
              arith,
              holds,
              old,
              count-append k (tree_slots v.reading.tree) (held_slots v.held.nodes ++ listed move.added),
              count-append k (held_slots v.held.nodes) (listed move.added),
              count-append k (tree_slots v.reading.tree) (work_nodes v),
              count-append k (held_slots v.held.nodes) (listed v.update.added),
            )
            );
        owned = λ nameless. cc (sym can.number ∙ nameless.0);
      }

  -- locks and marks
  locked_waits : (k : ℕ) → count k v.batch.nodes ≡ 0 → WaitsRight (locked_view v k)
  locked_waits k unbatched = record {
    apart = λ j some holds. own_right.apart j some (was_read j some holds);
    owned = own_right.owned;
  }
    where
      held_more : (j : ℕ) → count j (held_slots (v.held.nodes ++ just_locked k ∷ [])) ≡ count j (held_slots v.held.nodes) + count j (k ∷ [])
      held_more j = ap (count j) (slots_push k v.held.nodes) ∙ count-append j (held_slots v.held.nodes) (k ∷ [])

      new_read : (j : ℕ) → 0 < count j v.batch.nodes → 0 < count j (k ∷ []) → ReadsNode v j
      new_read j some here = one_by (eqb k j) refl here
        where
          one_by : (b : Bool) → eqb k j ≡ b → 0 < cond b 1 0 + 0 → ReadsNode v j
          one_by false is one = absurd (omega (arith, one))
          one_by true is one = absurd (omega (arith, unbatched, subst (λ (y : ℕ). 0 < count y v.batch.nodes) (sym (eqb-true k j is)) some))

      was_read : (j : ℕ) → 0 < count j v.batch.nodes → ReadsNode (locked_view v k) j → ReadsNode v j
      was_read j some holds =
          elim (cases_lt 0 (count j (k ∷ []))) as (λ _. ReadsNode v j) [
            | inl here ↦ new_read j some here
            | inr none ↦ omega (
              arith,
              holds,
              none,
              held_more j,
              count-append j (tree_slots v.reading.tree) (held_slots (v.held.nodes ++ just_locked k ∷ []) ++ listed v.update.added),
              count-append j (held_slots (v.held.nodes ++ just_locked k ∷ [])) (listed v.update.added),
              count-append j (tree_slots v.reading.tree) (work_nodes v),
              count-append j (held_slots v.held.nodes) (listed v.update.added),
            )
          ]

  lock_waits : (u : Word) (x : ℕ) → word_at z n ≡ Some u → may_try_lock v u value ≡ true → WaitsRight (tried_from v u value x)
  lock_waits (Node f k) x is met =
      let a = is_lock f in
      let b = not (is_even v.section_word) in
      let c = may_lock v k in
      let d = not (Rattle.core_events.specs.LoadMoves.locks k v.held.nodes) in
      let one = and_parts (a && b && c && d) (names_pass v.number value) met in
      let two = and_parts (a && b && c) d one.0 in
      let three = and_parts (a && b) c two.0 in
      let inside = not_true (is_even v.section_word) (and_parts a b three.0).1 in
      let reach = at_item (ReachesRight z (plain_graph m) vs) vs i v at right.reach in
      tried_by (eqb x 0) (can_lock z m vs right.meaning right.rule i v at (plain_graph m) reach inside k (node_there z n k f is) three.1).apart
    where
      tried_by : (b : Bool) → count k v.batch.nodes ≡ 0 → WaitsRight (cond b (locked_view v k) (met_lock v value x))
      tried_by true unbatched = locked_waits k unbatched
      tried_by false unbatched = own_right
  lock_waits _ x is met = absurd (never met)

  unlock_waits : (u : Word) → WaitsRight (unlocked_from v u)
  unlock_waits (Node f k) = less v own_right (unlocked_view v k) refl refl refl refl read_less
    where
      added_less : (j : ℕ) → count j (listed (update_until (other_nodes k v.held.nodes) v.update).added) ≤ count j (listed v.update.added)
      added_less j =
          until_by (λ (u : Updating). count j (listed u.added) ≤ count j (listed v.update.added)) (other_nodes k v.held.nodes)
          v.update (omega arith) (omega arith)

      held_less : (j : ℕ) → count j (held_slots (other_nodes k v.held.nodes)) ≤ count j (held_slots v.held.nodes)
      held_less j = omega (arith, ap (count j) (slots_other k v.held.nodes), count-without-le j k (held_slots v.held.nodes))

      read_less : (j : ℕ) → ReadsNode (unlocked_view v k) j → ReadsNode v j
      read_less j holds =
          let added = listed (update_until (other_nodes k v.held.nodes) v.update).added in
          omega (
            arith,
            holds,
            added_less j,
            held_less j,
            count-append j (tree_slots v.reading.tree) (held_slots (other_nodes k v.held.nodes) ++ added),
            count-append j (held_slots (other_nodes k v.held.nodes)) added,
            count-append j (tree_slots v.reading.tree) (work_nodes v),
            count-append j (held_slots v.held.nodes) (listed v.update.added),
          )
  unlock_waits _ = own_right

  -- announcements and cuts
  -- a seat that cuts has a pass number
  cut_named : (u : Word) → may_cut z m vs v u value ≡ true → v.number ≡ None → ⊥
  cut_named (Entry part e) met none =
      let idle = nameless_idle _ _ v (seat_at z m vs right.meaning i v at right.rule).section none in
      let one = and_parts _ (may_cut_by z m vs v v.reading.least e) met in
      never (subst (λ (r : Reading). may_cut_by z m vs v r.least e ≡ true) idle.reading one.1)
  cut_named _ met none = never met

  cut_waits : (u : Word) → may_cut z m vs v u value ≡ true → WaitsRight (cut_from z m v u)
  cut_waits (Entry p e) met = record { apart = own_right.apart; owned = λ nameless. absurd (cut_named (Entry p e) met nameless.0) }
  cut_waits _ met = own_right

  -- seats
  joined_waits : (u : View) → WaitsRight u → WaitsRight (joined_with v u)
  joined_waits u other = record { apart = own_right.apart; owned = none_of_both }
    where
      none_of_both : IsNameless (joined_with v u) → HasNoneWaiting (joined_with v u)
      none_of_both nameless =
          let first = both_empty v.history.ended (u.history.ended ++ own_number u.number) nameless.1 in
          let second = both_empty u.history.ended (own_number u.number) first.1 in
          let mine = own_right.owned (nameless.0, first.0) in
          let theirs = other.owned (unnumbered u.number second.1, second.0) in (
            ap (λ (s : Slots). both s (both u.retired u.batch)) mine.0 ∙ ap (λ (s : Slots). both no_slots (both s u.batch)) theirs.0
                ∙ ap (λ (s : Slots). both no_slots (both no_slots s)) theirs.1,
            mine.1,
          )

  nothing_waits : (u : View) → u.retired ≡ no_slots → u.batch ≡ no_slots → WaitsRight u
  nothing_waits u retired batch = record {
    apart = λ k some holds. omega (arith, subst (λ (s : Slots). 0 < count k s.nodes) batch some);
    owned = λ nameless. (retired, batch);
  }

  moved : (u : View) → WaitsRight u → All WaitsRight (set vs i u)
  moved u waits = All-set WaitsRight vs i u waits right.waits

  joined_by : (o : Option View) → slice_get vs value ≡ o → All WaitsRight (join_found vs i v value o)
  joined_by None is = right.waits
  joined_by (Some u) is =
      let of = item_from_get vs value u is in
      All-set WaitsRight (set vs i (joined_with v u)) value spent_view (nothing_waits spent_view refl refl)
      (moved (joined_with v u) (joined_waits u (at_item WaitsRight vs value u of right.waits)))

  split_waits : All WaitsRight (set vs i (split_left v value) ++ split_right v value ∷ [])
  split_waits =
      All-push WaitsRight (set vs i (split_left v value)) (split_right v value)
      (moved (split_left v value) own_right) (nothing_waits (split_right v value) refl refl)

  -- each view's slots wait as they should after an event whose needs are met
  pub waits_after : (kind : Kind) (o : Option Update) → carries kind v o ≡ true → needs kind z m vs i v w value o ≡ true
      → All WaitsRight (views_after kind z m vs i v w value o)
  waits_after MakeSeat o named met = right.waits
  waits_after SplitSeat o named met = split_waits
  waits_after JoinSeat o named met = joined_by (slice_get vs value) refl
  waits_after Enter o named met = moved (entered z.passes v value) (enter_waits (enter_out met))
  waits_after Leave o named met = moved (left v value) leave_waits
  waits_after LookSec o named met = moved (look_from z v w (m w)) (look_waits w (m w) met)
  waits_after LoadStamp o named met = moved _ (stamp_waits (longest vs) (m w) (eqb value 1))
  waits_after Raise o named met = moved _ (raise_waits (m w) o named met)
  waits_after TryLock o named met = moved (tried_from v w value (m w)) (lock_waits w (m w) found met)
  waits_after Unlock o named met = moved (unlocked_from v w) (unlock_waits w)
  waits_after Cut o named met = moved (cut_from z m v w) (cut_waits w met)
  waits_after kind o named met = moved _ (quiet v own_right z m vs (m w) value o kind w (refl, (refl, (refl, (refl, (refl, (refl, tt)))))))
