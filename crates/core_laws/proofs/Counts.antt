-- Where the counts of a view rise.
use Rattle.std.proofs.Common.{◌≡◌, ◌≢◌, ℕ, zero, suc, ◌+◌, ◌<◌, ◌⊎◌, cond, Bool, true, false, not, eqb, ◌&&◌, set, arith, refl, ap, ◌∙◌, sym, subst, slice_index, Option, Some, None}
use Rattle.std.specs.List.{slice_get}
use Rattle.std.proofs.lemmas.Bool.{and_parts, eqb-true}
use Rattle.std.proofs.lemmas.Bool.Decides.{nat_tests}
use Rattle.index_words.specs.declared.view.View.{View}
use Rattle.index_words.specs.declared.word.Field.{Field}
use Rattle.index_words.specs.declared.word.Field.TheVariants.{Lock}
use Rattle.index_words.specs.declared.word.Word.{Word}
use Rattle.index_words.specs.declared.word.Word.TheVariants.{Node}
use Rattle.index_words.specs.Views.{spent_view}
use Rattle.index_words.specs.Words.{Memory, word_at}
use Rattle.key_map.specs.Lists.{IsItem}
use Rattle.core_grace.specs.Sections.{is_even}
use Rattle.core_events.specs.declared.event.Event.{Event}
use Rattle.core_events.specs.declared.event.Kind.{Kind}
use Rattle.core_events.specs.declared.event.Kind.TheVariants.{MakeSeat, SplitSeat, JoinSeat, LoadStamp, LoadHead, LoadTs, Raise, TryLock, LoadMark, LoadLink, LoadTag}
use Rattle.core_laws.specs.Counts.{MeetsLock, FindsNoNumber, FindsOther, FindsMark, FixesPlace, RisesWhere, CountsRise, CountsLaw}
use Rattle.core_events.specs.Tables.{Table, held_by}
use Rattle.core_invariant.specs.Locks.{lock_count}
use Rattle.core_events.specs.LoadMoves.{locks, raised_if}
use Rattle.core_events.specs.LockMoves.{tried, locked_view, met_lock, names_other}
use Rattle.core_events.specs.LockNeeds.{names_pass, may_lock, may_try_lock}
use Rattle.core_events.specs.Moves.{joined_with, split_left, split_right}
use Rattle.core_events.specs.Needs.{is_lock, is_stamp, may_join, may_join_found}
use Rattle.core_invariant.specs.Rule.{IsRight}
use Rattle.core_events.specs.Steps.{needs, carries, allowed_at, after_at, view_after, views_after, join_found, tried_from}
use Rattle.core_invariant.proofs.OneView.{item_from_get}
use Rattle.core_laws.proofs.HeldLocks.{counted_busy}
use Rattle.core_invariant.proofs.Locked.{count-locks}
use Rattle.core_events.proofs.Tests.{never, not_true, not_equal}
use Rattle.core_laws.proofs.Owners.{found_at}
use Rattle.core_laws.proofs.Tallies.{Tally, same_tally, quiet_tally, raised_tally}
use Rattle.core_laws.proofs.CountTests.{stays_by}
use Rattle.core_laws.proofs.SetViews.{set_is, same_is, split_is, join_is}
use Rattle.core_laws.proofs.CountLoads.{not_moved, still, stamp_counts, ts_counts, head_counts, mark_counts, link_counts, tag_counts}

module _ (t : Table) (e : Event) (right : IsRight t) (v : View) (at : IsItem t.views e.seat v) (word : Word) (found : word_at t.layout e.word ≡ Some word) where
  abbrev m : Memory
  m = held_by t

  -- a try of a lock whose word names its pass
  named_of : (o : Option ℕ) (value : ℕ) → names_pass o value ≡ true → (n : ℕ) × (o ≡ Some n) × (value ≡ n + 1)
  named_of None value is = absurd (never is)
  named_of (Some n) value is = (n, refl, eqb-true value (n + 1) is)

  unlocked_count : (k : ℕ) → not (locks k v.held.nodes) ≡ true → lock_count k v ≡ 0
  unlocked_count k none = counted_by (lock_count k v) refl
    where
      counted_by : (n : ℕ) → lock_count k v ≡ n → n ≡ 0
      counted_by zero is = refl
      counted_by (suc n) is = absurd (never (sym (not_true (locks k v.held.nodes) none) ∙ count-locks k v.held.nodes (omega (arith, is))))

  lock_field : (f : Field) (k : ℕ) → word ≡ Node f k → e.kind ≡ TryLock → may_try_lock v (Node f k) e.value ≡ true → CountsRise t e v (tried v k e.value (m (Node f k)))
  lock_field Lock k named is met = lock_by (eqb x 0) refl
    where
      x : ℕ
      x = m (Node Lock k)

      read : slice_index t.words e.word ≡ x
      read = found_at t.layout t.words e.word (Node Lock k) (found ∙ ap Some named)

      apart : TryLock ≡ LoadTs → ⊥
      apart p = cc

      apart_too : TryLock ≡ LoadStamp → ⊥
      apart_too p = cc

      others : (w : View) (busy : RisesWhere (MeetsLock t e) v.counts.busy w.counts.busy) → w.counts.waits ≡ v.counts.waits → w.counts.moves ≡ v.counts.moves → w.history.looks ≡ v.history.looks → CountsRise t e v w
      others w busy waits moves looks = record {
        busy = busy;
        waits = stays_by (FindsNoNumber t e v) v.counts.waits w.counts.waits waits (λ p. apart (sym is ∙ p.kind));
        moves = stays_by (FindsOther t e v ⊎ FindsMark t e v) v.counts.moves w.counts.moves moves (not_moved t e right v at word found TryLock is refl);
        looks = stays_by (FixesPlace e) v.history.looks w.history.looks looks (λ p. apart_too (sym is ∙ p.0));
      }

      counted : 0 < x → names_other e.value x ≡ true
      counted held =
          let b = not (is_even v.section_word) in
          let c = may_lock v k in
          let d = not (locks k v.held.nodes) in
          let one = and_parts (is_lock Lock && b && c && d) (names_pass v.number e.value) met in
          let two = and_parts (is_lock Lock && b && c) d one.0 in
          let own = named_of v.number e.value one.1 in
          subst (λ y. names_other y x ≡ true) (sym own.2)
          (counted_busy t.layout m t.views right.meaning right.rule e.seat k own.0 v at own.1 (unlocked_count k two.1) held)

      lock_by : (b : Bool) → eqb x 0 ≡ b → CountsRise t e v (cond b (locked_view v k) (met_lock v e.value x))
      lock_by true free =
          others (locked_view v k) (stays_by (MeetsLock t e) v.counts.busy v.counts.busy refl (λ p. omega (arith, p.held, read, eqb-true x 0 free))) refl refl refl
      lock_by false held =
          let w : View = met_lock v e.value x in
          let some : 0 < x = positive x held in
          others w (record { rises = λ p. ap (λ b. raised_if b v.counts.busy) (counted some); stays = λ none. absurd (none (record { kind = is; held = omega (arith, read, some) })) }) refl refl refl
        where
          positive : (y : ℕ) → eqb y 0 ≡ false → 0 < y
          positive y p = grind (arith, nat_tests)
  lock_field _ k named is met = absurd (never met)

  lock_counts : (u : Word) → word ≡ u → e.kind ≡ TryLock → may_try_lock v u e.value ≡ true → CountsRise t e v (tried_from v u e.value (m u))
  lock_counts (Node f k) named is met = lock_field f k named is met
  lock_counts _ named is met = absurd (never met)

  -- the view of the seat after an event that moves it alone
  abbrev Moved : Kind → View
  Moved kind = view_after kind t.layout m t.views v word (m word) e.value e.update

  moved_counts : (kind : Kind) → e.kind ≡ kind → needs kind t.layout m t.views e.seat v word e.value e.update ≡ true → CountsRise t e v (Moved kind)
  moved_counts LoadStamp is met = stamp_counts t e right v at word found (Moved LoadStamp) is refl refl
  moved_counts LoadHead is met = head_counts t e right v at word found word refl is met
  moved_counts LoadTs is met = ts_counts t e right v at word found word refl is met
  moved_counts Raise is met = still t e right v at word found Raise (Moved Raise) is (raised_tally t.layout m t.views v word (m word) e.value e.update) refl refl
  moved_counts TryLock is met = lock_counts word refl is met
  moved_counts LoadMark is met = mark_counts t e right v at word found word refl is met
  moved_counts LoadLink is met = link_counts t e right v at word found word refl is met
  moved_counts LoadTag is met = tag_counts t e right v at word found word refl is met
  moved_counts kind is met = still t e right v at word found kind (Moved kind) is (quiet_tally t.layout m t.views v word (m word) e.value e.update kind refl refl) refl refl

  module _ (w : View) where
    join_tally : (o : Option View) → slice_get t.views e.value ≡ o → e.value ≢ e.seat → slice_get (join_found t.views e.seat v e.value o) e.seat ≡ Some w → Tally v w
    join_tally None is apart now = subst (Tally v) (same_is t.views e.seat v at w now) (same_tally v)
    join_tally (Some u) is apart now = subst (Tally v) (join_is t.views e.seat v at w e.value (joined_with v u) spent_view apart now) (record { counts = refl; looks = refl })

    join_apart : may_join t.views e.seat v word e.value ≡ true → e.value ≢ e.seat
    join_apart met =
        let a = not (eqb e.value e.seat) in
        let one = and_parts (is_stamp word && a) (may_join_found v (slice_get t.views e.value)) met in
        not_equal e.value e.seat (and_parts (is_stamp word) a one.0).1

    set_counts : (kind : Kind) → e.kind ≡ kind → needs kind t.layout m t.views e.seat v word e.value e.update ≡ true → slice_get (set t.views e.seat (Moved kind)) e.seat ≡ Some w → CountsRise t e v w
    set_counts kind is met now = subst (CountsRise t e v) (set_is t.views e.seat v at w (Moved kind) now) (moved_counts kind is met)

    pub kind_counts : (kind : Kind) → e.kind ≡ kind → needs kind t.layout m t.views e.seat v word e.value e.update ≡ true
        → slice_get (views_after kind t.layout m t.views e.seat v word e.value e.update) e.seat ≡ Some w → CountsRise t e v w
    kind_counts MakeSeat is met now = absurd (never met)
    kind_counts SplitSeat is met now =
        subst (CountsRise t e v) (split_is t.views e.seat v at w (split_left v e.value) (split_right v e.value) now)
        (still t e right v at word found SplitSeat (split_left v e.value) is (record { counts = refl; looks = refl }) refl refl)
    kind_counts JoinSeat is met now =
        still t e right v at word found JoinSeat w is (join_tally (slice_get t.views e.value) refl (join_apart met) now) refl refl
    kind_counts kind is met now = set_counts kind is met now

counts_at : (t : Table) (e : Event) (v w : View) (o : Option Word) → word_at t.layout e.word ≡ o → IsRight t → slice_get t.views e.seat ≡ Some v → allowed_at t e (Some v) o ≡ true
    → slice_get (after_at t e (Some v) o).views e.seat ≡ Some w → CountsRise t e v w
counts_at t e v w None found right is met now = absurd (never met)
counts_at t e v w (Some word) found right is met now =
    let c = needs e.kind t.layout (held_by t) t.views e.seat v word e.value e.update in
    let need = (and_parts (carries e.kind v e.update && not v.joined) c met).1 in
    kind_counts t e right v (item_from_get t.views e.seat v is) word found w e.kind refl need now

pub counts_law : CountsLaw
counts_law t e v w right met is now =
    counts_at t e v w (word_at t.layout e.word) refl right is
    (subst (λ o. allowed_at t e o (word_at t.layout e.word) ≡ true) is met)
    (subst (λ o. slice_get (after_at t e o (word_at t.layout e.word)).views e.seat ≡ Some w) is now)
