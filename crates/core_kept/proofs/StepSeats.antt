-- An event of a seat, or of its free slots, that is allowed keeps the rule.
use Rattle.std.proofs.Common.{◌≡◌, ℕ, ◌+◌, ◌<◌, List, [], ◌∷◌, ◌++◌, length, Bool, true, false, not, eqb, cond, ◌≤◌, arith, ap, ◌&&◌, ◌||◌, inl, inr, set, refl, ◌∙◌, sym, subst, Option, Some, None, is_none, is_some, ◌⊎◌}
use Rattle.std.specs.List.{slice_get}
use Rattle.std.proofs.lemmas.Bool.{and_parts, eqb-true, and_from}
use Rattle.index_words.specs.declared.view.reading.Reading.{Reading}
use Rattle.index_words.specs.declared.layout.Layout.{Layout}
use Rattle.index_words.specs.declared.view.View.{View}
use Rattle.index_words.specs.declared.view.slots.Slots.{Slots}
use Rattle.index_words.specs.declared.word.Word.{Word}
use Rattle.index_words.specs.declared.word.Word.TheVariants.{Stamp, Section, Announced, Node, Entry}
use Rattle.index_words.specs.Words.{Memory, memory, written, word_at}
use Rattle.key_map.specs.Lists.{count, has, Every, IsItem}
use Rattle.key_map.proofs.Counting.{has-count}
use Rattle.index_words.proofs.Seats.{at_item}
use Rattle.index_words.specs.Views.{spent_view}
use Rattle.core_grace.specs.Sections.{is_even}
use Rattle.core_grace.specs.Batches.{looked}
use Rattle.core_events.specs.declared.event.Kind.TheVariants.{SplitSeat, JoinSeat, Enter, Leave, LookSec, Fill, Announce}
use Rattle.core_events.specs.Needs.{has_none_waiting, is_outside, is_own_section, may_enter, may_fill, may_join, may_join_found, may_join_view, is_stamp, is_lock}
use Rattle.core_events.specs.Waits.{has_no_lock, looked_by, looked_waiting, may_leave, may_look}
use Rattle.core_events.specs.FillMoves.{filled_view}
use Rattle.core_events.specs.Announcing.{may_announce, is_own_announced, is_announcement, announced_view}
use Rattle.core_events.specs.Moves.{entered, left, split_left, split_right, joined_with}
use Rattle.core_invariant.specs.Rule.{Rule, InRule}
use Rattle.core_invariant.specs.LinkLaw.{Kept}
use Rattle.core_events.specs.Steps.{views_after, join_found}
use Rattle.core_invariant.specs.UnusedSlots.{UnusedRight}
use Rattle.core_invariant.proofs.OneView.{item_from_get, seat_at}
use Rattle.core_events.proofs.Tests.{never, not_equal, either_true, not_true, none_of}
use Rattle.core_invariant.proofs.Needed.{own_section, own_announced, outside_idle}
use Rattle.core_invariant.proofs.Joins.{begins-le}
use Rattle.core_kept.proofs.Announces.{announce_kept}
use Rattle.core_kept.proofs.EachKind.{enter_kept, look_kept, look_waiting_kept}
use Rattle.core_kept.proofs.Leaves.{leave_kept}
use Rattle.core_invariant.specs.SectionRule.{IsIdle, IsKeptLock}
use Rattle.core_invariant.proofs.WaitNeeds.{NoLockOrWait, CanLook, can_leave, can_look, nothing_is, waiting_is}
use Rattle.index_words.specs.declared.view.update.HeldNode.{HeldNode}
use Rattle.core_invariant.proofs.Idle.{nameless_idle}
use Rattle.core_kept.proofs.Fills.{node_stored, entry_stored}
use Rattle.core_kept.proofs.FillViews.{fill_kept, node_zeros, entry_zeros}
use Rattle.core_kept.proofs.PlainKept.{quiet_work, entered_work, looked_work, plain_quiet, quiet_pushed, quiet_joined, plain_filled}
use Rattle.core_kept.proofs.TwoViews.{split_kept, join_kept}
use Rattle.core_invariant.specs.PlainRule.{PlainRight}
use Rattle.core_invariant.specs.KeptRule.{After, KeepsRuleAt}
use Rattle.core_invariant.proofs.KeptViews.{kept_same, store_right, load_right}

module _ (z : Layout) (words : List ℕ) (vs : List View) (right : InRule z words vs) (i : ℕ) (v : View) (at : IsItem vs i v) (live : v.joined ≡ false) (n : ℕ)
    (w : Word) (found : word_at z n ≡ Some w) (value : ℕ) where
  abbrev m : Memory
  m = memory z words

  abbrev Gives : List ℕ → List View → Type 0
  Gives = After z words vs right

  one_kept : (m' : Memory) (ws : List View) → Rule z m' ws right.meaning → (PlainRight m vs right.meaning → PlainRight m' ws right.meaning)
      → Kept z m vs right.meaning m' ws
  one_kept m' ws rule plain = kept_same z m vs right.meaning m' ws rule plain

  -- at the own word of a section or of an announcement
  word_plain : (u : Word) (y : View) → w ≡ u → (PlainRight m vs right.meaning → PlainRight (written m u value) (set vs i y) right.meaning)
      → PlainRight m vs right.meaning
      → PlainRight (written m w value) (set vs i y) right.meaning
  word_plain u y is plain = subst (λ x. PlainRight m vs right.meaning → PlainRight (written m x value) (set vs i y) right.meaning) (sym is) plain

  pub enter_right : may_enter v w value ≡ true → Gives (set words n value) (set vs i (entered z.passes v value))
  enter_right met =
      let parts = and_parts (is_own_section v.number w && is_outside v) (eqb value (v.section_word + 1)) met in
      let first = and_parts (is_own_section v.number w) (is_outside v) parts.0 in
      let own = own_section v.number w first.0 in
      store_right z words vs n value w right (set vs i (entered z.passes v value)) found
      (one_kept (written m w value) (set vs i (entered z.passes v value))
      (subst (λ u. Rule z (written m u value) (set vs i (entered z.passes v value)) right.meaning) (sym own.word)
      (enter_kept z m vs right.meaning i own.n value v at right.rule own.named first.1))
      (word_plain (Section own.n) (entered z.passes v value) own.word
      (plain_quiet m right.meaning vs i v (entered z.passes v value) at (entered_work z.passes value v))))

  -- each lock that is held at a leave is one of those that are kept
  leaves_with : NoLockOrWait v → Every (IsKeptLock v.update.taken) v.held.nodes × ((v.held.nodes ≡ []) ⊎ (is_some v.update.raised ≡ true))
  leaves_with (inl none) = (subst (Every (IsKeptLock v.update.taken)) (sym none) tt, inl none)
  leaves_with (inr waits) = let wait = waiting_is v waits in (wait.kept, inr wait.raised)

  pub leave_right : may_leave m v w value ≡ true → Gives (set words n value) (set vs i (left v value))
  leave_right met =
      let can = can_leave m v w value met in
      let own = can.own in
      let ready = leaves_with can.may in
      store_right z words vs n value w right (set vs i (left v value)) found
      (one_kept (written m w value) (set vs i (left v value))
      (subst (λ u. Rule z (written m u value) (set vs i (left v value)) right.meaning) (sym own.word)
      (leave_kept z m vs right.meaning right.rule i own.n value v at own.named can.inside (nothing_is m v can.nothing).pending ready.0 ready.1))
      (word_plain (Section own.n) (left v value) own.word
      (plain_quiet m right.meaning vs i v (left v value) at (quiet_work v (left v value) refl refl refl refl))))

  announce_by : (even : Bool) → is_even v.section_word ≡ even
      → cond even (eqb value 0) (is_none v.reading.section && eqb value (length v.history.seen + 1)) ≡ true
      → (v.reading.section ≡ None) × (value ≤ m Stamp + 1)
  announce_by true even met =
      let seat = seat_at z m vs right.meaning i v at right.rule in
      (ap (λ (r : Reading). r.section) (seat.section.outside even), omega (arith, eqb-true value 0 met))
  announce_by false odd met =
      let parts = and_parts (is_none v.reading.section) (eqb value (length v.history.seen + 1)) met in
      let short = begins-le right.meaning.updates v.history.seen (seat_at z m vs right.meaning i v at right.rule).seen.seen in
      (none_of v.reading.section parts.0, omega (arith, eqb-true value (length v.history.seen + 1) parts.1, short, right.rule.history.long))

  pub announce_right : may_announce v w value ≡ true → Gives (set words n value) (set vs i (announced_view v value))
  announce_right met =
      let parts = and_parts (is_own_announced v.number w) (is_announcement v value) met in
      let own = own_announced v.number w parts.0 in
      let may = announce_by (is_even v.section_word) refl parts.1 in
      store_right z words vs n value w right (set vs i (announced_view v value)) found
      (one_kept (written m w value) (set vs i (announced_view v value))
      (subst (λ u. Rule z (written m u value) (set vs i (announced_view v value)) right.meaning) (sym own.word)
      (announce_kept z m vs right.meaning right.rule i own.n value v at own.named may.0 may.1))
      (word_plain (Announced own.n) (announced_view v value) own.word
      (plain_quiet m right.meaning vs i v (announced_view v value) at (quiet_work v (announced_view v value) refl refl refl refl))))

  look_by : (pass : ℕ) → CanLook v pass → (b : Bool) → has_no_lock v ≡ b
      → Rule z m (set vs i (cond b (looked z.passes v pass (m (Section pass))) (looked_waiting v pass (m (Section pass))))) right.meaning
  look_by pass can true none = look_kept z m vs right.meaning i pass v at right.rule can.other (and_from (is_even v.section_word) (has_no_lock v) can.even none)
  look_by pass can false some =
      look_waiting_kept z m vs right.meaning i pass v at right.rule can.even
      (λ none. never (sym some ∙ ap (λ (hs : List HeldNode). eqb (length hs) 0) none))

  pub look_found : (u : Word) → may_look v u value ≡ true → Gives words (views_after LookSec z m vs i v u value None)
  look_found (Section pass) met =
      let can = can_look v pass value met in
      load_right z words vs right (set vs i (looked_by z.passes v pass (m (Section pass)))) (look_by pass can (has_no_lock v) refl)
      (plain_quiet m right.meaning vs i v (looked_by z.passes v pass (m (Section pass))) at (looked_work z.passes pass (m (Section pass)) v))
  look_found _ met = absurd (never met)

  pub fill_found : (u : Word) → word_at z n ≡ Some u → may_fill v u ≡ true → Gives (set words n value) (set vs i (filled_view v u value))
  fill_found (Node f k) is met =
      let parts = and_parts (not (is_lock f)) (has k v.free.nodes) met in
      let free = has-count k v.free.nodes parts.1 in
      store_right z words vs n value (Node f k) right (set vs i (filled_view v (Node f k) value)) is
      (one_kept (written m (Node f k) value) (set vs i (filled_view v (Node f k) value))
      (fill_kept z m right.meaning i (Node f k) value vs right.rule v at
      (λ us u rule here same fresh. node_stored z m us right.meaning rule i k u f value here (subst (λ (s : Slots). 0 < count k s.nodes) (sym same) free)
      (not_true (is_lock f) parts.0) fresh)
      (node_zeros m v k f (at_item (UnusedRight m) vs i v at right.unused) free))
      (plain_filled z m vs right.meaning right.rule i v at value (Node f k) met))
  fill_found (Entry p e) is met =
      let free = has-count e v.free.entries met in
      store_right z words vs n value (Entry p e) right (set vs i (filled_view v (Entry p e) value)) is
      (one_kept (written m (Entry p e) value) (set vs i (filled_view v (Entry p e) value))
      (fill_kept z m right.meaning i (Entry p e) value vs right.rule v at
      (λ us u rule here same fresh. entry_stored z m us right.meaning rule i e u here
      (subst (λ (s : Slots). 0 < count e s.entries) (sym same) free) p value fresh)
      (entry_zeros m v e p (at_item (UnusedRight m) vs i v at right.unused) free))
      (plain_filled z m vs right.meaning right.rule i v at value (Entry p e) met))
  fill_found _ is met = absurd (never met)

  pub split_right' : Gives words (set vs i (split_left v value) ++ split_right v value ∷ [])
  split_right' =
      load_right z words vs right (set vs i (split_left v value) ++ split_right v value ∷ [])
      (split_kept z m vs right.meaning i value v at right.rule live)
      (quiet_pushed m right.meaning vs i v (split_left v value) (split_right v value) at (quiet_work v _ refl refl refl refl) refl)

  -- the other seat has nothing under way; and no slot of it waits, or the joining one is outside
  pub record CanJoin (u : View) : Type 0 where
    pub idle : IsIdle u
    pub waits : (has_none_waiting u ≡ true) ⊎ (is_even v.section_word ≡ true)

  pub can_join : (u : View) → IsItem vs value u → may_join_view v u ≡ true → CanJoin u
  can_join u of met =
      let bare : Bool = is_none u.number && has_none_waiting u in
      elim (either_true bare (is_outside v && is_outside u) (and_parts (not u.joined) (bare || (is_outside v && is_outside u)) met).1) as (λ _. CanJoin u) [
        | inl none ↦
            let parts = and_parts (is_none u.number) (has_none_waiting u) none in
            record {
              idle =
                  nameless_idle (λ k. m (Section k)) (λ k. m (Announced k)) u
                  (seat_at z m vs right.meaning value u of right.rule).section (none_of u.number parts.0);
              waits = inl parts.1;
            }
        | inr both ↦
            let parts = and_parts (is_outside v) (is_outside u) both in
            record {
              idle = outside_idle z m vs right.meaning value u of right.rule parts.1;
              waits = inr (and_parts (is_even v.section_word) (eqb (length v.held.nodes) 0) parts.0).0;
            }
      ]

  join_by : (o : Option View) → slice_get vs value ≡ o → (value ≡ i → ⊥) → may_join_found v o ≡ true → Gives words (join_found vs i v value o)
  join_by None is other met = load_right z words vs right vs right.rule (λ plain. plain)
  join_by (Some u) is other met =
      let of = item_from_get vs value u is in
      let idle = (can_join u of met).idle in
      load_right z words vs right (set (set vs i (joined_with v u)) value spent_view)
      (join_kept z m vs right.meaning i value v u at of other idle right.rule)
      (quiet_joined m right.meaning vs i value v (joined_with v u) u at of other (quiet_work v _ refl refl refl refl) idle.update)

  pub join_right : may_join vs i v w value ≡ true → Gives words (join_found vs i v value (slice_get vs value))
  join_right met =
      let one = and_parts (is_stamp w && not (eqb value i)) (may_join_found v (slice_get vs value)) met in
      let two = and_parts (is_stamp w) (not (eqb value i)) one.0 in
      join_by (slice_get vs value) refl (not_equal value i two.1) one.1

pub split_law : KeepsRuleAt SplitSeat
split_law z words vs right i v at live n w found value o own met = split_right' z words vs right i v at live n w found value

pub join_law : KeepsRuleAt JoinSeat
join_law z words vs right i v at live n w found value o own met = join_right z words vs right i v at live n w found value met

pub enter_law : KeepsRuleAt Enter
enter_law z words vs right i v at live n w found value o own met = enter_right z words vs right i v at live n w found value met

pub leave_law : KeepsRuleAt Leave
leave_law z words vs right i v at live n w found value o own met = leave_right z words vs right i v at live n w found value met

pub look_law : KeepsRuleAt LookSec
look_law z words vs right i v at live n w found value o own met = look_found z words vs right i v at live n w found value w met

pub announce_law : KeepsRuleAt Announce
announce_law z words vs right i v at live n w found value o own met = announce_right z words vs right i v at live n w found value met

pub fill_law : KeepsRuleAt Fill
fill_law z words vs right i v at live n w found value o own met = fill_found z words vs right i v at live n w found value w found met
