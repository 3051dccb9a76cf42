-- A seat whose view meets the need of an event may make it, in every table that meets the rule.
use Rattle.std.proofs.Common.{◌≡◌, ◌≢◌, ℕ, ◌+◌, ◌<◌, ◌≤◌, ◌⊎◌, cond, List, length, Bool, true, false, not, eqb, ◌&&◌, ◌||◌, arith, refl, ap, ◌∙◌, subst, inl, inr, Option, Some, None, is_none}
use Rattle.std.specs.Prelude.{nat_lt, nat_le}
use Rattle.std.specs.List.{slice_get}
use Rattle.std.proofs.lemmas.Bool.{eq-eqb, ne_eqb}
use Rattle.index_words.specs.declared.layout.Layout.{Layout}
use Rattle.index_words.specs.declared.side.Side.{Side}
use Rattle.index_words.specs.declared.view.View.{View}
use Rattle.index_words.specs.declared.view.reading.Place.{Place}
use Rattle.index_words.specs.declared.view.reading.Place.TheVariants.{Entry as AtEntry}
use Rattle.index_words.specs.declared.view.update.HeldNode.{HeldNode}
use Rattle.index_words.specs.declared.view.update.LoadedHead.{LoadedHead}
use Rattle.index_words.specs.declared.word.Part.{Part}
use Rattle.index_words.specs.declared.word.Field.{Field}
use Rattle.index_words.specs.declared.word.Field.TheVariants.{Key, Val, Lock, Mark, Head}
use Rattle.index_words.specs.declared.word.Part.TheVariants.{Child, Stamp as Number, Next}
use Rattle.index_words.specs.declared.word.Word.{Word}
use Rattle.index_words.specs.declared.word.Word.TheVariants.{Stamp, Section, Node, Entry}
use Rattle.index_words.specs.Words.{Memory, memory, is_there}
use Rattle.index_words.proofs.Seats.{one_term}
use Rattle.key_map.specs.Lists.{count, has, IsItem}
use Rattle.key_map.proofs.Counting.{count-has}
use Rattle.core_grace.specs.Batches.{is_number, is_empty}
use Rattle.core_grace.specs.Sections.{is_even, left_word}
use Rattle.core_grace.specs.Slots.{own, nodes_of, entries_in}
use Rattle.core_events.specs.declared.event.Kind.TheVariants.{SplitSeat, JoinSeat, Enter, Leave, LookSec, Fill, LoadStamp, LoadHead, LoadTs, LoadPtr, LoadNext, Prepare, Finalise, TryLock, Unlock, LoadMark, Mark as MarkNode, LoadKeyOrVal}
use Rattle.core_events.specs.Tables.{Table}
use Rattle.core_events.proofs.Tests.{has_announced-is}
use Rattle.core_invariant.specs.BundleRule.{IsPending}
use Rattle.core_invariant.specs.Readers.{IsLocked}
use Rattle.core_invariant.specs.Rule.{InRule}
use Rattle.core_invariant.specs.SeatRule.{SeatRight}
use Rattle.core_events.specs.Announcing.{has_announced}
use Rattle.core_events.specs.LoadMoves.{locks, is_above}
use Rattle.core_events.specs.LoadNeeds.{is_reachable, stands_at, may_go_on, is_part}
use Rattle.core_events.specs.LockNeeds.{is_pair, may_lock, names_pass}
use Rattle.core_events.specs.PlainNeeds.{is_done_at}
use Rattle.core_events.specs.Needs.{is_lock, is_outside, is_own_section, is_stamp, nothing_pending, has_none_waiting, may_join_found}
use Rattle.core_events.specs.Waits.{has_no_lock, has_to_look, is_waiting}
use Rattle.core_laws.specs.Owners.{HasFreeNode, HasFreeEntry}
use Rattle.core_events.specs.Steps.{allowed}
use Rattle.core_invariant.specs.FilledRule.{FilledRight}
use Rattle.core_events.specs.UpdateNeeds.{held_at, is_next_of, is_ready, is_slot_number, is_written, side_of}
use Rattle.core_laws.proofs.Remembered.{every_item}
use Rattle.core_laws.specs.ViewNeeds.{event_at, IsInside, IsAtEntry, MayEnter, MayLeave, MayLook, MayFill, MayReadHead, MayReadNumber, MayReadChild, MayReadNext, HasFilled, MayPrepare, MayFinalise, MayLock, MayUnlock, MayReadMark, MayReadPair, MayMark, MaySplit, MayJoin, EnterLaw, LeaveLaw, LookLaw, FillLaw, LoadStampLaw, FixLaw, ReadHeadLaw, ReadNumberLaw, ReadChildLaw, ReadNextLaw, PrepareLaw, FinaliseLaw, LockLaw, UnlockLaw, ReadMarkLaw, MarkLaw, ReadKeyLaw, ReadValLaw, SplitLaw, JoinLaw}
use Rattle.core_invariant.proofs.OneView.{item_from_get, seat_at}
use Rattle.core_invariant.proofs.Frames.{every_at}
use Rattle.core_invariant.proofs.Locked.{work_holds, locks-count, count-locks}
use Rattle.core_invariant.proofs.Owned.{chain_head, entry_there, free_entry_some, held_live, in_entries, slot_high}
use Rattle.core_laws.proofs.ViewTests.{reaches, lock_tested, both, left_of, right_of, not_of, never_of, at_most, below, found-locks, none_is, none_waiting, number_is, other_number, own_section_is, empty_length, some_length, outside_is}
use Rattle.core_laws.proofs.AtWork.{alive, inside_alive, named_alive, locked_alive, allowed_by, reach_there, searched_there, section_there, own_there, nothing_by, done_by}

module _ (z : Layout) (words : List ℕ) (vs : List View) (right : InRule z words vs) (i : ℕ) (v : View) (is : slice_get vs i ≡ Some v) where
  abbrev m : Memory
  m = memory z words

  abbrev t : Table
  t = record { layout = z; words = words; views = vs }

  at : IsItem vs i v
  at = item_from_get vs i v is

  seat : SeatRight z m right.meaning v
  seat = seat_at z m vs right.meaning i v at right.rule

  pub enter_may : (n : ℕ) → MayEnter v n → allowed t (event_at z i Enter (Section n) (v.section_word + 1)) ≡ true
  enter_may n may =
      allowed_by z words vs right i v is Enter (Section n) (v.section_word + 1) (named_alive z words vs right i v is n may.own) (own_there z words vs right i v is n may.own) refl
      (both (is_own_section v.number (Section n) && is_outside v) (eqb (v.section_word + 1) (v.section_word + 1))
      (both (is_own_section v.number (Section n)) (is_outside v) (own_section_is n v.number may.own) (outside_is v may.outside)) (eq-eqb (v.section_word + 1) (v.section_word + 1) refl))

  pub leave_by : (n : ℕ) → v.number ≡ Some n → IsInside v → (has_no_lock v || is_waiting v) ≡ true → nothing_pending m v ≡ true
      → allowed t (event_at z i Leave (Section n) (left_word v.section_word)) ≡ true
  leave_by n own inside may nothing =
      let a = is_own_section v.number (Section n) in
      let b = not (is_even v.section_word) in
      let c = has_no_lock v || is_waiting v in
      let d = nothing_pending m v in
      allowed_by z words vs right i v is Leave (Section n) (left_word v.section_word) (named_alive z words vs right i v is n own) (own_there z words vs right i v is n own) refl
      (both (a && b && c && d) (eqb (left_word v.section_word) (left_word v.section_word))
      (both (a && b && c) d (both (a && b) c (both a b (own_section_is n v.number own) (not_of (is_even v.section_word) inside)) may) nothing)
      (eq-eqb (left_word v.section_word) (left_word v.section_word) refl))

  pub leave_may : (n : ℕ) → MayLeave v n → allowed t (event_at z i Leave (Section n) (left_word v.section_word)) ≡ true
  leave_may n may = leave_by n may.own may.inside (left_of (has_no_lock v) (is_waiting v) (empty_length v.held.nodes may.unlocked)) (nothing_by z words vs right i v is may.unlocked)

  pub look_by : (pass : ℕ) → v.joined ≡ false → pass < v.layout.passes → v.number ≢ Some pass → is_even v.section_word ≡ true → has_to_look v ≡ true
      → allowed t (event_at z i LookSec (Section pass) 0) ≡ true
  look_by pass live there other even looks =
      let a = not (is_number pass v.number) in
      let b = is_even v.section_word in
      let c = has_to_look v in
      allowed_by z words vs right i v is LookSec (Section pass) 0 live (section_there z words vs right i v is pass there live) refl
      (both (a && b && c) (eqb 0 0) (both (a && b) c (both a b (not_of (is_number pass v.number) (other_number pass v.number other)) even) looks) refl)

  pub look_may : (pass : ℕ) → MayLook v pass → allowed t (event_at z i LookSec (Section pass) 0) ≡ true
  look_may pass may =
      let c = not (is_empty v.batch && is_empty v.retired) in
      look_by pass (alive z words vs right i v is (λ (x : View). (is_empty x.batch && is_empty x.retired) ≡ false) may.waiting (λ none. cc)) may.there may.other may.outside.even
      (ap (λ (b : Bool). cond b c (is_waiting v)) (empty_length v.held.nodes may.outside.unlocked) ∙ not_of (is_empty v.batch && is_empty v.retired) may.waiting)

  fill_node : (f : Field) (k value : ℕ) → is_lock f ≡ false → HasFreeNode v k → allowed t (event_at z i Fill (Node f k) value) ≡ true
  fill_node f k value other free =
      allowed_by z words vs right i v is Fill (Node f k) value (alive z words vs right i v is (λ x. HasFreeNode x k) free (λ none. omega (arith, none)))
      (at_most k z.nodes (slot_high z.nodes k (omega (arith, right.rule.slots.nodes.one k, one_term (own nodes_of k) vs i v at, free)))) refl
      (both (not (is_lock f)) (has k v.free.nodes) (not_of (is_lock f) other) (count-has k v.free.nodes free))

  entry_is : (e : ℕ) → 0 < e → e ≤ z.entries → (nat_lt 0 e && nat_le e z.entries) ≡ true
  entry_is e some high = both (nat_lt 0 e) (nat_le e z.entries) (below 0 e some) (at_most e z.entries high)

  pub fill_may : (w : Word) (value : ℕ) → MayFill v w → allowed t (event_at z i Fill w value) ≡ true
  fill_may (Node f k) value may = fill_node f k value may.0 may.1
  fill_may (Entry p e) value may =
      allowed_by z words vs right i v is Fill (Entry p e) value (alive z words vs right i v is (λ x. HasFreeEntry x e) may (λ none. omega (arith, none)))
      (entry_is e (free_entry_some z vs right.meaning right.rule.slots i e v at may)
      (slot_high z.entries e (omega (arith, right.rule.slots.entries.one e, one_term (own entries_in e) vs i v at, may)))) refl
      (count-has e v.free.entries may)
  fill_may _ value may = absurd may

  stamp_by : (value : ℕ) → (eqb value 0 || (eqb value 1 && has_announced v)) ≡ true → IsInside v → v.reading.opened ≡ None → allowed t (event_at z i LoadStamp Stamp value) ≡ true
  stamp_by value few inside closed =
      let b = not (is_even v.section_word) in
      let c = is_none v.reading.opened in
      allowed_by z words vs right i v is LoadStamp Stamp value (inside_alive z words vs right i v is inside) refl refl
      (both (is_stamp Stamp && b && c) (eqb value 0 || (eqb value 1 && has_announced v)) (both (is_stamp Stamp && b) c (both (is_stamp Stamp) b refl (not_of (is_even v.section_word) inside)) (none_is v.reading.opened closed)) few)

  pub head_may : (k : ℕ) (side : Side) → MayReadHead v k → allowed t (event_at z i LoadHead (Node (Head side) k) 0) ≡ true
  head_may k side may =
      let b = not (is_even v.section_word) in
      let c = is_reachable v k in
      allowed_by z words vs right i v is LoadHead (Node (Head side) k) 0 (inside_alive z words vs right i v is may.inside) (reach_there z words vs right i v is (Head side) k may.reach) refl
      (both (b && c) (eqb 0 0) (both b c (not_of (is_even v.section_word) may.inside) (reaches v k may.reach)) refl)

  module _ (e : ℕ) (stood : IsAtEntry v e) where
    entry_alive : v.joined ≡ false
    entry_alive = alive z words vs right i v is (λ (x : View). x.reading.place ≡ AtEntry stood.node stood.side e stood.found) stood.place (λ none. cc)

    entry_high : e ≤ z.entries
    entry_high = subst (λ (y : Layout). e ≤ y.entries) (seat.layout entry_alive) stood.there

    stands : stands_at v.reading.place e ≡ true
    stands = ap (λ (p : Place). stands_at p e) stood.place ∙ eq-eqb e e refl

    goes_on : IsLocked v stood.node ⊎ (is_above v e stood.found ≡ true) → may_go_on v v.reading.place e ≡ true
    goes_on on = ap (λ (p : Place). may_go_on v p e) stood.place ∙ on_by on
      where
        on_by : IsLocked v stood.node ⊎ (is_above v e stood.found ≡ true) → (locks stood.node v.held.nodes || is_above v e stood.found) ≡ true
        on_by (inl locked) = left_of (locks stood.node v.held.nodes) (is_above v e stood.found) (count-locks stood.node v.held.nodes locked)
        on_by (inr above) = right_of (locks stood.node v.held.nodes) (is_above v e stood.found) above

  pub number_may : (e : ℕ) → MayReadNumber v e → allowed t (event_at z i LoadTs (Entry Number e) 0) ≡ true
  number_may e may =
      allowed_by z words vs right i v is LoadTs (Entry Number e) 0 (entry_alive e may.at) (entry_is e may.at.some (entry_high e may.at)) refl
      (both (is_part Number Number && stands_at v.reading.place e) (eqb 0 0) (both (is_part Number Number) (stands_at v.reading.place e) refl (stands e may.at)) refl)

  pub child_may : (e : ℕ) → MayReadChild v e → allowed t (event_at z i LoadPtr (Entry Child e) 0) ≡ true
  child_may e may =
      allowed_by z words vs right i v is LoadPtr (Entry Child e) 0 (entry_alive e may.at) (entry_is e may.at.some (entry_high e may.at)) refl
      (both (is_part Child Child && stands_at v.reading.place e) (eqb 0 0) (both (is_part Child Child) (stands_at v.reading.place e) refl (stands e may.at)) refl)

  pub next_may : (e : ℕ) → MayReadNext v e → allowed t (event_at z i LoadNext (Entry Next e) 0) ≡ true
  next_may e may =
      allowed_by z words vs right i v is LoadNext (Entry Next e) 0 (entry_alive e may.at) (entry_is e may.at.some (entry_high e may.at)) refl
      (both (is_part Next Next && stands_at v.reading.place e && eqb 0 0) (may_go_on v v.reading.place e)
      (both (is_part Next Next && stands_at v.reading.place e) (eqb 0 0) (both (is_part Next Next) (stands_at v.reading.place e) refl (stands e may.at)) refl) (goes_on e may.at may.on))

  pending_high : (e : ℕ) → 0 < count e v.update.pending → (0 < e) × (e ≤ z.entries)
  pending_high e some =
      let rule = right.rule in
      let g = right.meaning in
      let head = (every_at (IsPending z (λ s k. m (Node (Head s) k)) (λ d. m (Entry Number d)) g.bundles.number v) e v.update.pending seat.pending some).2 in
      let live = held_live z vs g rule.slots i head.node v at (work_holds v head.node head.of) head.there in (
        head.some,
        elim (chain_head (λ d. m (Entry Next d)) (m (Node (Head head.side) head.node)) (g.bundles.bundle head.side head.node) (rule.bundles head.node live head.side).chain) as (λ _. e ≤ z.entries) [
          | inl none ↦ absurd (omega (arith, none, head.is, head.some))
          | inr here ↦ entry_there z vs g rule.slots head.node e live (in_entries g.bundles head.node e head.side (subst (λ d. 0 < count d (g.bundles.bundle head.side head.node)) head.is here))
        ],
      )

  -- a filled word of an own free entry holds what was put in
  filled_is : (p : Part) (e x : ℕ) → HasFreeEntry v e → HasFilled v (Entry p e) x → m (Entry p e) ≡ x
  filled_is p e x free put = every_item (FilledRight m v.free v.update) v.reading.filled put.place (record { word = Entry p e; value = x }) put.is seat.filled (inl free)

  ready_by : (side : Side) (e : ℕ) (h : HeldNode) (o : Option HeldNode) (l : LoadedHead) → o ≡ Some h → h.mark ≡ Some 0 → (side_of side h).head ≡ Some l
      → (l.entry ≡ 0) ⊎ (is_written l.stamp ≡ true) → m (Entry Next e) ≡ l.entry → is_ready m side e o ≡ true
  ready_by side e h o l is unmarked loaded old next =
      ap (is_ready m side e) is
      ∙ both (is_number 0 h.mark) (is_next_of m e (side_of side h).head) (number_is 0 h.mark unmarked)
      (ap (is_next_of m e) loaded
      ∙ both (eqb l.entry 0 || is_written l.stamp) (eqb (m (Entry Next e)) l.entry) (elim old as (λ _. (eqb l.entry 0 || is_written l.stamp) ≡ true) [
        | inl none ↦ left_of (eqb l.entry 0) (is_written l.stamp) (eq-eqb l.entry 0 none)
        | inr written ↦ right_of (eqb l.entry 0) (is_written l.stamp) written
      ]) (eq-eqb (m (Entry Next e)) l.entry next))

  pub prepare_may : (k : ℕ) (side : Side) (e : ℕ) → MayPrepare v k side e → allowed t (event_at z i Prepare (Node (Head side) k) e) ≡ true
  prepare_may k side e may =
      let a = is_none v.update.raised in
      let b = is_ready m side e (held_at k v.held.nodes) in
      let c = has e v.free.entries in
      let d = eqb (m (Entry Number e)) 0 in
      let locked : IsLocked v k = locks-count k v.held.nodes (found-locks k v.held.nodes may.node may.locked) in
      allowed_by z words vs right i v is Prepare (Node (Head side) k) e (locked_alive z words vs right i v is k locked) (reach_there z words vs right i v is (Head side) k (inr (inr locked))) refl
      (both (is_slot_number e) (a && b && c && d) (below e 4294967296 may.small)
      (both (a && b && c) d
      (both (a && b) c
      (both a b (none_is v.update.raised may.unraised)
      (ready_by side e may.node (held_at k v.held.nodes) may.head may.locked may.unmarked may.loaded may.old (filled_is Next e may.head.entry may.free may.next)))
      (count-has e v.free.entries may.free))
      (eq-eqb (m (Entry Number e)) 0 (filled_is Number e 0 may.free may.unnumbered))))

  pub finalise_may : (e place : ℕ) → MayFinalise v e place → allowed t (event_at z i Finalise (Entry Number e) place) ≡ true
  finalise_may e place may =
      let high = pending_high e may.pending in
      allowed_by z words vs right i v is Finalise (Entry Number e) place (alive z words vs right i v is (λ (x : View). x.update.raised ≡ Some place) may.raised (λ none. cc)) (entry_is e high.0 high.1) refl
      (both (is_part Number Number && has e v.update.pending) (is_number place v.update.raised)
      (both (is_part Number Number) (has e v.update.pending) refl (count-has e v.update.pending may.pending)) (number_is place v.update.raised may.raised))

  pub lock_may : (n k : ℕ) → MayLock v n k → allowed t (event_at z i TryLock (Node Lock k) (n + 1)) ≡ true
  lock_may n k may =
      let b = not (is_even v.section_word) in
      let c = may_lock v k in
      let d = not (locks k v.held.nodes) in
      allowed_by z words vs right i v is TryLock (Node Lock k) (n + 1) (inside_alive z words vs right i v is may.inside) (searched_there z words vs right i v is Lock k may.inside may.searched) refl
      (both (is_lock Lock && b && c && d) (names_pass v.number (n + 1))
      (both (is_lock Lock && b && c) d (both (is_lock Lock && b) c (both (is_lock Lock) b refl (not_of (is_even v.section_word) may.inside)) (lock_tested v k may.searched))
      (not_of (locks k v.held.nodes) (never_of (locks k v.held.nodes) (λ held. may.unlocked (locks-count k v.held.nodes held)))))
      (ap (λ o. names_pass o (n + 1)) may.own ∙ eq-eqb (n + 1) (n + 1) refl))

  pub unlock_may : (k : ℕ) → MayUnlock v k → allowed t (event_at z i Unlock (Node Lock k) 0) ≡ true
  unlock_may k may =
      allowed_by z words vs right i v is Unlock (Node Lock k) 0 (locked_alive z words vs right i v is k may.locked) (reach_there z words vs right i v is Lock k (inr (inr may.locked))) refl
      (both (is_lock Lock && locks k v.held.nodes && nothing_pending m v && is_done_at k v.update) (eqb 0 0)
      (both (is_lock Lock && locks k v.held.nodes && nothing_pending m v) (is_done_at k v.update)
      (both (is_lock Lock && locks k v.held.nodes) (nothing_pending m v) (both (is_lock Lock) (locks k v.held.nodes) refl (count-locks k v.held.nodes may.locked)) (done_by z words vs right i v is may.done may.marked))
      may.set) refl)

  node_there : (f : Field) (k : ℕ) → IsInside v → k ≤ v.layout.nodes → is_there z (Node f k) ≡ true
  node_there f k inside high = at_most k z.nodes (subst (λ (y : Layout). k ≤ y.nodes) (seat.layout (inside_alive z words vs right i v is inside)) high)

  pub read_mark_may : (k : ℕ) → MayReadMark v k → allowed t (event_at z i LoadMark (Node Mark k) 0) ≡ true
  read_mark_may k may =
      let b = not (is_even v.section_word) in
      allowed_by z words vs right i v is LoadMark (Node Mark k) 0 (inside_alive z words vs right i v is may.inside) (node_there Mark k may.inside may.there) refl
      (both (true && b) (eqb 0 0) (both true b refl (not_of (is_even v.section_word) may.inside)) refl)

  pub mark_may : (k : ℕ) → MayMark v k → allowed t (event_at z i MarkNode (Node Mark k) 1) ≡ true
  mark_may k may =
      allowed_by z words vs right i v is MarkNode (Node Mark k) 1 (locked_alive z words vs right i v is k may.locked) (reach_there z words vs right i v is Mark k (inr (inr may.locked))) refl
      (both (true && locks k v.held.nodes && has k v.update.taken) (eqb 1 1)
      (both (true && locks k v.held.nodes) (has k v.update.taken) (both true (locks k v.held.nodes) refl (count-locks k v.held.nodes may.locked)) (count-has k v.update.taken may.taken)) refl)

  pair_may : (f : Field) (k : ℕ) → is_pair f ≡ true → MayReadPair v k → allowed t (event_at z i LoadKeyOrVal (Node f k) 0) ≡ true
  pair_may f k pair may =
      let b = not (is_even v.section_word) in
      allowed_by z words vs right i v is LoadKeyOrVal (Node f k) 0 (inside_alive z words vs right i v is may.inside) (node_there f k may.inside may.there) refl
      (both (is_pair f && b) (eqb 0 0) (both (is_pair f) b pair (not_of (is_even v.section_word) may.inside)) refl)

  pub split_may : (nodes : ℕ) → MaySplit v nodes → allowed t (event_at z i SplitSeat Stamp nodes) ≡ true
  split_may nodes may =
      let rest = eqb nodes 1 && not (eqb (length v.free.nodes) 0) in
      allowed_by z words vs right i v is SplitSeat Stamp nodes may.live refl refl
      (both (is_stamp Stamp) (eqb nodes 0 || rest) refl (elim may.few as (λ _. (eqb nodes 0 || rest) ≡ true) [
        | inl none ↦ left_of (eqb nodes 0) rest (eq-eqb nodes 0 none)
        | inr one ↦ right_of (eqb nodes 0) rest (both (eqb nodes 1) (not (eqb (length v.free.nodes) 0)) (eq-eqb nodes 1 one.0) (not_of (eqb (length v.free.nodes) 0) (some_length (length v.free.nodes) one.1)))
      ]))

  pub join_may : (other : ℕ) (u : View) → other ≢ i → MayJoin v u → slice_get vs other ≡ Some u → allowed t (event_at z i JoinSeat Stamp other) ≡ true
  join_may other u apart may found =
      let a = not (eqb other i) in
      let n = is_none u.number && has_none_waiting u in
      let o = is_outside v && is_outside u in
      allowed_by z words vs right i v is JoinSeat Stamp other may.live refl refl
      (both (is_stamp Stamp && a) (may_join_found v (slice_get vs other)) (both (is_stamp Stamp) a refl (not_of (eqb other i) (ne_eqb other i apart)))
      (ap (may_join_found v) found
      ∙ both (not u.joined) (n || o) (not_of u.joined may.other_live) (elim may.apart as (λ _. (n || o) ≡ true) [
        | inl bare ↦ left_of n o (both (is_none u.number) (has_none_waiting u) (none_is u.number bare.0) (none_waiting u bare.1))
        | inr out ↦ right_of n o (both (is_outside v) (is_outside u) (outside_is v out.0) (outside_is u out.1))
      ])))

pub may_enter_law : EnterLaw
may_enter_law z v seat n may words vs right is = enter_may z words vs right seat v is n may

pub may_leave_law : LeaveLaw
may_leave_law z v seat n may words vs right is = leave_may z words vs right seat v is n may

pub may_look_law : LookLaw
may_look_law z v seat pass may words vs right is = look_may z words vs right seat v is pass may

pub may_fill_law : FillLaw
may_fill_law z v seat w value may words vs right is = fill_may z words vs right seat v is w value may

pub may_load_stamp_law : LoadStampLaw
may_load_stamp_law z v seat may words vs right is = stamp_by z words vs right seat v is 0 refl may.inside may.closed

pub may_fix_law : FixLaw
may_fix_law z v seat may words vs right is =
    stamp_by z words vs right seat v is 1 (has_announced-is v may.announced) may.load.inside may.load.closed

pub may_read_head_law : ReadHeadLaw
may_read_head_law z v seat k side may words vs right is = head_may z words vs right seat v is k side may

pub may_read_number_law : ReadNumberLaw
may_read_number_law z v seat e may words vs right is = number_may z words vs right seat v is e may

pub may_read_child_law : ReadChildLaw
may_read_child_law z v seat e may words vs right is = child_may z words vs right seat v is e may

pub may_read_next_law : ReadNextLaw
may_read_next_law z v seat e may words vs right is = next_may z words vs right seat v is e may

pub may_prepare_law : PrepareLaw
may_prepare_law z v seat k side e may words vs right is = prepare_may z words vs right seat v is k side e may

pub may_finalise_law : FinaliseLaw
may_finalise_law z v seat e place may words vs right is = finalise_may z words vs right seat v is e place may

pub may_lock_law : LockLaw
may_lock_law z v seat n k may words vs right is = lock_may z words vs right seat v is n k may

pub may_unlock_law : UnlockLaw
may_unlock_law z v seat k may words vs right is = unlock_may z words vs right seat v is k may

pub may_read_mark_law : ReadMarkLaw
may_read_mark_law z v seat k may words vs right is = read_mark_may z words vs right seat v is k may

pub may_mark_law : MarkLaw
may_mark_law z v seat k may words vs right is = mark_may z words vs right seat v is k may

pub may_read_key_law : ReadKeyLaw
may_read_key_law z v seat k may words vs right is = pair_may z words vs right seat v is Key k refl may

pub may_read_val_law : ReadValLaw
may_read_val_law z v seat k may words vs right is = pair_may z words vs right seat v is Val k refl may

pub may_split_law : SplitLaw
may_split_law z v seat nodes may words vs right is = split_may z words vs right seat v is nodes may

pub may_join_law : JoinLaw
may_join_law z v u seat other apart may words vs right is found = join_may z words vs right seat v is other u apart may found
