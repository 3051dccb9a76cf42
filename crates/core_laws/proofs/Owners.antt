-- Who writes what: each kind of event stores to a word of the seat's own, or to the stamp.
use Rattle.std.proofs.Common.{◌≡◌, ◌≢◌, ℕ, ◌+◌, ◌<◌, ◌≤◌, ◌⊎◌, cond, List, Bool, true, false, not, eqb, ◌&&◌, arith, set, refl, ap, ◌∙◌, sym, subst, slice_index, inl, inr, Option, Some, None}
use Rattle.std.specs.List.{slice_get, sum_by}
use Rattle.std.proofs.lemmas.Bool.{and_parts, eqb-true, eq-eqb}
use Rattle.index_words.specs.declared.layout.Layout.{Layout}
use Rattle.key_map.specs.declared.update.Update.{Update}
use Rattle.index_words.specs.declared.view.View.{View}
use Rattle.index_words.specs.declared.word.Field.{Field}
use Rattle.index_words.specs.declared.word.Field.TheVariants.{Key, Val, Lock, Mark, Head, Link, Tag}
use Rattle.index_words.specs.declared.word.Part.{Part}
use Rattle.index_words.specs.declared.word.Part.TheVariants.{Child, Stamp as Number, Next}
use Rattle.index_words.specs.declared.word.Word.{Word}
use Rattle.index_words.specs.declared.word.Word.TheVariants.{Stamp, Section, Announced, Node, Entry}
use Rattle.index_words.specs.Words.{Memory, memory, written, word_at, address, same_word}
use Rattle.index_words.proofs.Seats.{Beside, at_item, one_term, two_terms}
use Rattle.index_words.proofs.Store.{same_word-true, stored_at, word_there}
use Rattle.key_map.specs.Lists.{count, has, IsItem}
use Rattle.key_map.proofs.Counting.{has-count}
use Rattle.core_grace.specs.Slots.{own_free, nodes_of, entries_in, own}
use Rattle.core_grace.specs.Batches.{is_number}
use Rattle.core_links.proofs.Chains.{chain-same}
use Rattle.core_grace.specs.Sections.{is_even}
use Rattle.core_events.specs.declared.event.Event.{Event}
use Rattle.core_events.specs.declared.event.Kind.{Kind}
use Rattle.core_events.specs.declared.event.Kind.TheVariants.{Enter, Leave, Fill, Prepare, Raise, Finalise, TryLock, Unlock, Mark as MarkNode, Announce, Cut, SetLink, SetTag}
use Rattle.core_events.specs.Tables.{Table, held_by}
use Rattle.core_invariant.specs.Meanings.{Meaning}
use Rattle.core_invariant.specs.BundleRule.{IsLive, IsPending, pending_count}
use Rattle.core_invariant.specs.Locks.{lock_count}
use Rattle.core_invariant.specs.Reached.{plain_graph, ReachesRight}
use Rattle.core_invariant.specs.Readers.{IsLocked}
use Rattle.core_invariant.specs.Rule.{Rule, InRule, IsRight}
use Rattle.core_events.specs.LoadMoves.{locks}
use Rattle.core_events.specs.LoadNeeds.{is_part}
use Rattle.core_events.specs.PlainNeeds.{is_done_at, owes, may_set_field, may_set_link, may_raise_tag, may_set_tag}
use Rattle.core_events.specs.LockNeeds.{is_mark, names_pass, may_lock, may_try_lock, may_unlock, may_mark}
use Rattle.core_events.specs.Needs.{is_lock, nothing_pending, may_fill}
use Rattle.core_events.specs.CutNeeds.{may_cut}
use Rattle.core_invariant.proofs.Owned.{in_one_bundle, once_node, once_entry, held_live, not_in_bundle, in_entries, free_not_live, head_apart}
use Rattle.core_invariant.proofs.AtEntries.{IsCutAt, cut_at}
use Rattle.core_events.specs.UpdateNeeds.{may_prepare_head, may_prepare, may_finalise}
use Rattle.core_laws.specs.Owners.{HasFreeNode, HasFreeEntry, IsInLockedBundle, IsSteadyFor, IsSteadyField, IsSteadyPart, IsFixed, KeepsOwners, OwnersLaw}
use Rattle.core_events.specs.Steps.{needs, carries, allowed_at, after_at, words_after}
use Rattle.core_invariant.proofs.Frames.{every_at, count-middle}
use Rattle.core_invariant.proofs.OneView.{item_from_get, seat_at}
use Rattle.core_events.proofs.Tests.{never, not_true, node_there}
use Rattle.core_invariant.proofs.Needed.{ready_is}
use Rattle.core_invariant.proofs.WaitNeeds.{can_set}
use Rattle.core_invariant.proofs.WordPrints.{stores, word_keeps}
use Rattle.std.proofs.lemmas.Bool.Decides.{eqb_tells}
use Rattle.core_invariant.proofs.Idle.{number_apart}
use Rattle.core_invariant.proofs.Locked.{work_holds, locks-count, can_lock, locked_apart, locked_live}

own_number_is : (n : ℕ) (o : Option ℕ) → o ≡ Some n → is_number n o ≡ false → ⊥
own_number_is n None is other = cc
own_number_is n (Some k) is other = let same : k ≡ n = cc in cc (eq-eqb k n same)

not_named : (n : ℕ) (o : Option ℕ) → (o ≡ Some n → ⊥) → is_number n o ≡ false
not_named n None other = refl
not_named n (Some k) other = elim (eqb_tells k n) as (λ _. eqb k n ≡ false) [
  | inl same ↦ absurd (other (ap Some same.1))
  | inr apart ↦ apart.0
]

module _ (z : Layout) (m : Memory) (vs : List View) (g : Meaning) (rule : Rule z m vs g) (i : ℕ) (v : View) (at : IsItem vs i v) where
  -- what the seat may store to
  abbrev WritesField : Field → ℕ → Type 0
  WritesField Key k = HasFreeNode v k
  WritesField Val k = HasFreeNode v k
  WritesField Lock k = IsLocked v k ⊎ (IsLive z vs k × (m (Node Lock k) ≡ 0))
  WritesField _ k = HasFreeNode v k ⊎ IsLocked v k

  abbrev WritesPart : Part → ℕ → Type 0
  WritesPart Child e = HasFreeEntry v e
  WritesPart Number e = HasFreeEntry v e ⊎ (0 < count e v.update.pending)
  WritesPart Next e = HasFreeEntry v e ⊎ IsCutAt z m vs g v e

  abbrev pub Writes : Word → Type 0
  Writes Stamp = Unit {0}
  Writes (Section n) = v.number ≡ Some n
  Writes (Announced n) = v.number ≡ Some n
  Writes (Node field k) = WritesField field k
  Writes (Entry part e) = WritesPart part e

  -- a pending entry is not free
  pending_in_use : (n e j : ℕ) (x u : View) → IsItem vs n x → IsItem vs j u → 0 < count e x.update.pending → HasFreeEntry u e → ⊥
  pending_in_use n e j x u of by some free =
      let seat = seat_at z m vs g n x of rule in
      let right = every_at (IsPending z (λ s k. m (Node (Head s) k)) (λ d. m (Entry Number d)) g.bundles.number x) e x.update.pending seat.pending some in
      head_apart z m vs g rule j e right.2.node u right.2.side by free
      (held_live z vs g rule.slots n right.2.node x of (work_holds x right.2.node right.2.of) right.2.there) right.2.is

  pending_unwritten : (n e : ℕ) (x : View) → IsItem vs n x → 0 < count e x.update.pending → m (Entry Number e) ≡ 0
  pending_unwritten n e x of some =
      (every_at (IsPending z (λ s k. m (Node (Head s) k)) (λ d. m (Entry Number d)) g.bundles.number x) e x.update.pending (seat_at z m vs g n x of rule).pending some).0

  module _ (j : ℕ) (u : View) (of : IsItem vs j u) (other : j ≢ i) where
    beside : Beside vs i u
    beside = record { place = j; at = of; other = other }

    free_apart : (k : ℕ) → HasFreeNode v k → HasFreeNode u k → ⊥
    free_apart k mine also = omega (arith, once_node z vs g rule.slots k, two_terms (own nodes_of k) vs i v u at beside, mine, also)

    free_locked : (k n l : ℕ) (x y : View) → IsItem vs n x → IsItem vs l y → HasFreeNode x k → IsLocked y k → ⊥
    free_locked k n l x y first second free locked = free_not_live z vs g rule.slots n k x first free (locked_live z m vs g rule l k y second locked)

    node_apart : (k : ℕ) → HasFreeNode v k ⊎ IsLocked v k → HasFreeNode u k ⊎ IsLocked u k → ⊥
    node_apart k (inl a) (inl b) = free_apart k a b
    node_apart k (inl a) (inr b) = free_locked k i j v u at of a b
    node_apart k (inr a) (inl b) = free_locked k j i u v of at b a
    node_apart k (inr a) (inr b) = omega (arith, b, locked_apart z m vs g rule i k v u at beside a)

    lock_apart : (k : ℕ) → IsLocked v k ⊎ (IsLive z vs k × (m (Node Lock k) ≡ 0)) → HasFreeNode u k ⊎ IsLocked u k → ⊥
    lock_apart k (inl a) steady = node_apart k (inr a) steady
    lock_apart k (inr a) (inl b) = free_not_live z vs g rule.slots j k u of b a.0
    lock_apart k (inr a) (inr b) =
        omega (arith, rule.locks k, ap (λ x. 0 + cond (eqb x 0) 0 1) a.1, one_term (lock_count k) vs j u of, b)

    field_apart : (f : Field) (k : ℕ) → WritesField f k → IsSteadyField f u k → ⊥
    field_apart Key k writes steady = free_apart k writes steady
    field_apart Val k writes steady = free_apart k writes steady
    field_apart Lock k writes steady = lock_apart k writes steady
    field_apart _ k writes steady = node_apart k writes steady

    entry_apart : (e : ℕ) → HasFreeEntry v e → HasFreeEntry u e → ⊥
    entry_apart e mine also = omega (arith, once_entry z vs g rule.slots e, two_terms (own entries_in e) vs i v u at beside, mine, also)

    number_part : (e : ℕ) → HasFreeEntry v e ⊎ (0 < count e v.update.pending) → HasFreeEntry u e ⊎ (0 < count e u.update.pending) → ⊥
    number_part e (inl a) (inl b) = entry_apart e a b
    number_part e (inl a) (inr b) = pending_in_use j e i u v of at b a
    number_part e (inr a) (inl b) = pending_in_use i e j v u at of a b
    number_part e (inr a) (inr b) = omega (arith, rule.single e, two_terms (pending_count e) vs i v u at beside, a, b)

    cut_member : (e : ℕ) → (cut : IsCutAt z m vs g v e) → 0 < count e (g.bundles.bundle cut.side cut.node)
    cut_member e cut = subst (λ es. 0 < count e es) (sym cut.splits) (count-middle e cut.front cut.back)

    -- the bundle of a locked node as its chain has it is that of the rule
    locked_member : (e : ℕ) → (here : IsInLockedBundle m u e) → 0 < count e (g.bundles.bundle here.side here.node)
    locked_member e here =
        let live = locked_live z m vs g rule j here.node u of here.locked in
        let same : here.entries ≡ g.bundles.bundle here.side here.node =
        chain-same (λ d. m (Entry Next d)) (m (Node (Head here.side) here.node)) here.entries (g.bundles.bundle here.side here.node) here.bundle (rule.bundles here.node live here.side).chain in
        subst (λ es. 0 < count e es) same here.here

    -- an entry of a bundle of a locked node is not free
    in_bundle_apart : (e : ℕ) → HasFreeEntry v e → IsInLockedBundle m u e → ⊥
    in_bundle_apart e free here =
        not_in_bundle z vs g rule.slots i here.node e v at free (locked_live z m vs g rule j here.node u of here.locked) (in_entries g.bundles here.node e here.side (locked_member e here))

    part_apart : (p : Part) (e : ℕ) → WritesPart p e → IsSteadyPart p m u e → ⊥
    part_apart Child e writes steady = entry_apart e writes steady
    part_apart Number e writes steady = number_part e writes steady
    part_apart Next e (inl mine) (inl free) = entry_apart e mine free
    part_apart Next e (inl mine) (inr here) = in_bundle_apart e mine here
    part_apart Next e (inr cut) (inl free) = not_in_bundle z vs g rule.slots j cut.node e u of free cut.live (in_entries g.bundles cut.node e cut.side (cut_member e cut))
    part_apart Next e (inr cut) (inr here) =
        in_one_bundle z vs g rule.slots cut.node e cut.side (omega (arith, cut.linked)) (cut_member e cut) here.node here.side (locked_live z m vs g rule j here.node u of here.locked)
        (λ sides nodes. omega (arith, locked_apart z m vs g rule i cut.node v u at beside cut.locked, subst (λ n. IsLocked u n) nodes here.locked)) (locked_member e here)

    -- it is no word that another seat alone changes
    pub writes_apart : (w : Word) → Writes w → IsSteadyFor m u w → ⊥
    writes_apart Stamp writes steady = absurd steady
    writes_apart (Section n) writes steady =
        own_number_is n v.number writes (number_apart z vs i v u n rule.numbers at beside steady)
    writes_apart (Announced n) writes steady =
        own_number_is n v.number writes (number_apart z vs i v u n rule.numbers at beside steady)
    writes_apart (Node f k) writes steady = field_apart f k writes steady
    writes_apart (Entry p e) writes steady = part_apart p e writes steady

  -- nor one that nobody changes
  fixed_node : (k : ℕ) → HasFreeNode v k → sum_by (own_free nodes_of k) vs ≡ 0 → ⊥
  fixed_node k free none = omega (arith, one_term (own_free nodes_of k) vs i v at, free, none)

  fixed_entry : (e : ℕ) → HasFreeEntry v e → sum_by (own_free entries_in e) vs ≡ 0 → ⊥
  fixed_entry e free none = omega (arith, one_term (own_free entries_in e) vs i v at, free, none)

  pub writes_unfixed : (w : Word) → Writes w → IsFixed m vs w → ⊥
  writes_unfixed (Node Key k) writes fixed = fixed_node k writes fixed
  writes_unfixed (Node Val k) writes fixed = fixed_node k writes fixed
  writes_unfixed (Entry Child e) writes fixed = fixed_entry e writes fixed
  writes_unfixed (Entry Number e) (inl free) fixed = fixed_entry e free fixed.0
  writes_unfixed (Entry Number e) (inr pending) fixed = omega (arith, fixed.1, pending_unwritten i e v at pending)
  writes_unfixed _ writes fixed = absurd fixed

other_word : (m : Memory) (w u : Word) (x : ℕ) → (u ≡ w → ⊥) → written m w x u ≡ m u
other_word m w u x apart = other_by (same_word u w) refl
  where
    other_by : (b : Bool) → same_word u w ≡ b → cond b x (m u) ≡ m u
    other_by true is = absurd (apart (same_word-true u w is))
    other_by false is = refl

-- what the word of a number holds
pub found_at : (z : Layout) (words : List ℕ) (n : ℕ) (w : Word) → word_at z n ≡ Some w → slice_index words n ≡ memory z words w
found_at z words n w is =
    let there = word_there z n w is in
    ap (slice_index words) (sym there.1) ∙ sym (ap (λ b. cond b (slice_index words (address z w)) 0) there.0)

module _ (z : Layout) (words : List ℕ) (vs : List View) (right : InRule z words vs) (i : ℕ) (v : View) (at : IsItem vs i v) (n : ℕ) (w : Word) (found : word_at z n ≡ Some w) (value : ℕ) where
  abbrev m : Memory
  m = memory z words

  abbrev W : Word → Type 0
  W = Writes z m vs right.meaning right.rule i v at

  fill_field : (f : Field) (k : ℕ) → is_lock f ≡ false → HasFreeNode v k → W (Node f k)
  fill_field Key k is free = free
  fill_field Val k is free = free
  fill_field Lock k is free = cc
  fill_field _ k is free = inl free

  fill_part : (p : Part) (e : ℕ) → HasFreeEntry v e → W (Entry p e)
  fill_part Child e free = free
  fill_part _ e free = inl free

  fill_writes : (u : Word) → may_fill v u ≡ true → W u
  fill_writes (Node f k) met =
      let parts = and_parts (not (is_lock f)) (has k v.free.nodes) met in
      fill_field f k (not_true (is_lock f) parts.0) (has-count k v.free.nodes parts.1)
  fill_writes (Entry p e) met = fill_part p e (has-count e v.free.entries met)
  fill_writes _ met = absurd (never met)

  prepare_field : (f : Field) (k : ℕ) → may_prepare_head m v f k value ≡ true → W (Node f k)
  prepare_field (Head side) k met = inr (ready_is z m right.meaning v side k value (seat_at z m vs right.meaning i v at right.rule) met).locked
  prepare_field _ k met = absurd (never met)

  prepare_writes : (u : Word) → may_prepare m v u value ≡ true → W u
  prepare_writes (Node f k) met = prepare_field f k met
  prepare_writes _ met = absurd (never met)

  finalise_writes : (u : Word) → may_finalise v u value ≡ true → W u
  finalise_writes (Entry Number e) met =
      let one = and_parts (is_part Number Number && has e v.update.pending) (is_number value v.update.raised) met in
      inr (has-count e v.update.pending (and_parts (is_part Number Number) (has e v.update.pending) one.0).1)
  finalise_writes _ met = absurd (never met)

  lock_field : (f : Field) (k : ℕ) → k ≤ z.nodes → may_try_lock v (Node f k) value ≡ true → m (Node f k) ≡ 0 → W (Node f k)
  lock_field Lock k there met none =
      let b = not (is_even v.section_word) in
      let c = may_lock v k in
      let d = not (locks k v.held.nodes) in
      let one = and_parts (is_lock Lock && b && c && d) (names_pass v.number value) met in
      let two = and_parts (is_lock Lock && b && c) d one.0 in
      let three = and_parts (is_lock Lock && b) c two.0 in
      let inside : is_even v.section_word ≡ false = not_true (is_even v.section_word) (and_parts (is_lock Lock) b three.0).1 in
      let reach : ReachesRight z (plain_graph m) vs v = at_item (ReachesRight z (plain_graph m) vs) vs i v at right.reach in
      inr ((can_lock z m vs right.meaning right.rule i v at (plain_graph m) reach inside k there three.1).live, none)
  lock_field _ k there met none = absurd (never met)

  try_writes : (u : Word) → word_at z n ≡ Some u → may_try_lock v u value ≡ true → m u ≡ 0 → W u
  try_writes (Node f k) is met none = lock_field f k (node_there z n k f is) met none
  try_writes _ is met none = absurd (never met)

  unlock_field : (f : Field) (k : ℕ) → may_unlock m v (Node f k) value ≡ true → W (Node f k)
  unlock_field Lock k met =
      let c = is_done_at k v.update in
      let one = and_parts (is_lock Lock && locks k v.held.nodes && nothing_pending m v && c) (eqb value 0) met in
      let two = and_parts (is_lock Lock && locks k v.held.nodes) (nothing_pending m v) (and_parts (is_lock Lock && locks k v.held.nodes && nothing_pending m v) c one.0).0 in
      inl (locks-count k v.held.nodes (and_parts (is_lock Lock) (locks k v.held.nodes) two.0).1)
  unlock_field _ k met = absurd (never met)

  unlock_writes : (u : Word) → may_unlock m v u value ≡ true → W u
  unlock_writes (Node f k) met = unlock_field f k met
  unlock_writes _ met = absurd (never met)

  mark_field : (f : Field) (k : ℕ) → may_mark v (Node f k) value ≡ true → W (Node f k)
  mark_field Mark k met =
      let one = and_parts (is_mark Mark && locks k v.held.nodes && has k v.update.taken) (eqb value 1) met in
      let two = and_parts (is_mark Mark && locks k v.held.nodes) (has k v.update.taken) one.0 in
      inr (locks-count k v.held.nodes (and_parts (is_mark Mark) (locks k v.held.nodes) two.0).1)
  mark_field _ k met = absurd (never met)

  mark_writes : (u : Word) → may_mark v u value ≡ true → W u
  mark_writes (Node f k) met = mark_field f k met
  mark_writes _ met = absurd (never met)

  set_link_at : (f : Field) (k : ℕ) → may_set_field z m v f k value ≡ true → W (Node f k)
  set_link_at (Link side) k met =
      inr (can_set z m v k side value met).locked
  set_link_at _ k met = absurd (never met)

  set_link_writes : (u : Word) → may_set_link z m v u value ≡ true → W u
  set_link_writes (Node f k) met = set_link_at f k met
  set_link_writes _ met = absurd (never met)

  set_tag_at : (f : Field) (k : ℕ) → may_raise_tag m v f k value ≡ true → W (Node f k)
  set_tag_at (Tag side) k met =
      let a = locks k v.held.nodes in
      let b = owes k side v.update.owed in
      let one = and_parts (a && b) (eqb value (m (Node (Tag side) k) + 1)) met in
      inr (locks-count k v.held.nodes (and_parts a b one.0).0)
  set_tag_at _ k met = absurd (never met)

  set_tag_writes : (u : Word) → may_set_tag m v u value ≡ true → W u
  set_tag_writes (Node f k) met = set_tag_at f k met
  set_tag_writes _ met = absurd (never met)

  cut_writes : (u : Word) → may_cut z m vs v u value ≡ true → W u
  cut_writes (Entry Next e) met = inr (cut_at z m vs right.meaning right.rule i v at e value met).1
  cut_writes _ met = absurd (never met)

  -- a word of another pass, or a word of a slot
  record OwnOff (u : Word) : Type 0 where
    pub section : stores Enter v u ≡ false
    pub leave : stores Leave v u ≡ false
    pub announcement : stores Announce v u ≡ false
    pub stamp : stores Raise v u ≡ false

  own_off : (u : Word) → (W u → ⊥) → OwnOff u
  own_off Stamp unwritten = absurd (unwritten tt)
  own_off (Section pass) unwritten =
      let other = not_named pass v.number unwritten in record { section = other; leave = other; announcement = refl; stamp = refl }
  own_off (Announced pass) unwritten = record { section = refl; leave = refl; announcement = not_named pass v.number unwritten; stamp = refl }
  own_off _ unwritten = record { section = refl; leave = refl; announcement = refl; stamp = refl }

  module _ (u : Word) (unwritten : W u → ⊥) where
    stored : (x : ℕ) → W w → memory z (set words n x) u ≡ m u
    stored x writes =
        ap (λ (h : Memory). h u) (stored_at z words n w x right.size found) ∙ other_word m w u x (λ same. unwritten (subst W (sym same) writes))

    tried : may_try_lock v w value ≡ true → memory z (cond (eqb (slice_index words n) 0) (set words n value) words) u ≡ m u
    tried met = tried_by (eqb (slice_index words n) 0) refl
      where
        tried_by : (b : Bool) → eqb (slice_index words n) 0 ≡ b → memory z (cond b (set words n value) words) u ≡ m u
        tried_by false is = refl
        tried_by true is = stored value (try_writes w found met (sym (found_at z words n w found) ∙ eqb-true (slice_index words n) 0 is))

    -- the kinds whose words the table of stores names one by one
    spared : (kind : Kind) (o : Option Update) → stores kind v u ≡ false → needs kind z m vs i v w value o ≡ true → memory z (words_after kind words n value) u ≡ m u
    spared kind o off met = word_keeps z words vs i v n w right.size found value o kind u off met

    -- a word that the seat may not store to holds after its event what it held
    pub words_kept : (kind : Kind) (o : Option Update) → needs kind z m vs i v w value o ≡ true → memory z (words_after kind words n value) u ≡ m u
    words_kept Fill o met = stored value (fill_writes w met)
    words_kept Prepare o met = stored value (prepare_writes w met)
    words_kept Finalise o met = stored value (finalise_writes w met)
    words_kept TryLock o met = tried met
    words_kept Unlock o met = stored value (unlock_writes w met)
    words_kept MarkNode o met = stored value (mark_writes w met)
    words_kept Cut o met = stored value (cut_writes w met)
    words_kept SetLink o met = stored value (set_link_writes w met)
    words_kept SetTag o met = stored value (set_tag_writes w met)
    words_kept Enter o met = spared Enter o (own_off u unwritten).section met
    words_kept Leave o met = spared Leave o (own_off u unwritten).leave met
    words_kept Announce o met = spared Announce o (own_off u unwritten).announcement met
    words_kept Raise o met = spared Raise o (own_off u unwritten).stamp met
    words_kept kind o met = refl

owners_at : (t : Table) (e : Event) (o : Option View) (w : Option Word) → slice_get t.views e.seat ≡ o → word_at t.layout e.word ≡ w → IsRight t → allowed_at t e o w ≡ true → KeepsOwners e.seat t (after_at t e o w)
owners_at t e (Some v) (Some w) is found right met =
    let c = needs e.kind t.layout (held_by t) t.views e.seat v w e.value e.update in
    let need = (and_parts (carries e.kind v e.update && not v.joined) c met).1 in
    let at = item_from_get t.views e.seat v is in
    record {
      others = λ i u word of other steady.
          words_kept t.layout t.words t.views right e.seat v at e.word w found e.value word
          (λ writes. writes_apart t.layout (held_by t) t.views right.meaning right.rule e.seat v at i u of other word writes steady) e.kind e.update need;
      fixed = λ word fixed.
          words_kept t.layout t.words t.views right e.seat v at e.word w found e.value word
          (λ writes. writes_unfixed t.layout (held_by t) t.views right.meaning right.rule e.seat v at word writes fixed) e.kind e.update need;
    }
owners_at t e _ _ is found right met = absurd (never met)

pub owners : OwnersLaw
owners t e right met = owners_at t e (slice_get t.views e.seat) (word_at t.layout e.word) refl refl right met

-- a table whose words stay keeps all of them
pub owners_same : (seat : ℕ) (t u : Table) → ((w : Word) → held_by u w ≡ held_by t w) → KeepsOwners seat t u
owners_same seat t u same = record { others = λ i v w of other steady. same w; fixed = λ w fixed. same w }
