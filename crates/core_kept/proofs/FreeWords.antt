-- What events store to words of free slots: none but a fill stores to one, and a fill to one of the seat's own.
use Rattle.std.proofs.Common.{◌≡◌, ◌≢◌, ℕ, ◌+◌, ◌<◌, cond, List, Bool, true, false, eqb, ◌&&◌, set, arith, refl, ap, ◌∙◌, sym, subst, inl, inr, Option, Some}
use Rattle.std.proofs.lemmas.Bool.{and_parts, cases_lt}
use Rattle.index_words.specs.declared.layout.Layout.{Layout}
use Rattle.key_map.specs.declared.update.Update.{Update}
use Rattle.index_words.specs.declared.view.View.{View}
use Rattle.index_words.specs.declared.view.slots.Slots.{Slots}
use Rattle.index_words.specs.declared.view.update.Updating.{Updating}
use Rattle.index_words.specs.declared.word.Field.{Field}
use Rattle.index_words.specs.declared.word.Field.TheVariants.{Lock, Head, Link, Tag}
use Rattle.index_words.specs.declared.word.Part.{Part}
use Rattle.index_words.specs.declared.word.Part.TheVariants.{Stamp as Number, Next}
use Rattle.index_words.specs.declared.word.Word.{Word}
use Rattle.index_words.specs.declared.word.Word.TheVariants.{Stamp, Section, Announced, Node, Entry}
use Rattle.index_words.specs.Words.{Memory, memory, written, word_at}
use Rattle.index_words.specs.Views.{no_slots, no_looks, no_update}
use Rattle.key_map.specs.Lists.{count, has, IsItem}
use Rattle.key_map.proofs.Counting.{count-append, has-count}
use Rattle.index_words.proofs.Seats.{at_item}
use Rattle.index_words.proofs.Store.{stored_at}
use Rattle.core_grace.specs.Batches.{batch_freed, is_number, both, apart_from}
use Rattle.core_grace.specs.Slots.{own}
use Rattle.core_events.specs.declared.event.Kind.{Kind}
use Rattle.core_events.specs.declared.event.Kind.TheVariants.{Fill, Prepare, Finalise, TryLock, Unlock, Mark as MarkNode, Cut, SetLink, SetTag}
use Rattle.core_events.specs.CutNeeds.{may_cut}
use Rattle.core_events.specs.LoadMoves.{locks}
use Rattle.core_events.specs.LockNeeds.{is_mark, may_mark}
use Rattle.core_events.specs.PlainNeeds.{owes, may_set_link, may_set_tag}
use Rattle.core_events.specs.LoadNeeds.{is_part}
use Rattle.core_events.specs.Needs.{is_lock}
use Rattle.core_events.specs.Steps.{needs, words_after}
use Rattle.core_events.specs.UpdateMoves.{without_all}
use Rattle.core_events.specs.UpdateNeeds.{may_prepare, may_prepare_head, may_finalise}
use Rattle.core_events.proofs.Tests.{never}
use Rattle.core_invariant.specs.BundleRule.{IsPending}
use Rattle.core_invariant.specs.FilledRule.{IsOwnSlotWord}
use Rattle.core_invariant.specs.Locks.{lock_count}
use Rattle.core_invariant.specs.Meanings.{Meaning}
use Rattle.core_invariant.specs.Rule.{InRule}
use Rattle.core_invariant.specs.UnusedSlots.{IsFreeWord, IsUnusedWord, UnusedRight}
use Rattle.core_invariant.proofs.AtEntries.{IsCutAt, cut_at}
use Rattle.core_invariant.proofs.Filled.{stamp_apart, section_apart, announced_apart, lock_apart, node_apart, entry_apart}
use Rattle.core_invariant.proofs.Frames.{every_at, count-middle}
use Rattle.core_invariant.proofs.Locked.{work_holds, locks-count, locked_live}
use Rattle.core_invariant.proofs.WaitNeeds.{can_set}
use Rattle.core_invariant.proofs.Owned.{head_apart, held_live, not_in_bundle, in_entries, free_not_live}
use Rattle.core_invariant.proofs.Needed.{ready_is}
use Rattle.core_invariant.proofs.OneView.{seat_at}
use Rattle.core_invariant.proofs.WordPrints.{stores, word_keeps}
use Rattle.core_kept.proofs.RaiseCounts.{without_kept, taken_out}

-- what stands in a list without some numbers is none of these, and was in the list
pub apart_kept : (k : ℕ) (out xs : List ℕ) → 0 < count k (without_all out xs) → (count k out ≡ 0) × (0 < count k xs)
apart_kept k out xs some =
    elim (cases_lt 0 (count k out)) as (λ _. (count k out ≡ 0) × (0 < count k xs)) [
      | inl here ↦ absurd (omega (arith, some, taken_out k out xs here))
      | inr none ↦ (omega (arith, none), omega (arith, some, without_kept k out xs (omega (arith, none))))
    ]

-- each word of a slot that is free and unused in these lists is one in those
abbrev pub LessOf : Slots → Slots → Slots → Slots → Type 0
LessOf free unused free' unused' = (y : Word) → IsFreeWord free' y → IsUnusedWord unused' y → IsFreeWord free y × IsUnusedWord unused y

-- slots that come back are not counted as unused
pub both_less : (free unused out : Slots) → LessOf free unused (both free out) (apart_from out unused)
both_less free unused out (Node f k) is yet =
    let kept = apart_kept k out.nodes unused.nodes yet in
    ((is.0, omega (arith, is.1, kept.0, count-append k free.nodes out.nodes)), kept.1)
both_less free unused out (Entry p e) is yet =
    let kept = apart_kept e out.entries unused.entries yet in
    (omega (arith, is, kept.0, count-append e free.entries out.entries), kept.1)
both_less free unused out _ is yet = absurd is

pub none_less : (free unused free' : Slots) → LessOf free unused free' no_slots
none_less free unused free' (Node f k) is yet = absurd (omega (arith, yet))
none_less free unused free' (Entry p e) is yet = absurd (omega (arith, yet))
none_less free unused free' _ is yet = absurd is

-- fewer slots are free
pub fewer_less : (free unused free' : Slots) → ((k : ℕ) → 0 < count k free'.nodes → 0 < count k free.nodes)
    → ((e : ℕ) → 0 < count e free'.entries → 0 < count e free.entries)
    → LessOf free unused free' unused
fewer_less free unused free' nodes entries (Node f k) is yet = ((is.0, nodes k is.1), yet)
fewer_less free unused free' nodes entries (Entry p e) is yet = (entries e is, yet)
fewer_less free unused free' nodes entries _ is yet = absurd is

-- the same with fewer that are unused
pub subset_less : (free unused free' unused' : Slots) → ((k : ℕ) → 0 < count k free'.nodes → 0 < count k free.nodes)
    → ((e : ℕ) → 0 < count e free'.entries → 0 < count e free.entries)
    → ((k : ℕ) → 0 < count k unused'.nodes → 0 < count k unused.nodes) → ((e : ℕ) → 0 < count e unused'.entries → 0 < count e unused.entries)
    → LessOf free unused free' unused'
subset_less free unused free' unused' nodes entries few fewer (Node f k) is yet = ((is.0, nodes k is.1), few k yet)
subset_less free unused free' unused' nodes entries few fewer (Entry p e) is yet = (entries e is, fewer e yet)
subset_less free unused free' unused' nodes entries few fewer _ is yet = absurd is

-- a view that knows of fewer unused free words
pub less_right : (m : Memory) (v u : View) → LessOf v.free v.unused u.free u.unused → UnusedRight m v → UnusedRight m u
less_right m v u less right y is yet = let old = less y is yet in right y old.0 old.1

pub taken_less : (b : Bool) (u : View) → LessOf u.free u.unused (cond b (record u { retired = no_slots; batch = u.retired; grace = no_looks }) u).free
    (cond b (record u { retired = no_slots; batch = u.retired; grace = no_looks }) u).unused
taken_less true u y is yet = (is, yet)
taken_less false u y is yet = (is, yet)

pub settled_less : (b : Bool) (u : View) → LessOf u.free u.unused (cond b (batch_freed u) u).free (cond b (batch_freed u) u).unused
settled_less true u y is yet = both_less u.free u.unused u.batch y is yet
settled_less false u y is yet = (is, yet)

own_word : (free : Slots) (up : Updating) (y : Word) → IsFreeWord free y → IsOwnSlotWord free up y
own_word free up (Node f k) is = is
own_word free up (Entry p e) is = inl is
own_word free up _ is = absurd is

-- a store to this word is to none of a free slot of the view, but to a lock
abbrev pub Apart : View → Word → Type 0
Apart u (Node f k) = is_lock f ≡ false → 0 < count k u.free.nodes → ⊥
Apart u (Entry p e) = 0 < count e u.free.entries → ⊥
Apart u _ = Unit {0}

module _ (m : Memory) (u : View) (x : ℕ) where
  node_written : (f : Field) (k : ℕ) → Apart u (Node f k) → (y : Word) → IsOwnSlotWord u.free u.update y → written m (Node f k) x y ≡ m y
  node_written Lock k apart y own = lock_apart m u.free u.update k x y own
  node_written f k apart y own = node_apart m u.free u.update f k x (apart refl) y own

  pub written_apart : (w : Word) → Apart u w → (y : Word) → IsFreeWord u.free y → written m w x y ≡ m y
  written_apart Stamp apart y is = stamp_apart m u.free u.update x y (own_word u.free u.update y is)
  written_apart (Section n) apart y is = section_apart m u.free u.update n x y (own_word u.free u.update y is)
  written_apart (Announced n) apart y is = announced_apart m u.free u.update n x y (own_word u.free u.update y is)
  written_apart (Node f k) apart y is = node_written f k apart y (own_word u.free u.update y is)
  written_apart (Entry p e) apart y is = entry_apart m u.free no_update p e x apart (λ more. absurd (omega (arith, more))) y (own_word u.free no_update y is)

module _ (z : Layout) (words : List ℕ) (vs : List View) (right : InRule z words vs) (i : ℕ) (v : View) (at : IsItem vs i v) (n : ℕ) (w : Word)
    (found : word_at z n ≡ Some w) (value : ℕ) where
  abbrev m : Memory
  m = memory z words

  abbrev g : Meaning
  g = right.meaning

  own_right : UnusedRight m v
  own_right = at_item (UnusedRight m) vs i v at right.unused

  -- a store to the word is to no word of a free slot
  abbrev Stores : Word → Type 0
  Stores u = (j : ℕ) (x : View) → IsItem vs j x → Apart x u

  locked_stores : (f : Field) (k : ℕ) → 0 < lock_count k v → Stores (Node f k)
  locked_stores f k locked j x of is free = free_not_live z vs g right.rule.slots j k x of free (locked_live z m vs g right.rule i k v at locked)

  prepare_field : (f : Field) (k : ℕ) → may_prepare_head m v f k value ≡ true → Stores (Node f k)
  prepare_field (Head side) k met = locked_stores (Head side) k (ready_is z m g v side k value (seat_at z m vs g i v at right.rule) met).locked
  prepare_field _ k met = absurd (never met)

  prepare_stores : (u : Word) → may_prepare m v u value ≡ true → Stores u
  prepare_stores (Node f k) met = prepare_field f k met
  prepare_stores _ met = absurd (never met)

  pending_stores : (p : Part) (e : ℕ) → 0 < count e v.update.pending → Stores (Entry p e)
  pending_stores p e some j x of free =
      let seat = seat_at z m vs g i v at right.rule in
      let is = every_at (IsPending z (λ s k. m (Node (Head s) k)) (λ d. m (Entry Number d)) g.bundles.number v) e v.update.pending seat.pending some in
      head_apart z m vs g right.rule j e is.2.node x is.2.side of free
      (held_live z vs g right.rule.slots i is.2.node v at (work_holds v is.2.node is.2.of) is.2.there) is.2.is

  finalise_stores : (u : Word) → may_finalise v u value ≡ true → Stores u
  finalise_stores (Entry p e) met =
      let one = and_parts (is_part Number p && has e v.update.pending) (is_number value v.update.raised) met in
      pending_stores p e (has-count e v.update.pending (and_parts (is_part Number p) (has e v.update.pending) one.0).1)
  finalise_stores _ met = absurd (never met)

  mark_stores : (u : Word) → may_mark v u value ≡ true → Stores u
  mark_stores (Node f k) met =
      let one = and_parts (is_mark f && locks k v.held.nodes && has k v.update.taken) (eqb value 1) met in
      let two = and_parts (is_mark f && locks k v.held.nodes) (has k v.update.taken) one.0 in
      locked_stores f k (locks-count k v.held.nodes (and_parts (is_mark f) (locks k v.held.nodes) two.0).1)
  mark_stores _ met = absurd (never met)

  set_link_stores : (u : Word) → may_set_link z m v u value ≡ true → Stores u
  set_link_stores (Node (Link side) k) met =
      locked_stores (Link side) k (can_set z m v k side value met).locked
  set_link_stores _ met = absurd (never met)

  set_tag_stores : (u : Word) → may_set_tag m v u value ≡ true → Stores u
  set_tag_stores (Node (Tag side) k) met =
      let a = locks k v.held.nodes in
      let b = owes k side v.update.owed in
      let one = and_parts (a && b) (eqb value (m (Node (Tag side) k) + 1)) met in
      locked_stores (Tag side) k (locks-count k v.held.nodes (and_parts a b one.0).0)
  set_tag_stores _ met = absurd (never met)

  behind_stores : (e : ℕ) → IsCutAt z m vs g v e → Stores (Entry Next e)
  behind_stores e cut j x of free =
      not_in_bundle z vs g right.rule.slots j cut.node e x of free cut.live
      (in_entries g.bundles cut.node e cut.side (subst (λ es. 0 < count e es) (sym cut.splits) (count-middle e cut.front cut.back)))

  cut_stores : (u : Word) → may_cut z m vs v u value ≡ true → Stores u
  cut_stores (Entry Next e) met = behind_stores e (cut_at z m vs g right.rule i v at e value met).1
  cut_stores _ met = absurd (never met)

  -- the words of free slots stay
  abbrev pub Leaves : Memory → Type 0
  Leaves m' = (j : ℕ) (x : View) (y : Word) → IsItem vs j x → IsFreeWord x.free y → m' y ≡ m y

  stored : (x : ℕ) → Stores w → Leaves (memory z (set words n x))
  stored x stores j u y of is = ap (λ (h : Memory). h y) (stored_at z words n w x right.size found) ∙ written_apart m u x w (stores j u of) y is

  -- a kind that stores to no word of a slot, but to locks
  spared : (kind : Kind) (o : Option Update) → ((f : Field) (k : ℕ) → is_lock f ≡ false → stores kind v (Node f k) ≡ false)
      → ((p : Part) (e : ℕ) → stores kind v (Entry p e) ≡ false) → needs kind z m vs i v w value o ≡ true → Leaves (memory z (words_after kind words n value))
  spared kind o node entry met j x y of is = word_keeps z words vs i v n w right.size found value o kind y (off y is) met
    where
      off : (y : Word) → IsFreeWord x.free y → stores kind v y ≡ false
      off (Node f k) is = node f k is.0
      off (Entry p e) is = entry p e
      off _ is = absurd is

  locks_off : (f : Field) (k : ℕ) → is_lock f ≡ false → (stores TryLock v (Node f k) ≡ false) × (stores Unlock v (Node f k) ≡ false)
  locks_off Lock k other = cc
  locks_off _ k other = (refl, refl)

  pub leaves : (kind : Kind) (o : Option Update) → kind ≢ Fill → needs kind z m vs i v w value o ≡ true → Leaves (memory z (words_after kind words n value))
  leaves Fill o other met = absurd (other refl)
  leaves Prepare o other met = stored value (prepare_stores w met)
  leaves Finalise o other met = stored value (finalise_stores w met)
  leaves TryLock o other met = spared TryLock o (λ f k free. (locks_off f k free).0) (λ p e. refl) met
  leaves Unlock o other met = spared Unlock o (λ f k free. (locks_off f k free).1) (λ p e. refl) met
  leaves MarkNode o other met = stored value (mark_stores w met)
  leaves Cut o other met = stored value (cut_stores w met)
  leaves SetLink o other met = stored value (set_link_stores w met)
  leaves SetTag o other met = stored value (set_tag_stores w met)
  leaves kind o other met = spared kind o (λ f k free. refl) (λ p e. refl) met
