-- Moves of one view that keep the rule, of its slots and of the rest.
use Rattle.std.proofs.Common.{◌≡◌, ℕ, ◌<◌, ◌≤◌, cond, List, [], ◌∷◌, length, Bool, true, false, eqb, set, arith, refl, ap, ◌∙◌, sym, subst, inl, inr, Option}
use Rattle.std.proofs.Common.{Some, None, ◌+◌, ◌++◌}
use Rattle.std.specs.Prelude.{IfSome}
use Rattle.std.specs.List.{All, slice_get}
use Rattle.std.proofs.lemmas.List.{set-get_or}
use Rattle.std.proofs.lemmas.Bool.{and_parts, eq-eqb, eqb-true}
use Rattle.std.proofs.lemmas.Option.{slice_get_within, get_or_from_slice_get}
use Rattle.index_words.specs.declared.layout.Layout.{Layout}
use Rattle.index_words.specs.declared.view.View.{View}
use Rattle.index_words.specs.declared.view.slots.Slots.{Slots}
use Rattle.index_words.specs.declared.view.slots.Looks.{Looks}
use Rattle.index_words.specs.declared.view.reading.Reading.{Reading}
use Rattle.index_words.specs.declared.view.update.Updating.{Updating}
use Rattle.index_words.specs.declared.word.Field.TheVariants.{Mark}
use Rattle.index_words.specs.declared.word.Word.TheVariants.{Stamp, Section, Announced, Node}
use Rattle.index_words.specs.Views.{no_slots, no_looks}
use Rattle.index_words.specs.Words.{Memory}
use Rattle.index_words.proofs.Seats.{Beside, sum_kept, at_item, all_moved}
use Rattle.index_words.specs.declared.view.history.SeenHistory.{SeenHistory}
use Rattle.index_words.specs.declared.view.history.Counts.{Counts}
use Rattle.index_words.specs.declared.view.update.Held.{Held}
use Rattle.key_map.specs.Lists.{count, Every, IsItem}
use Rattle.key_map.proofs.Counting.{count-append}
use Rattle.core_grace.specs.Sections.{is_even}
use Rattle.core_grace.specs.Batches.{is_empty, batch_taken, batch_freed, settled, looked_at, all_passed, is_number, both, apart_from}
use Rattle.core_grace.specs.Holds.{HoldsNode, HoldsEntry, held_slots, listed, work_nodes}
use Rattle.core_grace.specs.Slots.{HoldsNone, GraceRight, SlotRule}
use Rattle.core_grace.proofs.RuleMoves.{HoldsFrom, KeepsSection, no_batch, quiet, take_batch, free_batch, all_passed_none, look_row, same_looks}
use Rattle.core_events.specs.Moves.{own_number}
use Rattle.core_invariant.specs.Meanings.{Meaning, linked_by}
use Rattle.core_invariant.specs.Numbers.{number_count}
use Rattle.core_invariant.specs.Histories.{HistoryRight, place_count, calls_left}
use Rattle.core_invariant.specs.SectionRule.{IsIdle, SectionRight}
use Rattle.core_invariant.specs.Locks.{lock_count, MarksRight}
use Rattle.core_invariant.specs.BundleRule.{IsPendingAt, pending_count}
use Rattle.core_invariant.specs.FilledRule.{FilledRight}
use Rattle.core_invariant.specs.SeatRule.{SeatRight}
use Rattle.core_invariant.specs.Rule.{Rule}
use Rattle.core_invariant.specs.LinkLaw.{IsRead}
use Rattle.core_invariant.proofs.Frames.{live_moved, pending_moved, bundle_weaker, knows_moved}
use Rattle.core_invariant.proofs.Pairs.{pairs_same}
use Rattle.core_invariant.proofs.Idle.{idle_none, nameless_idle, section_of, number_low, number_apart}
use Rattle.core_invariant.specs.PruneRule.{PairsRight}

-- putting an item at its own place
pub set_same : {X : Type 0} (xs : List X) (i : ℕ) (x : X) → IsItem xs i x → set xs i x ≡ xs
set_same xs i x at = subst (λ y. set xs i y ≡ xs) (at.is x) (set-get_or xs i x)

-- the item that is found at a place
pub item_from_get : {X : Type 0} (xs : List X) (i : ℕ) (x : X) → slice_get xs i ≡ Some x → IsItem xs i x
item_from_get xs i x found = record { within = slice_get_within xs i x found; is = λ d. get_or_from_slice_get xs i x d found }

-- a view with other slots
abbrev pub with_slots : View → Slots → Slots → Slots → Looks → Slots → View
with_slots v f r b l n = record v { free = f; retired = r; batch = b; grace = l; unused = n }

-- the history is kept if one view keeps its part of it
pub history_kept : (z : Layout) (s : ℕ) (g : Meaning) (vs : List View) (i : ℕ) (v w : View) → IsItem vs i v → w.number ≡ v.number → w.history ≡ v.history
    → HistoryRight z s g.updates vs → HistoryRight z s g.updates (set vs i w)
history_kept z s g vs i v w at number history right = record {
  long = right.long;
  known = knows_moved g.updates vs i v w at (λ all. cc) right.known;
  clients = right.clients;
  places = λ n place. sum_kept (place_count n place) vs i v w at (cc) ∙ right.places n place;
  calls = omega (arith, right.calls, sum_kept calls_left vs i v w at (cc));
  few = right.few;
}

module _ (z : Layout) (m : Memory) (vs : List View) (g : Meaning) where
  abbrev pub Seat : View → Type 0
  Seat = SeatRight z m g

  abbrev pub seat_at : (i : ℕ) (v : View) → IsItem vs i v → Rule z m vs g → Seat v
  seat_at i v at rule = at_item Seat vs i v at rule.seats

  -- a number that is read is at most the stamp
  pub read_past : Rule z m vs g → (n : ℕ) → IsRead (m Stamp) vs n → n ≤ m Stamp
  read_past rule n (inl is) = omega (arith, is)
  read_past rule n (inr by) = subst (λ (o : Option ℕ). IfSome o (λ t. t ≤ m Stamp)) by.reads (seat_at by.seat by.view by.at rule).version.past

  slots_section : (v : View) (f r b : Slots) (l : Looks) (n : Slots) → SectionRight (λ n. m (Section n)) (λ n. m (Announced n)) v
      → SectionRight (λ n. m (Section n)) (λ n. m (Announced n)) (with_slots v f r b l n)
  slots_section v f r b l n right = right

  slots_seat : (v : View) (f r b : Slots) (l : Looks) (n : Slots) → MarksRight (λ k. m (Node Mark k)) (with_slots v f r b l n) → Every (FilledRight m f v.update) v.reading.filled
      → Seat v → Seat (with_slots v f r b l n)
  slots_seat v f r b l n marks filled seat = record {
    layout = seat.layout;
    section = slots_section v f r b l n seat.section;
    seen = seat.seen;
    update = seat.update;
    version = seat.version;
    announced = seat.announced;
    tree = seat.tree;
    locks = seat.locks;
    loaded = seat.loaded;
    marks = marks;
    pending = seat.pending;
    place = seat.place;
    filled = filled;
    links = seat.links;
  }

  -- if a view moves only its slots, and frees no less, only the rules on slots and on marks are left
  pub moved_slots : (i : ℕ) (v : View) (f r b : Slots) (l : Looks) (n : Slots) → IsItem vs i v → Rule z m vs g
      → ((k : ℕ) → count k v.free.nodes ≤ count k f.nodes) → MarksRight (λ k. m (Node Mark k)) (with_slots v f r b l n)
      → Every (FilledRight m f v.update) v.reading.filled → SlotRule z (linked_by g) HoldsNode (HoldsEntry g.bundles) (set vs i (with_slots v f r b l n))
      → Rule z m (set vs i (with_slots v f r b l n)) g
  moved_slots i v f r b l n at rule more marks filled slots =
      let w : View = with_slots v f r b l n in
      record {
        numbers = λ n. sum_kept (number_count n) vs i v w at refl ∙ rule.numbers n;
        history = history_kept z _ g vs i v w at refl refl rule.history;
        slots = slots;
        locks = λ k. sum_kept (lock_count k) vs i v w at refl ∙ rule.locks k;
        tree = rule.tree;
        marks = rule.marks;
        bundles = λ k live side. bundle_weaker _ _ _ _ (IsPendingAt vs k) (IsPendingAt (set vs i w) k) _ _
            (λ e. pending_moved vs i k e v w at refl (λ works. works)) (rule.bundles k (live_moved z vs i k v w at (more k) live) side);
        pairs = pairs_same vs i v w at refl rule.pairs;
        single = λ e. omega (arith, sum_kept (pending_count e) vs i v w at refl, rule.single e);
        seats = all_moved Seat Seat vs i v w at rule.seats (slots_seat v f r b l n marks filled (seat_at i v at rule)) (λ u beside of. of);
      }

  holds_slots : (v : View) (f r b : Slots) (l : Looks) (n : Slots) → HoldsFrom z (linked_by g) HoldsNode (HoldsEntry g.bundles) v (with_slots v f r b l n)
  holds_slots v f r b l n = record { nodes = λ k holds. inl holds; entries = λ e holds. inl holds }

  keeps_slots : (v : View) (f r b : Slots) (l : Looks) (n : Slots) → KeepsSection z (linked_by g) HoldsNode (HoldsEntry g.bundles) v (with_slots v f r b l n)
  keeps_slots v f r b l n = record { number = refl; section = inl refl }

  length_none : (k : ℕ) (xs : List ℕ) → eqb (length xs) 0 ≡ true → count k xs ≡ 0
  length_none k [] e = refl
  length_none k (x ∷ xs) e = let zero_long : length (x ∷ xs) ≡ 0 = eqb-true (length (x ∷ xs)) 0 e in absurd (omega arith)

  batch_none : (s : Slots) → is_empty s ≡ true → no_batch s
  batch_none s e =
      let parts = and_parts (eqb (length s.nodes) 0) (eqb (length s.entries) 0) e in
      (λ k. length_none k s.nodes parts.0, λ k. length_none k s.entries parts.1)

  -- an idle view has no node to mark
  pub idle_marked : (v : View) (k : ℕ) → Seat v → IsIdle v → 0 < count k v.retired.nodes → m (Node Mark k) ≡ 1
  idle_marked v k seat idle some =
      elim (seat.marks.retired k some) as (λ _. m (Node Mark k) ≡ 1) [
        | inl marked ↦ marked
        | inr out ↦ absurd (omega (arith, out.2, ap (λ (hs : List _). lock_count k (record v { held = record v.held { nodes = hs } })) idle.held))
      ]

  -- an idle view has no node that its update took out
  idle_taken : (v : View) (k : ℕ) → IsIdle v → 0 < count k v.update.taken → ⊥
  idle_taken v k idle some = omega (arith, some, ap (λ (u : Updating). count k u.taken) idle.update)

  -- an idle view has filled nothing that it knows
  idle_filled : (f : Slots) (v : View) → IsIdle v → Every (FilledRight m f v.update) v.reading.filled
  idle_filled f v idle = subst (λ (r : Reading). Every (FilledRight m f v.update) r.filled) (sym idle.reading) tt

  taken_by : (i : ℕ) (v : View) (b : Bool) → is_empty v.batch ≡ b → IsItem vs i v → Rule z m vs g → IsIdle v
      → Rule z m (set vs i (cond b (record v { retired = no_slots; batch = v.retired; grace = no_looks }) v)) g
  taken_by i v true empty at rule idle =
      moved_slots i v v.free no_slots v.retired no_looks v.unused at rule (λ k. omega arith)
      (record { retired = λ k some. absurd (omega (arith, some)); batch = λ k some. idle_marked v k (seat_at i v at rule) idle some; taken = λ k some. absurd (idle_taken v k idle some) })
      (idle_filled v.free v idle)
      (take_batch z (linked_by g) HoldsNode (HoldsEntry g.bundles) vs i v (with_slots v v.free no_slots v.retired no_looks v.unused) at rule.slots (batch_none v.batch empty) refl refl refl refl
      (holds_slots v v.free no_slots v.retired no_looks v.unused) (keeps_slots v v.free no_slots v.retired no_looks v.unused))
  taken_by i v false empty at rule idle = subst (λ ws. Rule z m ws g) (sym (set_same vs i v at)) rule

  -- taking the retired slots as the batch keeps the rule
  pub taken : (i : ℕ) (v : View) → IsItem vs i v → Rule z m vs g → IsIdle v → Rule z m (set vs i (batch_taken v)) g
  taken i v at rule idle = taken_by i v (is_empty v.batch) refl at rule idle

  -- if each other pass was passed, no seat holds anything of an idle seat's batch
  none_holds : (i : ℕ) (v : View) → IsItem vs i v → Rule z m vs g → IsIdle v → all_passed z.passes v.number v.grace.passed ≡ true
      → All (HoldsNone HoldsNode (HoldsEntry g.bundles) v.batch) vs
  none_holds i v at rule idle done =
      let None' : View → Type 0 = λ u. HoldsNone HoldsNode (HoldsEntry g.bundles) v.batch u in
      let row : All (GraceRight HoldsNode (HoldsEntry g.bundles) v) vs = at_item (λ u. All (GraceRight HoldsNode (HoldsEntry g.bundles) u) vs) vs i v at rule.slots.grace in
      subst (All None') (set_same vs i v at)
      (all_moved (GraceRight HoldsNode (HoldsEntry g.bundles) v) None' vs i v v at row (idle_none g.bundles v.batch v idle)
      (λ u beside known. all_passed_none z (linked_by g) HoldsNode (HoldsEntry g.bundles) z.passes v u known done
      (λ nameless. idle_none g.bundles v.batch u (nameless_idle (λ n. m (Section n)) (λ n. m (Announced n)) u (seat_at beside.place u beside.at rule).section nameless))
      (λ n is. (number_low z vs beside.place u n rule.numbers beside.at is, number_apart z vs i v u n rule.numbers at beside is))))

  settled_by : (i : ℕ) (v : View) (b : Bool) → all_passed z.passes v.number v.grace.passed ≡ b → IsItem vs i v → Rule z m vs g → IsIdle v
      → Rule z m (set vs i (cond b (batch_freed v) v)) g
  settled_by i v true done at rule idle =
      let f : Slots = both v.free v.batch in
      moved_slots i v f v.retired no_slots no_looks (apart_from v.batch v.unused) at rule (λ k. omega (arith, count-append k v.free.nodes v.batch.nodes))
      (record { retired = λ k some. inl (idle_marked v k (seat_at i v at rule) idle some); batch = λ k some. absurd (omega (arith, some)); taken = (seat_at i v at rule).marks.taken })
      (idle_filled f v idle)
      (free_batch z (linked_by g) HoldsNode (HoldsEntry g.bundles) vs i v (with_slots v f v.retired no_slots no_looks (apart_from v.batch v.unused)) at rule.slots (none_holds i v at rule idle done) refl refl refl refl (λ k h. h) (λ e h. h)
      (keeps_slots v f v.retired no_slots no_looks (apart_from v.batch v.unused)))
  settled_by i v false done at rule idle = subst (λ ws. Rule z m ws g) (sym (set_same vs i v at)) rule

  -- setting a batch free that may be set free keeps the rule
  pub settled_right : (i : ℕ) (v : View) → IsItem vs i v → Rule z m vs g → IsIdle v → Rule z m (set vs i (settled z.passes v)) g
  settled_right i v at rule idle = settled_by i v (all_passed z.passes v.number v.grace.passed) refl at rule idle

  not_both : (n : ℕ) (number : Option ℕ) → number ≡ Some n → is_number n number ≡ false → ⊥
  not_both n None is other = cc
  not_both n (Some k) is other = let same : k ≡ n = cc in cc (eq-eqb k n same)

  -- a look that found the section word of another pass keeps the rule, if a pass outside a section holds nothing of the
  -- batch
  pub look_right : (i : ℕ) (v : View) (pass : ℕ) → IsItem vs i v → Rule z m vs g → is_number pass v.number ≡ false
      → ((u : View) → Beside vs i u → is_even u.section_word ≡ true → HoldsNone HoldsNode (HoldsEntry g.bundles) v.batch u)
      → Rule z m (set vs i (record v { grace = looked_at v.grace pass (m (Section pass)) })) g
  look_right i v pass at rule other none =
      let l : Looks = looked_at v.grace pass (m (Section pass)) in
      let w : View = with_slots v v.free v.retired v.batch l v.unused in
      let s : ℕ → ℕ = λ n. m (Section n) in
      let a : ℕ → ℕ = λ n. m (Announced n) in
      let marks = (seat_at i v at rule).marks in
      moved_slots i v v.free v.retired v.batch l v.unused at rule (λ k. omega arith) marks
      (seat_at i v at rule).filled
      (quiet z (linked_by g) HoldsNode (HoldsEntry g.bundles) vs i v w at rule.slots refl refl refl (holds_slots v v.free v.retired v.batch l v.unused) (keeps_slots v v.free v.retired v.batch l v.unused)
      (λ known. look_row z (linked_by g) HoldsNode (HoldsEntry g.bundles) v w pass (m (Section pass)) (λ is. absurd (not_both pass v.number is other)) (λ is even. absurd (not_both pass v.number is other)) known)
      (λ u beside known.
      let right : SectionRight s a u = (seat_at beside.place u beside.at rule).section in
      look_row z (linked_by g) HoldsNode (HoldsEntry g.bundles) v u pass (m (Section pass)) (λ is. sym (section_of s a u pass right is))
      (λ is even. none u beside (ap is_even (sym (section_of s a u pass right is)) ∙ even)) known))

  -- that other slots are known as never used keeps the rule
  pub used_right : (i : ℕ) (v : View) (n : Slots) → IsItem vs i v → Rule z m vs g → Rule z m (set vs i (record v { unused = n })) g
  used_right i v n at rule =
      let w : View = with_slots v v.free v.retired v.batch v.grace n in
      let marks = (seat_at i v at rule).marks in
      moved_slots i v v.free v.retired v.batch v.grace n at rule (λ k. omega arith) marks
      (seat_at i v at rule).filled
      (quiet z (linked_by g) HoldsNode (HoldsEntry g.bundles) vs i v w at rule.slots refl refl refl (holds_slots v v.free v.retired v.batch v.grace n) (keeps_slots v v.free v.retired v.batch v.grace n)
      (λ known. same_looks z (linked_by g) HoldsNode (HoldsEntry g.bundles) v w w refl refl known)
      (λ u beside known. same_looks z (linked_by g) HoldsNode (HoldsEntry g.bundles) v w u refl refl known))

-- A move of one view that keeps its slots and its update keeps the rule, if the rule on its seat is kept.

-- the history of a view that has made and given up the same
pub record SameMade (h h' : SeenHistory) : Type 0 where
  pub mine : h'.mine ≡ h.mine
  pub ended : h'.ended ≡ h.ended
  pub ended_places : h'.ended_places ≡ h.ended_places
  pub left : h'.left ≡ h.left

module _ (z : Layout) (m : Memory) (vs : List View) (g : Meaning) (rule : Rule z m vs g) (i : ℕ) (v : View) (at : IsItem vs i v) (h : SeenHistory) (c : Counts) (r : Reading) (l : Held) where
  -- the view has seen, read and loaded other things
  abbrev pub moved : View
  moved = record v { history = h; counts = c; reading = r; held = l }

  pub quiet_kept : PairsRight (set vs i moved) → SameMade v.history h → (v.history.seen ≡ g.updates → h.seen ≡ g.updates) → held_slots l.nodes ≡ held_slots v.held.nodes
      → HoldsFrom z (linked_by g) HoldsNode (HoldsEntry g.bundles) v moved → SeatRight z m g moved
      → Rule z m (set vs i moved) g
  quiet_kept pairs made known locks holds seat =
      let work : work_nodes moved ≡ work_nodes v = ap (λ xs. xs ++ listed v.update.added) locks in
      record {
        numbers = λ n. sum_kept (number_count n) vs i v moved at (ap (λ xs. count n (own_number v.number) + (count n xs + count n v.to_give)) made.ended) ∙ rule.numbers n;
        history = record {
          long = rule.history.long;
          known = knows_moved g.updates vs i v moved at known rule.history.known;
          clients = rule.history.clients;
          places = λ n p. sum_kept (place_count n p) vs i v moved at (cc) ∙ rule.history.places n p;
          calls = omega (arith, rule.history.calls, sum_kept calls_left vs i v moved at made.left);
          few = rule.history.few;
        };
        slots = quiet z (linked_by g) HoldsNode (HoldsEntry g.bundles) vs i v moved at rule.slots refl refl refl holds
            (record { number = refl; section = inl refl })
            (λ right. same_looks z (linked_by g) HoldsNode (HoldsEntry g.bundles) v moved moved refl refl right)
            (λ u beside right. same_looks z (linked_by g) HoldsNode (HoldsEntry g.bundles) v moved u refl refl right);
        locks = λ k. sum_kept (lock_count k) vs i v moved at (ap (count k) locks) ∙ rule.locks k;
        tree = rule.tree;
        marks = rule.marks;
        bundles = λ k live side. bundle_weaker _ _ _ _ (IsPendingAt vs k) (IsPendingAt (set vs i moved) k) _ _
            (λ e. pending_moved vs i k e v moved at refl (λ works. subst (λ xs. 0 < count k xs) (sym work) works)) (rule.bundles k (live_moved z vs i k v moved at (omega arith) live) side);
        pairs = pairs;
        single = λ e. omega (arith, sum_kept (pending_count e) vs i v moved at refl, rule.single e);
        seats = all_moved (SeatRight z m g) (SeatRight z m g) vs i v moved at rule.seats seat (λ u beside of. of);
      }
