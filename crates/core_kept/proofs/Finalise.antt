-- Finalise keeps the rule: the number of the raise is written into a pending entry.
use Rattle.std.proofs.Common.{◌≡◌, ℕ, ◌<◌, ◌≤◌, cond, List, [], ◌∷◌, set, arith, refl, ap, ◌∙◌, sym, subst, inl, inr, Option, Some, None, true}
use Rattle.std.specs.Prelude.{IfSome}
use Rattle.std.proofs.lemmas.Bool.{eq-eqb}
use Rattle.std.proofs.lemmas.Bool.Decides.{eqb_tells}
use Rattle.std.proofs.lemmas.Option.{IfSome_then}
use Rattle.index_words.specs.declared.layout.Layout.{Layout}
use Rattle.index_words.specs.declared.side.Side.{Side}
use Rattle.index_words.specs.declared.view.View.{View}
use Rattle.index_words.specs.declared.view.update.HeldNode.{HeldNode}
use Rattle.index_words.specs.declared.view.update.HeldSide.{HeldSide}
use Rattle.index_words.specs.declared.view.update.HeldNext.{HeldNext}
use Rattle.index_words.specs.declared.view.update.Updating.{Updating}
use Rattle.index_words.specs.declared.view.reading.Place.{Place}
use Rattle.index_words.specs.declared.view.reading.Place.TheVariants.{Entry as AtEntry}
use Rattle.index_words.specs.declared.word.Field.TheVariants.{Head}
use Rattle.index_words.specs.declared.word.Part.TheVariants.{Stamp as Number}
use Rattle.index_words.specs.declared.word.Word.{Word}
use Rattle.index_words.specs.declared.word.Word.TheVariants.{Stamp, Node, Entry}
use Rattle.index_words.specs.Words.{Memory, written}
use Rattle.index_words.specs.Views.{no_update}
use Rattle.key_map.specs.Lists.{count, Every, IsItem}
use Rattle.index_words.proofs.Seats.{Beside, sum_moved, sum_kept, two_terms, at_item, all_moved}
use Rattle.core_grace.specs.Sections.{is_even}
use Rattle.core_grace.specs.Holds.{HoldsNode, HoldsEntry, work_nodes}
use Rattle.core_grace.proofs.RuleMoves.{quiet, same_looks}
use Rattle.core_events.specs.Numbered.{shown}
use Rattle.core_invariant.proofs.Pairs.{pairs_same}
use Rattle.core_invariant.specs.Meanings.{Meaning, linked_by}
use Rattle.core_invariant.specs.Numbers.{number_count}
use Rattle.core_invariant.specs.Locks.{lock_count, SideRight, IsNodeAt, IsNextAt}
use Rattle.core_invariant.specs.BundleRule.{IsLive, IsPendingAt, IsBundle, IsNumbered, TailWritten, IsPending, pending_count}
use Rattle.core_invariant.specs.Readers.{StandsAt, IsPassed, IsBelow, PlaceRight}
use Rattle.core_invariant.specs.FilledRule.{IsOwnSlotWord}
use Rattle.core_invariant.specs.SeatRule.{SeatRight}
use Rattle.core_events.specs.UpdateMoves.{finalised}
use Rattle.core_invariant.specs.Rule.{Rule}
use Rattle.core_invariant.proofs.Frames.{every_map, every_listed, every_at, live_moved}
use Rattle.core_invariant.proofs.Passing.{count-without_other, count-without-le, every_without}
use Rattle.core_invariant.proofs.OneView.{history_kept, seat_at}
use Rattle.core_invariant.proofs.Owned.{held_live, head_apart}
use Rattle.core_invariant.proofs.Filled.{entry_other, every_filled, entry_apart}
use Rattle.core_invariant.proofs.Locked.{work_holds}
use Rattle.core_kept.proofs.WaitingLocks.{pending_inside}

entry_same : (m : Memory) (e x : ℕ) → written m (Entry Number e) x (Entry Number e) ≡ x
entry_same m e x = ap (λ b. cond b x (m (Entry Number e))) (eq-eqb e e refl)

-- no update is under way, and yet an entry is pending
pub not_done : (e : ℕ) (u : Updating) → 0 < count e u.pending → u ≡ no_update → ⊥
not_done e u some none = omega (arith, some, ap (λ (x : Updating). count e x.pending) none)

-- a number that was found is still there, where only a stamp that was 0 has changed
pub found_kept : (stamp stamp' : ℕ → ℕ) (d : ℕ) (found : Option ℕ) → (0 < stamp d → stamp' d ≡ stamp d)
    → IfSome found (λ x. 0 < x → stamp d ≡ x) → IfSome found (λ x. 0 < x → stamp' d ≡ x)
found_kept stamp stamp' d found same right =
    IfSome_then found right (λ x known some. same (omega (arith, some, known some)) ∙ known some)

-- so is a number that is below another one
below_kept : (stamp stamp' : ℕ → ℕ) (d : ℕ) (above : Option ℕ) → (0 < stamp d → stamp' d ≡ stamp d) → IsBelow stamp d above → IsBelow stamp' d above
below_kept stamp stamp' d None same right = tt
below_kept stamp stamp' d (Some x) same right = λ some. let old = right some in (omega (arith, old.0, same old.0), omega (arith, old.1, same old.0))

side_kept : (stamp stamp' : ℕ → ℕ) (head : ℕ) (s : HeldSide) → ((d : ℕ) → 0 < stamp d → stamp' d ≡ stamp d) → SideRight head stamp s → SideRight head stamp' s
side_kept stamp stamp' head s same right =
    record { head = IfSome_then s.head right.head (λ l known. (known.0, found_kept stamp stamp' l.entry l.stamp (same l.entry) known.1)) }

module _ (z : Layout) (m : Memory) (vs : List View) (g : Meaning) (rule : Rule z m vs g) (i e r : ℕ) (v : View) (at : IsItem vs i v)
    (raised : v.update.raised ≡ Some r) (some : 0 < count e v.update.pending) where
  abbrev stamp : ℕ → ℕ
  stamp d = m (Entry Number d)

  abbrev m' : Memory
  m' = written m (Entry Number e) r

  abbrev stamp' : ℕ → ℕ
  stamp' d = m' (Entry Number d)

  abbrev w : View
  w = finalised v e

  own : SeatRight z m g v
  own = seat_at z m vs g i v at rule

  known : IsPending z (λ s k. m (Node (Head s) k)) stamp g.bundles.number v e
  known = every_at (IsPending z (λ s k. m (Node (Head s) k)) stamp g.bundles.number v) e v.update.pending own.pending some

  raise_past : (0 < r) × (r ≤ m Stamp)
  raise_past = subst (λ (o : Option ℕ). IfSome o (λ x. (0 < x) × (x ≤ m Stamp))) raised own.update.raised

  numbered : g.bundles.number e ≡ r
  numbered = known.1 ∙ ap shown raised

  other_stamp : (d : ℕ) → (d ≡ e → ⊥) → stamp' d ≡ stamp d
  other_stamp d other = entry_other m Number Number e d r other

  -- only a stamp that was 0 has changed
  kept_stamp : (d : ℕ) → 0 < stamp d → stamp' d ≡ stamp d
  kept_stamp d written = other_stamp d (λ same. omega (arith, written, known.0, ap stamp same))

  numbers_kept : (d : ℕ) → IsNumbered (m Stamp) stamp g.bundles.number d → IsNumbered (m Stamp) stamp' g.bundles.number d
  numbers_kept d right above =
      elim (eqb_tells d e) as (λ _. (g.bundles.number d ≡ stamp' d) × (stamp' d ≤ m Stamp)) [
        | inl same ↦ subst (λ x. (g.bundles.number x ≡ stamp' x) × (stamp' x ≤ m Stamp)) (sym same.1)
            (numbered ∙ sym (entry_same m e r), omega (arith, entry_same m e r, raise_past.1))
        | inr other ↦
            let is : stamp' d ≡ stamp d = other_stamp d other.1 in
            let old = right (omega (arith, is, above)) in
            (old.0 ∙ sym is, omega (arith, is, old.1))
      ]

  written_more : (d : ℕ) → 0 < stamp d → 0 < stamp' d
  written_more d above = omega (arith, kept_stamp d above, above)

  tail_kept : (es : List ℕ) → TailWritten stamp es → TailWritten stamp' es
  tail_kept [] right = tt
  tail_kept (x ∷ es) right = every_map (λ d. 0 < stamp d) (λ d. 0 < stamp' d) es written_more right

  owned_kept : (k d : ℕ) → (stamp d ≡ 0 → IsPendingAt vs k d) → stamp' d ≡ 0 → IsPendingAt (set vs i w) k d
  owned_kept k d owned none =
      let apart : d ≡ e → ⊥ = λ same. omega (arith, none, raise_past.0, entry_same m e r, ap stamp' same) in
      let old = owned (sym (other_stamp d apart) ∙ none) in
      let P : View → Type 0 = λ u. 0 < pending_count d u → 0 < count k (work_nodes u) in
      let same : pending_count d w ≡ pending_count d v = count-without_other d e v.update.pending apart in (
        sum_kept (pending_count d) vs i v w at same ∙ old.0,
        all_moved P P vs i v w at old.1 (λ more. at_item P vs i v at old.1 (omega (arith, same, more))) (λ u beside of. of),
      )

  bundle_kept : (k : ℕ) → IsLive z (set vs i w) k → (side : Side) → IsBundle m' (set vs i w) g k side
  bundle_kept k live side =
      let right = rule.bundles k (live_moved z vs i k v w at (omega arith) live) side in
      record {
        chain = right.chain;
        numbers =
            every_map (IsNumbered (m Stamp) stamp g.bundles.number) (IsNumbered (m Stamp) stamp' g.bundles.number)
            (g.bundles.bundle side k) numbers_kept right.numbers;
        tail = tail_kept (g.bundles.bundle side k) right.tail;
        falls = right.falls;
        owned =
            every_map (λ d. stamp d ≡ 0 → IsPendingAt vs k d) (λ d. stamp' d ≡ 0 → IsPendingAt (set vs i w) k d)
            (g.bundles.bundle side k) (owned_kept k) right.owned;
      }

  place_kept : (u : View) (place : Place) → PlaceRight z stamp g.bundles u place → PlaceRight z stamp' g.bundles u place
  place_kept u (AtEntry node side entry found) right = record {
    reach = right.reach;
    stands = λ low watched.
        let stands : StandsAt stamp (g.bundles.bundle side node) entry found u.reading.above (IsPassed g.bundles.number u node) = right.stands low watched in
        record {
          front = stands.front;
          back = stands.back;
          splits = stands.splits;
          passed = stands.passed;
          found = found_kept stamp stamp' entry found (kept_stamp entry) stands.found;
          falls = below_kept stamp stamp' entry u.reading.above (kept_stamp entry) stands.falls;
        };
  }
  place_kept u _ right = tt

  node_kept : (h : HeldNode) → IsNodeAt m h → IsNodeAt m' h
  node_kept h right = record {
    key = right.key;
    val = right.val;
    mark = right.mark;
    left = side_kept stamp stamp' _ h.left kept_stamp right.left;
    right = side_kept stamp stamp' _ h.right kept_stamp right.right;
    plain = right.plain;
  }

  next_kept : (locked : List HeldNode) (l : HeldNext) → IsNextAt m g.bundles locked l → IsNextAt m' g.bundles locked l
  next_kept locked l right = record {
    is = right.is;
    locked = right.locked;
    here = right.here;
    found = found_kept stamp stamp' l.entry l.stamp (kept_stamp l.entry) right.found;
  }

  nexts_kept : (u : View) → Every (IsNextAt m g.bundles u.held.nodes) u.held.nexts → Every (IsNextAt m' g.bundles u.held.nodes) u.held.nexts
  nexts_kept u right = every_map (IsNextAt m g.bundles u.held.nodes) (IsNextAt m' g.bundles u.held.nodes) u.held.nexts (next_kept u.held.nodes) right

  -- the pending entry is the head of a live node's bundle, and so not free
  unfree : (j : ℕ) (u : View) → IsItem vs j u → 0 < count e u.free.entries → ⊥
  unfree j u of free =
      let head = known.2 in
      head_apart z m vs g rule j e head.node u head.side of free
      (held_live z vs g rule.slots i head.node v at (work_holds v head.node head.of) head.there) head.is

  not_yet : v.update.raised ≡ None → ⊥
  not_yet none = apart v.update.raised none raised
    where
      apart : (o : Option ℕ) → o ≡ None → o ≡ Some r → ⊥
      apart None is one = cc
      apart (Some n) is one = cc

  own_before : (y : Word) → IsOwnSlotWord v.free w.update y → IsOwnSlotWord v.free v.update y
  own_before (Node f k) is = is
  own_before (Entry p d) (inl free) = inl free
  own_before (Entry p d) (inr yet) = absurd (not_yet yet.0)
  own_before _ is = absurd is

  own_apart : (y : Word) → IsOwnSlotWord v.free w.update y → m' y ≡ m y
  own_apart (Node f k) is = refl
  own_apart (Entry p d) (inl free) = entry_other m Number p e d r (λ same. unfree i v at (subst (λ x. 0 < count x v.free.entries) same free))
  own_apart (Entry p d) (inr yet) = absurd (not_yet yet.0)
  own_apart _ is = absurd is

  inside : is_even v.section_word ≡ true → ⊥
  inside even =
      pending_inside v (λ none. not_done e v.update some (own.section.done none)) (λ none. omega (arith, some, ap (count e) none)) (own.section.unlocked even)

  own_kept : SeatRight z m' g w
  own_kept = record {
    layout = own.layout;
    section = record {
      section = own.section.section;
      announced = own.section.announced;
      outside = λ even. absurd (inside even);
      unlocked = λ even. absurd (inside even);
      done = λ none. absurd (not_done e v.update some (own.section.done none));
      waits = own.section.waits;
    };
    seen = own.seen;
    update = record { raised = own.update.raised; first = own.update.first };
    version = own.version;
    announced = own.announced;
    tree = own.tree;
    locks = own.locks;
    loaded = record { nodes = every_map _ _ v.held.nodes node_kept own.loaded.nodes; nexts = nexts_kept v own.loaded.nexts };
    marks = own.marks;
    pending = every_without
        (IsPending z (λ s k. m (Node (Head s) k)) stamp g.bundles.number v) (IsPending z (λ s k. m (Node (Head s) k)) stamp' g.bundles.number w)
        e v.update.pending (λ d within apart right. (other_stamp d apart ∙ right.0, right.1, right.2)) own.pending;
    place = place_kept v v.reading.place own.place;
    filled = every_filled m m' v.free v.free v.update w.update v.reading.filled own_before own_apart own.filled;
    links = own.links;
  }

  -- another view does not have the entry pending
  pending_apart : (u : View) (d : ℕ) → Beside vs i u → 0 < count d u.update.pending → d ≡ e → ⊥
  pending_apart u d beside of same =
      omega (arith, rule.single e, two_terms (pending_count e) vs i v u at beside, some, subst (λ x. 0 < count x u.update.pending) same of)

  other_kept : (u : View) → Beside vs i u → SeatRight z m g u → SeatRight z m' g u
  other_kept u beside of = record {
    layout = of.layout;
    section = of.section;
    seen = of.seen;
    update = of.update;
    version = of.version;
    announced = of.announced;
    tree = of.tree;
    locks = of.locks;
    loaded = record { nodes = every_map _ _ u.held.nodes node_kept of.loaded.nodes; nexts = nexts_kept u of.loaded.nexts };
    marks = of.marks;
    pending = every_listed
        (IsPending z (λ s k. m (Node (Head s) k)) stamp g.bundles.number u) (IsPending z (λ s k. m (Node (Head s) k)) stamp' g.bundles.number u)
        u.update.pending (λ d within right. (other_stamp d (pending_apart u d beside within) ∙ right.0, right.1, right.2)) of.pending;
    place = place_kept u u.reading.place of.place;
    filled = every_filled m m' u.free u.free u.update u.update u.reading.filled (λ y is. is)
        (entry_apart m u.free u.update Number e r (unfree beside.place u beside.at) (λ more. pending_apart u e beside more refl)) of.filled;
    links = of.links;
  }

  pub finalise_kept : Rule z m' (set vs i w) g
  finalise_kept = record {
    numbers = λ k. sum_kept (number_count k) vs i v w at refl ∙ rule.numbers k;
    history = history_kept z _ g vs i v w at refl refl rule.history;
    slots = quiet z (linked_by g) HoldsNode (HoldsEntry g.bundles) vs i v w at rule.slots refl refl refl
        (record { nodes = λ k holds. inl holds; entries = λ x holds. inl holds }) (record { number = refl; section = inl refl })
        (λ known. same_looks z (linked_by g) HoldsNode (HoldsEntry g.bundles) v w w refl refl known)
        (λ u beside known. same_looks z (linked_by g) HoldsNode (HoldsEntry g.bundles) v w u refl refl known);
    locks = λ k. sum_kept (lock_count k) vs i v w at refl ∙ rule.locks k;
    tree = rule.tree;
    marks = record { root = rule.marks.root; nodes = rule.marks.nodes };
    bundles = bundle_kept;
    pairs = pairs_same vs i v w at refl rule.pairs;
    single = λ d. omega (arith, sum_moved (pending_count d) vs i v w at, count-without-le d e v.update.pending, rule.single d);
    seats = all_moved (SeatRight z m g) (SeatRight z m' g) vs i v w at rule.seats own_kept other_kept;
  }
