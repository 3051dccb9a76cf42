-- A leave keeps the rule: with no lock held, and at the wait of a removal with the locks that it keeps.
use Rattle.std.proofs.Common.{◌≡◌, ◌≢◌, ℕ, ◌<◌, ◌⊎◌, List, [], false, true, set, arith, refl, ap, ◌∙◌, sym, subst, inl, inr, Some, None, is_some}
use Rattle.std.specs.List.{All}
use Rattle.index_words.specs.declared.layout.Layout.{Layout}
use Rattle.index_words.specs.declared.view.View.{View}
use Rattle.index_words.specs.declared.view.slots.SectionFound.{SectionFound}
use Rattle.index_words.specs.declared.view.update.Updating.{Updating}
use Rattle.index_words.specs.declared.word.Field.TheVariants.{Head}
use Rattle.index_words.specs.declared.word.Part.TheVariants.{Stamp as Number}
use Rattle.index_words.specs.declared.word.Word.TheVariants.{Stamp, Section, Node, Entry}
use Rattle.index_words.specs.Words.{Memory, written}
use Rattle.key_map.specs.Lists.{count, Every, IsItem}
use Rattle.key_map.proofs.Counting.{count-append}
use Rattle.index_words.proofs.Seats.{Beside, sum_kept, at_item, all_moved, pairs_moved}
use Rattle.core_grace.specs.Sections.{is_even}
use Rattle.core_grace.specs.Holds.{HoldsNode, HoldsEntry, held_slots, listed, tree_slots, work_nodes}
use Rattle.core_grace.specs.Slots.{nodes_of, entries_in, HoldsNone, GraceRight, KeepsEntries, Linked, SlotRule}
use Rattle.core_grace.proofs.RuleMoves.{every_weaker, same_looks}
use Rattle.core_grace.proofs.SlotMoves.{slots_moved}
use Rattle.core_events.specs.Moves.{left}
use Rattle.core_invariant.specs.Meanings.{Meaning, linked_by}
use Rattle.core_invariant.specs.Numbers.{number_count}
use Rattle.core_invariant.specs.SectionRule.{IsKeptLock, Waits}
use Rattle.core_invariant.specs.Locks.{lock_count}
use Rattle.core_invariant.specs.BundleRule.{IsPendingAt, IsPending, pending_count}
use Rattle.core_invariant.specs.SeatRule.{SeatRight}
use Rattle.core_invariant.specs.Rule.{Rule}
use Rattle.core_invariant.proofs.Frames.{live_moved, bundle_weaker}
use Rattle.core_invariant.proofs.Filled.{every_filled, section_apart}
use Rattle.core_invariant.proofs.Pairs.{announced_idle, pairs_idle}
use Rattle.core_invariant.proofs.Idle.{number_apart}
use Rattle.core_invariant.proofs.OneView.{history_kept, seat_at}
use Rattle.core_invariant.proofs.WaitNeeds.{waiting_none}
use Rattle.core_kept.proofs.Stores.{apart_from, own_stored, other_stored}

module _ (z : Layout) (linked : Linked) (hn he : View → ℕ → Type 0) (vs : List View) (rule : SlotRule z linked hn he vs) (i : ℕ) (v w : View)
    (at : IsItem vs i v) where
  -- a view that holds nothing of the batch
  none_column : (u : View) → HoldsNone hn he u.batch w → GraceRight hn he u v → GraceRight hn he u w
  none_column u none right = record {
    passed = every_weaker (λ n. v.number ≡ Some n → HoldsNone hn he u.batch v) (λ n. w.number ≡ Some n → HoldsNone hn he u.batch w) u.grace.passed
        (λ n known is. none) right.passed;
    found =
        every_weaker (λ (f : SectionFound). v.number ≡ Some f.pass → v.section_word ≢ f.word → HoldsNone hn he u.batch v)
        (λ (f : SectionFound). w.number ≡ Some f.pass → w.section_word ≢ f.word → HoldsNone hn he u.batch w) u.grace.found
        (λ f known is differs. none) right.found;
  }

  -- a view that holds less, and nothing of any batch, keeps the rule on slots with whatever section word
  pub none_moved : w.free ≡ v.free → w.retired ≡ v.retired → w.batch ≡ v.batch → w.grace ≡ v.grace → ((k : ℕ) → hn w k → hn v k) → ((e : ℕ) → he w e → he v e)
      → ((j : ℕ) (u : View) → IsItem vs j u → HoldsNone hn he u.batch w) → SlotRule z linked hn he (set vs i w)
  none_moved free retired batch grace nodes entries none =
      let Keeps : View → Type 0 = λ u. KeepsEntries linked.entries_of u.retired × KeepsEntries linked.entries_of u.batch in
      let own_row : All (GraceRight hn he v) vs = at_item (λ u. All (GraceRight hn he u) vs) vs i v at rule.grace in
      let own_keeps : Keeps v = at_item Keeps vs i v at rule.retired in
      record {
        nodes = slots_moved nodes_of z.nodes linked.nodes hn vs i v w at rule.nodes (λ k. cc) (λ k. cc) (λ k holds. inl (nodes k holds));
        entries = slots_moved entries_in z.entries linked.entries he vs i v w at rule.entries (λ k. cc) (λ k. cc) (λ e holds. inl (entries e holds));
        grace = pairs_moved (GraceRight hn he) (GraceRight hn he) vs i v w at rule.grace
            (same_looks z linked hn he v w w batch grace (none_column v (none i v at) (at_item (GraceRight hn he v) vs i v at own_row)))
            (λ u beside right. same_looks z linked hn he v w u batch grace right)
            (λ u beside right. none_column u (none beside.place u beside.at) right)
            (λ t u beside other right. right);
        retired = all_moved Keeps Keeps vs i v w at rule.retired
            (subst (KeepsEntries linked.entries_of) (sym retired) own_keeps.0, subst (KeepsEntries linked.entries_of) (sym batch) own_keeps.1)
            (λ u beside of. of);
      }

-- a leave with nothing pending, where each lock that is held is one of those that are kept
module _ (z : Layout) (m : Memory) (vs : List View) (g : Meaning) (rule : Rule z m vs g) (i n value : ℕ) (v : View) (at : IsItem vs i v)
    (named : v.number ≡ Some n) (inside : is_even v.section_word ≡ false)
    (nothing : v.update.pending ≡ []) (kept : Every (IsKeptLock v.update.taken) v.held.nodes)
    (past : (v.held.nodes ≡ []) ⊎ (is_some v.update.raised ≡ true)) where
  abbrev m' : Memory
  m' = written m (Section n) value

  abbrev w : View
  w = left v value

  own : SeatRight z m g v
  own = seat_at z m vs g i v at rule

  works_less : (k : ℕ) → 0 < count k (work_nodes w) → 0 < count k (work_nodes v)
  works_less k some = omega (arith, some, count-append k (held_slots v.held.nodes) [], count-append k (held_slots v.held.nodes) (listed v.update.added))

  holds_less : (k : ℕ) → HoldsNode w k → HoldsNode v k
  holds_less k holds = omega (arith, works_less k holds, count-append k (tree_slots v.reading.tree) (work_nodes v))

  entry_less : (e : ℕ) → HoldsEntry g.bundles w e → HoldsEntry g.bundles v e
  entry_less e (inl reads) = absurd reads
  entry_less e (inr stands) = inr (record { node = stands.node; side = stands.side; of = works_less stands.node stands.of; here = stands.here })

  pending_kept : (k d : ℕ) → IsPendingAt vs k d → IsPendingAt (set vs i w) k d
  pending_kept k d is =
      let P : View → Type 0 = λ u. 0 < pending_count d u → 0 < count k (work_nodes u) in (
        sum_kept (pending_count d) vs i v w at refl ∙ is.0,
        all_moved P P vs i v w at is.1 (λ more. absurd (omega (arith, more, ap (count d) nothing))) (λ u beside of. of),
      )

  waits_now : (v.held.nodes ≡ []) ⊎ (is_some v.update.raised ≡ true) → is_some v.number ≡ true
      → (v.held.nodes ≡ []) ⊎ Waits v.number v.held.nodes v.update.raised None v.update.pending v.update.taken
  waits_now (inl none) some = inl none
  waits_now (inr raised) some = inr (record { named = some; past = raised; bare = refl; done = nothing; kept = kept })

  own_now : SeatRight z m' g w
  own_now = record {
    layout = own.layout;
    section = record {
      section = own_stored (λ k. m (Section k)) v.number n value named;
      announced = own.section.announced;
      outside = λ even. refl;
      unlocked = λ even. waits_now past (ap is_some named);
      done = λ none. ap (λ (u : Updating). record u { added = None }) (own.section.done none);
      waits = λ odd. own.section.waits inside;
    };
    seen = own.seen;
    update = record { raised = own.update.raised; first = λ none. refl };
    version = record { past = tt; opened = tt; bare = λ none. refl; there = λ k some. absurd (omega (arith, some)) };
    announced = announced_idle (m Stamp) w own.announced.low refl refl;
    tree = tt;
    locks = own.locks;
    loaded = own.loaded;
    marks = own.marks;
    pending = subst (Every (IsPending z (λ s k. m (Node (Head s) k)) (λ e. m (Entry Number e)) g.bundles.number w)) (sym nothing) tt;
    place = tt;
    filled = tt;
    links = tt;
  }

  other_now : (u : View) → Beside vs i u → SeatRight z m g u → SeatRight z m' g u
  other_now u beside of = record {
    layout = of.layout;
    section = record {
      section = other_stored (λ k. m (Section k)) u.number n value u.section_word
          (λ k is. apart_from v.number n k named (number_apart z vs i v u k rule.numbers at beside is)) of.section.section;
      announced = of.section.announced;
      outside = of.section.outside;
      unlocked = of.section.unlocked;
      done = of.section.done;
      waits = of.section.waits;
    };
    seen = of.seen;
    update = of.update;
    version = of.version;
    announced = of.announced;
    tree = of.tree;
    locks = of.locks;
    loaded = of.loaded;
    marks = of.marks;
    pending = of.pending;
    place = of.place;
    filled = every_filled m m' u.free u.free u.update u.update u.reading.filled (λ y is. is) (section_apart m u.free u.update n value) of.filled;
    links = of.links;
  }

  pub leave_kept : Rule z m' (set vs i w) g
  leave_kept = record {
    numbers = λ k. sum_kept (number_count k) vs i v w at refl ∙ rule.numbers k;
    history = history_kept z _ g vs i v w at refl refl rule.history;
    slots = none_moved z (linked_by g) HoldsNode (HoldsEntry g.bundles) vs rule.slots i v w at refl refl refl refl holds_less entry_less
        (λ j u of. waiting_none z m vs g rule i v at j u w of refl refl refl kept);
    locks = λ k. sum_kept (lock_count k) vs i v w at refl ∙ rule.locks k;
    tree = rule.tree;
    marks = record { root = rule.marks.root; nodes = rule.marks.nodes };
    bundles = λ k live side.
        bundle_weaker _ _ _ _ (IsPendingAt vs k) (IsPendingAt (set vs i w) k) _ _ (pending_kept k)
        (rule.bundles k (live_moved z vs i k v w at (omega arith) live) side);
    pairs = pairs_idle vs i v w at refl refl rule.pairs;
    single = λ e. omega (arith, sum_kept (pending_count e) vs i v w at refl, rule.single e);
    seats = all_moved (SeatRight z m g) (SeatRight z m' g) vs i v w at rule.seats own_now other_now;
  }
