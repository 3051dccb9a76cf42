-- A load of the stamp keeps the rule: a seat that has announced reads from then on, and any other one knows the history
-- alone.
use Rattle.std.proofs.Common.{◌≡◌, ℕ, ◌+◌, ◌<◌, ◌≤◌, ◌⊎◌, cond, List, [], ◌∷◌, length, Bool, true, false, eqb, leb, set, arith, refl, ap, ◌∙◌, sym, subst, inl, inr, Option, Some, None}
use Rattle.std.specs.Prelude.{IfSome, IsSomeAnd}
use Rattle.std.proofs.lemmas.Bool.{cases_lt}
use Rattle.std.proofs.lemmas.List.{take_all}
use Rattle.index_words.specs.declared.layout.Layout.{Layout}
use Rattle.index_words.specs.declared.side.Side.{Side}
use Rattle.key_map.specs.declared.update.Update.{Update}
use Rattle.index_words.specs.declared.view.View.{View}
use Rattle.index_words.specs.declared.view.reading.TreeNode.{TreeNode}
use Rattle.index_words.specs.declared.word.Word.TheVariants.{Stamp}
use Rattle.index_words.specs.Words.{Memory}
use Rattle.key_map.specs.Lists.{count, Every, IsItem}
use Rattle.key_map.proofs.Counting.{count-append}
use Rattle.index_words.proofs.Seats.{pairs_moved}
use Rattle.core_grace.specs.Sections.{is_even}
use Rattle.core_grace.specs.Holds.{HoldsNode, HoldsEntry, work_nodes, tree_slots, linked_in, read_at}
use Rattle.core_grace.proofs.RuleMoves.{HoldsFrom}
use Rattle.core_events.specs.Announcing.{has_announced}
use Rattle.core_events.specs.LoadMoves.{stamp_history, stamp_reading, stamp_loaded}
use Rattle.core_events.specs.Versions.{tree_nodes, slots_of}
use Rattle.core_events.proofs.Tests.{announced_some}
use Rattle.core_invariant.specs.Meanings.{Meaning, linked_by}
use Rattle.core_invariant.specs.Histories.{SeenRight}
use Rattle.core_invariant.specs.PruneRule.{ReadsFrom, LookedRight, PairsRight}
use Rattle.core_invariant.specs.SeatRule.{SeatRight}
use Rattle.core_invariant.specs.Rule.{Rule}
use Rattle.core_invariant.proofs.OneView.{seat_at, quiet_kept}
use Rattle.core_invariant.proofs.Joins.{begins-le}
use Rattle.core_invariant.proofs.Owned.{in_entries, linked-at}
use Rattle.core_invariant.proofs.TreeNow.{count_slots, linked_live}
use Rattle.core_invariant.proofs.Pairs.{least_low, pairs_same}
use Rattle.core_invariant.proofs.ReadMoves.{inside_only}

member_by : (x e : ℕ) (c : Bool) (rest es : List ℕ) → (0 < count x rest → 0 < count x es) → 0 < cond (eqb e x) 1 0 + count x (cond c [] rest)
    → 0 < count x (e ∷ es)
member_by x e true rest es later some = omega (arith, some)
member_by x e false rest es later some =
    elim (cases_lt 0 (count x rest)) as (λ _. 0 < count x (e ∷ es)) [
      | inl more ↦ omega (arith, later more)
      | inr none ↦ omega (arith, some, none)
    ]

-- what is read of a bundle stands in it
read_member : (number : ℕ → ℕ) (t x : ℕ) (es : List ℕ) → 0 < count x (read_at number t es) → 0 < count x es
read_member number t x [] some = absurd (omega (arith, some))
read_member number t x (e ∷ es) some = member_by x e (leb (number e) t) (read_at number t es) es (read_member number t x es) some

module _ (z : Layout) (m : Memory) (vs : List View) (g : Meaning) (rule : Rule z m vs g) where
  -- the view after the load, where the seat has announced, and where it has not
  abbrev reading_view : View → List Update → Bool → List TreeNode → View
  reading_view v known fixes nodes =
      record v { history = stamp_history known v.history (m Stamp) fixes; reading = stamp_reading v.reading true (m Stamp) fixes nodes }

  abbrev knowing_view : View → List Update → Bool → List TreeNode → View
  knowing_view v known fixes nodes =
      record v { history = stamp_history known v.history (m Stamp) fixes; reading = stamp_reading v.reading false (m Stamp) fixes nodes }

  stamp_seen : (v : View) (known : List Update) (fixes : Bool) (nodes : List TreeNode) → SeatRight z m g v → known ≡ g.updates
      → SeenRight g.updates (stamp_history known v.history (m Stamp) fixes)
  stamp_seen v known fixes nodes seat all =
      let long : length known ≡ m Stamp = ap length all ∙ rule.history.long in
      let short = begins-le g.updates v.history.seen seat.seen.seen in
      record {
        seen = all ∙ sym (take_all (length known) g.updates (omega (arith, ap length all)));
        told = seat.seen.told;
        known = omega (arith, seat.seen.known, short, ap length all);
        found = found_by fixes (omega (arith, long)) (omega (arith, seat.seen.found, short, ap length all));
        given = seat.seen.given;
      }
    where
      found_by : (b : Bool) → m Stamp ≤ length known → v.history.found ≤ length known → cond b (m Stamp) v.history.found ≤ length known
      found_by true new old = new
      found_by false new old = old

  -- an entry of a bundle of the root or of a node of the tree
  tree_linked : (k x : ℕ) (side : Side) → (k ≡ 0) ⊎ (0 < count k (slots_of g.tree)) → 0 < count x (g.bundles.bundle side k)
      → 0 < linked_in g.bundles x (0 ∷ slots_of g.tree)
  tree_linked k x side of here =
      let among : 0 < count k (0 ∷ slots_of g.tree) = elim of as (λ _. 0 < count k (0 ∷ slots_of g.tree)) [
        | inl root ↦ subst (λ j. 0 < count j (0 ∷ slots_of g.tree)) (sym root) (omega arith)
        | inr node ↦ omega (arith, node)
      ] in
      omega (arith, linked-at g.bundles k x (0 ∷ slots_of g.tree) among, in_entries g.bundles k x side here)

  read_slots : (nodes : List TreeNode) (k : ℕ) → nodes ≡ tree_nodes g.tree → count k (tree_slots nodes) ≡ count k (slots_of g.tree)
  read_slots nodes k all = ap (λ ns. count k (tree_slots ns)) all

  stamp_holds : (v : View) (known : List Update) (fixes : Bool) (nodes : List TreeNode) → nodes ≡ tree_nodes g.tree
      → HoldsFrom z (linked_by g) HoldsNode (HoldsEntry g.bundles) v (reading_view v known fixes nodes)
  stamp_holds v known fixes nodes all = record {
    nodes = λ k holds. node_by k (cases_lt 0 (count k (work_nodes v))) holds;
    entries = λ x holds. entry_by x holds;
  }
    where
      node_by : (k : ℕ) → (0 < count k (work_nodes v)) ⊎ (count k (work_nodes v) ≤ 0) → HoldsNode (reading_view v known fixes nodes) k
          → HoldsNode v k ⊎ (0 < (linked_by g).nodes k)
      node_by k (inl works) holds = inl (omega (arith, works, count-append k (tree_slots v.reading.tree) (work_nodes v)))
      node_by k (inr none) holds = inr (omega (arith, none, holds, count-append k (tree_slots nodes) (work_nodes v), read_slots nodes k all))

      entry_by : (x : ℕ) → HoldsEntry g.bundles (reading_view v known fixes nodes) x → HoldsEntry g.bundles v x ⊎ (0 < (linked_by g).entries x)
      entry_by x (inr stands) = inl (inr stands)
      entry_by x (inl reads) =
          inr (tree_linked reads.node x reads.side
          (elim reads.of as (λ _. (reads.node ≡ 0) ⊎ (0 < count reads.node (slots_of g.tree))) [
            | inl root ↦ inl root
            | inr node ↦ inr (omega (arith, node, read_slots nodes reads.node all))
          ]) (read_member g.bundles.number (m Stamp) x (g.bundles.bundle reads.side reads.node) reads.read))

  -- no least number is above the stamp, which is the section number now
  low_by : (u w : View) → w.reading.section ≡ Some (m Stamp) → (o : Option ℕ) → IfSome o (λ n. IsSomeAnd u.reading.section (λ t. n ≤ t))
      → IfSome u.reading.section (λ t. t ≤ m Stamp)
      → IfSome o (λ n. Every (λ q. w.number ≡ Some q → ReadsFrom n w) u.reading.looked)
  low_by u w is None least past = tt
  low_by u w is (Some n) least past = each u.reading.looked
    where
      each : (qs : List ℕ) → Every (λ q. w.number ≡ Some q → ReadsFrom n w) qs
      each [] = tt
      each (q ∷ qs) = ((λ named. subst (λ (o : Option ℕ). IfSome o (λ t. n ≤ t)) (sym is) (least_low (m Stamp) n u.reading.section least past)), each qs)

  pairs_read : (i : ℕ) (v : View) (known : List Update) (fixes : Bool) (nodes : List TreeNode) → IsItem vs i v
      → PairsRight (set vs i (reading_view v known fixes nodes))
  pairs_read i v known fixes nodes at =
      let w : View = reading_view v known fixes nodes in
      pairs_moved LookedRight LookedRight vs i v w at rule.pairs tt (λ u beside of. tt)
      (λ u beside of.
      let seat = seat_at z m vs g beside.place u beside.at rule in
      low_by u w refl u.reading.least seat.announced.least seat.version.past)
      (λ t u beside other of. of)

  -- a seat that has announced
  reads_kept : (i : ℕ) (v : View) (known : List Update) (fixes : Bool) (nodes : List TreeNode) → 0 < v.announced → IsItem vs i v
      → is_even v.section_word ≡ false
      → known ≡ g.updates → nodes ≡ tree_nodes g.tree → Rule z m (set vs i (reading_view v known fixes nodes)) g
  reads_kept i v known fixes nodes told at inside all whole =
      let w : View = reading_view v known fixes nodes in
      let seat = seat_at z m vs g i v at rule in
      quiet_kept z m vs g rule i v at w.history w.counts w.reading w.held (pairs_read i v known fixes nodes at)
      (record { mine = refl; ended = refl; ended_places = refl; left = refl }) (λ _. all) refl (stamp_holds v known fixes nodes whole)
      (record {
        layout = seat.layout;
        section = record {
          section = seat.section.section;
          announced = seat.section.announced;
          outside = λ even. absurd (inside_only z m vs g rule v inside even);
          unlocked = λ even. absurd (inside_only z m vs g rule v inside even);
          done = seat.section.done;
          waits = seat.section.waits;
        };
        seen = stamp_seen v known fixes nodes seat all;
        update = seat.update;
        version = record {
          past = omega arith;
          opened = opened_by fixes;
          bare = λ none. cc;
          there = λ k here. slot_there k (omega (arith, here, read_slots nodes k whole));
        };
        announced = record { low = seat.announced.low; read = (told, seat.announced.low); least = omega arith };
        tree = record { tree = g.tree; version = rule.tree; read = whole; gaps = λ k y side here there null gap. gap };
        locks = seat.locks;
        loaded = seat.loaded;
        marks = seat.marks;
        pending = seat.pending;
        place = tt;
        filled = tt;
        links = tt;
      })
    where
      opened_by : (b : Bool) → IfSome (cond b (Some (m Stamp)) None) (λ t. Some (m Stamp) ≡ Some t)
      opened_by true = refl
      opened_by false = tt

      slot_there : (k : ℕ) → 0 < count k (slots_of g.tree) → k ≤ z.nodes
      slot_there k here = (linked_live z vs g rule.slots k (inr (omega (arith, here, count_slots k g.tree)))).0

  -- and one that has not
  knows_kept : (i : ℕ) (v : View) (known : List Update) (fixes : Bool) (nodes : List TreeNode) → IsItem vs i v → is_even v.section_word ≡ false
      → known ≡ g.updates → Rule z m (set vs i (knowing_view v known fixes nodes)) g
  knows_kept i v known fixes nodes at inside all =
      let w : View = knowing_view v known fixes nodes in
      let seat = seat_at z m vs g i v at rule in
      quiet_kept z m vs g rule i v at w.history w.counts w.reading w.held (pairs_same vs i v w at refl rule.pairs)
      (record { mine = refl; ended = refl; ended_places = refl; left = refl }) (λ _. all) refl
      (record { nodes = λ k holds. inl holds; entries = λ x holds. inl holds })
      (record {
        layout = seat.layout;
        section = record {
          section = seat.section.section;
          announced = seat.section.announced;
          outside = λ even. absurd (inside_only z m vs g rule v inside even);
          unlocked = λ even. absurd (inside_only z m vs g rule v inside even);
          done = seat.section.done;
          waits = seat.section.waits;
        };
        seen = stamp_seen v known fixes nodes seat all;
        update = seat.update;
        version = seat.version;
        announced = seat.announced;
        tree = seat.tree;
        locks = seat.locks;
        loaded = seat.loaded;
        marks = seat.marks;
        pending = seat.pending;
        place = tt;
        filled = tt;
        links = tt;
      })

  load_by : (i : ℕ) (v : View) (known : List Update) (fixes : Bool) (nodes : List TreeNode) (told : Bool) → has_announced v ≡ told → IsItem vs i v
      → is_even v.section_word ≡ false
      → known ≡ g.updates → nodes ≡ tree_nodes g.tree
      → Rule z m
      (set vs i (record v { history = stamp_history known v.history (m Stamp) fixes; reading = stamp_reading v.reading told (m Stamp) fixes nodes })) g
  load_by i v known fixes nodes true told at inside all whole = reads_kept i v known fixes nodes (announced_some v told) at inside all whole
  load_by i v known fixes nodes false none at inside all whole = knows_kept i v known fixes nodes at inside all

  pub load_stamp_kept : (i : ℕ) (v : View) (known : List Update) (fixes : Bool) (nodes : List TreeNode) → IsItem vs i v → is_even v.section_word ≡ false
      → known ≡ g.updates → nodes ≡ tree_nodes g.tree → Rule z m (set vs i (stamp_loaded known v (m Stamp) fixes nodes)) g
  load_stamp_kept i v known fixes nodes at inside all whole = load_by i v known fixes nodes (has_announced v) refl at inside all whole
