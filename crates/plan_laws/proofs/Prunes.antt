-- What the loads, the looks and the cuts between the numbers and the marks of an update leave as it was, and what they
-- leave of a pass that cuts without an update.
use Rattle.std.proofs.Common.{◌≡◌, ℕ, ◌<◌, List, [], ◌∷◌, ◌++◌, length, map, Bool, true, false, eqb, not, ◌&&◌, refl, ap, sym, ◌∙◌, subst, arith, Some}
use Rattle.std.specs.Prelude.{◌==◌, is_some}
use Rattle.std.proofs.lemmas.Bool.Decides.{nat_tests}
use Rattle.std.proofs.lemmas.List.{length-append}
use Rattle.index_words.specs.declared.view.history.Counts.{Counts}
use Rattle.index_words.specs.declared.view.reading.Link.{Link as ViewLink}
use Rattle.index_words.specs.declared.side.Side.{Side}
use Rattle.index_words.specs.declared.view.View.{View}
use Rattle.index_words.specs.declared.view.reading.Place.{Place}
use Rattle.index_words.specs.declared.view.reading.Place.TheVariants.{Entry as AtEntry}
use Rattle.index_words.specs.declared.view.slots.Slots.{Slots}
use Rattle.index_words.specs.declared.view.update.HeldNode.{HeldNode}
use Rattle.index_words.specs.declared.view.update.Updating.{Updating}
use Rattle.core_events.specs.Announcing.{ann_loaded}
use Rattle.core_events.specs.CutMoves.{cut_view}
use Rattle.core_events.specs.LoadMoves.{bundle_link, head_loaded, ts_loaded, is_above, is_watching, meets_pending, next_at, found_at, node_known, has_moved, raised_if, remembered_if, stored_by}
use Rattle.core_events.specs.Searches.{is_plain}
use Rattle.core_updates.specs.declared.plan.Plan.{Plan}
use Rattle.core_updates.specs.declared.plan.PlanSlots.{PlanSlots}
use Rattle.core_updates.specs.Plans.{sets_of}
use Rattle.key_map.specs.Lists.{Every, IsItem, count, has}
use Rattle.core_grace.specs.Sections.{is_even}
use Rattle.plan_laws.specs.Looks.{IsUnmarked}
use Rattle.plan_laws.specs.PlainLinks.{HasNotSearched, LeavesLinks}
use Rattle.plan_laws.specs.Prunes.{HasNumbered, IsCutting, KeepsPruned, StaysCutting, StaysNumbered, PruneStepLaw, CutStepLaw, StartCuttingLaw, EndCuttingLaw, KeepsPrunedLaw, OwnedIsPrunedLaw}
use Rattle.plan_laws.proofs.Frames.{same-counts, moves-grow, waits-grow}
use Rattle.plan_laws.proofs.HeldMaps.{found-node, found-mark}
use Rattle.plan_laws.proofs.Items.{item-map}
use Rattle.plan_laws.proofs.Kept.{slots-kept}
use Rattle.plan_laws.proofs.Releases.{none-taken}

-- one link more that is not a plain one
one-more : (ls : List ViewLink) (l : ViewLink) → is_plain l.source ≡ false → Every (λ (x : ViewLink). is_plain x.source ≡ false) ls
    → Every (λ (x : ViewLink). is_plain x.source ≡ false) (ls ++ l ∷ [])
one-more [] l is all = (is, tt)
one-more (x ∷ ls) l is all = (all.0, one-more ls l is all.1)

none-more : (b : Bool) (ls : List ViewLink) (node : ℕ) (side : Side) → Every (λ (x : ViewLink). is_plain x.source ≡ false) ls
    → Every (λ (x : ViewLink). is_plain x.source ≡ false) (remembered_if b ls (bundle_link node side 0 0))
none-more true ls node side all = one-more ls (bundle_link node side 0 0) refl all
none-more false ls node side all = all

-- what no such step changes of the seat and its update
record KeepsSeat (v w : View) : Type 0 where
  joined : w.joined ≡ v.joined
  number : w.number ≡ v.number
  word : w.section_word ≡ v.section_word
  update : w.update ≡ v.update
  section : w.reading.section ≡ v.reading.section
  unsearched : HasNotSearched v → HasNotSearched w

still-unmarked : (f : HeldNode → HeldNode) (v w : View) → w.held.nodes ≡ map f v.held.nodes → ((h : HeldNode) → (f h).node ≡ h.node)
    → ((h : HeldNode) → (f h).mark ≡ h.mark)
    → (k : ℕ) → IsUnmarked v k → IsUnmarked w k
still-unmarked f v w maps node mark k u = record {
  place = u.place;
  held = f u.held;
  at = subst (λ hs. IsItem hs u.place (f u.held)) (sym maps) (item-map f v.held.nodes u.place u.held u.at);
  node_is = node u.held ∙ u.node_is;
  is = mark u.held ∙ u.is;
}

numbered-kept : (f : HeldNode → HeldNode) (v w : View) (n : ℕ) (plan : Plan) (slots : PlanSlots) → w.held.nodes ≡ map f v.held.nodes
    → ((h : HeldNode) → (f h).node ≡ h.node) → ((h : HeldNode) → (f h).mark ≡ h.mark) → KeepsSeat v w
    → HasNumbered v n plan slots → HasNumbered w n plan slots
numbered-kept f v w n plan slots maps node mark keeps h = record {
  live = keeps.joined ∙ h.live;
  own = keeps.number ∙ h.own;
  inside = cc;
  once = h.once;
  locked = slots-kept f v w maps node ∙ h.locked;
  raised = ap (λ (u : Updating). is_some u.raised) keeps.update ∙ h.raised;
  taken = ap (λ (u : Updating). u.taken) keeps.update ∙ h.taken;
  idle = ap (λ (u : Updating). u.pending) keeps.update ∙ h.idle;
  reads = ap is_some keeps.section ∙ h.reads;
  unmarked = λ place front is. still-unmarked f v w maps node mark front.at.node (h.unmarked place front is);
  links = subst (λ (u : Updating). LeavesLinks u.unset u.owed u.unlinking plan (sets_of plan slots) (sets_of plan slots)) (sym keeps.update) h.links;
  unsearched = keeps.unsearched h.unsearched;
}

-- an entry that has a number is not pending
meets-none : (v : View) (e x : ℕ) → 0 < x → meets_pending v e x ≡ false
meets-none v e x some = ap (λ b. b && not (has e v.update.pending) && is_watching v v.reading.place) (above x some)
  where
    above : (y : ℕ) → 0 < y → eqb y 0 ≡ false
    above y some = grind (arith, nat_tests)

-- the locked nodes are as they were
map-same : (hs : List HeldNode) → hs ≡ map (λ (h : HeldNode). h) hs
map-same [] = refl
map-same (h ∷ hs) = ap (λ (xs : List HeldNode). h ∷ xs) (map-same hs)

-- Such a step maps the locked nodes one by one, with their slots and their marks as they were; the seat and what
-- pruning leaves stay. Both stages follow from this.
record Leaves (v w : View) : Type 0 where
  f : HeldNode → HeldNode
  maps : w.held.nodes ≡ map f v.held.nodes
  node : (h : HeldNode) → (f h).node ≡ h.node
  mark : (h : HeldNode) → (f h).mark ≡ h.mark
  seat : KeepsSeat v w
  pruned : KeepsPruned v w

still-numbered : (v w : View) (n : ℕ) (plan : Plan) (slots : PlanSlots) → Leaves v w → HasNumbered v n plan slots → StaysNumbered v w n plan slots
still-numbered v w n plan slots l h = record {
  numbered = numbered-kept l.f v w n plan slots l.maps l.node l.mark l.seat h;
  keeps = l.pruned;
}

still-cutting : (v w : View) (n : ℕ) (nodes : List ℕ) → Leaves v w → IsCutting v n nodes → StaysCutting v w n nodes
still-cutting v w n nodes l h =
    let keeps = l.seat in
    record {
      cutting = record {
        live = keeps.joined ∙ h.live;
        own = keeps.number ∙ h.own;
        inside = ap is_even keeps.word ∙ h.inside;
        reads = ap is_some keeps.section ∙ h.reads;
        idle = keeps.update ∙ h.idle;
        once = h.once;
        locked = slots-kept l.f v w l.maps l.node ∙ h.locked;
      };
      unmarked = still-unmarked l.f v w l.maps l.node l.mark;
      keeps = l.pruned;
    }

module _ (v : View) where
  head-leaves : (node entry number : ℕ) (side : Side) → Leaves v (head_loaded v node side entry number)
  head-leaves node entry number side =
      let w = head_loaded v node side entry number in
      record {
        f = found_at node side entry;
        maps = refl;
        node = found-node node entry side;
        mark = found-mark node entry side;
        seat = record {
          joined = refl;
          number = refl;
          word = refl;
          update = refl;
          section = refl;
          unsearched = none-more (entry == 0) v.reading.links node side;
        };
        pruned = record {
          layout = refl;
          joined = refl;
          number = refl;
          history = refl;
          free = refl;
          batch = refl;
          nodes = refl;
          entries = omega arith;
          grown = moves-grow v w (has_moved v.reading.links node side entry && not (stored_by v entry number)) refl;
          waits = refl;
        };
      }

  number-leaves : (entry x : ℕ) → 0 < x → Leaves v (ts_loaded v entry x)
  number-leaves entry x some =
      let w = ts_loaded v entry x in
      record {
        f = node_known entry x;
        maps = refl;
        node = λ y. refl;
        mark = λ y. refl;
        seat = record { joined = refl; number = refl; word = refl; update = refl; section = refl; unsearched = λ all. all };
        pruned = record {
          layout = refl;
          joined = refl;
          number = refl;
          history = refl;
          free = refl;
          batch = refl;
          nodes = refl;
          entries = omega arith;
          grown = waits-grow v w (meets_pending v entry x) refl;
          waits = ap (λ b. raised_if b v.counts.waits) (meets-none v entry x some);
        };
      }

  -- a step that moves no locked node
  still : (w : View) → w.held.nodes ≡ v.held.nodes → KeepsSeat v w → KeepsPruned v w → Leaves v w
  still w same keeps pruned = record {
    f = λ (x : HeldNode). x;
    maps = same ∙ map-same v.held.nodes;
    node = λ x. refl;
    mark = λ x. refl;
    seat = keeps;
    pruned = pruned;
  }

  as-before : Leaves v v
  as-before =
      still v refl (record { joined = refl; number = refl; word = refl; update = refl; section = refl; unsearched = λ all. all })
      (record { layout = refl; joined = refl; number = refl; history = refl; free = refl; batch = refl; nodes = refl; entries = omega arith; grown = same-counts v v refl; waits = refl })

  next-leaves : (entry next : ℕ) (p : Place) → Leaves v (next_at v p entry next)
  next-leaves entry next (AtEntry node side e found) =
      let w = next_at v (AtEntry node side e found) entry next in
      still w refl
      (record {
        joined = refl;
        number = refl;
        word = refl;
        update = refl;
        section = refl;
        unsearched = none-more
            (next == 0 && is_above v entry found) v.reading.links node side;
      })
      (record { layout = refl; joined = refl; number = refl; history = refl; free = refl; batch = refl; nodes = refl; entries = omega arith; grown = same-counts v w refl; waits = refl })
  next-leaves entry next _ = as-before

  looked-leaves : (pass word : ℕ) → Leaves v (ann_loaded v pass word)
  looked-leaves pass word =
      let w = ann_loaded v pass word in
      still w refl (record { joined = refl; number = refl; word = refl; update = refl; section = refl; unsearched = λ all. all })
      (record { layout = refl; joined = refl; number = refl; history = refl; free = refl; batch = refl; nodes = refl; entries = omega arith; grown = same-counts v w refl; waits = refl })

  cut-leaves : (entry : ℕ) (back : List ℕ) → Leaves v (cut_view v entry back)
  cut-leaves entry back =
      let w = cut_view v entry back in
      still w refl (record { joined = refl; number = refl; word = refl; update = refl; section = refl; unsearched = λ all. all })
      (record {
        layout = refl;
        joined = refl;
        number = refl;
        history = refl;
        free = refl;
        batch = refl;
        nodes = refl;
        entries = omega (arith, length-append v.retired.entries back);
        grown = same-counts v w refl;
        waits = refl;
      })

pub prune_step : PruneStepLaw
prune_step v n plan slots h = record {
  head = λ node entry number side. still-numbered v (head_loaded v node side entry number) n plan slots (head-leaves v node entry number side) h;
  number = λ entry x some. still-numbered v (ts_loaded v entry x) n plan slots (number-leaves v entry x some) h;
  next = λ entry next. still-numbered v (next_at v v.reading.place entry next) n plan slots (next-leaves v entry next v.reading.place) h;
  looked = λ pass word. still-numbered v (ann_loaded v pass word) n plan slots (looked-leaves v pass word) h;
  cut = λ entry back. still-numbered v (cut_view v entry back) n plan slots (cut-leaves v entry back) h;
}

pub cut_step : CutStepLaw
cut_step v n nodes h = record {
  head = λ node entry number side. still-cutting v (head_loaded v node side entry number) n nodes (head-leaves v node entry number side) h;
  number = λ entry x some. still-cutting v (ts_loaded v entry x) n nodes (number-leaves v entry x some) h;
  next = λ entry next. still-cutting v (next_at v v.reading.place entry next) n nodes (next-leaves v entry next v.reading.place) h;
  looked = λ pass word. still-cutting v (ann_loaded v pass word) n nodes (looked-leaves v pass word) h;
  cut = λ entry back. still-cutting v (cut_view v entry back) n nodes (cut-leaves v entry back) h;
}

pub start_cutting : StartCuttingLaw
start_cutting v n nodes t = record {
  live = t.working.live;
  own = t.working.own;
  inside = t.working.inside;
  reads = ap is_some t.section;
  idle = t.idle;
  once = t.once;
  locked = t.locked;
}

pub end_cutting : EndCuttingLaw
end_cutting v n nodes c = record {
  live = c.live;
  own = c.own;
  word = c.inside;
  once = c.once;
  locked = c.locked;
  done = ap (λ (u : Updating). u.pending) c.idle;
  marked = subst (λ (u : Updating). Every (λ (h : HeldNode). 0 < count h.node u.taken → h.mark ≡ Some 1) v.held.nodes) (sym c.idle) (none-taken v.held.nodes);
  set = (ap (λ (u : Updating). u.unset) c.idle, ap (λ (u : Updating). u.owed) c.idle, ap (λ (u : Updating). u.unlinking) c.idle);
  ended = λ none'. c.idle;
}

pub keeps_pruned : KeepsPrunedLaw
keeps_pruned u v w a b = record {
  layout = b.layout ∙ a.layout;
  joined = b.joined ∙ a.joined;
  number = b.number ∙ a.number;
  history = b.history ∙ a.history;
  free = b.free ∙ a.free;
  batch = b.batch ∙ a.batch;
  nodes = b.nodes ∙ a.nodes;
  entries = omega (arith, a.entries, b.entries);
  grown = record {
    busy = omega (arith, a.grown.busy, b.grown.busy);
    waits = omega (arith, a.grown.waits, b.grown.waits);
    moves = omega (arith, a.grown.moves, b.grown.moves);
  };
  waits = b.waits ∙ a.waits;
}

pub owned_is_pruned : OwnedIsPrunedLaw
owned_is_pruned v w keeps = record {
  layout = keeps.layout;
  joined = keeps.joined;
  number = keeps.number;
  history = keeps.history;
  free = keeps.free;
  batch = keeps.batch;
  nodes = ap (λ (s : Slots). s.nodes) keeps.retired;
  entries = omega (arith, ap (λ (s : Slots). length s.entries) keeps.retired);
  grown = same-counts v w keeps.counts;
  waits = ap (λ (c : Counts). c.waits) keeps.counts;
}
