-- A store to the own announcement keeps the rule: the seat has no section number then, so that nobody has read by it.
use Rattle.std.proofs.Common.{◌≡◌, ℕ, ◌+◌, ◌<◌, ◌≤◌, List, set, arith, refl, ◌∙◌, sym, subst, inl, Option, Some, None}
use Rattle.std.specs.Prelude.{IfSome}
use Rattle.std.specs.List.{All}
use Rattle.index_words.specs.declared.layout.Layout.{Layout}
use Rattle.index_words.specs.declared.view.View.{View}
use Rattle.index_words.specs.declared.word.Word.TheVariants.{Stamp, Announced}
use Rattle.index_words.specs.Words.{Memory, written}
use Rattle.key_map.specs.Lists.{IsItem}
use Rattle.index_words.proofs.Seats.{Beside, sum_kept, at_item, all_moved, pairs_moved}
use Rattle.core_grace.specs.Holds.{HoldsNode, HoldsEntry}
use Rattle.core_grace.proofs.RuleMoves.{quiet, same_looks}
use Rattle.core_events.specs.Announcing.{announced_view}
use Rattle.core_invariant.specs.Meanings.{Meaning, linked_by}
use Rattle.core_invariant.specs.Numbers.{number_count}
use Rattle.core_invariant.specs.Locks.{lock_count}
use Rattle.core_invariant.specs.BundleRule.{IsPendingAt, pending_count}
use Rattle.core_invariant.specs.PruneRule.{LookedRight, PairsRight}
use Rattle.core_invariant.specs.SeatRule.{SeatRight}
use Rattle.core_invariant.specs.Rule.{Rule}
use Rattle.core_invariant.proofs.Frames.{live_moved, pending_moved, bundle_weaker}
use Rattle.core_invariant.proofs.Filled.{every_filled, announced_apart}
use Rattle.core_invariant.proofs.Idle.{number_apart}
use Rattle.core_invariant.proofs.OneView.{history_kept, seat_at}
use Rattle.core_kept.proofs.Stores.{apart_from, own_stored, other_stored}

module _ (z : Layout) (m : Memory) (vs : List View) (g : Meaning) (rule : Rule z m vs g) (i n value : ℕ) (v : View) (at : IsItem vs i v)
    (named : v.number ≡ Some n) where
  abbrev m' : Memory
  m' = written m (Announced n) value

  abbrev w : View
  w = announced_view v value

  own : SeatRight z m g v
  own = seat_at z m vs g i v at rule

  own_seat : v.reading.section ≡ None → value ≤ m Stamp + 1 → SeatRight z m' g w
  own_seat unread low = record {
    layout = own.layout;
    section = record {
      section = own.section.section;
      announced = own_stored (λ k. m (Announced k)) v.number n value named;
      outside = own.section.outside;
      unlocked = own.section.unlocked;
      done = own.section.done;
      waits = own.section.waits;
    };
    seen = own.seen;
    update = own.update;
    version = own.version;
    announced = record {
      low = low;
      read = subst (λ (o : Option ℕ). IfSome o (λ t. (0 < value) × (value ≤ t + 1))) (sym unread) tt;
      least = own.announced.least;
    };
    tree = own.tree;
    locks = own.locks;
    loaded = own.loaded;
    marks = own.marks;
    pending = own.pending;
    place = own.place;
    filled = every_filled m m' v.free v.free v.update v.update v.reading.filled (λ y is. is) (announced_apart m v.free v.update n value) own.filled;
    links = own.links;
  }

  other_seat : (u : View) → Beside vs i u → SeatRight z m g u → SeatRight z m' g u
  other_seat u beside of = record {
    layout = of.layout;
    section = record {
      section = of.section.section;
      announced = other_stored (λ k. m (Announced k)) u.number n value u.announced
          (λ k is. apart_from v.number n k named (number_apart z vs i v u k rule.numbers at beside is)) of.section.announced;
      outside = of.section.outside;
      unlocked = of.section.unlocked;
      done = of.section.done;
      waits = of.section.waits;
    };
    seen = of.seen;
    update = of.update;
    version = of.version;
    announced = of.announced;
    tree = of.tree;
    locks = of.locks;
    loaded = of.loaded;
    marks = of.marks;
    pending = of.pending;
    place = of.place;
    filled = every_filled m m' u.free u.free u.update u.update u.reading.filled (λ y own. own) (announced_apart m u.free u.update n value) of.filled;
    links = of.links;
  }

  -- what is known of pairs of seats speaks of no announcement
  pairs_announced : PairsRight (set vs i w)
  pairs_announced =
      pairs_moved LookedRight LookedRight vs i v w at rule.pairs
      (at_item (LookedRight v) vs i v at (at_item (λ u. All (LookedRight u) vs) vs i v at rule.pairs))
      (λ u beside of. of) (λ u beside of. of) (λ t u beside other of. of)

  pub announce_kept : v.reading.section ≡ None → value ≤ m Stamp + 1 → Rule z m' (set vs i w) g
  announce_kept unread low = record {
    numbers = λ k. sum_kept (number_count k) vs i v w at refl ∙ rule.numbers k;
    history = history_kept z _ g vs i v w at refl refl rule.history;
    slots = quiet z (linked_by g) HoldsNode (HoldsEntry g.bundles) vs i v w at rule.slots refl refl refl
        (record { nodes = λ k holds. inl holds; entries = λ x holds. inl holds }) (record { number = refl; section = inl refl })
        (λ known. same_looks z (linked_by g) HoldsNode (HoldsEntry g.bundles) v w w refl refl known)
        (λ u beside known. same_looks z (linked_by g) HoldsNode (HoldsEntry g.bundles) v w u refl refl known);
    locks = λ k. sum_kept (lock_count k) vs i v w at refl ∙ rule.locks k;
    tree = rule.tree;
    marks = record { root = rule.marks.root; nodes = rule.marks.nodes };
    bundles = λ k live side. bundle_weaker _ _ _ _ (IsPendingAt vs k) (IsPendingAt (set vs i w) k) _ _
        (λ e. pending_moved vs i k e v w at refl (λ works. works)) (rule.bundles k (live_moved z vs i k v w at (omega arith) live) side);
    pairs = pairs_announced;
    single = λ e. omega (arith, sum_kept (pending_count e) vs i v w at refl, rule.single e);
    seats = all_moved (SeatRight z m g) (SeatRight z m' g) vs i v w at rule.seats (own_seat unread low) other_seat;
  }
