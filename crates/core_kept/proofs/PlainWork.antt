-- A view whose update has still to set other links and to raise other tags, or has looked at others at a wait, keeps
-- the rule.
use Rattle.std.proofs.Common.{◌≡◌, ℕ, List, [], false, set, arith, refl, ◌∙◌, inl, Option}
use Rattle.index_words.specs.declared.layout.Layout.{Layout}
use Rattle.index_words.specs.declared.view.View.{View}
use Rattle.index_words.specs.declared.view.reading.Place.{Place}
use Rattle.index_words.specs.declared.view.reading.Place.TheVariants.{Entry as AtEntry}
use Rattle.index_words.specs.declared.view.slots.Looks.{Looks}
use Rattle.index_words.specs.declared.view.update.OwedTag.{OwedTag}
use Rattle.index_words.specs.declared.view.update.Unlinking.{Unlinking}
use Rattle.index_words.specs.declared.view.update.UnsetLink.{UnsetLink}
use Rattle.index_words.specs.declared.word.Word.{Word}
use Rattle.index_words.specs.declared.word.Part.TheVariants.{Stamp as Number}
use Rattle.index_words.specs.declared.word.Word.TheVariants.{Node, Entry}
use Rattle.index_words.specs.Words.{Memory}
use Rattle.index_words.specs.Views.{no_looks}
use Rattle.key_map.specs.Lists.{IsItem}
use Rattle.index_words.proofs.Seats.{sum_kept, all_moved}
use Rattle.core_grace.specs.Sections.{is_even}
use Rattle.core_grace.specs.Holds.{HoldsNode, HoldsEntry}
use Rattle.core_grace.proofs.RuleMoves.{quiet, same_looks}
use Rattle.core_invariant.proofs.Pairs.{pairs_same}
use Rattle.core_invariant.specs.Meanings.{Meaning, linked_by}
use Rattle.core_invariant.specs.Numbers.{number_count}
use Rattle.core_invariant.specs.Locks.{lock_count}
use Rattle.core_invariant.specs.BundleRule.{IsPendingAt, pending_count}
use Rattle.core_invariant.specs.SeatRule.{SeatRight}
use Rattle.core_invariant.specs.Readers.{PlaceRight}
use Rattle.core_invariant.specs.FilledRule.{IsOwnSlotWord}
use Rattle.core_invariant.specs.Rule.{Rule}
use Rattle.core_invariant.proofs.Frames.{live_moved, pending_moved, bundle_weaker}
use Rattle.core_invariant.proofs.OneView.{history_kept, seat_at}
use Rattle.core_invariant.proofs.Filled.{every_filled}

-- a view whose update has other links to set and other tags to raise, and has looked at others at a wait
abbrev pub with_work : View → List UnsetLink → List OwedTag → Option Unlinking → Looks → View
with_work v us os u l = record v { update = record v.update { unset = us; owed = os; unlinking = u; waiting = l } }

module _ (z : Layout) (m : Memory) (vs : List View) (g : Meaning) (rule : Rule z m vs g) (i : ℕ) (v : View) (at : IsItem vs i v) (us : List UnsetLink)
    (os : List OwedTag) (ul : Option Unlinking) (l : Looks)
    (holds : v.held.nodes ≡ [] → ⊥) (fresh : is_even v.section_word ≡ false → l ≡ no_looks) where
  abbrev y : View
  y = with_work v us os ul l

  seat : SeatRight z m g v
  seat = seat_at z m vs g i v at rule

  own_now : SeatRight z m g y
  own_now = record {
    layout = seat.layout;
    section = record {
      section = seat.section.section;
      announced = seat.section.announced;
      outside = seat.section.outside;
      unlocked = seat.section.unlocked;
      done = λ none. absurd (holds none);
      waits = fresh;
    };
    seen = seat.seen;
    update = record { raised = seat.update.raised; first = seat.update.first };
    version = seat.version;
    announced = seat.announced;
    tree = seat.tree;
    locks = seat.locks;
    loaded = seat.loaded;
    marks = seat.marks;
    pending = seat.pending;
    place = place_by v.reading.place seat.place;
    filled = every_filled m m v.free v.free v.update y.update v.reading.filled own_word (λ w is. refl) seat.filled;
    links = seat.links;
  }
    where
      own_word : (w : Word) → IsOwnSlotWord v.free y.update w → IsOwnSlotWord v.free v.update w
      own_word (Node f k) is = is
      own_word _ is = is

      place_by : (p : Place) → PlaceRight z (λ e. m (Entry Number e)) g.bundles v p → PlaceRight z (λ e. m (Entry Number e)) g.bundles y p
      place_by (AtEntry node side entry found) right = right
      place_by _ right = tt

  -- no part of the rule speaks of what is still to be set and to be raised, nor of looks at a wait
  pub work_kept : Rule z m (set vs i y) g
  work_kept = record {
    numbers = λ n. sum_kept (number_count n) vs i v y at refl ∙ rule.numbers n;
    history = history_kept z _ g vs i v y at refl refl rule.history;
    slots = quiet z (linked_by g) HoldsNode (HoldsEntry g.bundles) vs i v y at rule.slots refl refl refl
        (record { nodes = λ j holds. inl holds; entries = λ x holds. inl holds }) (record { number = refl; section = inl refl })
        (λ known. same_looks z (linked_by g) HoldsNode (HoldsEntry g.bundles) v y y refl refl known)
        (λ u beside known. same_looks z (linked_by g) HoldsNode (HoldsEntry g.bundles) v y u refl refl known);
    locks = λ j. sum_kept (lock_count j) vs i v y at refl ∙ rule.locks j;
    tree = rule.tree;
    marks = rule.marks;
    bundles = λ j live side. bundle_weaker _ _ _ _ (IsPendingAt vs j) (IsPendingAt (set vs i y) j) _ _
        (λ d. pending_moved vs i j d v y at refl (λ works. works)) (rule.bundles j (live_moved z vs i j v y at (omega arith) live) side);
    pairs = pairs_same vs i v y at refl rule.pairs;
    single = λ d. omega (arith, sum_kept (pending_count d) vs i v y at refl, rule.single d);
    seats = all_moved (SeatRight z m g) (SeatRight z m g) vs i v y at rule.seats own_now (λ u beside of. of);
  }
