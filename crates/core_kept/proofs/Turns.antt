-- A view that has turned elsewhere in its search on plain links keeps the rule.
use Rattle.std.proofs.Common.{◌≡◌, ℕ, List, false, set, refl, subst, inl, inr, Option}
use Rattle.std.proofs.lemmas.List.{set-set}
use Rattle.index_words.specs.declared.layout.Layout.{Layout}
use Rattle.index_words.specs.declared.view.View.{View}
use Rattle.index_words.specs.declared.view.reading.Place.{Place}
use Rattle.index_words.specs.declared.view.reading.Place.TheVariants.{Entry as AtEntry}
use Rattle.index_words.specs.declared.view.reading.Turn.{Turn}
use Rattle.index_words.specs.declared.word.Part.TheVariants.{Stamp as Number}
use Rattle.index_words.specs.declared.word.Word.TheVariants.{Entry}
use Rattle.index_words.specs.Words.{Memory}
use Rattle.key_map.specs.Lists.{IsItem}
use Rattle.index_words.proofs.Seats.{item_set}
use Rattle.core_grace.specs.Sections.{is_even}
use Rattle.core_grace.specs.Holds.{HoldsEntry}
use Rattle.core_invariant.specs.Meanings.{Meaning}
use Rattle.core_invariant.specs.Readers.{PlaceRight}
use Rattle.core_invariant.specs.SeatRule.{SeatRight}
use Rattle.core_invariant.specs.Rule.{Rule}
use Rattle.core_invariant.proofs.OneView.{seat_at, quiet_kept}
use Rattle.core_invariant.proofs.Pairs.{pairs_same}
use Rattle.core_invariant.proofs.ReadMoves.{inside_only}

-- a view with other turns
abbrev pub with_turns : View → Option Turn → Option Turn → View
with_turns v left right = record v { reading = record v.reading { left_turn = left; right_turn = right } }

module _ (z : Layout) (m : Memory) (vs : List View) (g : Meaning) (rule : Rule z m vs g) (i : ℕ) (v : View) (at : IsItem vs i v) (left right : Option Turn)
    (inside : is_even v.section_word ≡ false) where
  abbrev y : View
  y = with_turns v left right

  seat : SeatRight z m g v
  seat = seat_at z m vs g i v at rule

  entry_same : (x : ℕ) → HoldsEntry g.bundles y x → HoldsEntry g.bundles v x
  entry_same x (inl reads) = inl reads
  entry_same x (inr stands) = inr (record { node = stands.node; side = stands.side; of = stands.of; here = stands.here })

  place_by : (p : Place) → PlaceRight z (λ e. m (Entry Number e)) g.bundles v p → PlaceRight z (λ e. m (Entry Number e)) g.bundles y p
  place_by (AtEntry node side entry found) right = right
  place_by _ right = tt

  -- no part of the rule speaks of turns
  pub turns_kept : Rule z m (set vs i y) g
  turns_kept =
      quiet_kept z m vs g rule i v at v.history v.counts y.reading v.held (pairs_same vs i v y at refl rule.pairs)
      (record { mine = refl; ended = refl; ended_places = refl; left = refl })
      (λ known. known) refl (record { nodes = λ k holds. inl holds; entries = λ x holds. inl (entry_same x holds) })
      (record {
        layout = seat.layout;
        section = record {
          section = seat.section.section;
          announced = seat.section.announced;
          outside = λ even. absurd (inside_only z m vs g rule v inside even);
          unlocked = λ even. absurd (inside_only z m vs g rule v inside even);
          done = seat.section.done;
          waits = seat.section.waits;
        };
        seen = seat.seen;
        update = seat.update;
        version = seat.version;
        announced = seat.announced;
        tree = seat.tree;
        locks = seat.locks;
        loaded = seat.loaded;
        marks = seat.marks;
        pending = seat.pending;
        place = place_by v.reading.place seat.place;
        filled = seat.filled;
        links = seat.links;
      })

-- and so where the view has moved before
pub turned_too : (z : Layout) (m : Memory) (vs : List View) (g : Meaning) (i : ℕ) (v w : View) (left right : Option Turn) → IsItem vs i v
    → is_even w.section_word ≡ false
    → Rule z m (set vs i w) g → Rule z m (set vs i (with_turns w left right)) g
turned_too z m vs g i v w left right at inside rule =
    subst (λ (ws : List View). Rule z m ws g) (set-set vs i w (with_turns w left right))
    (turns_kept z m (set vs i w) g rule i w (item_set vs i v w at) left right inside)
