-- The kinds of events that leave a view's search where it is, or end it: what is said of the search carries over, and
-- the view has the same to do.
use Rattle.std.proofs.Common.{◌≡◌, ℕ, cond, Bool, true, false, eqb, ◌&&◌, refl, ap, Option, None}
use Rattle.index_words.specs.declared.layout.Layout.{Layout}
use Rattle.index_words.specs.declared.view.View.{View}
use Rattle.index_words.specs.declared.view.reading.Place.{Place}
use Rattle.index_words.specs.declared.view.reading.Place.TheVariants.{Entry as AtEntry}
use Rattle.index_words.specs.declared.word.Field.{Field}
use Rattle.index_words.specs.declared.word.Field.TheVariants.{Key, Head, Tag}
use Rattle.index_words.specs.declared.word.Word.{Word}
use Rattle.index_words.specs.declared.word.Word.TheVariants.{Announced, Node, Entry}
use Rattle.index_words.specs.Words.{Memory}
use Rattle.core_grace.specs.Holds.{held_slots}
use Rattle.core_events.specs.CutMoves.{cut_off}
use Rattle.core_events.specs.Searches.{turn_key}
use Rattle.core_events.specs.FillMoves.{used_view, with_filled, filled_with, known_before}
use Rattle.core_events.specs.LoadMoves.{next_at, is_above}
use Rattle.core_events.specs.Steps.{head_at, head_from, ts_from, ptr_from, next_from, prepared_at, prepared_from, finalised_from, mark_from, marked_from, pair_from, ann_from, cut_from, tag_at, tag_from, raised_tag_at, raised_tag_from}
use Rattle.core_kept.proofs.SearchMoves.{work_of, SearchStep}
use Rattle.core_kept.proofs.SearchSteps.{bundle_said, tagged_said, known_said, paired_said, cut_said, child_said}
use Rattle.core_invariant.proofs.Locked.{slots_found, slots_known, slots_numbered, slots_marked, slots_paired, slots_tag}

module _ (C : Option ℕ → Option ℕ → ℕ → Type 0) (key_of : ℕ → ℕ) where
  -- the view has the same to do and the same locks, and what is said of its search goes over
  pub record IsQuiet (v w : View) : Type 0 where
    pub work : work_of w.update ≡ work_of v.update
    pub locks : held_slots w.held.nodes ≡ held_slots v.held.nodes
    pub retired : w.retired.nodes ≡ v.retired.nodes
    pub step : SearchStep C key_of v w

  pub same : (v : View) → IsQuiet v v
  same v = record { work = refl; locks = refl; retired = refl; step = record { place = λ said. said; links = λ said. said } }

  module _ (v : View) where
    head_at_quiet : (f : Field) (k x number : ℕ) → IsQuiet v (head_at v f k x number)
    head_at_quiet (Head side) k x number = record {
      work = refl;
      locks = slots_found k side x v.held.nodes;
      retired = refl;
      step = record { place = λ said. record { claims = tt; key = tt }; links = λ said. bundle_said C key_of (eqb x 0) v.reading.links k side 0 0 said };
    }
    head_at_quiet _ k x number = same v

    pub head_quiet : (u : Word) (x number : ℕ) → IsQuiet v (head_from v u x number)
    head_quiet (Node f k) x number = head_at_quiet f k x number
    head_quiet _ x number = same v

    pub ts_quiet : (u : Word) (x : ℕ) → IsQuiet v (ts_from v u x)
    ts_quiet (Entry p e) x = record {
      work = refl;
      locks = slots_numbered e x v.held.nodes;
      retired = refl;
      step = record {
        place = λ said. known_said C key_of (turn_key v.reading.right_turn) (turn_key v.reading.left_turn) x v.reading.place said;
        links = λ said. said;
      };
    }
    ts_quiet _ x = same v

    pub ptr_quiet : (u : Word) (x : ℕ) → IsQuiet v (ptr_from v u x)
    ptr_quiet (Entry p e) x =
        record {
          work = refl;
          locks = refl;
          retired = refl;
          step = record { place = λ said. said; links = λ said. child_said C key_of v v.reading.place x said };
        }
    ptr_quiet _ x = same v

    next_at_quiet : (p : Place) (e x : ℕ) → IsQuiet v (next_at v p e x)
    next_at_quiet (AtEntry node side entry seen) e x = record {
      work = refl;
      locks = refl;
      retired = refl;
      step = record {
        place = λ said. record {
          claims = tt;
          key = tt;
        };
        links = λ said. bundle_said C key_of (eqb x 0 && is_above v e seen) v.reading.links node side 0 0 said;
      };
    }
    next_at_quiet _ e x = same v

    pub next_quiet : (u : Word) (x : ℕ) → IsQuiet v (next_from v u x)
    next_quiet (Entry p e) x = next_at_quiet v.reading.place e x
    next_quiet _ x = same v

    pub mark_quiet : (u : Word) (x : ℕ) → IsQuiet v (mark_from v u x)
    mark_quiet (Node f k) x = record {
      work = refl;
      locks = slots_marked k x v.held.nodes;
      retired = refl;
      step = record { place = λ said. said; links = λ said. said };
    }
    mark_quiet _ x = same v

    pub marked_quiet : (u : Word) → IsQuiet v (marked_from v u)
    marked_quiet (Node f k) = record {
      work = refl;
      locks = slots_marked k 1 v.held.nodes;
      retired = refl;
      step = record { place = λ said. said; links = λ said. said };
    }
    marked_quiet _ = same v

    -- the word that a load of a key finds is the node's key
    pub pair_quiet : (u : Word) (x : ℕ) → ((k : ℕ) → u ≡ Node Key k → key_of k ≡ x) → IsQuiet v (pair_from v u x)
    pair_quiet (Node f k) x word = record {
      work = refl;
      locks = slots_paired f k x v.held.nodes;
      retired = refl;
      step = record {
        place = λ said.
            paired_said C key_of (turn_key v.reading.right_turn) (turn_key v.reading.left_turn) f k x v.reading.place
            (λ is. word k (ap (λ (y : Field). Node y k) is)) said;
        links = λ said. said;
      };
    }
    pair_quiet _ x word = same v

    tag_at_quiet : (f : Field) (k x : ℕ) → IsQuiet v (tag_at v f k x)
    tag_at_quiet (Tag side) k x = record {
      work = refl;
      locks = slots_tag k side x v.held.nodes;
      retired = refl;
      step = record { place = λ said. said; links = λ said. tagged_said C key_of k side x v.reading.links said };
    }
    tag_at_quiet _ k x = same v

    pub tag_quiet : (u : Word) (x : ℕ) → IsQuiet v (tag_from v u x)
    tag_quiet (Node f k) x = tag_at_quiet f k x
    tag_quiet _ x = same v

    set_tag_at_quiet : (f : Field) (k x : ℕ) → IsQuiet v (raised_tag_at v f k x)
    set_tag_at_quiet (Tag side) k x = record {
      work = refl;
      locks = slots_tag k side x v.held.nodes;
      retired = refl;
      step = record { place = λ said. said; links = λ said. said };
    }
    set_tag_at_quiet _ k x = same v

    pub set_tag_quiet : (u : Word) (x : ℕ) → IsQuiet v (raised_tag_from v u x)
    set_tag_quiet (Node f k) x = set_tag_at_quiet f k x
    set_tag_quiet _ x = same v

    pub look_ann_quiet : (u : Word) (x : ℕ) → IsQuiet v (ann_from v u x)
    look_ann_quiet (Announced k) x = record { work = refl; locks = refl; retired = refl; step = record { place = λ said. said; links = λ said. said } }
    look_ann_quiet _ x = same v

    prepare_at_quiet : (f : Field) (k e : ℕ) → IsQuiet v (prepared_at v f k e)
    prepare_at_quiet (Head side) k e = record {
      work = refl;
      locks = slots_known k side (record { entry = e; stamp = None }) v.held.nodes;
      retired = refl;
      step = record { place = λ said. said; links = λ said. said };
    }
    prepare_at_quiet _ k e = same v

    pub prepare_quiet : (u : Word) (e : ℕ) → IsQuiet v (prepared_from v u e)
    prepare_quiet (Node f k) e = prepare_at_quiet f k e
    prepare_quiet _ e = same v

    pub finalise_quiet : (u : Word) → IsQuiet v (finalised_from v u)
    finalise_quiet (Entry p e) = record { work = refl; locks = refl; retired = refl; step = record { place = λ said. said; links = λ said. said } }
    finalise_quiet _ = same v

    pub cut_quiet : (z : Layout) (m : Memory) (u : Word) → IsQuiet v (cut_from z m v u)
    cut_quiet z m (Entry p e) = record {
      work = refl;
      locks = refl;
      retired = refl;
      step = record {
        place = λ said. cut_said C key_of (turn_key v.reading.right_turn) (turn_key v.reading.left_turn) (cut_off z m e) v.reading.place said;
        links = λ said. said;
      };
    }
    cut_quiet z m _ = same v

    pub filled_quiet : (u : Word) (x : ℕ) (b : Bool) → IsQuiet v (cond b (used_view v u) (with_filled (used_view v u) (filled_with (known_before v u) u x)))
    filled_quiet u x true = record { work = refl; locks = refl; retired = refl; step = record { place = λ said. said; links = λ said. said } }
    filled_quiet u x false = record { work = refl; locks = refl; retired = refl; step = record { place = λ said. said; links = λ said. said } }
