-- A fill keeps the rule: the word of a free slot is stored, and the view knows what it holds.
use Rattle.std.proofs.Common.{◌≡◌, ℕ, ◌<◌, cond, List, [], Bool, true, false, set, refl, ap, ◌∙◌, sym, subst, inl}
use Rattle.std.proofs.lemmas.List.{set-set}
use Rattle.index_words.specs.declared.layout.Layout.{Layout}
use Rattle.index_words.specs.declared.view.View.{View}
use Rattle.index_words.specs.declared.view.slots.Slots.{Slots}
use Rattle.index_words.specs.declared.view.reading.Reading.{Reading}
use Rattle.index_words.specs.declared.view.reading.Filled.{Filled}
use Rattle.index_words.specs.declared.side.Side.TheVariants.{Left, Right}
use Rattle.index_words.specs.declared.word.Field.{Field}
use Rattle.index_words.specs.declared.word.Field.TheVariants.{Key, Val, Mark, Head, Link, Tag}
use Rattle.index_words.specs.declared.word.Part.{Part}
use Rattle.index_words.specs.declared.word.Part.TheVariants.{Child, Stamp as Number, Next}
use Rattle.index_words.specs.declared.word.Word.{Word}
use Rattle.index_words.specs.declared.word.Word.TheVariants.{Node, Entry}
use Rattle.index_words.specs.Views.{no_reading}
use Rattle.index_words.specs.Words.{Memory, written}
use Rattle.key_map.specs.Lists.{count, has, Every, IsItem}
use Rattle.key_map.proofs.Counting.{has-count}
use Rattle.index_words.proofs.Seats.{item_set}
use Rattle.index_words.proofs.Store.{same_word-refl}
use Rattle.core_grace.specs.Sections.{is_even}
use Rattle.core_grace.proofs.RuleMoves.{every_push}
use Rattle.core_invariant.proofs.Pairs.{pairs_same}
use Rattle.core_invariant.specs.Meanings.{Meaning}
use Rattle.core_events.specs.FillMoves.{filled_other, filled_with, with_filled, known_before, zeros_of, zeros_in, node_words, entry_words, used_slots, used_view, filled_view}
use Rattle.core_invariant.specs.FilledRule.{FilledRight}
use Rattle.core_invariant.specs.Rule.{Rule}
use Rattle.core_invariant.proofs.Filled.{IsNotAmong, other_apart, other_every}
use Rattle.core_invariant.proofs.Joins.{every_append}
use Rattle.core_invariant.specs.UnusedSlots.{UnusedRight}
use Rattle.core_invariant.proofs.OneView.{seat_at, set_same, used_right, quiet_kept}
use Rattle.core_invariant.proofs.ReadMoves.{inside_only}

-- a view that knows of other filled words, which hold this
pub knows_filled : (z : Layout) (m : Memory) (vs : List View) (g : Meaning) (rule : Rule z m vs g) (i : ℕ) (v : View) → IsItem vs i v → (fs : List Filled)
    → is_even v.section_word ≡ false
    → Every (FilledRight m v.free v.update) fs → Rule z m (set vs i (with_filled v fs)) g
knows_filled z m vs g rule i v at fs inside right =
    let w : View = with_filled v fs in
    let seat = seat_at z m vs g i v at rule in
    quiet_kept z m vs g rule i v at w.history w.counts w.reading w.held (pairs_same vs i v w at refl rule.pairs)
    (record { mine = refl; ended = refl; ended_places = refl; left = refl }) (λ known. known) refl
    (record { nodes = λ k holds. inl holds; entries = λ x holds. inl holds })
    (record {
      layout = seat.layout;
      section = record {
        section = seat.section.section;
        announced = seat.section.announced;
        outside = λ even. absurd (inside_only z m vs g rule v inside even);
        unlocked = seat.section.unlocked;
        done = seat.section.done;
        waits = seat.section.waits;
      };
      seen = seat.seen;
      update = seat.update;
      version = seat.version;
      announced = seat.announced;
      tree = seat.tree;
      locks = seat.locks;
      loaded = seat.loaded;
      marks = seat.marks;
      pending = seat.pending;
      place = seat.place;
      filled = right;
      links = seat.links;
    })

module _ (z : Layout) (m : Memory) (g : Meaning) (i : ℕ) (w : Word) (x : ℕ) where
  abbrev m' : Memory
  m' = written m w x

  -- the store alone keeps the rule, where the seat knows of nothing in the word
  abbrev pub Stores : Slots → Type 0
  Stores free = (us : List View) (u : View) → Rule z m us g → IsItem us i u → u.free ≡ free → IsNotAmong w u.reading.filled → Rule z m' us g

  module _ (vs : List View) (rule : Rule z m vs g) (v : View) (at : IsItem vs i v) (stored : Stores v.free) where
    inside_filled : is_even v.section_word ≡ false → Rule z m' (set vs i (with_filled v (filled_with v.reading.filled w x))) g
    inside_filled inside =
        let others : List Filled = filled_other w v.reading.filled in
        let u : View = with_filled v others in
        let us : List View = set vs i u in
        let kept = other_every (FilledRight m v.free v.update) w v.reading.filled (seat_at z m vs g i v at rule).filled in
        let first : Rule z m us g = knows_filled z m vs g rule i v at others inside kept in
        let here : IsItem us i u = item_set vs i v u at in
        let second : Rule z m' us g = stored us u first here refl (other_apart w v.reading.filled) in
        let right : Every (FilledRight m' v.free v.update) (filled_with v.reading.filled w x)
        = every_push (FilledRight m' v.free v.update) others (record { word = w; value = x }) (seat_at z m' us g i u here second).filled
        (λ own. ap (λ b. cond b x (m w)) (same_word-refl w)) in
        let third : Rule z m' (set us i (with_filled u (filled_with v.reading.filled w x))) g
        = knows_filled z m' us g second i u here (filled_with v.reading.filled w x) inside right in
        subst (λ (ws : List View). Rule z m' ws g) (set-set vs i u (with_filled u (filled_with v.reading.filled w x))) third

    outside_filled : is_even v.section_word ≡ true → Rule z m' (set vs i v) g
    outside_filled outside =
        let none : v.reading ≡ no_reading = (seat_at z m vs g i v at rule).section.outside outside in
        let fresh : IsNotAmong w v.reading.filled = subst (λ (r : Reading). IsNotAmong w r.filled) (sym none) tt in
        subst (λ (ws : List View). Rule z m' ws g) (sym (set_same vs i v at)) (stored vs v rule at refl fresh)

  module _ (vs : List View) (rule : Rule z m vs g) (v : View) (at : IsItem vs i v) (stored : Stores v.free)
      (zeros : Every (FilledRight m v.free v.update) (zeros_of v.unused w)) where
    abbrev u : View
    u = used_view v w

    abbrev us : List View
    us = set vs i u

    used : Rule z m us g
    used = used_right z m vs g i v (used_slots w v.unused) at rule

    here : IsItem us i u
    here = item_set vs i v u at

    fill_by : (c : Bool) → is_even v.section_word ≡ c → Rule z m' (set vs i (cond c u (with_filled u (filled_with (known_before v w) w x)))) g
    fill_by true outside = subst (λ (ws : List View). Rule z m' ws g) (set-set vs i u u) (outside_filled us used u here stored outside)
    fill_by false inside =
        let known : List Filled = known_before v w in
        let right : Every (FilledRight m v.free v.update) known
        = every_append (FilledRight m v.free v.update) v.reading.filled (zeros_of v.unused w) (seat_at z m vs g i v at rule).filled zeros in
        let y : View = with_filled u known in
        let told : Rule z m (set us i y) g = knows_filled z m us g used i u here known inside right in
        let last : Rule z m' (set (set us i y) i (with_filled y (filled_with known w x))) g
        = inside_filled (set us i y) told y (item_set us i u y here) stored inside in
        subst (λ (ws : List View). Rule z m' ws g) (set-set us i y (with_filled y (filled_with known w x))
        ∙ set-set vs i u (with_filled y (filled_with known w x))) last

    pub fill_kept : Rule z m' (set vs i (filled_view v w x)) g
    fill_kept = fill_by (is_even v.section_word) refl

-- the words of a free slot that was never used hold 0
pub node_zeros : (m : Memory) (v : View) (k : ℕ) (field : Field) → UnusedRight m v → 0 < count k v.free.nodes
    → Every (FilledRight m v.free v.update) (zeros_of v.unused (Node field k))
node_zeros m v k field right free = by (has k v.unused.nodes) refl
  where
    zero_at : has k v.unused.nodes ≡ true → (f : Field) → FilledRight m v.free v.update (record { word = Node f k; value = 0 })
    zero_at yet f own = right (Node f k) own (has-count k v.unused.nodes yet)

    by : (b : Bool) → has k v.unused.nodes ≡ b → Every (FilledRight m v.free v.update) (cond b (zeros_in (node_words k)) [])
    by false yet = tt
    by true yet =
        let at = zero_at yet in
        (at Key, (at Val, (at Mark, (at (Head Left), (at (Head Right), (at (Link Left), (at (Link Right), (at (Tag Left), (at (Tag Right), tt)))))))))

pub entry_zeros : (m : Memory) (v : View) (e : ℕ) (part : Part) → UnusedRight m v → 0 < count e v.free.entries
    → Every (FilledRight m v.free v.update) (zeros_of v.unused (Entry part e))
entry_zeros m v e part right free = by (has e v.unused.entries) refl
  where
    zero_at : has e v.unused.entries ≡ true → (p : Part) → FilledRight m v.free v.update (record { word = Entry p e; value = 0 })
    zero_at yet p own = right (Entry p e) free (has-count e v.unused.entries yet)

    by : (b : Bool) → has e v.unused.entries ≡ b → Every (FilledRight m v.free v.update) (cond b (zeros_in (entry_words e)) [])
    by false yet = tt
    by true yet = let at = zero_at yet in (at Child, (at Number, (at Next, tt)))
