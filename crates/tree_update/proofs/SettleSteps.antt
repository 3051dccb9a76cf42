-- What the looks of a try to settle leave of the view.
use Rattle.std.proofs.Common.{◌≡◌, ℕ, ◌+◌, List, [], ◌∷◌, ◌++◌, length, cond, Bool, true, false, not, eqb, ◌&&◌, Option, None, filter, arith, refl, ap, ◌∙◌, sym, subst, append-nil}
use Rattle.std.proofs.lemmas.Bool.{eqb-true, and_parts}
use Rattle.std.proofs.lemmas.List.{length-append}
use Rattle.index_words.specs.declared.view.View.{View}
use Rattle.index_words.specs.declared.view.reading.Reading.{Reading}
use Rattle.index_words.specs.declared.view.slots.Slots.{Slots}
use Rattle.index_words.specs.declared.layout.Layout.{Layout}
use Rattle.index_words.specs.Views.{no_slots, no_looks, no_reading}
use Rattle.key_map.specs.Lists.{has}
use Rattle.core_grace.specs.Batches.{apart_from, batch_taken, batch_freed, both, is_empty, all_passed, settled, times_found}
use Rattle.core_grace.specs.Progress.{PassedOthers}
use Rattle.core_grace.proofs.Progress.{passed_all}
use Rattle.core_events.specs.Moves.{entered, in_section, left}
use Rattle.table_rule.specs.Running.{Happened}
use Rattle.table_steps.specs.Gives.{looking}
use Rattle.table_steps.specs.Passes.{Pass, IsSamePass}
use Rattle.tree_update.specs.Settles.{apart_from_slots, KeepsAllElse, KeepsSlotCounts, batch_of, retired_of, HasSettled, HasBatch, IsTaking, FoundTwice, KeepsFound, found_of}

-- the view with the retired slots as its batch
abbrev taken_of : View → View
taken_of v = record v { retired = no_slots; batch = v.retired; grace = no_looks }

-- whichever of two views it is, they agree in this
either : {X : Type 0} (f : View → X) (b : Bool) (x y : View) (r : X) → f x ≡ r → f y ≡ r → f (cond b x y) ≡ r
either f true x y r one two = one
either f false x y r one two = two

taken_apart : (v : View) → KeepsAllElse v (batch_taken v)
taken_apart v = either apart_from_slots (is_empty v.batch) (taken_of v) v (apart_from_slots v) refl refl

settled_apart : (passes : ℕ) (v : View) → KeepsAllElse v (settled passes v)
settled_apart passes v = either apart_from_slots (all_passed passes v.number v.grace.passed) (batch_freed v) v (apart_from_slots v) refl refl

taken_free : (v : View) → (batch_taken v).free ≡ v.free
taken_free v = either (λ u. u.free) (is_empty v.batch) (taken_of v) v v.free refl refl

taken_unused : (v : View) → (batch_taken v).unused ≡ v.unused
taken_unused v = either (λ u. u.unused) (is_empty v.batch) (taken_of v) v v.unused refl refl

-- a batch that waits is not taken again
pub taken_waits : (w : View) → is_empty w.batch ≡ false → batch_taken w ≡ w
taken_waits w waits = ap (λ b. cond b (taken_of w) w) waits

-- if no slot waits, nothing is to be freed
empty_list : {X : Type 0} (xs : List X) → eqb (length xs) 0 ≡ true → xs ≡ []
empty_list [] none = refl
empty_list (x ∷ xs) none = let long : length (x ∷ xs) ≡ 0 = eqb-true (length (x ∷ xs)) 0 none in absurd (omega arith)

empty_slots : (s : Slots) → is_empty s ≡ true → s ≡ no_slots
empty_slots s none =
    let parts = and_parts (eqb (length s.nodes) 0) (eqb (length s.entries) 0) none in
    ap (λ (ks : List ℕ). record { nodes = ks; entries = s.entries }) (empty_list s.nodes parts.0) ∙ ap (λ (es : List ℕ). record { nodes = []; entries = es }) (empty_list s.entries parts.1)

none_apart : (xs : List ℕ) → filter (λ k. not (has k [])) xs ≡ xs
none_apart [] = refl
none_apart (x ∷ xs) = ap (λ ys. x ∷ ys) (none_apart xs)

none_both : (s : Slots) → both s no_slots ≡ s
none_both s = ap (λ (ks : List ℕ). record { nodes = ks; entries = s.entries ++ [] }) (append-nil s.nodes) ∙ ap (λ (es : List ℕ). record { nodes = s.nodes; entries = es }) (append-nil s.entries)

apart_none : (s : Slots) → apart_from no_slots s ≡ s
apart_none s =
    ap (λ (ks : List ℕ). record { nodes = ks; entries = filter (λ e. not (has e [])) s.entries }) (none_apart s.nodes)
    ∙ ap (λ (es : List ℕ). record { nodes = s.nodes; entries = es }) (none_apart s.entries)

pub rest_settled : (v : View) → (is_empty v.batch && is_empty v.retired) ≡ true → HasSettled v v
rest_settled v none =
    let parts = and_parts (is_empty v.batch) (is_empty v.retired) none in
    let batch : v.batch ≡ no_slots = empty_slots v.batch parts.0 in
    let retired : v.retired ≡ no_slots = empty_slots v.retired parts.1 in
    let taken : batch_taken v ≡ taken_of v = ap (λ b. cond b (taken_of v) v) parts.0 in
    let waits : batch_of v ≡ no_slots = ap (λ (u : View). u.batch) taken ∙ retired in
    record {
      free = sym (ap (both v.free) waits ∙ none_both v.free);
      batch = batch;
      retired = retired ∙ sym (ap (λ (u : View). u.retired) taken);
      unused = sym (ap (λ (s : Slots). apart_from s v.unused) waits ∙ apart_none v.unused);
    }

pub batch_apart : (v w : View) → HasBatch v w → KeepsAllElse v w
batch_apart v w is = ap apart_from_slots is ∙ taken_apart v

-- the enter at the end frees the batch
section_taken : (v : View) (y : ℕ) → batch_taken (in_section v y) ≡ in_section (batch_taken v) y
section_taken v y = by (is_empty v.batch)
  where
    by : (b : Bool) → cond b (taken_of (in_section v y)) (in_section v y) ≡ in_section (cond b (taken_of v) v) y
    by true = refl
    by false = refl

taken_number : (v : View) → (batch_taken v).number ≡ v.number
taken_number v = either (λ u. u.number) (is_empty v.batch) (taken_of v) v v.number refl refl

module _ (passes : ℕ) (v : View) (y : ℕ) where
  entered_freed : PassedOthers passes v.number (batch_taken v).grace.passed → entered passes v y ≡ batch_freed (in_section (batch_taken v) y)
  entered_freed others =
      let all : all_passed passes (batch_taken v).number (batch_taken v).grace.passed ≡ true
      = ap (λ n. all_passed passes n (batch_taken v).grace.passed) (taken_number v) ∙ passed_all passes v.number (batch_taken v).grace.passed others in
      ap (settled passes) (section_taken v y) ∙ ap (λ b. cond b (batch_freed (in_section (batch_taken v) y)) (in_section (batch_taken v) y)) all

  -- and the leave after it leaves that
  pub left_settled : PassedOthers passes v.number (batch_taken v).grace.passed → (e w : View) (x : ℕ) → e ≡ entered passes v y → w ≡ left e x → HasSettled v w
  left_settled others e w x first second =
      let is : w ≡ left (batch_freed (in_section (batch_taken v) y)) x = second ∙ ap (λ u. left u x) (first ∙ entered_freed others) in
      record {
        free = ap (λ (u : View). u.free) is ∙ ap (λ (s : Slots). both s (batch_of v)) (taken_free v);
        batch = ap (λ (u : View). u.batch) is;
        retired = ap (λ (u : View). u.retired) is;
        unused = ap (λ (u : View). u.unused) is ∙ ap (apart_from (batch_of v)) (taken_unused v);
      }

  pub left_apart : v.reading ≡ no_reading → v.update.added ≡ None → (e w : View) (x : ℕ) → e ≡ entered passes v y → w ≡ left e x → KeepsAllElse v w
  left_apart rest none e w x first second =
      let inside : apart_from_slots e ≡ apart_from_slots (in_section v y)
      = ap apart_from_slots first ∙ settled_apart passes (batch_taken (in_section v y)) ∙ taken_apart (in_section v y) in
      ap apart_from_slots second ∙ ap (λ (u : View). record u { reading = no_reading; update = record u.update { added = None } }) inside
      ∙ ap (λ (r : Reading). record (apart_from_slots v) { reading = r; update = record v.update { added = None } }) (sym rest)
      ∙ ap (λ (a : Option ℕ). record (apart_from_slots v) { update = record v.update { added = a } }) (sym none)

-- from the start of a try through the looks so far
module _ (v u : View) (taking : IsTaking v u) where
  pub freed_from : (w : View) → w ≡ batch_freed (batch_taken u) → w ≡ batch_freed (batch_taken v)
  freed_from w is = is ∙ ap batch_freed taking

  pub batch_from : (w : View) → HasBatch u w → HasBatch v w
  batch_from w is = is ∙ ap (λ (t : View). record t { grace = w.grace }) taking

  -- what was found twice between the looks of a try was so in the whole try
  pub twice_from : (p q : Pass) (seat word : ℕ) (w : View) → p.view ≡ v → q.view ≡ u → IsSamePass p q → KeepsFound v u → FoundTwice q seat word w → FoundTwice p seat word w
  twice_from p q seat word w from at same keeps twice = record {
    before = twice.before;
    batch = subst (λ (x : View). HasBatch x twice.before) (sym from) (batch_from twice.before (subst (λ (x : View). HasBatch x twice.before) at twice.batch));
    event = subst (λ (s : ℕ). Happened p.view.layout (looking (record p { seat = s }) seat) twice.before word w) same.seat
        (subst (λ (z : Layout). Happened z (looking (record q { view = record q.view { layout = z } }) seat) twice.before word w) same.layout twice.event);
    twice = twice.twice;
    now = omega (
      arith,
      keeps seat word,
      ap (λ (x : View). times_found seat word (found_of x)) from,
      ap (λ (x : View). times_found seat word (found_of x)) at,
      twice.now,
    );
  }

  pub taking_from : (w : View) → IsTaking u w → IsTaking v w
  taking_from w is = is ∙ ap (λ (t : View). record t { grace = (batch_taken w).grace }) taking

-- of each kind as many slots are in the batch and retired as were before the batch was taken
empty_nodes : (s : Slots) → is_empty s ≡ true → length s.nodes ≡ 0
empty_nodes s is = eqb-true (length s.nodes) 0 (and_parts (eqb (length s.nodes) 0) (eqb (length s.entries) 0) is).0

empty_entries : (s : Slots) → is_empty s ≡ true → length s.entries ≡ 0
empty_entries s is = eqb-true (length s.entries) 0 (and_parts (eqb (length s.nodes) 0) (eqb (length s.entries) 0) is).1

taken_nodes : (v : View) → length (batch_of v).nodes + length (retired_of v).nodes ≡ length v.batch.nodes + length v.retired.nodes
taken_nodes v = by (is_empty v.batch) refl
  where
    by : (b : Bool) → is_empty v.batch ≡ b → length (cond b (taken_of v) v).batch.nodes + length (cond b (taken_of v) v).retired.nodes ≡ length v.batch.nodes + length v.retired.nodes
    by true is = omega (arith, empty_nodes v.batch is)
    by false is = refl

taken_entries : (v : View) → length (batch_of v).entries + length (retired_of v).entries ≡ length v.batch.entries + length v.retired.entries
taken_entries v = by (is_empty v.batch) refl
  where
    by : (b : Bool) → is_empty v.batch ≡ b → length (cond b (taken_of v) v).batch.entries + length (cond b (taken_of v) v).retired.entries ≡ length v.batch.entries + length v.retired.entries
    by true is = omega (arith, empty_entries v.batch is)
    by false is = refl

-- a try to settle keeps the counts of slots
pub settled_counts : (v w : View) → HasSettled v w → KeepsSlotCounts v w
settled_counts v w s = record {
  nodes = omega (
    arith,
    ap (λ (t : Slots). length t.nodes) s.free,
    ap (λ (t : Slots). length t.nodes) s.batch,
    ap (λ (t : Slots). length t.nodes) s.retired,
    length-append v.free.nodes (batch_of v).nodes,
    taken_nodes v,
  );
  entries = omega (
    arith,
    ap (λ (t : Slots). length t.entries) s.free,
    ap (λ (t : Slots). length t.entries) s.batch,
    ap (λ (t : Slots). length t.entries) s.retired,
    length-append v.free.entries (batch_of v).entries,
    taken_entries v,
  );
}
