-- One try of an update: from its begin on, the slots that it may take stay free, and no count falls.
use Rattle.std.proofs.Common.{◌≡◌, ℕ, ◌+◌, ◌≤◌, [], cond, Bool, true, false, arith, refl, ap, sym, ◌∙◌, subst, Some}
use Rattle.index_words.specs.declared.view.View.{View}
use Rattle.index_words.specs.declared.view.history.Counts.{Counts}
use Rattle.index_words.specs.declared.view.slots.Slots.{Slots}
use Rattle.index_words.specs.Views.{no_slots, no_looks}
use Rattle.key_map.specs.Lists.{count}
use Rattle.key_map.proofs.Counting.{count-append}
use Rattle.core_events.specs.Moves.{in_section}
use Rattle.core_grace.specs.Batches.{all_passed, batch_freed, batch_taken, is_empty, settled}
use Rattle.core_updates.specs.declared.plan.PlanSlots.{PlanSlots}
use Rattle.plan_laws.specs.Frames.{CountsGrow, KeepsTry}
use Rattle.plan_laws.specs.Tries.{IsTrying}
use Rattle.table_rule.specs.Homes.{IsLiveView}
use Rattle.table_steps.specs.Passes.{Pass}
use Rattle.table_steps.specs.Stamps.{HasOpened, outside_again}
use Rattle.update_search.specs.declared.outcome.Failed.{Failed}
use Rattle.update_search.specs.declared.outcome.Failed.TheVariants.{Busy, Moved}
use Rattle.update_search.specs.Outcomes.{HasRisen, IsCounted, KeepsPlaces}
use Rattle.update_search.specs.Searching.{IsAtTop}
use Rattle.update_search.proofs.Failures.{counted_later}
use Rattle.update_try.proofs.Steps.{no_node}
use Rattle.bundle_reads.specs.Links.{InsideAt}
use Rattle.tree_update.specs.Trying.{HasSearched, OffersSlots}

-- an enter changes no count, and takes no free slot away
taken_counts : (v : View) → (batch_taken v).counts ≡ v.counts
taken_counts v = by_test (is_empty v.batch)
  where
    by_test : (b : Bool) → (cond b (record v { retired = no_slots; batch = v.retired; grace = no_looks }) v).counts ≡ v.counts
    by_test true = refl
    by_test false = refl

settled_counts : (passes : ℕ) (v : View) → (settled passes v).counts ≡ v.counts
settled_counts passes v = by_test (all_passed passes v.number v.grace.passed)
  where
    by_test : (b : Bool) → (cond b (batch_freed v) v).counts ≡ v.counts
    by_test true = refl
    by_test false = refl

taken_free : (v : View) → (batch_taken v).free ≡ v.free
taken_free v = by_test (is_empty v.batch)
  where
    by_test : (b : Bool) → (cond b (record v { retired = no_slots; batch = v.retired; grace = no_looks }) v).free ≡ v.free
    by_test true = refl
    by_test false = refl

-- an enter makes the section word one greater
taken_word : (v : View) → (batch_taken v).section_word ≡ v.section_word
taken_word v = by_test (is_empty v.batch)
  where
    by_test : (b : Bool) → (cond b (record v { retired = no_slots; batch = v.retired; grace = no_looks }) v).section_word ≡ v.section_word
    by_test true = refl
    by_test false = refl

settled_word : (passes : ℕ) (v : View) → (settled passes v).section_word ≡ v.section_word
settled_word passes v = by_test (all_passed passes v.number v.grace.passed)
  where
    by_test : (b : Bool) → (cond b (batch_freed v) v).section_word ≡ v.section_word
    by_test true = refl
    by_test false = refl

opened_word : (p : Pass) (b : View) (n : ℕ) → HasOpened p 0 n b → b.section_word ≡ p.view.section_word + 1
opened_word p b n opened =
    let inside : View = in_section p.view (p.view.section_word + 1) in
    ap (λ (u : View). u.section_word) opened.reads.view
    ∙ settled_word p.view.layout.passes (batch_taken inside) ∙ taken_word inside

-- a search that has ended so in its section, which was left then
pub has_searched : (EndsSo : View → Type 0) (p : Pass) (b x w : View) (n : ℕ) → HasOpened p 0 n b → KeepsPlaces b x → IsLiveView x → EndsSo x → w ≡ outside_again x → HasSearched EndsSo p.view w
has_searched EndsSo p b x w n opened keeps live ends left =
    record { at = x; live = live; ends = ends; section = keeps.keeps.pass.word ∙ opened_word p b n opened; left = left }

-- what is free stays free
record KeepsFree (a b : Slots) : Type 0 where
  nodes : (k : ℕ) → count k a.nodes ≤ count k b.nodes
  entries : (k : ℕ) → count k a.entries ≤ count k b.entries

settled_free : (passes : ℕ) (v : View) → KeepsFree v.free (settled passes v).free
settled_free passes v = by_test (all_passed passes v.number v.grace.passed)
  where
    by_test : (b : Bool) → KeepsFree v.free (cond b (batch_freed v) v).free
    by_test true = record {
      nodes = λ k. omega (arith, count-append k v.free.nodes v.batch.nodes);
      entries = λ k. omega (arith, count-append k v.free.entries v.batch.entries);
    }
    by_test false = record { nodes = λ k. omega arith; entries = λ k. omega arith }

-- the count of a failure that has risen stays so where the counts do not change
pub counted_still : (failed : Failed) (v w x : View) → IsCounted failed v w → x.counts ≡ w.counts → IsCounted failed v x
counted_still Busy v w x rose same = subst (λ (c : Counts). HasRisen v.counts.busy c.busy) (sym same) rose
counted_still Moved v w x rose same = subst (λ (c : Counts). HasRisen v.counts.moves c.moves) (sym same) rose

-- an enter changes no count
pub opened_counts : (p : Pass) (b : View) (n : ℕ) → HasOpened p 0 n b → b.counts ≡ p.view.counts
opened_counts p b n opened =
    let inside : View = in_section p.view (p.view.section_word + 1) in
    ap (λ (u : View). u.counts) opened.reads.view
    ∙ settled_counts p.view.layout.passes (batch_taken inside) ∙ taken_counts inside

pub opened_grown : (p : Pass) (b : View) (n : ℕ) → HasOpened p 0 n b → CountsGrow p.view b
opened_grown p b n opened =
    let same : b.counts ≡ p.view.counts = opened_counts p b n opened in
    record {
      busy = omega (arith, ap (λ (c : Counts). c.busy) same);
      waits = omega (arith, ap (λ (c : Counts). c.waits) same);
      moves = omega (arith, ap (λ (c : Counts). c.moves) same);
    }

-- the count of a failure in the search has risen in the try
pub opened_counted : (p : Pass) (b x : View) (n : ℕ) → HasOpened p 0 n b → (failed : Failed) → IsCounted failed b x → IsCounted failed p.view x
opened_counted p b x n opened failed rose = counted_later failed p.view b x (opened_grown p b n opened) rose

-- a section in which no node is locked, after its begin and in the search
pub inside_at : (b x : View) (n at : ℕ) → b.reading.section ≡ Some at → IsTrying x n [] → x.reading.section ≡ b.reading.section → InsideAt x at
inside_at b x n at reads trying same = record {
  section = same ∙ reads;
  inside = record { odd = trying.working.inside; unlocked = no_node x.held.nodes trying.locked };
}

pub opened_section : (p : Pass) (b : View) (at : ℕ) → HasOpened p 0 at b → b.reading.section ≡ Some at
opened_section p b at opened = ap (λ (u : View). u.reading.section) opened.reads.view

pub opened_inside : (p : Pass) (b : View) (at : ℕ) → HasOpened p 0 at b → IsAtTop b → InsideAt b at
opened_inside p b at opened top = inside_at b b top.number at (opened_section p b at opened) top.trying refl

pub searched_inside : (p : Pass) (b x : View) (at : ℕ) → HasOpened p 0 at b → IsAtTop b → KeepsPlaces b x → InsideAt x at
searched_inside p b x at opened top keeps =
    inside_at b x top.number at (opened_section p b at opened) (keeps.trying top.number [] top.trying) keeps.keeps.pass.section

-- no count of entries without a number has risen
pub searched_waits : (p : Pass) (b x w : View) (at : ℕ) → HasOpened p 0 at b → KeepsPlaces b x
    → w.counts.waits ≡ x.counts.waits → w.counts.waits ≡ p.view.counts.waits
searched_waits p b x w at opened keeps same = same ∙ keeps.waits ∙ ap (λ (c : Counts). c.waits) (opened_counts p b at opened)

-- from the begin of a try to the end of its search
module _ (p : Pass) (b x : View) (n : ℕ) (opened : HasOpened p 0 n b) (keeps : KeepsTry b x) where
  abbrev v : View
  v = p.view

  abbrev inside : View
  inside = batch_taken (in_section v (v.section_word + 1))

  opened_free : KeepsFree v.free b.free
  opened_free =
      let free : b.free ≡ (settled v.layout.passes inside).free = ap (λ (u : View). u.free) opened.reads.view in
      subst (λ (s : Slots). KeepsFree s b.free) (taken_free (in_section v (v.section_word + 1)))
      (subst (λ (s : Slots). KeepsFree inside.free s) (sym free) (settled_free v.layout.passes inside))

  searched_free : KeepsFree v.free x.free
  searched_free = subst (λ (s : Slots). KeepsFree v.free s) (sym keeps.free) opened_free

  pub offers_still : (slots : PlanSlots) → OffersSlots v slots → OffersSlots x slots
  offers_still slots is =
      let stays = searched_free in
      let has = is.free in
      record {
        free = record {
          node = omega (arith, has.node, stays.nodes slots.node);
          at = omega (arith, has.at, stays.entries slots.at);
          left = omega (arith, has.left, stays.entries slots.left);
          right = omega (arith, has.right, stays.entries slots.right);
          next = omega (arith, has.next, stays.entries slots.next);
        };
        apart = is.apart;
        node = is.node;
      }

  searched_grown : CountsGrow v x
  searched_grown =
      let same : b.counts ≡ v.counts = opened_counts p b n opened in
      record {
        busy = omega (arith, keeps.grown.busy, ap (λ (c : Counts). c.busy) same);
        waits = omega (arith, keeps.grown.waits, ap (λ (c : Counts). c.waits) same);
        moves = omega (arith, keeps.grown.moves, ap (λ (c : Counts). c.moves) same);
      }

  -- the count of a failure after the search has risen in the try
  pub try_counted : (failed : Failed) (w : View) → IsCounted failed x w → IsCounted failed v w
  try_counted failed w rose = counted_later failed v x w searched_grown rose
