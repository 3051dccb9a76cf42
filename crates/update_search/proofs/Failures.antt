-- How a search fails: a mark that it finds, or a lock that is held, is counted, and is not met on a table of one pass.
use Rattle.std.proofs.Common.{◌≡◌, ℕ, ◌<◌, ◌≤◌, List, true, arith, refl, ap, inl, inr}
use Rattle.index_words.specs.declared.layout.Layout.{Layout}
use Rattle.index_words.specs.declared.view.View.{View}
use Rattle.index_words.specs.declared.view.update.Updating.{Updating}
use Rattle.index_words.specs.declared.word.Field.{Field}
use Rattle.index_words.specs.declared.word.Field.TheVariants.{Mark, Lock}
use Rattle.index_words.specs.declared.word.Word.TheVariants.{Node}
use Rattle.index_words.specs.Words.{memory, is_there}
use Rattle.index_words.proofs.Store.{word_named}
use Rattle.std.proofs.lemmas.Bool.Decides.{nat_tests}
use Rattle.std.proofs.Common.{leb}
use Rattle.key_map.specs.Lists.{IsItem}
use Rattle.core_events.specs.Tables.{Table, held_by}
use Rattle.core_invariant.specs.Readers.{IsLocked}
use Rattle.core_laws.specs.Searching.{IsBeforeRaise, IsStill}
use Rattle.core_updates.specs.PlanEvents.{IsBefore}
use Rattle.plan_laws.specs.Frames.{CountsGrow}
use Rattle.plan_laws.specs.Tries.{IsTrying}
use Rattle.table_rule.specs.Running.{table, Happened}
use Rattle.table_rule.proofs.Happens.{happened_word}
use Rattle.table_rule.proofs.Lists.{item_at}
use Rattle.table_steps.specs.Loads.{loading_mark, locking, HasMetLock}
use Rattle.table_steps.specs.Passes.{Pass, IsAlone}
use Rattle.update_search.specs.declared.outcome.Failed.{Failed}
use Rattle.update_search.specs.declared.outcome.Failed.TheVariants.{Busy, Moved}
use Rattle.update_search.specs.Laws.{SearchLaws}
use Rattle.update_search.specs.Outcomes.{HasRisen, IsCounted}
use Rattle.update_search.proofs.Nodes.{IsNode}

-- a try has not raised, and nothing of its update is under way
pub before_raise : (v : View) (n : ℕ) (nodes : List ℕ) → IsTrying v n nodes → IsBeforeRaise v
before_raise v n nodes trying = record { inside = trying.working.inside; unraised = ap (λ (u : Updating). u.raised) trying.idle }

pub before : (v : View) (n : ℕ) (nodes : List ℕ) → IsTrying v n nodes → IsBefore v
before v n nodes trying = record {
  unraised = ap (λ (u : Updating). u.raised) trying.idle;
  idle = ap (λ (u : Updating). u.pending) trying.idle;
  untaken = ap (λ (u : Updating). u.taken) trying.idle;
}

high : (a b : ℕ) → a ≤ b → leb a b ≡ true
high a b low = grind (arith, nat_tests)

-- the word of a node is one of the table
pub node_word : (z : Layout) (f : Field) (k : ℕ) → k ≤ z.nodes → is_there z (Node f k) ≡ true
node_word z f k low = high k z.nodes low

-- a count that has risen
pub risen_by : (old new other : ℕ) → new ≡ other → other ≤ new
risen_by old new other is = omega (arith, is)

-- a count that rose later, or before, has risen
pub risen_later : (a b c : ℕ) → a ≤ b → HasRisen b c → HasRisen a c
risen_later a b c low is = grind (arith, nat_tests)

module _ (laws : SearchLaws) (p : Pass) (n : ℕ) (nodes : List ℕ) (trying : IsTrying p.view n nodes) (node : ℕ) (there : node ≤ p.view.layout.nodes) (w : View) where
  abbrev v : View
  v = p.view

  -- a mark was loaded
  module _ (found : ℕ) (h : Happened v.layout (loading_mark p node) v found w) where
    abbrev t : Table
    t = table v.layout h.words h.views

    pub at : IsItem t.views p.seat v
    at = item_at h.views p.seat v h.seat

    pub mark_word : held_by t (Node Mark node) ≡ found
    mark_word = happened_word v.layout (loading_mark p node) v w found (Node Mark node) (node_word v.layout Mark node there) refl tt h

    pub mark_counted : IsNode v node → 0 < found → HasRisen v.counts.moves w.counts.moves
    mark_counted some set =
        risen_by v.counts.moves w.counts.moves _
        ((laws.failures t (loading_mark p node) v w n h.rule h.met h.seat h.view trying.working (before v n nodes trying)).mark node (inl (inr some)) refl
        (word_named v.layout (Node Mark node) (node_word v.layout Mark node there)) (omega (arith, mark_word, set)))

    pub mark_alone : IsNode v node → 0 < found → ¬ IsAlone v
    mark_alone some set alone =
        let still : IsStill t v = laws.still t p.seat v h.rule at alone (before_raise v n nodes trying) in
        omega (arith, still.unmarked node some, mark_word, set)

  -- a lock was found held
  pub lock_alone : HasMetLock p node w → ¬ IsLocked v node → ¬ IsAlone v
  lock_alone met unlocked alone =
      let h = met.event in
      let at : IsItem h.views p.seat v = item_at h.views p.seat v h.seat in
      let still : IsStill (table v.layout h.words h.views) v = laws.still (table v.layout h.words h.views) p.seat v h.rule at alone (before_raise v n nodes trying) in
      let word : memory v.layout h.words (Node Lock node) ≡ met.found
      = happened_word v.layout (locking p node) v w met.found (Node Lock node) (node_word v.layout Lock node there) refl tt h in
      omega (arith, still.unlocked node unlocked, word, met.held)

-- a failure that is counted later is counted
pub counted_later : (f : Failed) (u v w : View) → CountsGrow u v → IsCounted f v w → IsCounted f u w
counted_later Busy u v w grown is = risen_later u.counts.busy v.counts.busy w.counts.busy grown.busy is
counted_later Moved u v w grown is = risen_later u.counts.moves v.counts.moves w.counts.moves grown.moves is
