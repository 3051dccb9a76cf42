-- What a try to settle does with the slots of a pass that wait to become free.
use Rattle.std.specs.Prelude.{◌≡◌, ◌≢◌, ℕ, ◌+◌, ◌<◌, ◌≤◌, List, length, true, false}
use Rattle.index_words.specs.declared.view.View.{View}
use Rattle.index_words.specs.declared.view.slots.SectionFound.{SectionFound}
use Rattle.index_words.specs.declared.view.slots.Slots.{Slots}
use Rattle.index_words.specs.Views.{no_slots, no_looks}
use Rattle.key_map.specs.Lists.{has}
use Rattle.core_grace.specs.Batches.{apart_from, batch_taken, batch_freed, both, is_empty, is_number, looked_at, times_found}
use Rattle.core_grace.specs.Sections.{is_even}
use Rattle.table_rule.specs.Running.{Happened}
use Rattle.table_steps.specs.Gives.{looking}
use Rattle.table_steps.specs.Passes.{Pass}
use Rattle.tree_update.specs.declared.settle.PassLook.{PassLook}
use Rattle.tree_update.specs.declared.settle.PassLook.TheVariants.{Freed, Passed, Inside}
use Rattle.tree_update.specs.declared.settle.Settling.{Settling}
use Rattle.tree_update.specs.declared.settle.Settling.TheVariants.{Settled, Held}

-- the view but for the own section word, the slots, and what is known of the batch
abbrev pub apart_from_slots : View → View
apart_from_slots v = record v { section_word = 0; free = no_slots; retired = no_slots; batch = no_slots; grace = no_looks; unused = no_slots }

-- all else is unchanged: the history, what was counted, what was read, and the rest
abbrev pub KeepsAllElse : View → View → Type 0
KeepsAllElse v w = apart_from_slots w ≡ apart_from_slots v

-- how many nodes and how many entries the view owns
abbrev pub owned_nodes : View → ℕ
owned_nodes v = length v.free.nodes + length v.batch.nodes + length v.retired.nodes

abbrev pub owned_entries : View → ℕ
owned_entries v = length v.free.entries + length v.batch.entries + length v.retired.entries

pub record KeepsSlotCounts (v w : View) : Type 0 where
  pub nodes : owned_nodes w ≡ owned_nodes v
  pub entries : owned_entries w ≡ owned_entries v

-- the batch of a try to settle: the one that waits, or else the slots that are retired
abbrev pub batch_of : View → Slots
batch_of v = (batch_taken v).batch

-- and the slots that are retired then
abbrev pub retired_of : View → Slots
retired_of v = (batch_taken v).retired

-- every slot of the batch is free, and was used
pub record HasSettled (v w : View) : Type 0 where
  pub free : w.free ≡ both v.free (batch_of v)
  pub batch : w.batch ≡ no_slots
  pub retired : w.retired ≡ retired_of v
  pub unused : w.unused ≡ apart_from (batch_of v) v.unused

-- the batch waits: the view is unchanged, except that the batch was taken, and that there are new looks
abbrev pub HasBatch : View → View → Type 0
HasBatch v w = w ≡ record (batch_taken v) { grace = w.grace }

-- the view where a batch was taken and a look at another pass found this word, before the test whether the batch
-- becomes free
abbrev pub looks_on : View → ℕ → ℕ → View
looks_on v other word = record (batch_taken v) { grace = looked_at (batch_taken v).grace other word }

-- a look at another pass found this word, and the batch waits
pub record HasLookedAt (p : Pass) (other word : ℕ) (w : View) : Type 0 where
  pub view : w ≡ looks_on p.view other word
  pub waits : is_empty w.batch ≡ false
  pub event : Happened p.view.layout (looking p other) p.view word w

-- the answer of a look
abbrev pub IsSeen : Pass → ℕ → PassLook → View → Type 0
IsSeen p other Freed w = w ≡ batch_freed (batch_taken p.view)
IsSeen p other Passed w = (word : ℕ) × HasLookedAt p other word w × (has other w.grace.passed ≡ true)
IsSeen p other (Inside word) w = HasLookedAt p other word w × (has other w.grace.passed ≡ false)

-- between the looks of a try the view has the batch, whether it was taken or not, and new looks
abbrev pub IsTaking : View → View → Type 0
IsTaking v w = batch_taken w ≡ record (batch_taken v) { grace = (batch_taken w).grace }

-- a pass that was passed stays so
abbrev pub KeepsPassed : View → View → Type 0
KeepsPassed v w = (n : ℕ) → has n (batch_taken v).grace.passed ≡ true → has n (batch_taken w).grace.passed ≡ true

-- the words that were found since the batch was taken
abbrev pub found_of : View → List SectionFound
found_of v = (batch_taken v).grace.found

-- each word was found as often as before, or more often
abbrev pub KeepsFound : View → View → Type 0
KeepsFound v w = (n word : ℕ) → times_found n word (found_of v) ≤ times_found n word (found_of w)

-- the pass is the view's own one, or was passed
abbrev pub IsDoneWith : ℕ → View → Type 0
IsDoneWith other v = is_number other v.number ≡ false → has other (batch_taken v).grace.passed ≡ true

-- the looks at one pass are finished: it is the view's own one, or was passed, and the batch waits
pub record HasPassed (v : View) (other : ℕ) (w : View) : Type 0 where
  pub taking : IsTaking v w
  pub keeps : KeepsPassed v w
  pub found : KeepsFound v w
  pub done : IsDoneWith other w

-- this word was found as another pass's section word by at least two looks since the batch was taken; the last of them
-- was in this call, which ends with it
pub record FoundTwice (p : Pass) (seat word : ℕ) (w : View) : Type 0 where
  pub before : View
  pub batch : HasBatch p.view before
  pub event : Happened p.view.layout (looking p seat) before word w
  pub twice : 2 ≤ times_found seat word w.grace.found
  pub now : times_found seat word (found_of p.view) < times_found seat word w.grace.found

-- another pass holds the batch: it was found in one section by two looks since the batch was taken, the later one in
-- this call
pub record IsHeld (p : Pass) (seat word : ℕ) (w : View) : Type 0 where
  pub there : seat < p.view.layout.passes
  pub other : seat ≢ p.number
  pub odd : is_even word ≡ false
  pub batch : HasBatch p.view w
  pub twice : FoundTwice p seat word w

-- the answer of a try to settle
abbrev pub HasTried : Pass → Settling → View → Type 0
HasTried p Settled w = HasSettled p.view w
HasTried p (Held seat word) w = IsHeld p seat word w

-- the answer of the looks at one pass
abbrev pub IsSeenAgain : Pass → ℕ → PassLook → View → Type 0
IsSeenAgain p other Freed w = w ≡ batch_freed (batch_taken p.view)
IsSeenAgain p other Passed w = HasPassed p.view other w
IsSeenAgain p other (Inside word) w = IsHeld p other word w
