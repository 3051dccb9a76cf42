-- The answer of one try of an update.
use Rattle.std.specs.Prelude.{◌≡◌, ℕ, ◌+◌, ◌<◌, ◌⊎◌, Bool, true, not, if◌then◌else◌}
use Rattle.index_words.specs.declared.view.View.{View}
use Rattle.key_map.specs.declared.pass.Done.{Done}
use Rattle.key_map.specs.declared.update.Change.{Change}
use Rattle.key_map.specs.declared.update.Change.TheVariants.{Remove}
use Rattle.core_updates.specs.declared.plan.PlanSlots.{PlanSlots}
use Rattle.core_updates.specs.PlanEvents.{HasSlots}
use Rattle.plan_laws.specs.Fills.{AreApart}
use Rattle.tree_update.specs.declared.trying.Missed.{Missed}
use Rattle.tree_update.specs.declared.trying.Missed.TheVariants.{Absent, There, Failed}
use Rattle.tree_update.specs.declared.trying.Try.{Try}
use Rattle.tree_update.specs.declared.trying.Try.TheVariants.{Done as Made, Busy, Moved, Pending}
use Rattle.table_rule.specs.Homes.{IsLiveView}
use Rattle.table_steps.specs.Passes.{IsAlone}
use Rattle.table_steps.specs.Stamps.{outside_again}
use Rattle.tree_update.specs.Calls.{LooksFor}
use Rattle.update_try.specs.FreeSlots.{LacksFreeSlots}
use Rattle.update_search.specs.declared.outcome.Failed.{Failed as Failure}
use Rattle.update_search.specs.declared.search.Aim.{Aim}
use Rattle.update_search.specs.Aims.{IsAim, has_found, key_of}
use Rattle.update_search.specs.Ends.{IsMissing}
use Rattle.update_search.specs.Outcomes.{IsCounted}

-- calls are left, but not the free slots that an update may take
abbrev pub IsOutOfFreeSlots : View → Type 0
IsOutOfFreeSlots v = (0 < v.history.left) × LacksFreeSlots v

-- these are free slots of the view that an update may take: different ones, none of them 0
pub record OffersSlots (v : View) (slots : PlanSlots) : Type 0 where
  pub free : HasSlots v slots
  pub apart : AreApart slots
  pub node : 0 < slots.node

-- the try's search has ended so, in the section that the try has opened; some table that meets the rule has a seat with that view.
-- After it the pass has left the section, and has done nothing else
pub record HasSearched (EndsSo : View → Type 0) (v w : View) : Type 0 where
  pub at : View
  pub live : IsLiveView at
  pub ends : EndsSo at
  pub section : at.section_word ≡ v.section_word + 1
  pub left : w ≡ outside_again at

-- the search has come to a node with the key
pub record FindsKey (key : ℕ) (v : View) : Type 0 where
  pub aim : Aim
  pub is : IsAim v aim
  pub key_is : key_of aim ≡ key
  pub found : has_found aim ≡ true

-- in this try a search for the key has ended at a null link, or at a node with the key
abbrev pub HasMissedKey : ℕ → View → View → Type 0
HasMissedKey key v w = HasSearched (λ at. IsMissing at key) v w

abbrev pub HasFoundKey : ℕ → View → View → Type 0
HasFoundKey key v w = HasSearched (FindsKey key) v w

-- the count of a failure has risen, because of what another pass did
abbrev pub HasFailed : View → View → Type 0
HasFailed v w = (failed : Failure) × IsCounted failed v w × (¬ IsAlone w)

-- why a try of this change was not made: the search has not found the key of a removal; or it has found the key, and
-- the change was to be made only if the key is not there; or the count of the failure has risen, because of what
-- another pass did
abbrev pub IsMissed : Bool → ℕ → Change → View → View → Missed → Type 0
IsMissed only_new key change v w Absent = (change ≡ Remove) × HasMissedKey key v w
IsMissed only_new key change v w There = (only_new ≡ true) × HasFoundKey key v w
IsMissed only_new key change v w (Failed failed) = IsCounted failed v w × ¬ IsAlone w

-- why a change is tried again: a try has failed, or its search has shown why the change is not made, and a snapshot after it
-- has shown the contrary
abbrev pub TriesLater : Bool → ℕ → Change → View → View → Type 0
TriesLater only_new key change v w =
    HasFailed v w
    ⊎ ((left : View) × (at : ℕ) × (there : Bool) × IsMissed only_new key change v left (if there then There else Absent) × LooksFor left w key (not there) at)

-- what holds if a try has made its update, by its answer
abbrev pub IfDone : Try → (Done → Type 0) → Type 0
IfDone (Made done) fact = fact done
IfDone _ fact = Unit {0}

-- what holds if it has not, for this cause
abbrev pub IfBusy : Try → Type 0 → Type 0
IfBusy Busy fact = fact
IfBusy _ fact = Unit {0}

abbrev pub IfMoved : Try → Type 0 → Type 0
IfMoved Moved fact = fact
IfMoved _ fact = Unit {0}

abbrev pub IfPending : Try → Type 0 → Type 0
IfPending Pending fact = fact
IfPending _ fact = Unit {0}

-- what holds if it has not, for whatever cause
abbrev pub UnlessDone : Try → Type 0 → Type 0
UnlessDone (Made done) fact = Unit {0}
UnlessDone _ fact = fact

-- the put was made
abbrev pub IsMade : Try → Type 0
IsMade tried = UnlessDone tried ⊥
