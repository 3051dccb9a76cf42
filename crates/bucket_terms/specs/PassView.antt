-- Helper: the headline does not rest on this file.
-- What a pass of the index is to its caller: its number, the history that it knows, its slots and its
-- open snapshot. Nothing here says that nobody else changes the map between two calls.
use Rattle.std.specs.Prelude.{◌≡◌, ℕ, ◌+◌, ◌-◌, ◌<◌, ◌≤◌, ◌^◌, min, ◌⊎◌, Bool, true, false, MatchBool, if◌then◌else◌, List, [], ◌∷◌, ◌++◌, length, Option, Some, None}
use Rattle.key_map.specs.declared.update.Update.{Update}
use Rattle.key_map.specs.declared.update.Change.{Change}
use Rattle.key_map.specs.declared.update.Change.TheVariants.{Put, Remove}
use Rattle.key_map.specs.declared.pass.Done.{Done}
use Rattle.key_map.specs.declared.pass.New.{New}
use Rattle.key_map.specs.declared.pass.New.TheVariants.{Made, Kept}
use Rattle.key_map.specs.Map.{map_has}
use Rattle.key_map.specs.History.{after, own_places}

pub record PassView : Type 0 where
  -- the number of the pass, by which its updates are known
  pub number : ℕ
  -- the updates that it knows: a beginning of the index's history
  pub seen : List Update
  -- the places of its own updates, rising, counted from 1
  pub mine : List ℕ
  -- how many loads of the stamp, the index's count of its updates, have fixed a place; a count of 64 bits
  -- that stays at its last value
  pub looks : ℕ
  -- the number that the last of them gave
  pub found : ℕ
  -- the node slots and the entry slots that it owns, free and retired
  pub nodes : ℕ
  pub entries : ℕ
  -- how many updates it may still make
  pub left : ℕ
  -- the number of the open snapshot, if there is one
  pub opened : Option ℕ

-- the new list begins with the old one
abbrev pub Extends : {X : Type 0} → List X → List X → Type 0
Extends {X} old new = (more : List X) × (new ≡ old ++ more)

-- a count of 64 bits after `n` more: it stays at its last value
abbrev pub risen : ℕ → ℕ → ℕ
risen n count = min (count + n) (2 ^ 64 - 1)

-- a count of 64 bits has risen by at least `n`
abbrev pub RoseBy : ℕ → ℕ → ℕ → Type 0
RoseBy n old new = risen n old ≤ new

-- a count of 64 bits has risen by one
abbrev pub RoseByOne : ℕ → ℕ → Type 0
RoseByOne old new = new ≡ risen 1 old

-- the places of the pass's own updates are exactly those at which updates of its number stand
abbrev pub KnowsOwn : PassView → Type 0
KnowsOwn pass = pass.mine ≡ own_places pass.number pass.seen

-- what no call of a pass changes, and what only grows
pub record Continues (old new : PassView) : Type 0 where
  pub number : new.number ≡ old.number
  pub seen : Extends old.seen new.seen
  pub mine : KnowsOwn new
  pub looks : old.looks ≤ new.looks

-- an update was made at place `at`, above all that the pass had seen: it stands at the end of the new history
pub record MadeUpdate (old new : PassView) (line key : ℕ) (change : Change) (at : ℕ) : Type 0 where
  pub continues : Continues old new
  pub above : length old.seen < at
  pub others : List Update
  pub seen : new.seen ≡ (old.seen ++ others) ++ record { client = old.number; line = line; key = key; change = change } ∷ []
  pub place : at ≡ length new.seen
  pub mine : new.mine ≡ old.mine ++ at ∷ []
  pub left : new.left + 1 ≡ old.left
  pub entries : old.entries ≤ new.entries + 4
  pub closed : new.opened ≡ None

-- a put was made. A node slot is used where the key was not there, and no look is taken.
pub record MadePut (old new : PassView) (line key val : ℕ) (done : Done) : Type 0 where
  pub update : MadeUpdate old new line key (Put val) done.at
  pub was : done.was ≡ map_has key (after new.seen (done.at - 1))
  pub nodes : new.nodes + (if done.was then 0 else 1) ≡ old.nodes
  pub looks : new.looks ≡ old.looks

-- a load of the stamp has fixed the place `at`, and the pass knows the history up to it
pub record Looked (old new : PassView) (at : ℕ) : Type 0 where
  pub continues : Continues old new
  pub found : new.found ≡ at
  pub place : at ≡ length new.seen
  pub mine : new.mine ≡ old.mine
  pub left : new.left ≡ old.left
  pub nodes : new.nodes ≡ old.nodes
  pub entries : new.entries ≡ old.entries

-- a snapshot was opened at place `at`, the number found
pub record Began (old new : PassView) (at : ℕ) : Type 0 where
  pub looked : Looked old new at
  pub looks : RoseByOne old.looks new.looks
  pub opened : new.opened ≡ Some at

-- the key was there and was removed. A node slot comes back. A pass whose map others change may have looked before
-- without finding it.
pub record Removed (old new : PassView) (line key : ℕ) (done : Done) : Type 0 where
  pub update : MadeUpdate old new line key Remove done.at
  pub there : map_has key (after new.seen (done.at - 1)) ≡ true
  pub nodes : new.nodes ≡ old.nodes + 1

-- a look has shown whether the key is there at the place found: no update was made
pub record LookedFor (old new : PassView) (key : ℕ) (there : Bool) (at : ℕ) : Type 0 where
  pub looked : Looked old new at
  pub looks : RoseBy 1 old.looks new.looks
  pub tells : map_has key (after new.seen at) ≡ there
  pub closed : new.opened ≡ None

-- a removal was answered: `was` says whether the key was there
abbrev pub AnsweredRemoval : PassView → PassView → ℕ → ℕ → Done → Type 0
AnsweredRemoval old new line key done =
    MatchBool done.was (Removed old new line key done) (LookedFor old new key false done.at)

-- the key was not there and was put. A node slot is used. A pass whose map others change may have looked before
-- without finding it absent.
pub record Inserted (old new : PassView) (line key val at : ℕ) : Type 0 where
  pub update : MadeUpdate old new line key (Put val) at
  pub absent : map_has key (after new.seen (at - 1)) ≡ false
  pub nodes : new.nodes + 1 ≡ old.nodes

-- a put of a new key was answered: it was made where the key was not there, and not where it was
abbrev pub AnsweredPutNew : PassView → PassView → ℕ → ℕ → ℕ → New → Type 0
AnsweredPutNew old new line key val (Made at) = Inserted old new line key val at
AnsweredPutNew old new line key val (Kept at) = LookedFor old new key true at

-- the pass lacks the slots that an update may take: one node slot and four entry slots
abbrev pub IsShort : PassView → Type 0
IsShort pass = (pass.nodes < 1) ⊎ (pass.entries < 4)

-- calls are left, but not the slots that an update may take
abbrev pub IsOutOfSlots : PassView → Type 0
IsOutOfSlots pass = (0 < pass.left) × IsShort pass
