-- What the calls of a pass that update the map answer, by what the pass knows of the history and owns before and after.
use Rattle.std.specs.Prelude.{◌≡◌, ℕ, ◌+◌, ◌-◌, ◌<◌, ◌≤◌, ◌⊎◌, Bool, true, false, MatchBool, if◌then◌else◌, List, [], ◌∷◌, ◌++◌, length, Option, Some, None}
use Rattle.index_words.specs.declared.view.View.{View}
use Rattle.key_map.specs.declared.update.Update.{Update}
use Rattle.key_map.specs.declared.update.Change.{Change}
use Rattle.key_map.specs.declared.update.Change.TheVariants.{Put, Remove}
use Rattle.key_map.specs.declared.pass.Done.{Done}
use Rattle.key_map.specs.declared.pass.New.{New}
use Rattle.key_map.specs.declared.pass.New.TheVariants.{Made, Kept}
use Rattle.key_map.specs.declared.pass.PassError.{PassError}
use Rattle.key_map.specs.declared.pass.PassError.TheVariants.{NoSlot, Spent}
use Rattle.key_map.specs.History.{after}
use Rattle.key_map.specs.Map.{map_has}
use Rattle.plan_laws.specs.Answers.{owned_nodes, owned_entries}
use Rattle.core_updates.specs.Ready.{update_of}
use Rattle.table_steps.specs.Passes.{Pass, Extends}
use Rattle.table_steps.specs.Raises.{IsRaisedSince}
use Rattle.table_steps.specs.Stamps.{IsFoundSince}
use Rattle.update_search.specs.Aims.{is_put}
use Rattle.update_search.specs.Outcomes.{HasRisen}

-- the pass made no update: what it has seen goes on, its own updates, how many it may still make and how many slots it
-- owns are unchanged, and no look is forgotten
pub record GoesOn (v w : View) : Type 0 where
  pub seen : Extends v.history.seen w.history.seen
  pub mine : w.history.mine ≡ v.history.mine
  pub left : w.history.left ≡ v.history.left
  pub nodes : owned_nodes w ≡ owned_nodes v
  pub entries : owned_entries w ≡ owned_entries v
  pub looks : v.history.looks ≤ w.history.looks

-- no load of the stamp has fixed a place
pub record FixesNone (v w : View) : Type 0 where
  pub looks : w.history.looks ≡ v.history.looks
  pub found : w.history.found ≡ v.history.found

-- both
pub record StaysOn (v w : View) : Type 0 where
  pub goes : GoesOn v w
  pub fixes : FixesNone v w

-- an update was made at place `at`, above all that the pass had seen: it stands at the end of the new history
pub record MakesUpdate (v w : View) (n line key : ℕ) (change : Change) (at : ℕ) : Type 0 where
  pub above : length v.history.seen < at
  pub others : List Update
  pub seen : w.history.seen ≡ (v.history.seen ++ others) ++ record { client = n; line = line; key = key; change = change } ∷ []
  pub place : at ≡ length w.history.seen
  pub mine : w.history.mine ≡ v.history.mine ++ at ∷ []
  pub left : w.history.left + 1 ≡ v.history.left
  pub entries : owned_entries v ≤ owned_entries w + 4
  pub looks : v.history.looks ≤ w.history.looks

-- how many nodes the pass owns then: one fewer after a put of a key that was not there, as many after a put of a key
-- that was, and one more after a removal, which finds its key
abbrev pub MovesNodes : Change → Bool → ℕ → ℕ → Type 0
MovesNodes (Put val) was old new = new + (if was then 0 else 1) ≡ old
MovesNodes Remove was old new = (was ≡ true) × (new ≡ old + 1)

-- an update was made, with this answer: `was` says whether its key was in the map before
pub record MakesChange (v w : View) (n line key : ℕ) (change : Change) (done : Done) : Type 0 where
  pub update : MakesUpdate v w n line key change done.at
  pub was : done.was ≡ map_has key (after w.history.seen (done.at - 1))
  pub nodes : MovesNodes change done.was (owned_nodes v) (owned_nodes w)

-- a put was made, and no load of the stamp has fixed a place
pub record MakesPut (v w : View) (n line key val : ℕ) (done : Done) : Type 0 where
  pub made : MakesChange v w n line key (Put val) done
  pub fixes : FixesNone v w

-- a look has shown whether the key is there at the place that the last load of the stamp has fixed, in this call: no
-- update was made
pub record LooksFor (v w : View) (key : ℕ) (there : Bool) (at : ℕ) : Type 0 where
  pub goes : GoesOn v w
  pub found : w.history.found ≡ at
  pub place : at ≡ length w.history.seen
  pub looks : HasRisen v.history.looks w.history.looks
  pub tells : map_has key (after w.history.seen at) ≡ there

-- a removal was answered: `was` says whether the key was there
abbrev pub AnswersRemoval : View → View → ℕ → ℕ → ℕ → Done → Type 0
AnswersRemoval v w n line key done = MatchBool done.was (MakesChange v w n line key Remove done) (LooksFor v w key false done.at)

-- a put of a key that was not there was made
abbrev pub Inserts : View → View → ℕ → ℕ → ℕ → ℕ → ℕ → Type 0
Inserts v w n line key val at = MakesChange v w n line key (Put val) (record { at = at; was = false })

-- a put that is made only if its key is not there was answered
abbrev pub AnswersPutNew : View → View → ℕ → ℕ → ℕ → ℕ → New → Type 0
AnswersPutNew v w n line key val (Made at) = Inserts v w n line key val at
AnswersPutNew v w n line key val (Kept at) = LooksFor v w key true at

-- the place that a put answers: that of its own raise, a step of the call
abbrev pub IsPlaceOfPut : Pass → ℕ → ℕ → ℕ → Done → View → Type 0
IsPlaceOfPut p line key val done w = IsRaisedSince p (update_of p.number line key (Put val)) done.at w

-- the place that a removal answers: that of its own raise, or the number that was found in the stamp at a step of the
-- call
abbrev pub IsPlaceOfRemoval : Pass → ℕ → ℕ → Done → View → Type 0
IsPlaceOfRemoval p line key done w =
    MatchBool done.was (IsRaisedSince p (update_of p.number line key Remove) done.at w) (IsFoundSince p done.at w)

-- the place that the answer of a put gives which is made only if its key is not there: if it was made, that of its own
-- raise, and else the number that was found in the stamp at a step of the call
abbrev pub IsPlaceOfNew : Pass → ℕ → ℕ → ℕ → New → View → Type 0
IsPlaceOfNew p line key val (Made at) w = IsRaisedSince p (update_of p.number line key (Put val)) at w
IsPlaceOfNew p line key val (Kept at) w = IsFoundSince p at w

-- a call was answered by a change that it has made, at the place of its own raise; if it was to be made only if its key is
-- not there, the key was not
pub record AnswersMade (only_new : Bool) (p : Pass) (w : View) (line key : ℕ) (change : Change) (done : Done) : Type 0 where
  pub made : MakesChange p.view w p.number line key change done
  pub raise : IsRaisedSince p (update_of p.number line key change) done.at w
  pub absent : only_new ≡ true → done.was ≡ false

-- why a change is not made if its key is there, or if it is not
abbrev pub IsNotMade : Bool → Change → Bool → Type 0
IsNotMade only_new change true = only_new ≡ true
IsNotMade only_new change false = change ≡ Remove

-- a call was answered by a look, which has shown why its change is not made, at the number that was found in the stamp at
-- a step of the call
pub record AnswersLooked (only_new : Bool) (p : Pass) (w : View) (key : ℕ) (change : Change) (done : Done) : Type 0 where
  pub looked : LooksFor p.view w key done.was done.at
  pub found : IsFoundSince p done.at w
  pub why : IsNotMade only_new change done.was

-- either
abbrev pub AnswersCall : Bool → Pass → View → ℕ → ℕ → Change → Done → Type 0
AnswersCall only_new p w line key change done = AnswersMade only_new p w line key change done ⊎ AnswersLooked only_new p w key change done

-- the same answer, as that of a put that is made only if its key is not there
abbrev pub new_by : Done → New
new_by done = if done.was then Kept done.at else Made done.at

-- no load of the stamp has fixed a place, and the count of entries without a number has not risen
pub record HasNotLooked (v w : View) : Type 0 where
  pub fixes : FixesNone v w
  pub waits : w.counts.waits ≡ v.counts.waits

-- a put that is made whether or not its key is there needs no look
abbrev pub PutsUnlooked : Bool → Change → View → View → Type 0
PutsUnlooked only_new change v w = only_new ≡ false → is_put change ≡ true → HasNotLooked v w

-- calls are left, but not the slots that an update may take: one node and four entries, free or not
abbrev pub IsOutOfSlots : View → Type 0
IsOutOfSlots v = (0 < v.history.left) × ((owned_nodes v < 1) ⊎ (owned_entries v < 4))

-- why the pass can make no update, if it cannot
abbrev pub IsRefusal : View → Option PassError → Type 0
IsRefusal v None = (0 < v.history.left) × (1 ≤ owned_nodes v) × (4 ≤ owned_entries v)
IsRefusal v (Some Spent) = v.history.left ≡ 0
IsRefusal v (Some NoSlot) = IsOutOfSlots v

-- what a try that was made has done
abbrev pub HasMade : View → View → ℕ → ℕ → ℕ → Change → Done → Type 0
HasMade v w n line key change done = MakesChange v w n line key change done × FixesNone v w
