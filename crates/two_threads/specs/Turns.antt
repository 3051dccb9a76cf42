-- What a thread was answered in a turn, by the history of all threads.
use Rattle.std.specs.Prelude.{◌≡◌, ℕ, ◌+◌, ◌-◌, ◌<◌, ◌≤◌, ◌↔◌, List, [], ◌∷◌, ◌++◌, length, Some, None, IfOk, IsErrOf, Result, Ok, Err, slice_get}
use Rattle.key_map.specs.declared.update.Update.{Update}
use Rattle.key_map.specs.declared.update.Change.TheVariants.{Put}
use Rattle.key_map.specs.declared.pass.Done.{Done}
use Rattle.key_map.specs.declared.pass.PassError.{PassError}
use Rattle.key_map.specs.declared.pass.PassError.TheVariants.{NoSlot, Spent}
use Rattle.key_map.specs.KeyMap.{map_has, map_get, after}
use Rattle.bucket_terms.specs.declared.list_query.ListQuery.{ListQuery}
use Rattle.bucket_terms.specs.Listing.{page_of}
use Rattle.bucket_terms.specs.PassView.{PassView, Extends, IsOutOfSlots}
use Rattle.two_threads.specs.declared.turn.Task.{Task}
use Rattle.two_threads.specs.declared.turn.Turn.{Turn}

-- the put stands at its place of the history, as that of this thread, and says whether the name was there before it
pub record StandsAt (history : List Update) (thread : ℕ) (task : Task) (done : Done) : Type 0 where
  pub some : 0 < done.at
  pub update : slice_get history (done.at - 1) ≡ Some (record { client = thread; line = task.line; key = task.puts; change = Put task.val })
  pub was : done.was ≡ map_has task.puts (after history (done.at - 1))

-- each answer of the turn is right at its place of the history, and the places do not fall
pub record IsRight (dir : List (List ℕ)) (query : ListQuery) (history : List Update) (thread : ℕ) (turn : Turn) : Type 0 where
  pub put : IfOk turn.put (StandsAt history thread turn.task)
  pub sees_own : IfOk turn.put (λ done. done.at ≤ turn.looked_at)
  pub found : turn.found ≡ map_get turn.task.looks_up (after history turn.looked_at)
  pub rising : turn.looked_at ≤ turn.listed_at
  pub page : turn.page ≡ page_of dir query None (after history turn.listed_at)
  pub within : turn.listed_at ≤ length history

-- the place of a put that was made, and none of one that was refused
abbrev pub place_of : Result Done PassError → List ℕ
place_of (Ok done) = done.at ∷ []
place_of (Err e) = []

-- a turn was taken by a pass that knew `old` before it and knows `new` after it
pub record TookTurn (dir : List (List ℕ)) (query : ListQuery) (task : Task) (old new : PassView) (turn : Turn) : Type 0 where
  pub task_is : turn.task ≡ task
  pub right : IsRight dir query new.seen old.number turn
  pub number : new.number ≡ old.number
  pub seen : Extends old.seen new.seen
  pub mine : new.mine ≡ old.mine ++ place_of turn.put
  pub closed : new.opened ≡ None
  -- why a put is refused, and what it takes
  pub spent : IsErrOf turn.put Spent ↔ (old.left ≡ 0)
  pub no_slot : IsErrOf turn.put NoSlot ↔ IsOutOfSlots old
  pub left : old.left ≤ new.left + 1
  pub nodes : old.nodes ≤ new.nodes + 1
  pub entries : old.entries ≤ new.entries + 4
