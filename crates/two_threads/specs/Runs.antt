-- What a run of the two threads found.
use Rattle.std.specs.Prelude.{◌≡◌, ℕ, ◌+◌, ◌<◌, Bool, true, if◌then◌else◌, List, [], ◌∷◌, ◌++◌, IsOk}
use Rattle.key_map.specs.declared.pass.PassSize.{PassSize}
use Rattle.key_map.specs.declared.update.Update.{Update}
use Rattle.key_map.specs.History.{own_places}
use Rattle.key_map.specs.Lists.{Every}
use Rattle.bucket_terms.specs.declared.list_query.ListQuery.{ListQuery}
use Rattle.bucket_terms.specs.PassView.{Extends}
use Rattle.table_rule.specs.Homes.{Home}
use Rattle.table_steps.specs.Passes.{Pass}
use Rattle.shared_index.specs.Keys.{IsKeyOf}
use Rattle.shared_index.specs.Shown.{shown}
use Rattle.two_threads.specs.declared.turn.Task.{Task}
use Rattle.two_threads.specs.declared.run.Ended.{Ended}
use Rattle.two_threads.specs.declared.run.Left.{Left}
use Rattle.two_threads.specs.declared.run.Ran.{Ran}
use Rattle.two_threads.specs.declared.run.Tasks.{Tasks}
use Rattle.two_threads.specs.declared.run.Turns.{Turns}
use Rattle.two_threads.specs.Turns.{IsRight, TookTurn, place_of}

-- the sizes of the two passes
abbrev pub sizes : List PassSize
sizes = record { nodes = 3; entries = 8; calls = 2 } ∷ record { nodes = 1; entries = 8; calls = 2 } ∷ []

-- the pass of the index was laid down after a turn
pub record LaidDown (index : Home) (dir : List (List ℕ)) (query : ListQuery) (task : Task) (key : Pass) (left : Left) : Type 0 where
  pub of : IsKeyOf index left.key
  pub took : TookTurn dir query task (shown key) (shown left.key) left.turn

-- the pass of the index is as it was, except that it may have seen more and that its node slots may be other ones
pub record IsBack (index : Home) (old new : Pass) : Type 0 where
  pub of : IsKeyOf index new
  pub number : (shown new).number ≡ (shown old).number
  pub seen : Extends (shown old).seen (shown new).seen
  pub mine : (shown new).mine ≡ (shown old).mine
  pub left : (shown new).left ≡ (shown old).left
  pub entries : (shown new).entries ≡ (shown old).entries

-- a node slot went from one pass to the other, or none did
pub record HandedOn (index : Home) (first second giver taker : Pass) (handed : Bool) : Type 0 where
  pub giver_back : IsBack index first giver
  pub taker_back : IsBack index second taker
  pub given : (shown giver).nodes + (if handed then 1 else 0) ≡ (shown first).nodes
  pub taken : (shown taker).nodes ≡ (shown second).nodes + (if handed then 1 else 0)

-- the passes of two keys each took both turns, and between these one of the two may have handed on a node slot
pub record BothTook (index : Home) (dir : List (List ℕ)) (query : ListQuery) (first second : Tasks) (key other : Pass) (ended : Ended) : Type 0 where
  -- what each pass knew after its early turn
  pub early : Pass
  pub early_other : Pass
  -- and after the slot was handed on
  pub giver : Pass
  pub taker : Pass
  pub took : LaidDown index dir query first.early key (record { key = early; turn = ended.first.early })
  pub took_other : LaidDown index dir query second.early other (record { key = early_other; turn = ended.second.early })
  pub on : HandedOn index early early_other giver taker ended.handed
  pub took_late : LaidDown index dir query first.late giver (record { key = ended.keys.0; turn = ended.first.late })
  pub took_late_other : LaidDown index dir query second.late taker (record { key = ended.keys.1; turn = ended.second.late })

-- both turns of a thread are right in the history, whose only updates of the thread are their puts
pub record IsThread (dir : List (List ℕ)) (query : ListQuery) (history : List Update) (thread : ℕ) (tasks : Tasks) (turns : Turns) : Type 0 where
  pub early_task : turns.early.task ≡ tasks.early
  pub late_task : turns.late.task ≡ tasks.late
  pub early : IsRight dir query history thread turns.early
  pub late : IsRight dir query history thread turns.late
  pub own : own_places thread history ≡ place_of turns.early.put ++ place_of turns.late.put

-- there is one history: all answers of both threads are right in it, and it has exactly the puts that were answered
pub record IsRun (dir : List (List ℕ)) (query : ListQuery) (first second : Tasks) (ran : Ran) : Type 0 where
  pub first_is : IsThread dir query ran.history.items 0 first ran.first
  pub second_is : IsThread dir query ran.history.items 1 second ran.second
  pub only : Every (λ (u : Update). u.client < 2) ran.history.items
  -- which puts were not refused
  pub early_made : IsOk ran.first.early.put × IsOk ran.second.early.put
  pub first_made : IsOk ran.first.late.put
  pub second_made : ran.handed ≡ true → IsOk ran.second.late.put
