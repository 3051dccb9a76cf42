-- The history of a table that is closed.
use Rattle.std.specs.Prelude.{◌≡◌, ℕ, ◌<◌, ◌≤◌, List, map}
use Rattle.key_map.specs.declared.update.Update.{Update}
use Rattle.key_map.specs.History.{own_places}
use Rattle.key_map.specs.Lists.{count, Every}
use Rattle.core_invariant.specs.Histories.{update_at}
use Rattle.table_rule.specs.Homes.{Home}
use Rattle.table_steps.specs.Passes.{Pass, IsPassOf, Extends}

abbrev pub number_of : Pass → ℕ
number_of p = p.number

-- these are all keys of the table, each once
pub record AreAllKeys (home : Home) (keys : List Pass) : Type 0 where
  pub of : Every (IsPassOf home) keys
  pub each : (n : ℕ) → n < home.layout.passes → count n (map number_of keys) ≡ 1

-- the list begins with what each of these keys has seen
abbrev pub BeginsWithSeen : List Pass → List Update → Type 0
BeginsWithSeen keys updates = Every (λ (k : Pass). Extends k.view.history.seen updates) keys

-- each of the updates was made by one of these keys
abbrev pub AreMadeBy : List Pass → List Update → Type 0
AreMadeBy keys updates = Every (λ (u : Update). 0 < count u.client (map number_of keys)) updates

-- the updates of each key stand at the key's own places
abbrev pub StandAtOwnPlaces : List Pass → List Update → Type 0
StandAtOwnPlaces keys updates = Every (λ (k : Pass). k.view.history.mine ≡ own_places k.number updates) keys

-- each place of each of these keys has P
abbrev pub EachPlace : (ℕ → Type 0) → List Pass → Type 0
EachPlace P keys = Every (λ (k : Pass). Every P k.view.history.mine) keys

-- the last place at which one of these keys has an update, and 0 where none has one
pub record IsLastPlace (keys : List Pass) (n : ℕ) : Type 0 where
  pub above : EachPlace (λ at. at ≤ n) keys
  pub least : (limit : ℕ) → EachPlace (λ at. at ≤ limit) keys → n ≤ limit

-- the list has at this place the update that the history has there
abbrev pub IsRightAt : List Update → List Update → ℕ → Type 0
IsRightAt history updates at = update_at updates at ≡ update_at history at

-- no place that was right becomes wrong
abbrev pub StaysRight : List Update → List Update → List Update → Type 0
StaysRight history old new = (at : ℕ) → IsRightAt history old at → IsRightAt history new at
