-- A try of an update, up to its raise: a pass inside a section searches, and locks nodes that it has searched, one
-- after another. No word but locks is changed by then.
use Rattle.std.specs.Prelude.{◌≡◌, ℕ, ◌+◌, ◌<◌, ◌≤◌, List, [], ◌∷◌, ◌++◌, Some}
use Rattle.index_words.specs.declared.layout.Layout.{Layout}
use Rattle.index_words.specs.declared.side.Side.{Side}
use Rattle.index_words.specs.declared.view.View.{View}
use Rattle.index_words.specs.declared.word.Field.TheVariants.{Key, Val, Lock}
use Rattle.index_words.specs.declared.word.Word.TheVariants.{Node}
use Rattle.index_words.specs.Views.{no_update}
use Rattle.key_map.specs.Lists.{count}
use Rattle.core_grace.specs.Holds.{held_slots}
use Rattle.core_events.specs.declared.event.Kind.TheVariants.{TryLock}
use Rattle.core_events.specs.LoadMoves.{head_loaded, ts_loaded, next_loaded}
use Rattle.core_events.specs.LockMoves.{locked_view, met_lock, mark_loaded, pair_loaded, unlocked_view}
use Rattle.core_events.specs.PlainMoves.{link_loaded, tag_loaded}
use Rattle.core_invariant.specs.Readers.{IsLocked}
use Rattle.core_laws.specs.ViewNeeds.{May, IsSearched, event_at}
use Rattle.core_updates.specs.PlanEvents.{IsWorking}

-- a pass inside a section, with a section number, that has locked these nodes, in this order, and has done nothing else
-- of an update; it has taken none of them out itself
pub record IsTrying (v : View) (n : ℕ) (nodes : List ℕ) : Type 0 where
  pub working : IsWorking v n
  pub number : ℕ
  pub section : v.reading.section ≡ Some number
  pub least : v.reading.least ≡ Some number
  pub idle : v.update ≡ no_update
  pub once : (k : ℕ) → count k nodes ≤ 1
  pub locked : held_slots v.held.nodes ≡ nodes
  pub others : (k : ℕ) → 0 < count k nodes → count k v.retired.nodes ≡ 0

-- the node was searched, and is not locked yet
pub record CanLock (v : View) (k : ℕ) : Type 0 where
  pub searched : IsSearched v k
  pub unlocked : ¬ IsLocked v k

-- Such a node may be locked. Where its lock is found free, one more is locked, as a search reaches no node that its own
-- seat has taken out; where it is held, nothing has changed.
pub record LocksNext (z : Layout) (v : View) (seat n : ℕ) (nodes : List ℕ) (node : ℕ) : Type 0 where
  pub may : May z v (event_at z seat TryLock (Node Lock node) (n + 1))
  pub locked : count node v.retired.nodes ≡ 0 → IsTrying (locked_view v node) n (nodes ++ node ∷ [])
  pub held : (own found : ℕ) → IsTrying (met_lock v own found) n nodes

abbrev pub LockStepLaw : Type 0
LockStepLaw =
    (z : Layout) (v : View) (seat n : ℕ) (nodes : List ℕ) (node : ℕ) → IsTrying v n nodes → CanLock v node → LocksNext z v seat n nodes node

-- a try stands as it did
abbrev pub KeepsTrying : View → View → Type 0
KeepsTrying v w = (n : ℕ) (nodes : List ℕ) → IsTrying v n nodes → IsTrying w n nodes

-- this is so after each load
pub record LoadsKeep (v : View) : Type 0 where
  pub link : (node x : ℕ) (side : Side) → KeepsTrying v (link_loaded v node side x)
  pub tag : (node x : ℕ) (side : Side) → KeepsTrying v (tag_loaded v node side x)
  pub mark : (node x : ℕ) → KeepsTrying v (mark_loaded v node x)
  pub key : (node x : ℕ) → KeepsTrying v (pair_loaded v Key node x)
  pub val : (node x : ℕ) → KeepsTrying v (pair_loaded v Val node x)
  pub head : (node entry number : ℕ) (side : Side) → KeepsTrying v (head_loaded v node side entry number)
  pub number : (entry x : ℕ) → KeepsTrying v (ts_loaded v entry x)
  pub next : (entry next : ℕ) → KeepsTrying v (next_loaded v entry next)

abbrev pub LoadsKeepLaw : Type 0
LoadsKeepLaw = (v : View) → LoadsKeep v

-- where the node that was locked last is given back, the others are locked still; the search has ended
abbrev pub LastUnlockLaw : Type 0
LastUnlockLaw =
    (v : View) (n node : ℕ) (nodes : List ℕ) → IsTrying v n (nodes ++ node ∷ []) → IsTrying (unlocked_view v node) n nodes
