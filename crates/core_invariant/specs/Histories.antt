-- The rule on the history: what each view knows of it, and who made each update.
use Rattle.std.specs.Prelude.{◌≡◌, ℕ, ◌+◌, ◌-◌, ◌<◌, ◌≤◌, List, [], ◌∷◌, length, take, cond, ◌==◌, ◌&&◌, Option, Some, None, sum_by}
use Rattle.std.specs.List.{slice_get}
use Rattle.index_words.specs.declared.layout.Layout.{Layout}
use Rattle.key_map.specs.declared.update.Update.{Update}
use Rattle.index_words.specs.declared.view.View.{View}
use Rattle.index_words.specs.declared.view.history.SeenHistory.{SeenHistory}
use Rattle.index_words.specs.declared.view.history.EndedPlace.{EndedPlace}
use Rattle.key_map.specs.Lists.{count, Every, IsItem}
use Rattle.core_links.specs.Bundle.{no_number}

-- a place that was given up to a view is of a pass whose number the view was given
abbrev pub IsGiven : List ℕ → EndedPlace → Type 0
IsGiven ended p = 0 < count p.pass ended

-- what a view knows is a beginning of the history
pub record SeenRightOf (updates seen_updates told_updates : List Update) (found_number : ℕ) (ended : List ℕ) (ended_places : List EndedPlace) : Type 0 where
  pub seen : seen_updates ≡ take (length seen_updates) updates
  pub told : told_updates ≡ take (length told_updates) updates
  pub known : length told_updates ≤ length seen_updates
  pub found : found_number ≤ length seen_updates
  pub given : Every (IsGiven ended) ended_places

abbrev pub SeenRight : List Update → SeenHistory → Type 0
SeenRight updates h = SeenRightOf updates h.seen h.told h.found h.ended h.ended_places

-- the update at a place; places are counted from 1
abbrev pub update_at : List Update → ℕ → Option Update
update_at updates at = cond (at == 0) None (slice_get updates (at - 1))

-- 1 where the update is the pass's, else 0
abbrev pub made_by : ℕ → Option Update → ℕ
made_by n None = 0
made_by n (Some u) = cond (u.client == n) 1 0

abbrev pub own_place : ℕ → ℕ → Option ℕ → List ℕ → ℕ
own_place n at None mine = 0
own_place n at (Some k) mine = cond (k == n) (count at mine) 0

abbrev pub ended_place : ℕ → ℕ → List EndedPlace → ℕ
ended_place n at [] = 0
ended_place n at (p ∷ ps) = cond (p.pass == n && p.at == at) 1 0 + ended_place n at ps

-- how often a view has a place as one of the pass's: as its own, or given up to it
abbrev pub place_count : ℕ → ℕ → View → ℕ
place_count n at v = own_place n at v.number v.history.mine + ended_place n at v.history.ended_places

abbrev pub calls_left : View → ℕ
calls_left v = v.history.left

-- a view that knows the whole history
pub record KnowsAll (updates : List Update) (vs : List View) : Type 0 where
  pub place : ℕ
  pub view : View
  pub at : IsItem vs place view
  pub all : view.history.seen ≡ updates

-- the history has as many updates as the stamp says, and some view knows it whole; each update is made by a pass of the
-- table, and its place is with that pass's view or with the one to which it was given up
pub record HistoryRight (z : Layout) (s : ℕ) (updates : List Update) (vs : List View) : Type 0 where
  pub long : length updates ≡ s
  pub known : KnowsAll updates vs
  pub clients : Every (λ (u : Update). u.client < z.passes) updates
  pub places : (n at : ℕ) → sum_by (place_count n at) vs ≡ made_by n (update_at updates at)
  pub calls : s + sum_by calls_left vs ≤ z.calls
  pub few : z.calls < no_number
