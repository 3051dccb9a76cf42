-- What the answer of an update needs: the place of the raise, whether the key was there, and how many slots the pass
-- owns after it.
use Rattle.std.specs.Prelude.{◌≡◌, ℕ, ◌+◌, ◌<◌, ◌≤◌, Bool, true, false, [], ◌∷◌, ◌++◌, length, take, Some}
use Rattle.std.specs.List.{slice_get}
use Rattle.index_words.specs.declared.side.Side.{Side}
use Rattle.index_words.specs.declared.view.View.{View}
use Rattle.index_words.specs.declared.word.Word.TheVariants.{Stamp}
use Rattle.key_map.specs.History.{after}
use Rattle.key_map.specs.Lists.{count, IsItem}
use Rattle.key_map.specs.Map.{map_has}
use Rattle.core_events.specs.LoadMoves.{longest}
use Rattle.core_events.specs.Tables.{Table, held_by}
use Rattle.core_events.specs.UpdateMoves.{prepared}
use Rattle.core_invariant.specs.Rule.{IsRight}
use Rattle.core_updates.specs.declared.plan.Plan.{Plan}
use Rattle.core_updates.specs.declared.plan.Plan.TheVariants.{Grow, Replace, Lift, Join}
use Rattle.core_updates.specs.declared.plan.PlanSlots.{PlanSlots}
use Rattle.core_updates.specs.Held.{CanRaise}
use Rattle.core_updates.specs.Plans.{key_of, new_node_of, fronts_of, entries_of, fresh_entries}
use Rattle.plan_laws.specs.Fills.{AreApart}
use Rattle.plan_laws.specs.Fronts.{IsReadyToRaise}
use Rattle.plan_laws.specs.Raises.{update_by, raised_at}

-- how many slots a view owns: free ones, those of its batch, and retired ones
abbrev pub owned_nodes : View → ℕ
owned_nodes v = length v.free.nodes + (length v.batch.nodes + length v.retired.nodes)

abbrev pub owned_entries : View → ℕ
owned_entries v = length v.free.entries + (length v.batch.entries + length v.retired.entries)

-- whether the plan's key is in the map before the update
abbrev pub was_there : Plan → Bool
was_there (Grow p) = false
was_there (Replace p) = true
was_there (Lift p) = true
was_there (Join p) = true

-- the nodes after the raise: one fewer after a put of an absent key, as many after one of a present key, and one more
-- after a removal
abbrev pub MovesNodes : Plan → ℕ → ℕ → Type 0
MovesNodes (Grow p) old new = new + 1 ≡ old
MovesNodes (Replace p) old new = new ≡ old
MovesNodes (Lift p) old new = new ≡ old + 1
MovesNodes (Join p) old new = new ≡ old + 1

-- from the view before the raise to the one after it: the update is the last of the whole history, at its place, which
-- is the pass's own; the key was in the map before or not; and what the pass owns
pub record AnswersRaise (t : Table) (n line : ℕ) (v w : View) (plan : Plan) (slots : PlanSlots) : Type 0 where
  pub before : v.history.seen ≡ take (length v.history.seen) (longest t.views)
  pub seen : w.history.seen ≡ longest t.views ++ update_by n line plan ∷ []
  pub place : length w.history.seen ≡ held_by t Stamp + 1
  pub mine : w.history.mine ≡ v.history.mine ++ (held_by t Stamp + 1) ∷ []
  pub left : w.history.left + 1 ≡ v.history.left
  pub found : w.history.found ≡ v.history.found
  pub looks : w.history.looks ≡ v.history.looks
  pub was : map_has (key_of plan) (after (longest t.views) (held_by t Stamp)) ≡ was_there plan
  pub nodes : MovesNodes plan (owned_nodes v) (owned_nodes w)
  pub entries : owned_entries v ≤ owned_entries w + length (fresh_entries (new_node_of plan slots))

abbrev pub AnswerLaw : Type 0
AnswerLaw =
    (t : Table) (seat n line : ℕ) (v : View) (plan : Plan) (slots : PlanSlots) → IsRight t → slice_get t.views seat ≡ Some v
    → IsReadyToRaise v n plan slots → AreApart slots → CanRaise v n → AnswersRaise t n line v (raised_at t v (update_by n line plan)) plan slots

-- an entry that is put in front is one fewer
abbrev pub PreparedOwnsLaw : Type 0
PreparedOwnsLaw =
    (t : Table) (i k e : ℕ) (side : Side) (v : View) → IsRight t → IsItem t.views i v → 0 < count e v.free.entries
    → (owned_nodes (prepared v side k e) ≡ owned_nodes v) × (owned_entries (prepared v side k e) + 1 ≡ owned_entries v)

-- an update uses at most four entries
abbrev pub FourEntriesLaw : Type 0
FourEntriesLaw = (plan : Plan) (slots : PlanSlots) → length (entries_of (fronts_of plan slots)) + length (fresh_entries (new_node_of plan slots)) ≤ 4
