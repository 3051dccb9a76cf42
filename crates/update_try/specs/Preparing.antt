-- The entries that a try has put in front of bundles, and its raise.
use Rattle.std.specs.Prelude.{◌≡◌, ℕ, ◌+◌, List, [], ◌∷◌, length, Option, Some, None}
use Rattle.index_words.specs.declared.view.View.{View}
use Rattle.core_events.specs.Tables.{Table, held_by}
use Rattle.index_words.specs.declared.word.Word.TheVariants.{Stamp}
use Rattle.core_updates.specs.declared.plan.Plan.{Plan}
use Rattle.core_updates.specs.declared.plan.Plan.TheVariants.{Grow, Replace, Lift, Join}
use Rattle.core_updates.specs.declared.plan.Heads.{Heads}
use Rattle.core_updates.specs.declared.plan.PlanSlots.{PlanSlots}
use Rattle.core_updates.specs.declared.plan.NewNode.{NewNode}
use Rattle.core_updates.specs.Plans.{fronts_of, head_of}
use Rattle.plan_laws.specs.Answers.{AnswersRaise}
use Rattle.plan_laws.specs.Fronts.{HasPrepared}
use Rattle.table_steps.specs.Passes.{Pass}
use Rattle.update_try.specs.Walked.{HasWalkedAll}

-- all entries of the plan are in front of their bundles
abbrev pub HasPreparedAll : View → ℕ → Plan → PlanSlots → Heads → Type 0
HasPreparedAll v n plan slots heads = HasPrepared v n plan slots heads (length (fronts_of plan slots))

-- and of each node that goes out both bundles were found
pub record IsPrepared (v : View) (n : ℕ) (plan : Plan) (slots : PlanSlots) : Type 0 where
  pub heads : Heads
  pub prepared : HasPreparedAll v n plan slots heads
  pub walked : HasWalkedAll v plan

-- the slot of the new node and the heads of its bundles; 0 stands for none
abbrev pub new_slots_of : Option NewNode → List ℕ
new_slots_of None = 0 ∷ 0 ∷ 0 ∷ []
new_slots_of (Some n) = n.slot ∷ head_of n.left ∷ head_of n.right ∷ []

-- the nodes that go out; 0 stands for none
abbrev pub out_slots_of : Plan → List ℕ
out_slots_of (Grow p) = 0 ∷ 0 ∷ []
out_slots_of (Replace p) = p.node ∷ 0 ∷ []
out_slots_of (Lift p) = p.node ∷ 0 ∷ []
out_slots_of (Join p) = p.node ∷ p.next.node ∷ []

-- the update of the plan was raised in a table in which it has this place
pub record IsRaisedBy (p q : Pass) (line : ℕ) (plan : Plan) (slots : PlanSlots) (place : ℕ) : Type 0 where
  pub t : Table
  pub answers : AnswersRaise t p.number line p.view q.view plan slots
  pub place_is : place ≡ held_by t Stamp + 1
