-- A removal between the two halves of its end.
use Rattle.std.specs.Prelude.{◌≡◌, ℕ, ◌==◌, true, Option, Some, None, if◌then◌else◌}
use Rattle.index_words.specs.declared.view.View.{View}
use Rattle.index_words.specs.Views.{no_looks}
use Rattle.core_updates.specs.declared.plan.JoinPlan.{JoinPlan}
use Rattle.core_updates.specs.declared.plan.Plan.{Plan}
use Rattle.core_updates.specs.declared.plan.Plan.TheVariants.{Grow, Replace, Lift, Join}
use Rattle.plan_laws.specs.Parting.{IsParted, kept_locks}
use Rattle.table_steps.specs.Passes.{AtRest}
use Rattle.update_try.specs.declared.parting.Parted.{Parted}

-- the plan, if it is that of a removal with a far successor
abbrev pub far_of : Plan → Option JoinPlan
far_of (Join p) = if p.next.at.node == p.node then None else Some p
far_of _ = None

abbrev pub parted_plan : Option Parted → Option JoinPlan
parted_plan None = None
parted_plan (Some parted) = Some parted.plan

-- outside a section, with nothing announced: two locks are held, and the successor is still to be unlinked
pub record HasParted (v : View) (n : ℕ) (far : Parted) : Type 0 where
  pub parted : IsParted true v n far.plan far.tag (kept_locks far.plan)
  pub unannounced : v.announced ≡ 0

-- an update has ended, or waits, and has looked at nobody yet
abbrev pub EndsAs : View → ℕ → Option Parted → Type 0
EndsAs v n None = AtRest v
EndsAs v n (Some parted) = HasParted v n parted × (v.update.waiting ≡ no_looks)
