-- The plain links that an update changes, as the code keeps them, and what is to be done to them after the raise.
use Rattle.std.specs.Prelude.{List, [], ◌∷◌, Option, Some, None}
use Rattle.key_map.specs.declared.update.Change.{Change}
use Rattle.key_map.specs.declared.update.Change.TheVariants.{Put, Remove}
use Rattle.index_words.specs.declared.view.update.OwedTag.{OwedTag}
use Rattle.index_words.specs.declared.view.update.Unlinking.{Unlinking}
use Rattle.index_words.specs.declared.view.update.UnsetLink.{UnsetLink}
use Rattle.core_events.specs.declared.tree_move.PlainMove.{PlainMove}
use Rattle.core_events.specs.PlainWork.{made_null}
use Rattle.machine_spelled.specs.declared.link_plans.FarLink.{FarLink}
use Rattle.machine_spelled.specs.declared.link_plans.LinkPlan.{LinkPlan}

abbrev pub far_unset : Option FarLink → List UnsetLink
far_unset None = []
far_unset (Some far) = far.link ∷ []

abbrev pub far_unlinking : Option FarLink → Option Unlinking
far_unlinking None = None
far_unlinking (Some far) = Some far.unlinking

abbrev pub planned_links : LinkPlan → List UnsetLink
planned_links plan = plan.at ∷ far_unset plan.far

-- a removal owes a tag for each link that it makes null, and a put owes none
abbrev pub owed_by : Change → List UnsetLink → List OwedTag
owed_by (Put val) us = []
owed_by Remove us = made_null us

abbrev pub planned_move : Change → LinkPlan → PlainMove
planned_move change plan = record {
  unset = planned_links plan;
  owed = owed_by change (planned_links plan);
  unlinking = far_unlinking plan.far;
}
