-- What the calls of this crate rest on, of the layers below.
use Rattle.core_laws.specs.Searching.{OwnLeftLaw, SearchKeysLaw, BeyondLaw, NoReturnLaw, StillLaw}
use Rattle.core_updates.specs.PlanEvents.{FailuresLaw}
use Rattle.plan_laws.specs.Frames.{StepsKeepLaw, KeepsTryLaw}
use Rattle.plan_laws.specs.Looks.{StepsKeepLooksLaw, KeepsLooksLaw}
use Rattle.plan_laws.specs.Tries.{LockStepLaw, LoadsKeepLaw, LastUnlockLaw}

-- laws on searches, on their failures, and on what their steps keep
pub record SearchLaws : Type 0 where
  pub lock : LockStepLaw
  pub loads : LoadsKeepLaw
  pub unlock : LastUnlockLaw
  pub looks : StepsKeepLooksLaw
  pub looks_on : KeepsLooksLaw
  pub steps : StepsKeepLaw
  pub tries_on : KeepsTryLaw
  pub own : OwnLeftLaw
  pub keys : SearchKeysLaw
  pub beyond : BeyondLaw
  pub no_return : NoReturnLaw
  pub still : StillLaw
  pub failures : FailuresLaw
