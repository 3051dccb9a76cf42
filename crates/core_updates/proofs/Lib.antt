pub mod RaiseParts
pub mod RaiseTests
pub mod LinksLeft
pub mod MayRaise
pub mod HeldReady
pub mod PlansRaise
pub mod PlanLocks
pub mod PlanSteps
