-- Updates before they take effect: their plans, when a seat is ready for one, and that it may then raise.
pub mod SetLinks
pub mod Ready
pub mod Held
pub mod Plans
pub mod PlanReady
pub mod PlanEvents
