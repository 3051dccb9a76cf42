-- A try to settle.
pub mod SettleSteps
-- Two looks of a try to settle at another pass.
pub mod SettleLooks
-- The calls that update the map.
pub mod CallSteps
pub mod CallsMade
pub mod CallAnswers
-- One try of an update.
pub mod TryMade
-- A pass that is alone on its table makes each put that it tries.
pub mod Alone
-- How an update ends.
pub mod Ends
-- A pass gathers entries.
pub mod GatherSteps
