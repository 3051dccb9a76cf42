-- What the steps of a try ask and leave, from its looks to its end.
pub mod FreeSlots
pub mod Outcomes
pub mod Looking
pub mod Planning
pub mod Walked
pub mod Preparing
pub mod Pruning
pub mod Carried
pub mod Parting
