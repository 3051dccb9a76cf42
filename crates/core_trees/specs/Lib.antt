-- The definitions of this crate, by file.

pub mod NamedTree
pub mod TreeStep
pub mod Shape
pub mod Search
pub mod Gaps
pub mod Slots
pub mod SpelledTree
pub mod SpelledStep
pub mod NodeLists
pub mod Bounds
pub mod SpelledAt
pub mod SpelledGaps
pub mod LinkSteps
