-- The definitions of this crate, by file.

pub mod Points
pub mod Successors
pub mod Matching
pub mod Claims
pub mod Walks
pub mod NullLinks
pub mod Stores
pub mod Turns
pub mod Raises
pub mod Reaching
pub mod Resting
pub mod Settling
