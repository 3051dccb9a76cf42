-- The search of an update: its turns, where it ends, what it finds, and how it fails.
pub mod Turns
pub mod Laws
pub mod Outcomes
pub mod Searching
pub mod Ends
pub mod Aims
pub mod Successors
