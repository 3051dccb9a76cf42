-- The definitions of this crate, by file.

pub mod Sections
pub mod Batches
pub mod Holds
pub mod Slots
pub mod Progress
