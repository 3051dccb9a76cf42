-- The definitions of this crate, by file.

pub mod Sizes
pub mod Words
pub mod Views
