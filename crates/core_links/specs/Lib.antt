-- The definitions of this crate, by file.

pub mod Bundle
pub mod Selection
