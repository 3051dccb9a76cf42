-- The laws on runs that were begun.
pub mod Begun
pub mod FirstPart
