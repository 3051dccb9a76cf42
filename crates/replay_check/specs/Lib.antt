-- The definitions of the check of a written text.
pub mod Answering
pub mod Digits
pub mod Judging
pub mod Looking
pub mod Own
pub mod Replaying
pub mod Telling
pub mod TreePairs
pub mod Turns
