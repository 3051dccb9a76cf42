-- The definitions of this crate, by file.

pub mod Tables
pub mod Needs
pub mod Moves
pub mod FillMoves
pub mod Announcing
pub mod LoadMoves
pub mod LoadNeeds
pub mod UpdateMoves
pub mod UpdateNeeds
pub mod Searches
pub mod PlainNeeds
pub mod PlainMoves
pub mod Waits
pub mod PlainWork
pub mod LockMoves
pub mod LockNeeds
pub mod Versions
pub mod SpelledNow
pub mod TreeMoves
pub mod Numbered
pub mod CutNeeds
pub mod CutMoves
pub mod WordMoves
pub mod Steps
pub mod Seats
pub mod Openings
