-- The definitions of the text of a run.
pub mod Lines
pub mod Shown
pub mod MemberOrder
pub mod InRange
pub mod Pieces
pub mod EntryTexts
