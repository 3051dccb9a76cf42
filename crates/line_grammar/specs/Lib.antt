-- The grammar of a line, and the causes for which one is refused.
pub mod Causes
pub mod CauseNames
pub mod Texts
pub mod Line
pub mod QueryValues
pub mod NamedQueries
pub mod Asking
pub mod Pieces
pub mod Left
pub mod Fine
pub mod ReadAnswers
