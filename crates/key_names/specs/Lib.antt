-- Names, the directory of names, and why a list of names makes none.
pub mod Names
pub mod Refusal
pub mod Ranks
pub mod Kept
