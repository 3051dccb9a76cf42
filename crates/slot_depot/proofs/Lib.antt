pub mod Totals
pub mod Moves
pub mod Closes
pub mod Kept
