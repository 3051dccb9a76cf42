pub mod Ends
pub mod Looks
pub mod Reversing
pub mod Taken
