pub mod Starts
pub mod Cuts
pub mod Made
