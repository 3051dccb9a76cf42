-- The definitions of the run of one client over a pass.
pub mod ClientRun
pub mod Parts
pub mod Listing
pub mod Starts
pub mod Hints
pub mod Pooling
