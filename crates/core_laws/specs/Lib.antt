-- The laws that callers cite: on who writes what, needs, loads, counts, trees, links, searches, waits and cuts.
pub mod TreeLaw
pub mod Remembered
pub mod Owners
pub mod ViewNeeds
pub mod Cuts
pub mod PlainNeeds
pub mod PlainTrees
pub mod Searching
pub mod Waits
pub mod Counts
pub mod Changers
pub mod Alone
pub mod SlotSums
pub mod Found
pub mod Falls
