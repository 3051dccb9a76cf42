-- The definitions of the run of several clients over one index.
pub mod ClientSlots
pub mod SlotsSuffice
pub mod Clients
pub mod Runs
pub mod Sizes
pub mod Threads
pub mod Pools
pub mod Depots
pub mod Behind
pub mod KeySets
