-- What the calls that update the map answer, what one try answers, and how slots become free.
pub mod Settles
pub mod Calls
pub mod Trying
pub mod Gathering
