-- What a pass reads in its open snapshot.
pub mod Snapshots
pub mod Ways
pub mod Looks
