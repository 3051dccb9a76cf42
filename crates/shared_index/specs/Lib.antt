-- What a pass of the index is to its caller, and the keys and notes of an index.
pub mod Shown
pub mod Keys
pub mod Notes
pub mod Tries
