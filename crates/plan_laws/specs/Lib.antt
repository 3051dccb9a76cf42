-- The stages of an update from its search to its end, and the laws on each step between them.
pub mod Frames
pub mod Places
pub mod Slots
pub mod Tries
pub mod Looks
pub mod Fills
pub mod Fronts
pub mod Releases
pub mod PlainLinks
pub mod Prunes
pub mod Raises
pub mod Answers
pub mod Parting
