-- The definitions and laws of serving a session.
pub mod Statuses
pub mod Served
pub mod Taken
pub mod Texts
pub mod Sending
pub mod Sampled
pub mod OneText
pub mod ServedLaws
