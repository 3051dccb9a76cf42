pub mod TextBytes
pub mod Sized
pub mod OneTokenLaws
