pub mod EscapedBytes
pub mod Order
pub mod Joined
pub mod Quotes
pub mod LineTexts
pub mod Elements
