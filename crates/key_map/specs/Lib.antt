-- The definitions of this crate, by file.

pub mod KeyMap
pub mod Map
pub mod History
pub mod PlainMap
pub mod Lists
