pub mod ByteOrder
pub mod Places
