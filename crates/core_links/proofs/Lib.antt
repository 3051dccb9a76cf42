pub mod Compare
pub mod Chains
pub mod Places
pub mod Kept
