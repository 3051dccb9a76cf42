pub mod Store
pub mod Seats
