-- The running table and its seats as plain data, and its steps as events of the pure machine.
pub mod Running
pub mod Homes
pub mod Seats
