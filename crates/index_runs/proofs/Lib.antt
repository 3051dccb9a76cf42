-- The keys of a run, and the keys of passes over the table.
pub mod Keys
pub mod Seats
