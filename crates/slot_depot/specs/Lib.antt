-- Depots and their seats as contracts see them, and the books of the seats.
pub mod Books
pub mod Depots
