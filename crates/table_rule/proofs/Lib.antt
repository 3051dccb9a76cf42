pub mod Lists
pub mod Happens
pub mod SeatMoves
pub mod AskedMoves
