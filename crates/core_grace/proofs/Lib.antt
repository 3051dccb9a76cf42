pub mod SlotMoves
pub mod RuleMoves
pub mod Progress
pub mod TwoSeats
pub mod Parity
