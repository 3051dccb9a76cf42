-- What every event keeps of the rule, of views, of searches and of plain links.
pub mod KeepsSeen
pub mod SectionMoves
pub mod ViewLaws
pub mod SeatLaws
pub mod KeepsRule
pub mod SearchLaws
pub mod RaiseOwes
pub mod TurnLaws
pub mod KindLaws
