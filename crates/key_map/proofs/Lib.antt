pub mod MapLaws
pub mod HistoryLaws
pub mod Counting
pub mod PlacesLaws
