-- The definitions of this crate, by file.

pub mod Meanings
pub mod MeaningMoves
pub mod Numbers
pub mod Histories
pub mod OwnPlaces
pub mod SectionRule
pub mod SpentViews
pub mod WaitingSlots
pub mod UnusedSlots
pub mod Locks
pub mod BundleRule
pub mod Readers
pub mod FilledRule
pub mod PruneRule
pub mod PlainRule
pub mod Reached
pub mod PlainTree
pub mod SearchRule
pub mod TurnRule
pub mod StillRule
pub mod LinkRule
pub mod SeatRule
pub mod Rule
pub mod LinkLaw
pub mod KeptRule
pub mod RuleLaws
