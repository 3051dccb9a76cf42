pub mod PagePoints
pub mod Finds
pub mod LastListing
