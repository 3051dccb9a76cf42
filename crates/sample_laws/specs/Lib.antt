-- The definitions and laws of clients on names of their own, and of the generated session.
pub mod Alone
pub mod Own
pub mod Totals
pub mod Finds
pub mod Sample
pub mod SampleLaw
pub mod Rows
