-- What a sight sees: the words and views of a table, where some more entries have a number.
pub mod Sights
-- The plain links that an update changes, and what is to be done to them after the raise.
pub mod LinkPlans
