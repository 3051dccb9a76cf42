-- A node, and a link, of the tree that a pass reads.
pub mod Comparing
-- A pass that has locked no node locks one, looks at its links, and unlocks it.
pub mod Visits
