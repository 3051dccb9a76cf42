-- A node, and a link, of the tree that a pass reads.
pub mod TreeLinks
