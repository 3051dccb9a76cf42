-- Links of a spelled tree: where a search ends, and the tree step in terms of a few links.
-- Where a search ends: at the link of a linked node, through a subtree, and the first node of a tree.
pub mod Ends
-- What is known where a link leads to a node, and what stays where only some links change.
pub mod Parts
-- The node after another one.
pub mod Next
-- Puts, and the removal of a node with at most one child.
pub mod Steps
-- The removal of a node with two children, whose successor is its right child.
pub mod JoinNear
-- The same, whose successor is deeper.
pub mod JoinDeep
-- What each step takes out, and what it brings in.
pub mod Moves
