-- How the tree that is read from the words unfolds at its top.
pub mod SeenTrees
-- The test of a raise's tree step, from its parts.
pub mod TreeTests
