-- The nodes of a search.
pub mod Nodes
-- How a search begins.
pub mod There
-- How a search fails.
pub mod Failures
-- What the steps of a search keep.
pub mod Keeps
-- A search that meets a node whose key is not beyond that of a turn.
pub mod Odd
-- The lock by which a search tells that a node waits to be unlinked.
pub mod OddLocks
-- The turns of a search, and the keys between them.
pub mod TurnKeys
-- The nodes of turns.
pub mod TurnNodes
-- One level of a search.
pub mod Levels
-- What a search finds.
pub mod Aims
-- The search for a key.
pub mod Ways
-- The walk to the successor.
pub mod Walks
