-- The tree that a pass with an open snapshot reads.
pub mod SnapshotTrees
-- What loads leave of an open snapshot and of its tree.
pub mod SnapshotMoves
-- The way of a search down the snapshot's tree.
pub mod Ways
-- What opening a snapshot leaves.
pub mod Begins
-- One level down the snapshot's tree.
pub mod Levels
-- The looks of a pass that is alone on its table always give an answer.
pub mod Alone
